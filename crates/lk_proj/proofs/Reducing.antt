-- The programs of Core of a projection.
use Rattle.std.proofs.Common.{◌≡◌, ℕ, Option, None, refl, ap, sym, subst}
use Rattle.lk_tree.specs.Tree.{Name, Tree, proj}
use Rattle.lk_rulebook.specs.Place.{Place}
use Rattle.lk_questions.specs.Query.{whnf}
use Rattle.lk_questions.specs.Program.{◌>>=◌}
use Rattle.lk_questions.specs.Erased.{a_tree, asks, with_tree, erased}
use Rattle.lk_questions.specs.Core.{core_steps}
use Rattle.lk_questions.specs.Strings.{text_to_ctor}
use Rattle.lk_proj.specs.Nodes.{of_proj}
use Rattle.lk_proj.specs.Reductions.{head_rest, subject_rest}

-- the subject is asked for
pub core_asked : (w : Place) (last : Option ℕ) (e : Tree) (S : Name) (i : ℕ) (s : Tree)
    → e ≡ proj S i s
    → asks last (whnf s) (with_tree (λ W. erased w a_tree None (subject_rest e W)))
    ≡ erased w a_tree last (core_steps e)
core_asked w last e S i s is = subst (λ y. asks last (whnf s)
    (with_tree (λ W. erased w a_tree None (subject_rest y W)))
    ≡ erased w a_tree last (core_steps y)) (sym is) refl

-- a projection of these parts
pub subject_is : (e W : Tree) (S : Name) (i : ℕ) (s : Tree) → e ≡ proj S i s
    → (text_to_ctor W >>= λ m. head_rest e S i m) ≡ subject_rest e W
subject_is e W S i s is =
    ap (λ y. of_proj y (λ T j t. text_to_ctor W >>= λ m. head_rest e T j m)) (sym is)
