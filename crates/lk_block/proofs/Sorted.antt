-- The sorts of constructors, one after another.
use Rattle.std.proofs.Common.{◌≡◌, ℕ, List, [], ◌∷◌, map, All, refl, sym, ap, ◌∙◌}
use Rattle.std.proofs.lemmas.List.Elements.{All-head, All-tail}
use Rattle.lk_tree.specs.Tree.{Tree, Level}
use Rattle.lk_rulebook.specs.Place.{BlockType, Ctor}
use Rattle.lk_questions.specs.Program.{Program, done, ◌>>=◌}
use Rattle.lk_questions.specs.Erased.{Out}
use Rattle.lk_questions.specs.Declarations.{Yes, checked}
use Rattle.lk_questions.specs.Steps.{sort_of}
use Rattle.lk_inductive.specs.BlockSteps.{ctor_sorts, all_ctor_sorts}
use Rattle.lk_store.specs.Contents.{Contents, tree_at, Extends}
use Rattle.lk_env.specs.declared.unit.Constructor.{Constructor}
use Rattle.lk_env.specs.Units.{constructor_at, IsConstructorIn}
use Rattle.lk_declaration.specs.Courses.{run_then}
use Rattle.lk_block.specs.Sorts.{constructors_form, sorts_form}
use Rattle.lk_declaration.proofs.Running.{run_bind, run_same}
use Rattle.lk_declaration.proofs.Leading.{Splits}

pub constructors_split : (cs : List Ctor) (c : Ctor) (more : List Ctor) (T : Tree) → cs ≡ c ∷ more → T ≡ c.type → Splits (constructors_form cs) (sort_of T) (λ s. constructors_form more)
constructors_split cs c more T is same = record {
  run = λ answer w b k.
      let none : List Level → ℕ → Out = λ ls left. k checked left in
      let others : Level → Program (List Level) = λ s. ctor_sorts more >>= λ ss. done (s ∷ ss) in
      let next : Level → ℕ → Out = λ s left. run_then answer w (constructors_form more) left k in
      ap (λ y. run_then answer w (constructors_form y) b k) is
      ∙ run_bind answer w (ctor_sorts (c ∷ more)) (λ ls. done checked) b k
      ∙ run_bind answer w (sort_of c.type) others b none
      ∙ run_same answer w (sort_of c.type) b (λ s left. run_then answer w (others s) left none) next
      (λ s left. run_bind answer w (ctor_sorts more) (λ ss. done (s ∷ ss)) left none ∙ sym (run_bind answer w (ctor_sorts more) (λ ls. done checked) left k))
      ∙ ap (λ U. run_then answer w (sort_of U) b next) (sym same);
}

pub types_split : (ts : List BlockType) (t : BlockType) (more : List BlockType) (p : Program (List Level)) → ts ≡ t ∷ more → p ≡ ctor_sorts t.ctors → Splits (sorts_form ts) (p >>= λ ls. done checked) (λ y. sorts_form more)
types_split ts t more p is same = record {
  run = λ answer w b k.
      let none : List (List Level) → ℕ → Out = λ ls left. k checked left in
      let others : List Level → Program (List (List Level)) = λ s. all_ctor_sorts more >>= λ ss. done (s ∷ ss) in
      let next : Yes → ℕ → Out = λ y left. run_then answer w (sorts_form more) left k in
      ap (λ y. run_then answer w (sorts_form y) b k) is
      ∙ run_bind answer w (all_ctor_sorts (t ∷ more)) (λ ls. done checked) b k
      ∙ run_bind answer w (ctor_sorts t.ctors) others b none
      ∙ run_same answer w (ctor_sorts t.ctors) b (λ s left. run_then answer w (others s) left none) (λ s left. next checked left)
      (λ s left. run_bind answer w (all_ctor_sorts more) (λ ss. done (s ∷ ss)) left none ∙ sym (run_bind answer w (all_ctor_sorts more) (λ ls. done checked) left k))
      ∙ sym (run_bind answer w (ctor_sorts t.ctors) (λ ls. done checked) b next)
      ∙ ap (λ q. run_then answer w (q >>= λ ls. done checked) b next) (sym same);
}

-- the types of constructors stay
pub constructors_kept : (c d : Contents) (ks : List Constructor) → Extends c d → All (IsConstructorIn c) ks → ctor_sorts (map (constructor_at d) ks) ≡ ctor_sorts (map (constructor_at c) ks)
constructors_kept c d [] x h = refl
constructors_kept c d (k ∷ ks) x h =
    let known = All-head (IsConstructorIn c) k ks h in
    let others = constructors_kept c d ks x (All-tail (IsConstructorIn c) k ks h) in
    ap (λ T. sort_of T >>= λ s. ctor_sorts (map (constructor_at d) ks) >>= λ ss. done (s ∷ ss)) (x.trees.same k.ty known.stated.ty_in)
    ∙ ap (λ q. sort_of (tree_at c k.ty) >>= λ s. q >>= λ ss. done (s ∷ ss)) others
