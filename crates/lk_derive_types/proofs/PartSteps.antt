-- A sort and a function type: what is known of them is what the answers are.
use Rattle.std.proofs.Common.{ℕ, ◌≡◌, refl, sym, subst}
use Rattle.lk_tree.specs.Tree.{Level, Tree, sort, pi}
use Rattle.lk_rulebook.specs.Place.{Place}
use Rattle.lk_questions.specs.Query.{infer, whnf}
use Rattle.lk_store.specs.Contents.{Contents, tree_of}
use Rattle.lk_store.specs.declared.node.Node.{Node}
use Rattle.lk_store.specs.declared.node.Node.TheVariants as node
use Rattle.lk_step.specs.Rows.{IsAnswered}
use Rattle.lk_step.specs.Runs.{AreOne}
use Rattle.lk_step.specs.Told.{IsAnsweredWithin, IsType, IsForm}
use Rattle.lk_step.proofs.Runs.{one_answer}
use Rattle.lk_derive_types.specs.Parts.{IsSortedWithin, IsPiWithin}

-- at one place as at another that is the same
pub sorted_first : (w : Place) (A : Tree) (most : ℕ) → IsSortedWithin w A most → IsAnsweredWithin w (infer A) most
sorted_first w A most h = (h.between, h.first, h.typed, h.first_within)

pub sorted_second : (w u : Place) (A T : Tree) (most : ℕ) → u ≡ w → IsSortedWithin w A most → IsType w A T → IsAnsweredWithin u (whnf T) most
sorted_second w u A T most e h t =
    let o : AreOne T h.between t.cost h.first = one_answer w (infer A) T h.between t.cost h.first t.answered h.typed in
    subst (λ p. IsAnsweredWithin p (whnf T) most) (sym e) (subst (λ z. IsAnsweredWithin w (whnf z) most) (sym o.answer) (sort h.level, h.second, h.reduced, h.second_within))

pub sorted_sort : (w u : Place) (A T S : Tree) (most : ℕ) → u ≡ w → IsSortedWithin w A most → IsType w A T → IsForm u T S → (l : Level) × (S ≡ sort l)
sorted_sort w u A T S most e h t s =
    let o : AreOne T h.between t.cost h.first = one_answer w (infer A) T h.between t.cost h.first t.answered h.typed in
    let a : IsAnswered w (whnf T) S s.cost = subst (λ p. IsAnswered p (whnf T) S s.cost) e s.answered in
    let b : IsAnswered w (whnf T) (sort h.level) h.second = subst (λ z. IsAnswered w (whnf z) (sort h.level) h.second) (sym o.answer) h.reduced in
    (h.level, (one_answer w (whnf T) S (sort h.level) s.cost h.second a b).answer)

pub pi_first : (w : Place) (F : Tree) (most : ℕ) → IsPiWithin w F most → IsAnsweredWithin w (whnf F) most
pi_first w F most h = (pi h.domain h.body, h.cost, h.reduced, h.within)

pub pi_is : (w : Place) (F S : Tree) (most : ℕ) → IsPiWithin w F most → IsForm w F S → (A : Tree) × (B : Tree) × (S ≡ pi A B)
pi_is w F S most h s = (h.domain, h.body, (one_answer w (whnf F) S (pi h.domain h.body) s.cost h.cost s.answered h.reduced).answer)

-- the node of a Sort
pub sort_node : (c : Contents) (n : Node) (l : Level) → tree_of c n ≡ sort l → (k : ℕ) × (n ≡ node.Sort k)
sort_node c (node.Sort k) l e = (k, refl)
sort_node c _ l e = absurd cc

pub pi_node : (c : Contents) (n : Node) (A B : Tree) → tree_of c n ≡ pi A B → (k : ℕ) × (j : ℕ) × (n ≡ node.Pi k j)
pi_node c (node.Pi k j) A B e = (k, j, refl)
pi_node c _ A B e = absurd cc

pub form_there : (w u : Place) (T S : Tree) → u ≡ w → IsForm u T S → IsForm w T S
form_there w u T S e h = subst (λ p. IsForm p T S) e h

pub type_there : (w u : Place) (T S : Tree) → u ≡ w → IsType u T S → IsType w T S
type_there w u T S e h = subst (λ p. IsType p T S) e h
