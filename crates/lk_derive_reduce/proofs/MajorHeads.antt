-- Heads by which Core looks at a major premise, by what their constants mean.
use Rattle.std.proofs.Common.{ℕ, ◌≡◌, Bool, true, false, List, Option, Some, None, refl, sym, subst, ap, ◌∙◌}
use Rattle.lk_tree.specs.Tree.{Name, Level, Tree, const}
use Rattle.lk_tree.specs.Spine.{head}
use Rattle.lk_rulebook.specs.Place.{Place, Entry, Kind, a_quot, a_rec}
use Rattle.lk_questions.specs.Query.{core}
use Rattle.lk_questions.specs.Quotients.{by_quot}
use Rattle.lk_step.specs.Heads.{HasConstant, IsMajorHead, by_quotient, by_recursor}
use Rattle.lk_step.specs.Rows.{IsClaim}
use Rattle.lk_derive_reduce.specs.Forms.{IsApp}
use Rattle.lk_derive_reduce.specs.MajorHeads.{IsMajorKind, IsHeadBy}
use Rattle.lk_derive_reduce.specs.declared.major_heads.MajorHead.{MajorHead}
use Rattle.lk_derive_reduce.specs.declared.major_heads.MajorHead.TheVariants.{Quotient, Recursor}
use Rattle.lk_derive_reduce.proofs.Inert.{is_meant}

kind_head : (w : Place) (e : Tree) (c : Name) (ls : List Level) (g : Entry) → head e ≡ const c ls → w.means c ≡ Some g → (k : Kind) → g.kind ≡ k → IsMajorKind k → IsMajorHead w e
kind_head w e c ls g h m a_quot k i = by_quotient (record { name = c; levels = ls; entry = g; head_is = h; means = m; kind_is = k })
kind_head w e c ls g h m (a_rec r) k i = by_recursor (record { name = c; levels = ls; entry = g; recursor = r; head_is = h; means = m; kind_is = k })
kind_head w e c ls g h m _ k i = absurd i

-- the head of an application of which Core is known means something, and by that it is one of the two
pub head_of_kind : (w : Place) (most : ℕ) (e : Tree) (c : Name) (ls : List Level) (o : Option Entry) → IsApp e → const c ls ≡ head e → w.means c ≡ o → ((g : Entry) → o ≡ Some g → IsMajorKind g.kind) → IsClaim w (core e) most → IsMajorHead w e
head_of_kind w most e c ls (Some g) a h m kind k = kind_head w e c ls g (sym h) m g.kind refl (kind g refl)
head_of_kind w most e c ls None a h m kind k = absurd (is_meant w most e c ls a h k m)

-- the constant at the head
record HeadMeans (w : Place) (e : Tree) : Type 0 where
  name : Name
  levels : List Level
  entry : Entry
  head_is : head e ≡ const name levels
  means : w.means name ≡ Some entry

head_means : (w : Place) (e : Tree) → IsMajorHead w e → HeadMeans w e
head_means w e (by_quotient h) = record { name = h.name; levels = h.levels; entry = h.entry; head_is = h.head_is; means = h.means }
head_means w e (by_recursor h) = record { name = h.name; levels = h.levels; entry = h.entry; head_is = h.head_is; means = h.means }

pub has_constant : (w : Place) (e : Tree) → IsMajorHead w e → HasConstant e
has_constant w e h = let k : HeadMeans w e = head_means w e h in record { name = k.name; levels = k.levels; head_is = k.head_is }

-- it means something
pub means_there : (w : Place) (e : Tree) → IsMajorHead w e → (c : Name) → ((name : Name) (levels : List Level) → head e ≡ const name levels → c ≡ name) → w.means c ≡ None → ⊥
means_there w e h c is none =
    let k : HeadMeans w e = head_means w e h in
    let some : w.means c ≡ Some k.entry = ap (λ z. w.means z) (is k.name k.levels k.head_is) ∙ k.means in
    let x : None ≡ Some k.entry = sym none ∙ some in
    absurd cc

abbrev pub head_if : Bool → MajorHead
head_if true = Quotient
head_if false = Recursor

-- which of the two it is goes by the entry
by_entry : (w : Place) (e : Tree) → IsMajorHead w e → (c : Name) → ((name : Name) (levels : List Level) → head e ≡ const name levels → c ≡ name) → (g : Entry) → w.means c ≡ Some g → (b : Bool) → by_quot g.kind ≡ b → IsHeadBy w e (head_if b)
by_entry w e (by_quotient h) c is g m b t =
    let x : Some h.entry ≡ Some g = sym h.means ∙ ap (λ z. w.means z) (sym (is h.name h.levels h.head_is)) ∙ m in
    let same : h.entry ≡ g = cc in
    let kind : by_quot g.kind ≡ true = ap (λ (z : Entry). by_quot z.kind) (sym same) ∙ ap by_quot h.kind_is in
    subst (λ z. IsHeadBy w e (head_if z)) (sym kind ∙ t) h
by_entry w e (by_recursor h) c is g m b t =
    let x : Some h.entry ≡ Some g = sym h.means ∙ ap (λ z. w.means z) (sym (is h.name h.levels h.head_is)) ∙ m in
    let same : h.entry ≡ g = cc in
    let kind : by_quot g.kind ≡ false = ap (λ (z : Entry). by_quot z.kind) (sym same) ∙ ap by_quot h.kind_is in
    subst (λ z. IsHeadBy w e (head_if z)) (sym kind ∙ t) h

pub means_by : (w : Place) (e : Tree) → IsMajorHead w e → (c : Name) → ((name : Name) (levels : List Level) → head e ≡ const name levels → c ≡ name) → (o : Option Entry) → w.means c ≡ o → (r : Bool) → ((g : Entry) → o ≡ Some g → by_quot g.kind ≡ r) → (b : Bool) → r ≡ b → IsHeadBy w e (head_if b)
means_by w e h c is (Some g) m r test b t = by_entry w e h c is g m b (test g refl ∙ t)
means_by w e h c is None m r test b t = absurd (means_there w e h c is m)
