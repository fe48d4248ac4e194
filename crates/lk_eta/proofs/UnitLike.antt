-- A kind that is a unit-like type, by the number of its parameters, and the head of a type that may be one.
use Rattle.std.proofs.Common.{◌≡◌, ℕ, Bool, true, false, ◌&&◌, nat_eq, List, [], ◌∷◌, length, Option, Some, None, refl, sym, ap, ◌∙◌, if◌then◌else◌}
use Rattle.lk_tree.specs.Tree.{Name, Level, Tree, const}
use Rattle.lk_tree.specs.declared.rule.Rule.TheVariants.{UnknownConstant}
use Rattle.lk_rulebook.specs.Place.{Kind, Block, BlockType, Ctor, an_axiom, a_def, a_thm, an_opaque, a_quot, a_type, a_ctor, a_rec}
use Rattle.lk_rulebook.specs.Structures.{is_structure_like}
use Rattle.lk_questions.specs.Program.{Program, look}
use Rattle.lk_questions.specs.Pairs.{◌or_else◌}
use Rattle.lk_questions.specs.Eta.{is_unit_like, is_unit_like_at, eta_unit}
use Rattle.lk_mentions.specs.Structures.{unit_by, unit_in}
use Rattle.lk_eta.specs.Units.{kind_line}

-- at so many parameters
at_parameters : Option ℕ → List Tree → Bool
at_parameters (Some n) bs = nat_eq (length bs) n
at_parameters None bs = false

by_test : (q : Bool) (n : ℕ) (bs : List Tree) → (q && nat_eq (length bs) n) ≡ at_parameters (if q then Some n else None) bs
unfolding at_parameters
by_test true n bs = refl
by_test false n bs = refl

like_by : (b : Block) (t : BlockType) (ks : List Ctor) (bs : List Tree) → is_unit_like b t ks bs ≡ at_parameters (unit_by b t ks) bs
unfolding at_parameters
like_by b t [] bs = refl
like_by b t (k ∷ []) bs = by_test (is_structure_like b t k && nat_eq k.fields 0) t.parameters bs
like_by b t (k ∷ j ∷ ks) bs = refl

like_at : (k : Kind) (bs : List Tree) → is_unit_like_at k bs ≡ at_parameters (unit_in k) bs
unfolding at_parameters
like_at (a_type b t) bs = like_by b t t.ctors bs
like_at an_axiom bs = refl
like_at (a_def h v) bs = refl
like_at (a_thm v) bs = refl
like_at (an_opaque v) bs = refl
like_at a_quot bs = refl
like_at (a_ctor b t c) bs = refl
like_at (a_rec r) bs = refl

module _ (k : Kind) (bs : List Tree) where
  pub unit_counted : (n : ℕ) → Some n ≡ unit_in k → nat_eq (length bs) n ≡ is_unit_like_at k bs
  unfolding at_parameters
  unit_counted n is = ap (λ o. at_parameters o bs) is ∙ sym (like_at k bs)

  pub no_unit : None ≡ unit_in k → false ≡ is_unit_like_at k bs
  unfolding at_parameters
  no_unit is = ap (λ o. at_parameters o bs) is ∙ sym (like_at k bs)

-- the head is looked up where it is a constant
pub unit_looks : (a b A h : Tree) (bs : List Tree) (x : Name) (ks : List Level) (r : Program Bool) → const x ks ≡ h
    → (eta_unit a b A h bs or_else r) ≡ look UnknownConstant x (λ g. kind_line b A g.kind bs or_else r)
unit_looks a b A h bs x ks r is = ap (λ t. eta_unit a b A t bs or_else r) (sym is)
