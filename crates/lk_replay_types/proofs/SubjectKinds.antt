-- The kind of a subject's type, which is to have one constructor.
use Rattle.std.proofs.Common.{◌≡◌, Bool, true, false, ◌&&◌, List, [], ◌∷◌, Some, None, refl, ap}
use Rattle.lk_tree.specs.Tree.{Level, Tree}
use Rattle.lk_rulebook.specs.Place.{Kind, BlockType, Ctor, an_axiom, a_def, a_thm, an_opaque, a_quot, a_type, a_ctor, a_rec}
use Rattle.lk_rulebook.specs.Claims.{Claim}
use Rattle.lk_questions.specs.Tests.{◌>>=◌}
use Rattle.lk_written.specs.Premises.{Left}
use Rattle.lk_written.specs.Typing.{the_one}
use Rattle.lk_structure.specs.Structures.{with_one, structure_in}
use Rattle.lk_replay_types.specs.Subjects.{Projection, one_read, kind_read}

module _ (ps : List Claim) (js : Left) (p : Projection) (T : Tree) (ls : List Level) (A : Tree) where
  alone : (u : BlockType) (ks : List Ctor) (q : BlockType × Ctor) → with_one u ks ≡ Some q
      → (the_one ks >>= λ c. one_read ps js p T ls u c A) ≡ one_read ps js p T ls q.0 q.1 A
  alone u [] q h = absurd (cc)
  alone u (k ∷ []) q h =
      let same : (u, k) ≡ q = cc in
      ap (λ (y : BlockType × Ctor). one_read ps js p T ls y.0 y.1 A) same
  alone u (k ∷ j ∷ ks) q h = absurd (cc)

  pub kind_some : (kd : Kind) (q : BlockType × Ctor) → structure_in kd ≡ Some q
      → kind_read ps js p T ls kd A ≡ one_read ps js p T ls q.0 q.1 A
  kind_some (a_type b t) q h = alone t t.ctors q h
  kind_some an_axiom q h = absurd (cc)
  kind_some (a_def x v) q h = absurd (cc)
  kind_some (a_thm v) q h = absurd (cc)
  kind_some (an_opaque v) q h = absurd (cc)
  kind_some a_quot q h = absurd (cc)
  kind_some (a_ctor b t k) q h = absurd (cc)
  kind_some (a_rec r) q h = absurd (cc)

  not_alone : (u : BlockType) (ks : List Ctor) → with_one u ks ≡ None
      → (the_one ks >>= λ c. one_read ps js p T ls u c A) ≡ None
  not_alone u [] h = refl
  not_alone u (k ∷ []) h = absurd (cc)
  not_alone u (k ∷ j ∷ ks) h = refl

  pub kind_none : (kd : Kind) → structure_in kd ≡ None → kind_read ps js p T ls kd A ≡ None
  kind_none (a_type b t) h = not_alone t t.ctors h
  kind_none an_axiom h = refl
  kind_none (a_def x v) h = refl
  kind_none (a_thm v) h = refl
  kind_none (an_opaque v) h = refl
  kind_none a_quot h = refl
  kind_none (a_ctor b t k) h = refl
  kind_none (a_rec r) h = refl

-- the counts are those of the structure, in the order of the tests
pub three_hold : (a b c : Bool) → (a && c) ≡ true → b ≡ true → ((a && b) && c) ≡ true
three_hold false b c h k = absurd (cc)
three_hold true false c h k = absurd (cc)
three_hold true true c h k = h
