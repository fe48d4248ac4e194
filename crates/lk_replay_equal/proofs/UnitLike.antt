-- The kind of a type with one value.
use Rattle.std.proofs.Common.{◌≡◌, Bool, true, false, ◌&&◌, List, Option, None, refl}
use Rattle.lk_tree.specs.Tree.{Tree}
use Rattle.lk_tree.specs.Spine.{head, args}
use Rattle.lk_rulebook.specs.Place.{Place, Kind, an_axiom, a_def, a_thm, an_opaque, a_quot, a_type, a_ctor, a_rec}
use Rattle.lk_rulebook.specs.Claims.{Claim}
use Rattle.lk_questions.specs.Tests.{◌>>=◌, test}
use Rattle.lk_questions.specs.Eta.{is_unit_like}
use Rattle.lk_written.specs.Premises.{Left, ends, as_const, typed, reduced, equal}
use Rattle.lk_written.specs.Typing.{the_type}
use Rattle.lk_written.specs.Equal.{is_head_normal, eq_unit}
use Rattle.lk_premises.proofs.Binding.{bind_same}
use Rattle.lk_premises.specs.Reading.{ends_equal}
use Rattle.lk_replay_equal.specs.Units.{typed_alike, unit_by, units_read}

module _ (ps : List Claim) (b : Tree) where
  by_kind : (k : Kind) (js : Left) (A T : Tree) →
      (the_type k >>= λ t. test (is_unit_like t.0 t.1 t.1.ctors (args T)) >>= λ v. typed ps js b >>= λ B. equal ps B.1 A B.0 >>= λ r. ends r)
      ≡ unit_by ps js A T k b
  unfolding ends_equal typed_alike
  by_kind (a_type block ind) js A T = refl
  by_kind _ js A T = refl

  pub unit_read : (w : Place) (js : Left) (a : Tree) → eq_unit w ps js a b ≡ (test (is_head_normal a && is_head_normal b) >>= λ u. units_read w ps js a b)
  unit_read w js a =
      bind_same (test (is_head_normal a && is_head_normal b)) _ _
      (λ u. bind_same (typed ps js a) _ _
      (λ A. bind_same (reduced ps A.1 A.0) _ _
      (λ T. bind_same (as_const (head T.0)) _ _
      (λ h. bind_same (w.means h.0) _ _ (λ g. by_kind g.kind T.1 A.0 T.0)))))
