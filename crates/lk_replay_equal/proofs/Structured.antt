-- A tree, and a constructor of a structure with all its arguments.
use Rattle.std.proofs.Common.{◌≡◌, ℕ, ◌&&◌, List, Option, Some, None, refl, ap, ◌∙◌}
use Rattle.std.specs.Prelude.{drop}
use Rattle.lk_tree.specs.Tree.{Tree}
use Rattle.lk_tree.specs.Spine.{head, args}
use Rattle.lk_rulebook.specs.Place.{Place, Block, BlockType, Ctor, a_ctor}
use Rattle.lk_rulebook.specs.Claims.{Claim}
use Rattle.lk_questions.specs.Iota.{CtorApp}
use Rattle.lk_questions.specs.Tests.{◌>>=◌, test}
use Rattle.lk_written.specs.Premises.{Left, ends, as_const, typed, equal}
use Rattle.lk_written.specs.Reducing.{the_ctor}
use Rattle.lk_written.specs.Equal.{is_head_normal, fields_equal, eq_struct}
use Rattle.lk_constructor.specs.Looking.{app_at}
use Rattle.lk_eta.specs.Structures.{is_full}
use Rattle.lk_premises.proofs.Binding.{bind_bind, bind_same}
use Rattle.lk_replay_equal.specs.Structures.{types_read, fields_after, full_and, constructor_and}
use Rattle.lk_replay_equal.proofs.AtConstructor.{by_constructor}

module _ (ps : List Claim) (a b : Tree) (js : Left) where
  -- the types are read first
  by_types : (k : Left → Option (Unit {0})) → (typed ps js a >>= λ A. typed ps A.1 b >>= λ B. equal ps B.1 A.0 B.0 >>= k) ≡ (types_read ps js a b >>= k)
  unfolding types_read
  by_types k =
      bind_bind (typed ps js a) (λ A. typed ps A.1 b >>= λ B. equal ps B.1 A.0 B.0) k (λ A. typed ps A.1 b >>= λ B. equal ps B.1 A.0 B.0 >>= k)
      (λ A. bind_bind (typed ps A.1 b) (λ B. equal ps B.1 A.0 B.0) k (λ B. equal ps B.1 A.0 B.0 >>= k) (λ B. refl))

  -- behind the constructor
  abbrev whole : Block → BlockType → Ctor → Option (Unit {0})
  whole B t k = do
    u ← test (is_head_normal a && is_full (a_ctor B t k) (args b))
    full_and ps js a b t.name (drop k.parameters (args b))

  by_parts : (B : Block) (t : BlockType) (k : Ctor) →
      (test (is_head_normal a && is_full (a_ctor B t k) (args b)) >>= λ u. typed ps js a >>= λ A. typed ps A.1 b >>= λ B. equal ps B.1 A.0 B.0
      >>= λ r. fields_equal ps r t.name a 0 (drop k.parameters (args b)) >>= λ s. ends s)
      ≡ whole B t k
  unfolding fields_after
  by_parts B t k =
      bind_same (test (is_head_normal a && is_full (a_ctor B t k) (args b))) _ _
      (λ u. by_types (λ r. fields_after ps r t.name a (drop k.parameters (args b))))

  pub struct_read : (w : Place) → eq_struct w ps js a b ≡ (app_at w (head b) (args b) >>= λ k. constructor_and ps js a b k)
  struct_read w =
      bind_same (as_const (head b)) _ _ (λ h. bind_same (w.means h.0) _ _ (λ g. bind_same (the_ctor g.kind) _ _ (λ k. by_parts k.0 k.1 k.2)))
      ∙ by_constructor w (args b) (λ n B t k. whole B t k) (head b)
