-- What goes on with the constructor at the head of a tree.
use Rattle.std.proofs.Common.{◌≡◌, List, Option, Some, None, refl}
use Rattle.lk_tree.specs.Tree.{Name, Level, Tree, const}
use Rattle.lk_tree.specs.Spine.{head, args}
use Rattle.lk_rulebook.specs.Place.{Place, Entry, Kind, Block, BlockType, Ctor, an_axiom, a_def, a_thm, an_opaque, a_quot, a_type, a_ctor, a_rec}
use Rattle.lk_questions.specs.Iota.{CtorApp, ctor_app_by}
use Rattle.lk_questions.specs.Tests.{◌>>=◌}
use Rattle.lk_written.specs.Premises.{as_const}
use Rattle.lk_written.specs.Reducing.{the_ctor}
use Rattle.lk_constructor.specs.Looking.{ctor_at, app_at}

module _ {A : Type 0} (w : Place) (xs : List Tree) where
  module _ (x : Name) (ks : List Level) (k : Block → BlockType → Ctor → Option A) where
    by_kind : (g : Entry) (kd : Kind) → (the_ctor kd >>= λ c. k c.0 c.1 c.2) ≡ (ctor_app_by x ks xs g kd >>= λ (b : CtorApp). k b.block b.ind b.ctor)
    by_kind g (a_ctor b t c) = refl
    by_kind g _ = refl

    -- the constructor that a name means
    pub by_name : (w.means x >>= λ g. the_ctor g.kind >>= λ c. k c.0 c.1 c.2) ≡ (ctor_at w x ks xs >>= λ (b : CtorApp). k b.block b.ind b.ctor)
    by_name = go (w.means x)
      where
        go : (o : Option Entry) → (o >>= λ g. the_ctor g.kind >>= λ c. k c.0 c.1 c.2) ≡ (elim o [ Some g ↦ ctor_app_by x ks xs g g.kind | None ↦ None ] >>= λ (b : CtorApp). k b.block b.ind b.ctor)
        go (Some g) = by_kind g g.kind
        go None = refl

  -- the one that a head means
  pub by_constructor : (k : Name → Block → BlockType → Ctor → Option A) (h : Tree) →
      (as_const h >>= λ f. w.means f.0 >>= λ g. the_ctor g.kind >>= λ c. k f.0 c.0 c.1 c.2) ≡ (app_at w h xs >>= λ (b : CtorApp). k b.name b.block b.ind b.ctor)
  by_constructor k (const x ks) = go (w.means x)
    where
      kinds : (g : Entry) (kd : Kind) → (the_ctor kd >>= λ c. k x c.0 c.1 c.2) ≡ (ctor_app_by x ks xs g kd >>= λ (b : CtorApp). k b.name b.block b.ind b.ctor)
      kinds g (a_ctor b t c) = refl
      kinds g _ = refl

      go : (o : Option Entry) → (o >>= λ g. the_ctor g.kind >>= λ c. k x c.0 c.1 c.2) ≡ (elim o [ Some g ↦ ctor_app_by x ks xs g g.kind | None ↦ None ] >>= λ (b : CtorApp). k b.name b.block b.ind b.ctor)
      go (Some g) = kinds g g.kind
      go None = refl
  by_constructor k _ = refl
