-- What a program always gives is what it gave; so the shape of a block has the levels of its types and the parameters that were found.
use Rattle.std.proofs.Common.{◌≡◌, ℕ, true, List, [], map, refl, sym, subst}
use Rattle.lk_rulebook.specs.Place.{Block}
use Rattle.lk_tree.specs.Decide.{list_discrete}
use Rattle.lk_tree.specs.Tree.{name_discrete, tree_discrete}
use Rattle.lk_questions.specs.Program.{Program, done, refuse, ask, look}
use Rattle.lk_questions.specs.Steps.{decided}
use Rattle.lk_store.specs.Contents.{Contents, tree_at, Extends}
use Rattle.lk_env.specs.declared.unit.BlockType.{BlockType}
use Rattle.lk_env.specs.Units.{type_at}
use Rattle.lk_inductive.specs.Block.{levels_of, frame_of, Shape}
use Rattle.lk_inductive.specs.BlockSteps.{TypeParts, shapes_steps, large_steps, shape_steps}
use Rattle.lk_inductive.proofs.Always.{Always, always_any, always_bind}
use Rattle.lk_ask.specs.Asking.{Standing}
use Rattle.lk_declaration.specs.Courses.{Goes}
use Rattle.lk_block.specs.Wholes.{block_of}
use Rattle.lk_block.proofs.Locals.{given_meets}
use Rattle.lk_restore.specs.declared.originals.Original.{Original}
use Rattle.lk_restore.specs.Originals.{AreStanding, AreReadOver, AreOriginals}
use Rattle.lk_restore.specs.Steady.{originals-stay}
use Rattle.leancheck.specs.Larger.{AreReadAt}

is_so : {P : Type 0} (d : Dec P) → decided d ≡ true → P
is_so (yes e) h = e
is_so (no f) h = absurd cc

is_decided : {P : Type 0} (d : Dec P) → P → decided d ≡ true
is_decided (yes e) h = refl
is_decided (no f) h = absurd (f h)

module _ {A B : Type 0} (same : Discrete B) (f : A → B) (e : B) where
  always_decided : (p : Program A) → Always p (λ v. f v ≡ e) → Always p (λ v. decided (same (f v) e) ≡ true)
  always_decided (done v) h = is_decided (same (f v) e) h
  always_decided (refuse r) h = tt
  always_decided (ask q k) h = λ v. always_decided (k v) (h v)
  always_decided (look r c k) h = λ x. always_decided (k x) (h x)

  -- what is always this of whatever a program gives is this of what it gave
  pub given_is : {Base : Type 0} (t : Standing Base) (p : Program A) (b : ℕ) (v : A) (left : ℕ) → Always p (λ v. f v ≡ e) → Goes t p b v left → f v ≡ e
  given_is t p b v left h goes = is_so (same (f v) e) (given_meets t p b v left (λ v. decided (same (f v) e)) (always_decided p h) goes)

-- what the shape of a block is, of which the last part alone is open
always_shape : {B : Type 0} (f : Shape → B) (e : B) (fuel : ℕ) (b : Block) (ts : TypeParts)
    → ((s : Shape) → s.levels ≡ levels_of b → s.params ≡ ts.params → f s ≡ e) → Always (shape_steps fuel b ts) (λ s. f s ≡ e)
always_shape f e fuel b ts h =
    always_bind (shapes_steps fuel (frame_of b ts.params ts.sort) b.types ts.indices) _ (λ ss. Unit {0}) (λ s. f s ≡ e) (always_any (shapes_steps fuel (frame_of b ts.params ts.sort) b.types ts.indices))
    (λ ss x. always_bind (large_steps ts.sort ss) (λ large. done (record { levels = levels_of b; params = ts.params; sort = ts.sort; types = ss; large = large })) (λ large. Unit {0}) (λ s. f s ≡ e) (always_any (large_steps ts.sort ss))
    (λ large y. h _ refl refl))

module _ {Base : Type 0} (t : Standing Base) (fuel : ℕ) (b : Block) (ts : TypeParts) (before : ℕ) (s : Shape) (left : ℕ) (goes : Goes t (shape_steps fuel b ts) before s left) where
  pub shape_levels : s.levels ≡ levels_of b
  shape_levels = given_is (list_discrete name_discrete) (λ (s : Shape). s.levels) (levels_of b) t (shape_steps fuel b ts) before s left (always_shape (λ s. s.levels) (levels_of b) fuel b ts (λ s l p. l)) goes

  pub shape_params : s.params ≡ ts.params
  shape_params = given_is (list_discrete tree_discrete) (λ (s : Shape). s.params) ts.params t (shape_steps fuel b ts) before s left (always_shape (λ s. s.params) ts.params fuel b ts (λ s l p. p)) goes

-- what constants stand for at the levels and the parameters of a block's types they stand for in its shape
pub read_in_shape : (c d : Contents) → Extends c d → (types : List BlockType) (parameters : List ℕ) (os : List Original) (s : Shape) → AreReadAt c types parameters os
    → s.levels ≡ levels_of (block_of (map (type_at c) types)) → s.params ≡ map (tree_at c) parameters → AreOriginals d s os
read_in_shape c d x types parameters os s h levels params = originals-stay c d x s os (record {
  known = h.known;
  standing = subst (λ ls. AreStanding c (record { names = []; levels = ls; params = s.params }) os) (sym levels)
      (subst (λ ps. AreStanding c (record { names = []; levels = levels_of (block_of (map (type_at c) types)); params = ps }) os) (sym params) h.standing);
  over = subst (AreReadOver os) (sym params) h.over;
})
