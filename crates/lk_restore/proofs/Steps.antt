-- What the walk makes of a node, and of a whole tree.
use Rattle.std.proofs.Common.{◌≡◌, ℕ, ◌<◌, List, [], ◌∷◌, length, Option, Some, None, refl, sym, ap, subst, ◌∙◌, arith}
use Rattle.std.specs.Prelude.{option_map, IfSome, MatchOption}
use Rattle.lk_tree.specs.Tree.{Name, Level, Tree, const, app}
use Rattle.lk_inductive.specs.Enlarged.{Setting}
use Rattle.lk_inductive.specs.Restore.{restore}
use Rattle.lk_inductive.proofs.ReadBack.{back_none}
use Rattle.lk_store.specs.Contents.{Contents, name_at, list_at, tree_at, tree_of, IsTree}
use Rattle.lk_store.specs.declared.node.Node.TheVariants.{App, Const}
use Rattle.lk_subst.specs.Walks.{Descends, IsStep}
use Rattle.lk_restore.specs.declared.originals.Original.{Original}
use Rattle.lk_restore.specs.Originals.{originals_at, AreStanding, AreReadOver}
use Rattle.lk_restore.specs.Marks.{Mark, marks_at, first, instead, constant_back, or_built, read, reading}
use Rattle.lk_restore.proofs.Marking.{marks_are}
use Rattle.lk_restore.proofs.Spines.{walk_restores}

module _ (c : Contents) (ms : List Mark) (depth : ℕ) where
  application : (u v : Tree) (r : Option ℕ) → IfSome r (λ i. i < length c.trees) → option_map (tree_at c) r ≡ instead ms ms (app u v)
      → MatchOption r (Descends (reading ms) depth (app u v)) (λ i. IsTree c i (read ms (app u v)))
  unfolding read
  application u v None known is = ap (λ o. or_built o (app (read ms u) (read ms v))) (sym is)
  application u v (Some i) known is = record { known = known; is = ap (λ o. or_built o (app (read ms u) (read ms v))) is }

  pub application_step : (e f a : ℕ) (r : Option ℕ) → tree_of c (App f a) ≡ tree_at c e → IfSome r (λ i. i < length c.trees) → option_map (tree_at c) r ≡ instead ms ms (tree_at c e)
      → IsStep (reading ms) c e depth c r
  application_step e f a r is known found =
      subst (λ t. MatchOption r (Descends (reading ms) depth t) (λ i. IsTree c i (read ms t))) is (application (tree_at c f) (tree_at c a) r known (found ∙ ap (instead ms ms) (sym is)))

module _ (c : Contents) (ms : List Mark) where
  constant_first : (n : Name) (ls : List Level) (o : Option Tree) (t : Tree) → o ≡ instead ms ms (const n ls) → or_built o (constant_back n ls (first ms n)) ≡ t → t ≡ read ms (const n ls)
  unfolding read
  constant_first n ls o t is made = sym made ∙ ap (λ x. or_built x (constant_back n ls (first ms n))) is

  -- a constant that stands for something, and one that does not
  pub constant_step : (e name levels : ℕ) (o : Option Tree) (t : Tree) → tree_of c (Const name levels) ≡ tree_at c e → o ≡ instead ms ms (tree_at c e)
      → or_built o (constant_back (name_at c name) (list_at c levels) (first ms (name_at c name))) ≡ t → t ≡ read ms (tree_at c e)
  constant_step e name levels o t is found made =
      constant_first (name_at c name) (list_at c levels) o t (found ∙ ap (instead ms ms) (sym is)) made ∙ ap (read ms) is

-- the whole tree
module _ (c : Contents) (s : Setting) where
  pub walk_is : (os : List Original) → AreStanding c s os → AreReadOver os s.params → (length os ≡ 0 → ⊥) → (t : Tree) → read (marks_at c os) t ≡ restore (originals_at c os) s t []
  walk_is [] standing over some t = absurd (some refl)
  walk_is (o ∷ os) standing over some t = ap (λ ms. read ms t) (marks_are c s (o ∷ os) standing) ∙ walk_restores s (originals_at c (o ∷ os)) over t

  pub nothing_back : (os : List Original) → length os ≡ 0 → (t : Tree) → t ≡ restore (originals_at c os) s t []
  nothing_back [] none t = sym (back_none s t [])
  nothing_back (o ∷ os) none t = absurd (omega arith)
