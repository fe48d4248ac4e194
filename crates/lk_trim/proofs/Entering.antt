-- A level or a tree is entered.
use Rattle.std.proofs.Common.{◌≡◌, ℕ, ◌+◌, ◌<◌, List, [], ◌∷◌, ◌++◌, map, length, refl, ap, sym, ◌∙◌, arith}
use Rattle.std.specs.Prelude.{true, false}
use Rattle.std.proofs.lemmas.Bool.{cond-true, cond-false}
use Rattle.std.proofs.lemmas.List.{append-nil}
use Rattle.lk_tree.specs.Tree.{Level, level_discrete, zero_level, succ_level, max_level, imax_level, param}
use Rattle.lk_tree.specs.Tree.{Tree, var, sort, const, app, lam, pi, let_in, proj, lit, wide, str, local}
use Rattle.lk_store.specs.Contents.{Contents, level_at, tree_at, level_of, tree_of, IsLevelIn, IsIn}
use Rattle.lk_store.specs.declared.node.LevelNode.{LevelNode}
use Rattle.lk_store.specs.declared.node.LevelNode.TheVariants as level
use Rattle.lk_store.specs.declared.node.Node.{Node}
use Rattle.lk_store.specs.declared.node.Node.TheVariants as node
use Rattle.lk_trim.specs.declared.numbers.Writer.{Writer}
use Rattle.lk_trim.specs.declared.visit.Visit.{Visit}
use Rattle.lk_trim.specs.declared.visit.Visit.TheVariants.{Enter, Leave}
use Rattle.lk_trim.specs.Written.{File, stands}
use Rattle.lk_trim.specs.Levels.{has_level, add_level, write_level}
use Rattle.lk_trim.specs.Trees.{has_tree, add_tree, write_tree}
use Rattle.lk_trim.specs.Stored.{written_at, file_at}
use Rattle.lk_trim.specs.Walks.{rest_of, AreVisits, turns, IsEntered, level_cost, level_walk, level_parts, level_label, tree_cost, tree_walk, tree_parts, tree_label}
use Rattle.lk_trim.proofs.Places.{place_first}

-- Levels.
level_stays : (l : Level) (f : File) → has_level f.written l ≡ true → f ≡ write_level l f
level_stays zero_level f h = refl
level_stays (succ_level l) f h = sym (cond-true (has_level f.written (succ_level l)) f _ h)
level_stays (max_level l m) f h = sym (cond-true (has_level f.written (max_level l m)) f _ h)
level_stays (imax_level l m) f h = sym (cond-true (has_level f.written (imax_level l m)) f _ h)
level_stays (param n) f h = sym (cond-true (has_level f.written (param n)) f _ h)

level_cost_some : (l : Level) → 0 < level_cost l
level_cost_some zero_level = omega arith
level_cost_some (succ_level l) = omega arith
level_cost_some (max_level l m) = omega arith
level_cost_some (imax_level l m) = omega arith
level_cost_some (param n) = omega arith

module _ (c : Contents) where
  pub level_skipped : (l : ℕ) (old : List Visit) (f : File) → has_level f.written (level_at c l) ≡ true → IsEntered (level_walk c) l old old f f
  level_skipped l old f h = record { pushed = []; is = sym (append-nil old); known = tt; less = level_cost_some (level_at c l); leads = level_stays (level_at c l) f h }

  level_turns : (d : LevelNode) → turns (level_walk c) (map Enter (level_parts d)) + 1 < level_cost (level_of c d)
  level_turns level.Zero = omega arith
  level_turns (level.Succ l) = omega arith
  level_turns (level.Max l m) = omega arith
  level_turns (level.IMax l m) = omega arith
  level_turns (level.Param n) = omega arith

  level_visits : (d : LevelNode) → IsLevelIn c d → AreVisits (level_walk c) (map Enter (level_parts d))
  level_visits level.Zero h = tt
  level_visits (level.Succ l) h = (h, tt)
  level_visits (level.Max l m) h = (h.1, (h.0, tt))
  level_visits (level.IMax l m) h = (h.1, (h.0, tt))
  level_visits (level.Param n) h = tt

  level_leads : (d : LevelNode) (w : Writer) → has_level (written_at c w.numbers) (level_of c d) ≡ false
      → add_level (level_of c d) (rest_of (level_walk c) (map Enter (level_parts d)) (level_label c d (file_at c w))) ≡ write_level (level_of c d) (file_at c w)
  level_leads level.Zero w h =
      let t : has_level (written_at c w.numbers) zero_level ≡ true = ap stands (place_first level_discrete zero_level _) in
      let x : true ≡ false = sym t ∙ h in
      absurd cc
  level_leads (level.Succ l) w h = sym (cond-false _ (file_at c w) _ h)
  level_leads (level.Max l m) w h = sym (cond-false _ (file_at c w) _ h)
  level_leads (level.IMax l m) w h = sym (cond-false _ (file_at c w) _ h)
  level_leads (level.Param n) w h = sym (cond-false _ (file_at c w) _ h)

  pub level_opened : (l : ℕ) (d : LevelNode) (old new : List Visit) (w : Writer) (g : File) → l < length c.levels → IsLevelIn c d → level_of c d ≡ level_at c l
      → has_level (written_at c w.numbers) (level_at c l) ≡ false → new ≡ old ++ Leave l ∷ map Enter (level_parts d) → g ≡ level_label c d (file_at c w)
      → IsEntered (level_walk c) l old new (file_at c w) g
  level_opened l d old new w g inside parts e h pushed is =
      let t = level_turns d in
      let same : level_cost (level_of c d) ≡ level_cost (level_at c l) = ap level_cost e in
      record {
        pushed = Leave l ∷ map Enter (level_parts d);
        is = pushed;
        known = (inside, level_visits d parts);
        less = omega (arith, t, same);
        leads =
            ap (λ x. add_level x (rest_of (level_walk c) (map Enter (level_parts d)) g)) (sym e)
            ∙ ap (λ x. add_level (level_of c d) (rest_of (level_walk c) (map Enter (level_parts d)) x)) is
            ∙ level_leads d w (ap (has_level (written_at c w.numbers)) e ∙ h) ∙ ap (λ x. write_level x (file_at c w)) e;
      }

-- Trees.
tree_stays : (e : Tree) (f : File) → has_tree f.written e ≡ true → f ≡ write_tree e f
tree_stays (var i) f h = sym (cond-true (has_tree f.written (var i)) f _ h)
tree_stays (sort l) f h = sym (cond-true (has_tree f.written (sort l)) f _ h)
tree_stays (const n ls) f h = sym (cond-true (has_tree f.written (const n ls)) f _ h)
tree_stays (app a b) f h = sym (cond-true (has_tree f.written (app a b)) f _ h)
tree_stays (lam a b) f h = sym (cond-true (has_tree f.written (lam a b)) f _ h)
tree_stays (pi a b) f h = sym (cond-true (has_tree f.written (pi a b)) f _ h)
tree_stays (let_in a v b) f h = sym (cond-true (has_tree f.written (let_in a v b)) f _ h)
tree_stays (proj s i a) f h = sym (cond-true (has_tree f.written (proj s i a)) f _ h)
tree_stays (lit n) f h = sym (cond-true (has_tree f.written (lit n)) f _ h)
tree_stays wide f h = sym (cond-true (has_tree f.written wide) f _ h)
tree_stays (str s) f h = sym (cond-true (has_tree f.written (str s)) f _ h)
tree_stays (local k a) f h = sym (cond-true (has_tree f.written (local k a)) f _ h)

tree_cost_some : (e : Tree) → 0 < tree_cost e
tree_cost_some (var i) = omega arith
tree_cost_some (sort l) = omega arith
tree_cost_some (const n ls) = omega arith
tree_cost_some (app a b) = omega arith
tree_cost_some (lam a b) = omega arith
tree_cost_some (pi a b) = omega arith
tree_cost_some (let_in a v b) = omega arith
tree_cost_some (proj s i a) = omega arith
tree_cost_some (lit n) = omega arith
tree_cost_some wide = omega arith
tree_cost_some (str s) = omega arith
tree_cost_some (local k a) = omega arith

module _ (c : Contents) where
  pub tree_skipped : (e : ℕ) (old : List Visit) (f : File) → has_tree f.written (tree_at c e) ≡ true → IsEntered (tree_walk c) e old old f f
  tree_skipped e old f h = record { pushed = []; is = sym (append-nil old); known = tt; less = tree_cost_some (tree_at c e); leads = tree_stays (tree_at c e) f h }

  tree_turns : (d : Node) → turns (tree_walk c) (map Enter (tree_parts d)) + 1 < tree_cost (tree_of c d)
  tree_turns (node.Var i) = omega arith
  tree_turns (node.Sort l) = omega arith
  tree_turns (node.Const n ls) = omega arith
  tree_turns (node.App a b) = omega arith
  tree_turns (node.Lam a b) = omega arith
  tree_turns (node.Pi a b) = omega arith
  tree_turns (node.Let a v b) = omega arith
  tree_turns (node.Proj s i a) = omega arith
  tree_turns (node.Lit n) = omega arith
  tree_turns node.Wide = omega arith
  tree_turns (node.Str s) = omega arith
  tree_turns (node.Local k a) = omega arith

  tree_visits : (d : Node) → IsIn c d → AreVisits (tree_walk c) (map Enter (tree_parts d))
  tree_visits (node.Var i) h = tt
  tree_visits (node.Sort l) h = tt
  tree_visits (node.Const n ls) h = tt
  tree_visits (node.App a b) h = (h.1, (h.0, tt))
  tree_visits (node.Lam a b) h = (h.1, (h.0, tt))
  tree_visits (node.Pi a b) h = (h.1, (h.0, tt))
  tree_visits (node.Let a v b) h = (h.2, (h.1, (h.0, tt)))
  tree_visits (node.Proj s i a) h = (h.1, tt)
  tree_visits (node.Lit n) h = tt
  tree_visits node.Wide h = tt
  tree_visits (node.Str s) h = tt
  tree_visits (node.Local k a) h = (h, tt)

  tree_leads : (d : Node) (f : File) → has_tree f.written (tree_of c d) ≡ false
      → add_tree (tree_of c d) (rest_of (tree_walk c) (map Enter (tree_parts d)) (tree_label c d f)) ≡ write_tree (tree_of c d) f
  tree_leads (node.Var i) f h = sym (cond-false _ f _ h)
  tree_leads (node.Sort l) f h = sym (cond-false _ f _ h)
  tree_leads (node.Const n ls) f h = sym (cond-false _ f _ h)
  tree_leads (node.App a b) f h = sym (cond-false _ f _ h)
  tree_leads (node.Lam a b) f h = sym (cond-false _ f _ h)
  tree_leads (node.Pi a b) f h = sym (cond-false _ f _ h)
  tree_leads (node.Let a v b) f h = sym (cond-false _ f _ h)
  tree_leads (node.Proj s i a) f h = sym (cond-false _ f _ h)
  tree_leads (node.Lit n) f h = sym (cond-false _ f _ h)
  tree_leads node.Wide f h = sym (cond-false _ f _ h)
  tree_leads (node.Str s) f h = sym (cond-false _ f _ h)
  tree_leads (node.Local k a) f h = sym (cond-false _ f _ h)

  pub tree_opened : (e : ℕ) (d : Node) (old new : List Visit) (f g : File) → e < length c.trees → IsIn c d → tree_of c d ≡ tree_at c e
      → has_tree f.written (tree_at c e) ≡ false → new ≡ old ++ Leave e ∷ map Enter (tree_parts d) → g ≡ tree_label c d f
      → IsEntered (tree_walk c) e old new f g
  tree_opened e d old new f g inside parts is_node h pushed is =
      let t = tree_turns d in
      let same : tree_cost (tree_of c d) ≡ tree_cost (tree_at c e) = ap tree_cost is_node in
      record {
        pushed = Leave e ∷ map Enter (tree_parts d);
        is = pushed;
        known = (inside, tree_visits d parts);
        less = omega (arith, t, same);
        leads =
            ap (λ x. add_tree x (rest_of (tree_walk c) (map Enter (tree_parts d)) g)) (sym is_node)
            ∙ ap (λ x. add_tree (tree_of c d) (rest_of (tree_walk c) (map Enter (tree_parts d)) x)) is
            ∙ tree_leads d f (ap (has_tree f.written) is_node ∙ h) ∙ ap (λ x. write_tree x f) is_node;
      }
