-- Parts that are passed over: no level parameter stands in them, or they were looked through.
use Rattle.std.proofs.Common.{◌≡◌, ℕ, ◌<◌, Bool, true, false, ◌&&◌, List, [], ◌∷◌, length, refl, ap, sym, ◌∙◌}
use Rattle.std.specs.Prelude.{◌||◌, slice_index_or, Option, Some, None, IfSome, is_some, not}
use Rattle.lk_tree.specs.Tree.{Name, Level, zero_level, succ_level, max_level, imax_level, param, Tree, var, sort, const, app, lam, pi, let_in, proj, lit, wide, str, local}
use Rattle.lk_tree.specs.Scan.{level_over, levels_over, tree_over}
use Rattle.lk_store.specs.Contents.{Contents, level_at, list_at, tree_at}
use Rattle.lk_store.specs.Measures.{level_has_params, list_has_params, has_params}
use Rattle.lk_scan.specs.declared.part.TermPart.{TermPart}
use Rattle.lk_scan.specs.declared.part.TermPart.TheVariants as part
use Rattle.lk_scan.specs.declared.part.Met.{Met}
use Rattle.lk_scan.specs.Parts.{part_over, part_has_params}
use Rattle.lk_scan.specs.Walks.{AreOver}

no_left : (a b : Bool) → (a || b) ≡ false → a ≡ false
no_left true b h = h
no_left false b h = refl

no_right : (a b : Bool) → (a || b) ≡ false → b ≡ false
no_right true b h = absurd cc
no_right false b h = h

-- Where no parameter stands, none is undeclared.
module _ (ps : List Name) where
  two : (a b x y : Bool) → (x || y) ≡ false → (x ≡ false → a ≡ true) → (y ≡ false → b ≡ true) → (a && b) ≡ true
  two a b x y h f g = ap (λ z. z && b) (f (no_left x y h)) ∙ g (no_right x y h)

  level_without : (l : Level) → level_has_params l ≡ false → level_over ps l ≡ true
  level_without zero_level h = refl
  level_without (succ_level l) h = level_without l h
  level_without (max_level l m) h = two (level_over ps l) (level_over ps m) (level_has_params l) (level_has_params m) h (level_without l) (level_without m)
  level_without (imax_level l m) h = two (level_over ps l) (level_over ps m) (level_has_params l) (level_has_params m) h (level_without l) (level_without m)
  level_without (param n) h = absurd cc

  levels_without : (ls : List Level) → list_has_params ls ≡ false → levels_over ps ls ≡ true
  levels_without [] h = refl
  levels_without (l ∷ ls) h = two (level_over ps l) (levels_over ps ls) (level_has_params l) (list_has_params ls) h (level_without l) (levels_without ls)

  pub tree_without : (t : Tree) → has_params t ≡ false → tree_over ps t ≡ true
  tree_without (var i) h = refl
  tree_without (sort l) h = level_without l h
  tree_without (const n ls) h = levels_without ls h
  tree_without (app f a) h = two (tree_over ps f) (tree_over ps a) (has_params f) (has_params a) h (tree_without f) (tree_without a)
  tree_without (lam A b) h = two (tree_over ps A) (tree_over ps b) (has_params A) (has_params b) h (tree_without A) (tree_without b)
  tree_without (pi A B) h = two (tree_over ps A) (tree_over ps B) (has_params A) (has_params B) h (tree_without A) (tree_without B)
  tree_without (let_in A v b) h =
      two (tree_over ps A) (tree_over ps v && tree_over ps b) (has_params A) (has_params v || has_params b) h (tree_without A)
      (λ k. two (tree_over ps v) (tree_over ps b) (has_params v) (has_params b) k (tree_without v) (tree_without b))
  tree_without (proj S i s) h = tree_without s h
  tree_without (lit n) h = refl
  tree_without wide h = refl
  tree_without (str s) h = refl
  tree_without (local k T) h = tree_without T h

module _ (c : Contents) where
  pub part_without : (ps : List Name) (p : TermPart) → part_has_params c p ≡ false → part_over c ps p ≡ true
  part_without ps (part.Tree e) h = tree_without ps (tree_at c e) h
  part_without ps (part.Level l) h = level_without ps (level_at c l) h
  part_without ps (part.Levels ls) h = levels_without ps (list_at c ls) h

  pub part_met : (ps : List Name) (p : TermPart) (met : List Met) (i : ℕ) → AreOver c ps met → i < length met → ((d : Met) → (slice_index_or met i d).part ≡ p) → part_over c ps p ≡ true
  part_met ps p met i over l is = let d : Met = record { part = p } in sym (ap (part_over c ps) (is d)) ∙ over i d l

  -- it was met
  pub met_before : (ps : List Name) (p : TermPart) (met : List Met) (o : Option ℕ) → AreOver c ps met → IfSome o (λ i. i < length met) → IfSome o (λ i. (d : Met) → (slice_index_or met i d).part ≡ p) → (b : Bool) → is_some o ≡ not b → b ≡ false → part_over c ps p ≡ true
  met_before ps p met (Some i) over known present b is h = part_met ps p met i over known present
  met_before ps p met None over known present b is h = absurd (let e : false ≡ true = is ∙ ap not h in cc)
