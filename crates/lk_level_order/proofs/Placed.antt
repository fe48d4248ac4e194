-- Levels placed after their parts.
use Rattle.std.proofs.Common.{ℕ, zero, suc, ◌≡◌, ◌<◌, ◌≤◌, List, [], ◌∷◌, ◌++◌, map, length, get_or, refl, sym, ap, ◌∙◌, arith}
use Rattle.std.proofs.lemmas.Grind.{common_steps}
use Rattle.std.proofs.lemmas.List.{map-append}
use Rattle.std.proofs.lemmas.List.Elements.{All-push, All-weaker}
use Rattle.lk_tree.specs.Tree.{zero_level, succ_level}
use Rattle.lk_store.specs.Contents.{Contents, name_at, level_at, level_of, IsLevelIn}
use Rattle.lk_store.specs.declared.node.LevelNode.{LevelNode}
use Rattle.lk_store.specs.declared.node.LevelNode.TheVariants.{Zero, Succ, Max, IMax, Param}
use Rattle.lk_level_order.specs.declared.parameters.Parameter.{Parameter}
use Rattle.lk_level_order.specs.declared.placing.PlacedLevel.{PlacedLevel}
use Rattle.lk_level_order.specs.Parameters.{AreDifferent, names_of}
use Rattle.lk_level_order.specs.Placing.{levels_of, gathered, IsPlaceOf, IsPlaced, ArePlaced, IsOrder}

-- an element of a list, under a function
pub get_map : {X Y : Type 0} (f : X → Y) (xs : List X) (i : ℕ) (d : X) (e : Y) → i < length xs → get_or (map f xs) i e ≡ f (get_or xs i d)
get_map f [] i d e h = absurd (omega arith)
get_map f (x ∷ xs) zero d e h = refl
get_map f (x ∷ xs) (suc i) d e h = get_map f xs i d e (omega arith)

module _ (c : Contents) (names : List Parameter) where
  pub place_level : (parts : List PlacedLevel) (level i : ℕ) (d : PlacedLevel) → IsPlaceOf level parts i → level_at (gathered c names parts) i ≡ level_at c level
  place_level parts level i d h = get_map (λ (p : PlacedLevel). level_at c p.level) parts i d zero_level h.0 ∙ ap (level_at c) (h.1 d)

  pub place_name : (parts : List PlacedLevel) (n i : ℕ) (d : Parameter) → i < length names → ((d : Parameter) → (get_or names i d).name ≡ n) → name_at (gathered c names parts) i ≡ name_at c n
  place_name parts n i d l h = get_map (λ (p : Parameter). name_at c p.name) names i d [] l ∙ ap (name_at c) (h d)

  levels_kept : (parts : List PlacedLevel) (p : PlacedLevel) (i : ℕ) → i < length (levels_of c parts) → level_at (gathered c names (parts ++ p ∷ [])) i ≡ level_at (gathered c names parts) i
  levels_kept parts p i h =
      let e : levels_of c (parts ++ p ∷ []) ≡ levels_of c parts ++ level_at c p.level ∷ [] = map-append (λ (p : PlacedLevel). level_at c p.level) parts (p ∷ []) in
      rw e (grind (arith, common_steps))

  longer : (parts : List PlacedLevel) (p : PlacedLevel) → length (levels_of c parts) ≤ length (levels_of c (parts ++ p ∷ []))
  longer parts p = grind (arith, common_steps)

  node_in : (parts : List PlacedLevel) (p : PlacedLevel) (node : LevelNode) → IsLevelIn (gathered c names parts) node → IsLevelIn (gathered c names (parts ++ p ∷ [])) node
  node_in parts p Zero h = tt
  node_in parts p (Succ l) h = let m = longer parts p in omega arith
  node_in parts p (Max l r) h = let m = longer parts p in (omega arith, omega arith)
  node_in parts p (IMax l r) h = let m = longer parts p in (omega arith, omega arith)
  node_in parts p (Param n) h = h

  node_steady : (parts : List PlacedLevel) (p : PlacedLevel) (node : LevelNode) → IsLevelIn (gathered c names parts) node
      → level_of (gathered c names (parts ++ p ∷ [])) node ≡ level_of (gathered c names parts) node
  node_steady parts p Zero h = refl
  node_steady parts p (Succ l) h = ap succ_level (levels_kept parts p l h)
  node_steady parts p (Max l r) h = let x = levels_kept parts p l h.0 in let y = levels_kept parts p r h.1 in cc
  node_steady parts p (IMax l r) h = let x = levels_kept parts p l h.0 in let y = levels_kept parts p r h.1 in cc
  node_steady parts p (Param n) h = refl

  steady : (parts : List PlacedLevel) (p q : PlacedLevel) → IsPlaced c (gathered c names parts) q → IsPlaced c (gathered c names (parts ++ p ∷ [])) q
  steady parts p q h = (node_in parts p q.node h.0, node_steady parts p q.node h.0 ∙ h.1)

  pub placed_push : (parts : List PlacedLevel) (p : PlacedLevel) → ArePlaced c names parts → IsPlaced c (gathered c names parts) p → ArePlaced c names (parts ++ p ∷ [])
  placed_push parts p all h =
      let kept = All-weaker (λ (q : PlacedLevel). IsPlaced c (gathered c names parts) q) (λ (q : PlacedLevel). IsPlaced c (gathered c names (parts ++ p ∷ [])) q) (λ q. steady parts p q) parts all in
      All-push (λ (q : PlacedLevel). IsPlaced c (gathered c names (parts ++ p ∷ [])) q) parts p kept (steady parts p p h)

  pub placed_order : (parts : List PlacedLevel) → AreDifferent (names_of c names) → ArePlaced c names parts → IsOrder (gathered c names parts) parts
  placed_order parts different all = record {
    different = different;
    count = grind (arith, common_steps);
    nodes = λ k e h. (all k e h).1 ∙ sym (get_map (λ (p : PlacedLevel). level_at c p.level) parts k e zero_level h);
  }
