-- A comparison, while the store grows.
use Rattle.std.proofs.Common.{◌≡◌, ◌<◌, ℕ, List, [], ◌∷◌, ◌++◌, map, length, All, ap, sym, subst, ◌∙◌, append_assoc, arith}
use Rattle.std.proofs.lemmas.List.{append-nil, map-append}
use Rattle.lk_tree.specs.Tree.{Tree, Name, param, zero_level}
use Rattle.lk_store.specs.Contents.{Contents, name_at, level_at, tree_at, Extends}
use Rattle.lk_subst.specs.Numbers.{values-steady, values-known, trees-steady, trees-known}
use Rattle.lk_inductive.specs.Block as plain
use Rattle.lk_inductive.specs.Recursors.{Restoring, rec_name, rec_of, is_k}
use Rattle.lk_inductive.specs.Compare.{renamed}
use Rattle.lk_block.specs.declared.shape.TypeShape.{TypeShape}
use Rattle.lk_block.specs.Shapes.{shape_at, type_shape_at, IsTypeShapeIn}
use Rattle.lk_recursor.specs.declared.own.Shared.{Shared}
use Rattle.lk_recursor.specs.declared.own.OwnRecursor.{OwnRecursor}
use Rattle.lk_recursor.specs.declared.own.Comparison.{Comparison}
use Rattle.lk_recursor.specs.Fronts.{read_by}
use Rattle.lk_recursor.specs.Comparisons.{own_at, AreNames, IsShared, IsOwnRecursor, stated_of, own_of, IsComparison}
use Rattle.lk_env.proofs.Stays.{all_stay, names_stay, names_in_stay, recursor_stays, recursor_in_stays}
use Rattle.lk_block.proofs.Shaping.{type-steady, type-known, shape-steady, shape-known}
use Rattle.lk_recursor.proofs.Steady.{front-steady, read_by-steady}

module _ (c d : Contents) (grown : Extends c d) where
  pub own_names-steady : (w : Restoring) (names : List ℕ) (types : List TypeShape) → All (IsTypeShapeIn c) types → AreNames c w names types → AreNames d w names types
  own_names-steady w names types types_in h = record {
    known = names_in_stay c d grown names h.known;
    are = names_stay c d grown names h.known ∙ h.are ∙ sym (all_stay (IsTypeShapeIn c) (λ (t : TypeShape). w.named (rec_name (name_at d t.name))) (λ (t : TypeShape). w.named (rec_name (name_at c t.name))) (λ t i. ap (λ n. w.named (rec_name n)) (grown.names.same t.name i.name_in)) types types_in);
  }

  pub shared-known : (s : Shared) → IsShared c s → IsShared d s
  shared-known s h = record {
    shape_in = shape-known c d grown s.shape.now h.shape_in;
    front_is = front-steady c d grown s.shape.now s.front.now h.shape_in h.front_is;
    names_are = subst (λ w. AreNames d w s.names.now s.shape.now.types.items) (sym (read_by-steady c d grown s.shape.now s.front.now h.shape_in h.front_is))
        (own_names-steady (read_by c s.shape.now s.front.now) s.names.now s.shape.now.types.items h.shape_in.types_in h.names_are);
    k_is = h.k_is ∙ ap is_k (sym (shape-steady c d grown s.shape.now h.shape_in));
  }

  pub own-known : (r : OwnRecursor) → IsOwnRecursor c r → IsOwnRecursor d r
  own-known r h = record { of_in = type-known c d grown r.of.now h.of_in; minors_in = trees-known c d r.minors.now grown h.minors_in }

  pub own-steady : (w : Restoring) (s : plain.Shape) (r : OwnRecursor) → IsOwnRecursor c r → own_at d w s r ≡ own_at c w s r
  own-steady w s r h =
      ap (λ ms. rec_of w s ms (type_shape_at d r.of.now)) (trees-steady c d r.minors.now grown h.minors_in)
      ∙ ap (rec_of w s (map (tree_at c) r.minors.now)) (type-steady c d grown r.of.now h.of_in)

  pub stated_of-steady : (x : Comparison) → IsComparison c x → stated_of d x ≡ stated_of c x
  stated_of-steady x h = recursor_stays c d grown x.stated.now h.stated_in

  pub own_of-steady : (x : Comparison) → IsComparison c x → own_of d x ≡ own_of c x
  own_of-steady x h =
      ap (λ w. own_at d w (shape_at d x.shared.shape.now) x.own) (read_by-steady c d grown x.shared.shape.now x.shared.front.now h.shared_is.shape_in h.shared_is.front_is)
      ∙ ap (λ s. own_at d (read_by c x.shared.shape.now x.shared.front.now) s x.own) (shape-steady c d grown x.shared.shape.now h.shared_is.shape_in)
      ∙ own-steady (read_by c x.shared.shape.now x.shared.front.now) (shape_at c x.shared.shape.now) x.own h.own_is

  pub comparison-known : (x : Comparison) → IsComparison c x → IsComparison d x
  comparison-known x h = record {
    shared_is = shared-known x.shared h.shared_is;
    own_is = own-known x.own h.own_is;
    stated_in = recursor_in_stays c d grown x.stated.now h.stated_in;
    levels_in = values-known zero_level c.levels d.levels x.levels.now grown.levels h.levels_in;
    levels_are = values-steady zero_level c.levels d.levels x.levels.now grown.levels h.levels_in ∙ h.levels_are ∙ ap (map param) (sym (names_stay c d grown x.stated.now.levels.items h.stated_in.stated.levels_in));
  }

  pub renamed-steady : (x : Comparison) → IsComparison c x → (m : ℕ) (t : Tree) → tree_at d m ≡ t → renamed (stated_of d x) (own_of d x) (tree_at d m) ≡ renamed (stated_of c x) (own_of c x) t
  renamed-steady x h m t is =
      ap (λ s. renamed s (own_of d x) (tree_at d m)) (stated_of-steady x h) ∙ ap (λ r. renamed (stated_of c x) r (tree_at d m)) (own_of-steady x h) ∙ ap (renamed (stated_of c x) (own_of c x)) is

-- one parameter more
pub levels_more : (c d e : Contents) (levels more : List ℕ) (level name : ℕ) (rest others : List ℕ) → Extends d e → All (λ l. l < length d.levels) levels → more ≡ levels ++ level ∷ [] → rest ≡ name ∷ others
    → level_at e level ≡ param (name_at c name) → map (level_at e) more ++ map param (map (name_at c) others) ≡ map (level_at d) levels ++ map param (map (name_at c) rest)
levels_more c d e levels more level name rest others grown known pushed split is =
    let after = map param (map (name_at c) others) in
    ap (λ ls. map (level_at e) ls ++ after) pushed
    ∙ ap (λ ls. ls ++ after) (map-append (level_at e) levels (level ∷ []))
    ∙ ap (λ ls. (ls ++ level_at e level ∷ []) ++ after) (values-steady zero_level d.levels e.levels levels grown.levels known)
    ∙ append_assoc (map (level_at d) levels) (level_at e level ∷ []) after
    ∙ ap (λ l. map (level_at d) levels ++ l ∷ after) is
    ∙ ap (λ ns. map (level_at d) levels ++ map param (map (name_at c) ns)) (sym split)

-- one name more
pub own_names_more : (w : Restoring) (c d e : Contents) (names more : List ℕ) (name : ℕ) (rest others : List TypeShape) (t : TypeShape) → Extends d e → All (λ n. n < length d.names) names → more ≡ names ++ name ∷ [] → rest ≡ t ∷ others
    → name_at e name ≡ w.named (rec_name (name_at c t.name)) → map (name_at e) more ++ map (λ (t : TypeShape). w.named (rec_name (name_at c t.name))) others ≡ map (name_at d) names ++ map (λ (t : TypeShape). w.named (rec_name (name_at c t.name))) rest
own_names_more w c d e names more name rest others t grown known pushed split is =
    let own : TypeShape → Name = λ t. w.named (rec_name (name_at c t.name)) in
    let after = map own others in
    ap (λ ns. map (name_at e) ns ++ after) pushed
    ∙ ap (λ ns. ns ++ after) (map-append (name_at e) names (name ∷ []))
    ∙ ap (λ ns. (ns ++ name_at e name ∷ []) ++ after) (names_stay d e grown names known)
    ∙ append_assoc (map (name_at d) names) (name_at e name ∷ []) after
    ∙ ap (λ n. map (name_at d) names ++ n ∷ after) is
    ∙ ap (λ ts. map (name_at d) names ++ map own ts) (sym split)

pub own_names_end : (w : Restoring) (c d : Contents) → Extends c d → (names : List ℕ) (rest types : List TypeShape) → All (IsTypeShapeIn c) types → length rest ≡ 0 → All (λ n. n < length d.names) names
    → map (name_at d) names ++ map (λ (t : TypeShape). w.named (rec_name (name_at c t.name))) rest ≡ map (λ (t : TypeShape). w.named (rec_name (name_at c t.name))) types → AreNames d w names types
own_names_end w c d grown names [] types types_in none known h = record {
  known = known;
  are = sym (append-nil (map (name_at d) names)) ∙ h
      ∙ sym (all_stay (IsTypeShapeIn c) (λ (t : TypeShape). w.named (rec_name (name_at d t.name))) (λ (t : TypeShape). w.named (rec_name (name_at c t.name))) (λ t i. ap (λ n. w.named (rec_name n)) (grown.names.same t.name i.name_in)) types types_in);
}
own_names_end w c d grown names (t ∷ ts) types types_in none known h = absurd (omega arith)
