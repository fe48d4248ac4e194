-- The recursor of a name, type by type.
use Rattle.std.proofs.Common.{◌≡◌, ◌<◌, ℕ, true, false, List, [], ◌∷◌, length, map, drop, All, Some, refl, ap, sym, subst, ◌∙◌}
use Rattle.std.proofs.lemmas.List.Elements.{All-tail}
use Rattle.lk_tree.specs.Tree.{Name, Tree}
use Rattle.lk_tree.specs.Mentions.{same_name}
use Rattle.lk_inductive.specs.Block.{Shape as PlainShape, CtorShape}
use Rattle.lk_inductive.specs.Compare.{rec_named}
use Rattle.lk_inductive.specs.Recursors.{BlockRecursor, Restoring, past_minors, rec_name, rec_of, recs_from}
use Rattle.lk_store.specs.Contents.{Contents, name_at, tree_at}
use Rattle.lk_block.specs.declared.shape.TypeShape.{TypeShape}
use Rattle.lk_block.specs.Shapes.{constructor_shape_at, type_shape_at}
use Rattle.lk_recursor.specs.Comparisons.{AreNames}

abbrev tail_of : {X : Type 0} → List X → List X
tail_of [] = []
tail_of (x ∷ xs) = xs

abbrev head_or : {X : Type 0} → X → List X → X
head_or d [] = d
head_or d (x ∷ xs) = x

-- as many are left out as there are constructors
past_is_drop : {X : Type 0} (f : X → CtorShape) (g : ℕ → Tree) (cs : List X) (ms : List ℕ) → past_minors (map f cs) (map g ms) ≡ map g (drop (length cs) ms)
past_is_drop f g [] ms = refl
past_is_drop f g (c ∷ cs) [] = refl
past_is_drop f g (c ∷ cs) (m ∷ ms) = past_is_drop f g cs ms

pub names_more : (c : Contents) (w : Restoring) (names more : List ℕ) (types others : List TypeShape) (n : ℕ) (t : TypeShape) → names ≡ n ∷ more → types ≡ t ∷ others → AreNames c w names types → AreNames c w more others
names_more c w names more types others n t e f h =
    let own : TypeShape → Name = λ t. w.named (rec_name (name_at c t.name)) in
    record {
      known = All-tail (λ n. n < length c.names) n more (subst (All (λ n. n < length c.names)) e h.known);
      are = ap (λ ns. tail_of (map (name_at c) ns)) (sym e) ∙ ap tail_of h.are ∙ ap (λ ts. tail_of (map own ts)) f;
    }

module _ (c : Contents) (w : Restoring) (s : PlainShape) (n : Name) (names more : List ℕ) (types others : List TypeShape) (minors : List ℕ) (own : ℕ) (t : TypeShape) (e : names ≡ own ∷ more) (f : types ≡ t ∷ others) (h : AreNames c w names types) where
  first_name : w.named (rec_name (name_at c t.name)) ≡ name_at c own
  first_name =
      let named : TypeShape → Name = λ t. w.named (rec_name (name_at c t.name)) in
      sym (ap (λ ts. head_or [] (map named ts)) f) ∙ sym (ap (head_or []) h.are) ∙ ap (λ ns. head_or [] (map (name_at c) ns)) e

  pub named_next : (after : List ℕ) → after ≡ drop (length t.constructors.items) minors → same_name (name_at c own) n ≡ false
      → rec_named (recs_from w s (map (tree_at c) minors) (map (type_shape_at c) types)) n ≡ rec_named (recs_from w s (map (tree_at c) after) (map (type_shape_at c) others)) n
  named_next after is differs =
      let r : BlockRecursor = rec_of w s (map (tree_at c) minors) (type_shape_at c t) in
      let past = past_minors (map (constructor_shape_at c) t.constructors.items) (map (tree_at c) minors) in
      ap (λ ts. rec_named (recs_from w s (map (tree_at c) minors) (map (type_shape_at c) ts)) n) f
      ∙ ap (λ b. elim b [ true ↦ Some r | false ↦ rec_named (recs_from w s past (map (type_shape_at c) others)) n ]) (ap (λ m. same_name m n) first_name ∙ differs)
      ∙ ap (λ ms. rec_named (recs_from w s ms (map (type_shape_at c) others)) n) (past_is_drop (constructor_shape_at c) (tree_at c) t.constructors.items minors ∙ ap (map (tree_at c)) (sym is))
