-- The units one after another, and all of them.
use Rattle.std.proofs.Common.{ℕ, ◌≡◌, ◌+◌, ◌<◌, ◌⊎◌, inl, inr, [], ◌∷◌, ◌++◌, map, length, get_or, sym, ap, subst, ◌∙◌, arith}
use Rattle.std.proofs.lemmas.Bool.{cases_eq}
use Rattle.std.proofs.lemmas.List.{ext_get_or, length-map, length_push, get_or-map, get_or_append_left, get_or_push}
use Rattle.lk_rulebook.specs.Units.{Library}
use Rattle.lk_reach.specs.Axioms.{IsAxiomOf}
use Rattle.lk_reach.specs.Computed.{axioms_of}
use Rattle.lk_reach.proofs.Computed.{axioms_listed}
use Rattle.lk_reach.proofs.Lists.{one_list}
use Rattle.lk_store.specs.Contents.{Contents, tree_at}
use Rattle.lk_axioms.specs.declared.gathering.Gathering.{Gathering}
use Rattle.lk_axioms.specs.Lists.{axiom_lists, set_at, HasEmptySet}
use Rattle.lk_axioms.specs.Gives.{TreeGives, cell_at, IsSetOfUnit}
use Rattle.lk_axioms.specs.Gathered.{IsRight}
use Rattle.lk_axioms.proofs.Lists.{length-axiom_lists, get_or-axiom_lists}
use Rattle.lk_axioms.proofs.Listed.{later_on}

-- one more unit is done
pub unit_done : (c : Contents) (us : Library) (n : ℕ) (old new : Gathering) (set : ℕ) → IsRight c us n old → IsSetOfUnit us old.sets n set → new.sets ≡ old.sets → new.cells.items ≡ old.cells.items → new.units.items ≡ old.units.items ++ set ∷ [] → IsRight c us (n + 1) new
unit_done c us n old new set r u sets cells units =
    record {
      has_empty = subst HasEmptySet (sym sets) r.has_empty;
      one_each = ap length cells ∙ r.one_each;
      cells = λ e l. later_on (TreeGives us (tree_at c e)) n new.sets (cell_at new.cells.items e) (rw (sets, cells) (r.cells e l));
      count = ap length units ∙ length_push old.units.items set ∙ ap (λ k. k + 1) r.count;
      units = λ m l. subst (λ x. IsSetOfUnit us x m (get_or new.units.items m 0)) (sym sets) (each m l (cases_eq m n));
    }
  where
    each : (m : ℕ) → m < n + 1 → (m ≡ n) ⊎ (m ≡ n → ⊥) → IsSetOfUnit us old.sets m (get_or new.units.items m 0)
    each m l (inl e) =
        let is : get_or new.units.items n 0 ≡ set = ap (λ xs. get_or xs n 0) units ∙ get_or_push old.units.items set 0 n (r.count) in
        subst (λ k. IsSetOfUnit us old.sets k (get_or new.units.items k 0)) (sym e) (subst (IsSetOfUnit us old.sets n) (sym is) u)
    each m l (inr e) =
        let below : m < n = omega arith in
        let inside : m < length old.units.items = omega (arith, below, r.count) in
        let is : get_or new.units.items m 0 ≡ get_or old.units.items m 0 = ap (λ xs. get_or xs m 0) units ∙ get_or_append_left old.units.items (set ∷ []) 0 m inside in
        subst (IsSetOfUnit us old.sets m) (sym is) (r.units m below)

-- all units are done
pub all_done : (c : Contents) (us : Library) (n : ℕ) (g : Gathering) → n ≡ length us → IsRight c us n g → map (set_at g.sets) g.units.items ≡ axiom_lists us
all_done c us n g e r = ext_get_or [] (map (set_at g.sets) g.units.items) (axiom_lists us) lengths each
  where
    lengths : length (map (set_at g.sets) g.units.items) ≡ length (axiom_lists us)
    lengths = length-map g.units.items (set_at g.sets) ∙ r.count ∙ e ∙ sym (length-axiom_lists us)

    each : (i : ℕ) → i < length (map (set_at g.sets) g.units.items) → get_or (map (set_at g.sets) g.units.items) i [] ≡ get_or (axiom_lists us) i []
    each i l =
        let counted : length (map (set_at g.sets) g.units.items) ≡ length g.units.items = length-map g.units.items (set_at g.sets) in
        let inside : i < length g.units.items = omega (arith, l, counted) in
        let below : i < n = omega (arith, inside, r.count) in
        let has : IsSetOfUnit us g.sets i (get_or g.units.items i 0) = r.units i below in
        let same : set_at g.sets (get_or g.units.items i 0) ≡ axioms_of us i = one_list (IsAxiomOf us i) (set_at g.sets (get_or g.units.items i 0)) (axioms_of us i) has.is_list (axioms_listed us i) in
        get_or-map (set_at g.sets) g.units.items i 0 [] inside ∙ same ∙ sym (get_or-axiom_lists us i (omega (arith, below, e)))
