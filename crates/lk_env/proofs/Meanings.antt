-- What a name means in a scope, by what auxiliary types and the library give.
use Rattle.std.proofs.Common.{◌≡◌, List, ◌++◌, length, Option, Some, None, Result, Ok, Err, refl, sym, subst}
use Rattle.std.specs.Prelude.{IfOk}
use Rattle.lk_tree.specs.Tree.{Name}
use Rattle.lk_tree.specs.declared.rule.Rule.{Rule}
use Rattle.lk_store.specs.Contents.{Extends}
use Rattle.lk_store.specs.Store.{contents_of}
use Rattle.lk_store.specs.declared.tables.Tables.{Tables}
use Rattle.lk_env.specs.declared.entry.Entry.{Entry}
use Rattle.lk_env.specs.declared.entry.Site.{Site}
use Rattle.lk_env.specs.declared.unit.Unit.{Unit as StoredUnit}
use Rattle.lk_env.specs.Units.{library_of, AreUnitsIn}
use Rattle.lk_env.specs.Entries.{IsEntryIn, IsAnswer}
use Rattle.lk_env.specs.Places.{partial_at, beside_at, place_at, place_beside}
use Rattle.lk_env.specs.Scopes.{auxiliary_members, place_in, of_types, AnswersAmong}
use Rattle.lk_env.proofs.Scoped.{answer_stays, known_stays, same_means, same_origin, same_flaw, beside_none, beside_own, beside_auxiliary, given_here, not_here, partial_answer}
use Rattle.lk_env.specs.StoredLibrary.{StoredLibrary}
use Rattle.lk_env.specs.StoredScope.{StoredScope}

module _ (l : StoredScope) (tables : Tables) (lib : StoredLibrary) (aux : List StoredUnit) (is : record { tables = tables; units = lib.units ++ aux; library = lib; auxiliary = aux } ≡ l) (grown : Extends (contents_of lib.tables) (contents_of tables)) (units_in : AreUnitsIn (contents_of lib.tables) lib.units) where
  pub known_in : (r : Result Entry Rule) → IfOk r (IsEntryIn (contents_of lib.tables)) → IfOk r (IsEntryIn (contents_of l.tables))
  known_in (Err r) h = tt
  known_in (Ok e) h = subst (λ (k : StoredScope). IsEntryIn (contents_of k.tables) e) is (known_stays (contents_of lib.tables) (contents_of tables) grown lib.units aux units_in e h)

  module _ (s : Site) (x : Name) where
    -- by the parts of the scope
    abbrev Answers : Result Entry Rule → Type 0
    Answers r = IsAnswer (contents_of tables) (lib.units ++ aux) (place_beside lib s (auxiliary_members (contents_of tables) aux)) x r

    pub whole : (r : Result Entry Rule) → Answers r → IsAnswer (contents_of l.tables) l.units (place_in l s) x r
    whole r h = subst (λ (k : StoredScope). IsAnswer (contents_of k.tables) k.units (place_in k s) x r) is h

    pub parts : (o : Option Entry) → AnswersAmong (contents_of l.tables) (length l.library.units) l.auxiliary x o → AnswersAmong (contents_of tables) (length lib.units) aux x o
    parts o h = subst (λ (k : StoredScope). AnswersAmong (contents_of k.tables) (length k.library.units) k.auxiliary x o) (sym is) h

    pub none_means : (r : Result Entry Rule) → AnswersAmong (contents_of l.tables) (length l.library.units) l.auxiliary x None → IfOk r (IsEntryIn (contents_of lib.tables)) → IsAnswer (contents_of lib.tables) lib.units (place_at lib s) x r
        → IsAnswer (contents_of l.tables) l.units (place_in l s) x r
    none_means r none known answer =
        let us = library_of lib in
        let A = auxiliary_members (contents_of tables) aux in
        let same = beside_none us s A x (parts None none) in
        whole r (answer_stays (contents_of lib.tables) (contents_of tables) grown lib.units aux units_in (place_at lib s) (place_beside lib s A) x r
        (same_means us s.unit (beside_at us s A) (partial_at us s) x same) (same_origin us s.unit (beside_at us s A) (partial_at us s) x same) (same_flaw us s.unit (beside_at us s A) (partial_at us s) x same) known answer)

    pub own_means : (e : Entry) → IsEntryIn (contents_of lib.tables) e → IsAnswer (contents_of lib.tables) lib.units (place_at lib (of_types s)) x (Ok e) → e.origin ≡ s.unit
        → IsAnswer (contents_of l.tables) l.units (place_in l s) x (Ok e)
    own_means e known answer at =
        let us = library_of lib in
        let A = auxiliary_members (contents_of tables) aux in
        let M = partial_at us (of_types s) in
        let own = given_here (contents_of lib.tables) lib.units us s.unit M x e answer at in
        let same = beside_own us s A x own.0 own.1 in
        whole (Ok e) (answer_stays (contents_of lib.tables) (contents_of tables) grown lib.units aux units_in (place_at lib (of_types s)) (place_beside lib s A) x (Ok e)
        (same_means us s.unit (beside_at us s A) M x same) (same_origin us s.unit (beside_at us s A) M x same) (same_flaw us s.unit (beside_at us s A) M x same) known answer)

    pub auxiliary_means : (r : Result Entry Rule) → IsAnswer (contents_of lib.tables) lib.units (place_at lib (of_types s)) x r → IfOk r (λ e. e.origin ≡ s.unit → ⊥)
        → (e : Entry) → AnswersAmong (contents_of l.tables) (length l.library.units) l.auxiliary x (Some e) → e.origin ≡ s.unit → IsAnswer (contents_of l.tables) l.units (place_in l s) x (Ok e)
    auxiliary_means r answer other e found at =
        let us = library_of lib in
        let A = auxiliary_members (contents_of tables) aux in
        let none = not_here (contents_of lib.tables) lib.units us s.unit (partial_at us (of_types s)) x r answer other in
        let f = parts (Some e) found in
        whole (Ok e) (partial_answer (contents_of tables) (lib.units ++ aux) us s.unit (beside_at us s A) x f.0 e (beside_auxiliary us s A x f.0 none f.1) (f.3 lib.units refl) at)
