-- What names mean while a unit is at work.
use Rattle.std.proofs.Common.{◌≡◌, ℕ, Bool, true, false, List, [], ◌∷◌, ◌++◌, None, Some, refl, ap, sym, ◌∙◌}
use Rattle.std.specs.Prelude.{slice_get, if◌then◌else◌}
use Rattle.lk_rulebook.specs.Scan.{is_none, are_new}
use Rattle.lk_rulebook.specs.Units.{LibraryUnit, of_decl, of_block, Library, Members, members_of, first_giving, place_of}
use Rattle.lk_env.specs.declared.entry.Partial.{Partial}
use Rattle.lk_env.specs.declared.entry.Partial.TheVariants.{Nothing, Types, Members as AllMembers}
use Rattle.lk_env.specs.declared.entry.Site.{Site}
use Rattle.lk_env.specs.Units.{library_of}
use Rattle.lk_env.specs.Places.{partial_of, partial_first, partial_last, partial_beside, new_among, beside_at, place_beside}
use Rattle.lk_env.specs.Scopes.{only_types}
use Rattle.lk_env.proofs.Partial as partial
use Rattle.lk_env.proofs.Scoped.{parted}
use Rattle.lk_env.specs.StoredLibrary.{StoredLibrary}
use Rattle.std.specs.Prelude.{take}

new_both : (us : Library) (n : ℕ) (a b : Members) → new_among us n (a ++ b) ≡ new_among us n a ++ new_among us n b
new_both us n [] b = refl
new_both us n (m ∷ ms) b = go (is_none (first_giving 0 (take n us) m.0)) (new_both us n ms b)
  where
    go : (t : Bool) → new_among us n (ms ++ b) ≡ new_among us n ms ++ new_among us n b
        → (if t then m ∷ new_among us n (ms ++ b) else new_among us n (ms ++ b)) ≡ (if t then m ∷ new_among us n ms else new_among us n ms) ++ new_among us n b
    go true h = ap (λ k. m ∷ k) h
    go false h = h

same_rest : {A : Type 0} (xs ys zs : List A) → xs ++ ys ≡ xs ++ zs → ys ≡ zs
same_rest [] ys zs h = h
same_rest (x ∷ xs) ys zs h = same_rest xs ys zs (cc)

first_is : (u : LibraryUnit) (p : Partial) → partial_first u p ≡ partial_of u (only_types p)
first_is u Nothing = refl
first_is (of_decl d) Types = refl
first_is (of_decl d) AllMembers = refl
first_is (of_block b rs) Types = refl
first_is (of_block b rs) AllMembers = refl

-- where the names of the unit are new, all that is partial of it is given
module _ (us : Library) (s : Site) (u : LibraryUnit) (at : slice_get us s.unit ≡ Some u) (fresh : are_new us s.unit (members_of u) ≡ true) where
  all_new : (p : Partial) → new_among us s.unit (partial_of u p) ≡ partial_of u p
  all_new p =
      ap (λ o. elim o as (λ y. Members) [ None ↦ [] | Some v ↦ new_among us s.unit (partial_of v p) ]) (sym at)
      ∙ partial.all_partial us (record { unit = s.unit; partial = p }) u at fresh

  first_new : new_among us s.unit (partial_first u s.partial) ≡ partial_first u s.partial
  first_new = ap (new_among us s.unit) (first_is u s.partial) ∙ all_new (only_types s.partial) ∙ sym (first_is u s.partial)

  last_new : new_among us s.unit (partial_last u s.partial) ≡ partial_last u s.partial
  last_new =
      same_rest (partial_first u s.partial) (new_among us s.unit (partial_last u s.partial)) (partial_last u s.partial)
      (ap (λ k. k ++ new_among us s.unit (partial_last u s.partial)) (sym first_new)
      ∙ sym (new_both us s.unit (partial_first u s.partial) (partial_last u s.partial))
      ∙ ap (new_among us s.unit) (sym (parted u s.partial)) ∙ all_new s.partial ∙ parted u s.partial)

  beside_new : (aux : Members) → beside_at us s aux ≡ partial_beside u s.partial aux
  beside_new aux =
      ap (λ o. (elim o as (λ y. Members) [ None ↦ [] | Some v ↦ new_among us s.unit (partial_first v s.partial) ] ++ aux) ++ elim o as (λ y. Members) [ None ↦ [] | Some v ↦ new_among us s.unit (partial_last v s.partial) ]) at
      ∙ ap (λ k. (k ++ aux) ++ new_among us s.unit (partial_last u s.partial)) first_new
      ∙ ap (λ k. (partial_first u s.partial ++ aux) ++ k) last_new

-- and so it is given beside the units below, with auxiliary types
pub all_partial : (l lib : StoredLibrary) (m n : ℕ) (p : Partial) (aux : Members) (u : LibraryUnit) → l ≡ lib → m ≡ n → slice_get (library_of lib) n ≡ Some u → are_new (library_of lib) n (members_of u) ≡ true
    → place_beside l (record { unit = m; partial = p }) aux ≡ place_of (library_of lib) n (partial_beside u p aux)
all_partial l lib m n p aux u same unit stands fresh =
    ap (λ k. place_beside k (record { unit = m; partial = p }) aux) same
    ∙ ap (λ k. place_beside lib (record { unit = k; partial = p }) aux) unit
    ∙ ap (place_of (library_of lib) n) (beside_new (library_of lib) (record { unit = n; partial = p }) u stands fresh aux)
