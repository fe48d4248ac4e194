-- What names mean at a unit of which nothing is partial.
use Rattle.std.proofs.Common.{◌≡◌, ℕ, [], ◌++◌, Option, Some, None, refl, ap}
use Rattle.lk_rulebook.specs.Units.{LibraryUnit, Library, place_of}
use Rattle.lk_store.specs.Store.{contents_of}
use Rattle.lk_env.specs.declared.entry.Partial.TheVariants.{Nothing}
use Rattle.lk_env.specs.declared.entry.Site.{Site}
use Rattle.lk_env.specs.Places.{new_among, partial_first, partial_last, beside_at}
use Rattle.lk_env.specs.Scopes.{place_in, auxiliary_members}
use Rattle.lk_env.specs.StoredScope.{StoredScope}
use Rattle.lk_env.specs.Units.{library_of}
use Rattle.std.specs.Prelude.{slice_get}

alone : (us : Library) (n : ℕ) → beside_at us (record { unit = n; partial = Nothing }) [] ≡ []
alone us n = go (slice_get us n)
  where
    go : (o : Option LibraryUnit)
        → (elim o [ None ↦ [] | Some u ↦ new_among us n (partial_first u Nothing) ] ++ [])
        ++ elim o [ None ↦ [] | Some u ↦ new_among us n (partial_last u Nothing) ] ≡ []
    go None = refl
    go (Some u) = refl

-- the place of the unit's number
pub place_is : (scope : StoredScope) (site : Site) (n : ℕ) → scope.auxiliary ≡ []
    → site ≡ record { unit = n; partial = Nothing }
    → place_in scope site ≡ place_of (library_of scope.library) n []
place_is scope site n none is =
    let members : auxiliary_members (contents_of scope.tables) scope.auxiliary ≡ [] =
    ap (auxiliary_members (contents_of scope.tables)) none in
    rw (is, members) (ap (place_of (library_of scope.library) n) (alone (library_of scope.library) n))
