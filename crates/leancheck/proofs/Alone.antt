-- Who looks from a unit of which nothing is partial, with no auxiliary types, looks from the unit's place.
use Rattle.std.proofs.Common.{◌≡◌, ℕ, [], ap, ◌∙◌}
use Rattle.lk_rulebook.specs.Units.{place_of}
use Rattle.lk_store.specs.Store.{contents_of}
use Rattle.lk_env.specs.declared.entry.Partial.TheVariants.{Nothing}
use Rattle.lk_env.specs.declared.entry.Site.{Site}
use Rattle.lk_env.specs.Scopes.{place_in, auxiliary_members}
use Rattle.lk_env.specs.Units.{library_of}
use Rattle.lk_env.specs.StoredLibrary.{StoredLibrary}
use Rattle.lk_env.specs.StoredScope.{StoredScope}
use Rattle.lk_engine.proofs.Lasting.{alone}

pub alone_at : (scope : StoredScope) (site : Site) (l : StoredLibrary) (n : ℕ) → scope.library ≡ l → scope.auxiliary ≡ [] → site.unit ≡ n → site.partial ≡ Nothing
    → place_in scope site ≡ place_of (library_of l) n []
alone_at scope site l n library none unit partial =
    let members : auxiliary_members (contents_of scope.tables) scope.auxiliary ≡ [] = ap (auxiliary_members (contents_of scope.tables)) none in
    let is : site ≡ record { unit = n; partial = Nothing } =
    ap (λ u. record { unit = u; partial = site.partial }) unit ∙ ap (λ p. record { unit = n; partial = p }) partial in
    rw (is, members) (ap (place_of (library_of scope.library) n) (alone (library_of scope.library) n))
    ∙ ap (λ m. place_of (library_of m) n []) library
