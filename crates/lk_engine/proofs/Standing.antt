-- An engine goes on with what lasts, as another unit is begun or what is partial changes.
use Rattle.std.proofs.Common.{◌≡◌, ℕ, Bool, true, false, [], length, Option, Some, None, Result, Ok, Err, refl, ap, sym, subst, ◌∙◌, arith, inl}
use Rattle.std.specs.Prelude.{OnOk, IfErr, IfSome, IsTrue, option_map}
use Rattle.lk_rulebook.specs.Units.{Members}
use Rattle.lk_rulebook.specs.Units.{place_of as unit_place}
use Rattle.lk_store.specs.declared.memory.NoMemory.{NoMemory as Wanting}
use Rattle.lk_store.specs.Contents.{Contents, Extends}
use Rattle.lk_store.specs.Sizes.{sizes_of}
use Rattle.lk_store.specs.Store.{over, contents_of}
use Rattle.lk_store.proofs.Made.{Extends-self}
use Rattle.lk_store.specs.Layers.{layers_contents, Layers}
use Rattle.lk_env.specs.declared.entry.Partial.{Partial}
use Rattle.lk_env.specs.declared.entry.Partial.TheVariants.{Nothing}
use Rattle.lk_env.specs.declared.entry.Site.{Site}
use Rattle.lk_env.specs.Scopes.{place_in, auxiliary_members}
use Rattle.lk_env.specs.Units.{library_of}
use Rattle.lk_env.specs.StoredLibrary.{StoredLibrary}
use Rattle.lk_env.specs.StoredScope.{StoredScope}
use Rattle.lk_ask.specs.declared.kept.Kept.{Kept}
use Rattle.lk_ask.specs.declared.query.Query.{Query}
use Rattle.lk_ask.specs.Outlook.{Outlook}
use Rattle.lk_memo.specs.declared.key.Key.{Key}
use Rattle.lk_memo.specs.declared.lasting.Lasting.{Lasting}
use Rattle.lk_memo.specs.declared.memo.PrivateMemo.{PrivateMemo}
use Rattle.lk_memo.specs.Keys.{key_of}
use Rattle.lk_memo.specs.Lasting.{Outlasts, BeginsWith, GoesOn}
use Rattle.lk_memo.specs.Entries.{Holds}
use Rattle.lk_desk.specs.Job.{job_of}
use Rattle.lk_desk.specs.Truth.{above}
use Rattle.lk_engine.specs.Entries.{IsLasting, AreLasting, AreTrue}
use Rattle.lk_engine.specs.Lookouts.{place_of, row_count, IsBounded, Restarts, BeginsUnit, GivesMembers, Shares, Stands}
use Rattle.lk_engine.specs.Shares.{shared_from}
use Rattle.lk_engine.proofs.Frames.{true_steady}
use Rattle.lk_engine.proofs.Kept.{nothing_kept, table_goes_on}
use Rattle.lk_engine.proofs.Lasting.{alone}
use Rattle.lk_engine.specs.Shared.{Shared}

-- a lookout that was begun anew looks from its unit alone
begun_at : (scope : StoredScope) (site : Site) (n : ℕ) → scope.auxiliary ≡ []
    → site ≡ record { unit = n; partial = Nothing }
    → place_in scope site ≡ unit_place (library_of scope.library) n []
begun_at scope site n none is =
    let members : auxiliary_members (contents_of scope.tables) scope.auxiliary ≡ [] =
    ap (auxiliary_members (contents_of scope.tables)) none in
    rw (is, members) (ap (unit_place (library_of scope.library) n) (alone (library_of scope.library) n))

-- at a desk of the library another unit looks, if any
shares_from : (old new : Outlook Layers) (share : Option Shared) (looker : Option ℕ)
    → new.scope.library ≡ old.scope.library
    → ((n : ℕ) → looker ≡ Some n → place_of new ≡ unit_place (library_of new.scope.library) n [])
    → IfSome share (Shares old) → IfSome (option_map (shared_from looker) share) (Shares new)
shares_from old new None looker library looks h = tt
shares_from old new (Some share) looker library looks h = record {
  job = h.job ∙ ap job_of (sym library);
  looks = looks;
}

none_looks : (s : Outlook Layers) (n : ℕ) → None ≡ Some n
    → place_of s ≡ unit_place (library_of s.scope.library) n []
none_looks s n is = absurd (let no : None ≡ Some n = is in cc)

-- at first no unit looks
pub shares_new : (s : Outlook Layers) (share : Option Shared) (l : StoredLibrary)
    → s.scope.library ≡ l → IfSome share (λ a. a.job ≡ job_of l)
    → IfSome (option_map (shared_from None) share) (Shares s)
shares_new s None l same h = tt
shares_new s (Some share) l same h = record {
  job = h ∙ ap job_of (sym same);
  looks = none_looks s;
}

-- at first nothing is kept, and no unit looks for what outlasts one
pub new_stands : (s : Outlook Layers) (memo : PrivateMemo) (share : Option Shared)
    (count : ℕ) → IfSome share (Shares s) → s.terms.base ≡ s.scope.library.tables
    → ((k : Key) (v : Kept) → Holds memo k v → ⊥) → BeginsWith memo.lasting count None
    → BeginsWith memo.staying count None → count ≡ length (contents_of s.scope.library.tables).trees
    → Extends (contents_of s.scope.library.tables) (layers_contents s.terms) → Stands s memo share
new_stands s memo share count shared base none lasting staying all stand = record {
  base = base;
  entries_true = nothing_kept s.scope.library (place_of s) (layers_contents s.terms) memo count none
      lasting staying all stand;
  shared = shared;
}

-- what was kept is that of the same library
of_library : (old : Outlook Layers) (memo : PrivateMemo) (share : Option Shared)
    (l : StoredLibrary) → l ≡ old.scope.library → Stands old memo share
    → AreTrue l (place_of old) (layers_contents old.terms) memo
of_library old memo share l same s =
    subst (λ k. AreTrue k (place_of old) (layers_contents old.terms) memo) (sym same)
    s.entries_true

-- a unit is begun, which looks for what outlasts one
module _ {old new : Outlook Layers} {memo later : PrivateMemo} {unit budget : ℕ}
    {stays : Bool} {share : Option Shared} (h : Restarts old new unit budget stays)
    (s : Stands old memo share)
    (m : BeginsUnit memo later unit (length (layers_contents new.terms).trees) stays) where
  abbrev before : Contents
  before = layers_contents old.terms

  abbrev now : Contents
  now = layers_contents new.terms

  was : AreTrue new.scope.library (place_of old) before memo
  was = of_library old memo share new.scope.library h.library s

  place : (looker : Option ℕ) → looker ≡ Some unit → (n : ℕ) → looker ≡ Some n
      → place_of new ≡ unit_place (library_of new.scope.library) n []
  place looker looks n is =
      let here : unit ≡ n = let e : Some unit ≡ Some n = sym looks ∙ is in cc in
      begun_at new.scope new.site n h.auxiliary
      (h.site ∙ ap (λ k. record { unit = k; partial = Nothing }) here)

  base : new.terms.base ≡ new.scope.library.tables
  base = h.base ∙ s.base ∙ ap (λ l. l.tables) (sym h.library)

  -- what stays is true over all that stands now
  stay : (q : Query ℕ) (kept : Kept) → (stays ≡ true) × Outlasts memo.staying (key_of q) kept
      → IsLasting new.scope.library now q kept
  stay q kept is =
      let same : before ≡ now = ap layers_contents (sym (h.same is.0)) in
      let stand : Extends was.first now = subst (λ c. Extends was.first c) same was.staying.stand in
      true_steady stand (unit_place (library_of new.scope.library) (above kept.top) []) q kept
      (was.staying.each q kept is.1)

  pub restart_stands : Stands new later (option_map (shared_from (Some unit)) share)
  restart_stands = record {
    base = base;
    entries_true = record {
      each = λ q kept holds. absurd (m.private (key_of q) kept holds);
      lasting = table_goes_on new.scope.library (place_of old) (place_of new) before now (contents_of new.scope.library.tables)
          memo.lasting later.lasting (Some unit) was.lasting m.lasting
          (subst (λ t. Extends (contents_of t) now) (sym h.base ∙ base) h.contents)
          (place (Some unit) refl);
      first = now;
      staying = record {
        each = λ q kept stands. stay q kept (m.each (key_of q) kept stands);
        terms = m.terms;
        stand = Extends-self now;
        looks = place later.staying.unit m.looks;
      };
    };
    shared = shares_from old new share (Some unit) h.library (place (Some unit) refl) s.shared;
  }

-- what outlasts a unit goes on: all else was forgotten, and no unit looks
goes_on : (old new : Outlook Layers) (memo later : PrivateMemo) (share : Option Shared)
    → new.scope.library ≡ old.scope.library → new.terms ≡ old.terms → Stands old memo share
    → ((k : Key) (v : Kept) → Holds later k v → ⊥)
    → GoesOn memo.lasting later.lasting memo.lasting.terms None
    → GoesOn memo.staying later.staying memo.staying.terms None
    → Stands new later (option_map (shared_from None) share)
goes_on old new memo later share library terms s none lasting staying = record {
  base = ap (λ l. l.base) terms ∙ s.base ∙ ap (λ l. l.tables) (sym library);
  entries_true = record {
    each = λ q kept holds. absurd (none (key_of q) kept holds);
    lasting = on (contents_of new.scope.library.tables) memo.lasting later.lasting was.lasting lasting;
    first = was.first;
    staying = on was.first memo.staying later.staying was.staying staying;
  };
  shared = shares_from old new share None library (none_looks new) s.shared;
}
  where
    was : AreTrue new.scope.library (place_of old) (layers_contents old.terms) memo
    was = of_library old memo share new.scope.library library s

    on : (first : Contents) (table next : Lasting)
        → AreLasting new.scope.library (place_of old) (layers_contents old.terms) first table
        → GoesOn table next table.terms None
        → AreLasting new.scope.library (place_of new) (layers_contents new.terms) first next
    on first table next h g = table_goes_on new.scope.library (place_of old) (place_of new)
        (layers_contents old.terms) (layers_contents new.terms) first table next None h g
        (subst (λ t. Extends first (layers_contents t)) (sym terms) h.stand)
        (λ n is. absurd (let no : None ≡ Some n = is in cc))

-- more of the unit is partial, and no unit looks for what outlasts one
pub gives_stands : {old new : Outlook Layers} {partial : Partial} {aux : Members}
    {memo later : PrivateMemo} {share : Option Shared} → GivesMembers old new partial aux
    → Stands old memo share
    → ((k : Key) (v : Kept) → Holds later k v → ⊥)
    → GoesOn memo.lasting later.lasting memo.lasting.terms None
    → GoesOn memo.staying later.staying memo.staying.terms None
    → Stands new later (option_map (shared_from None) share)
gives_stands {old} {new} {partial} {aux} {memo} {later} {share} h =
    goes_on old new memo later share h.library h.terms

-- the same where auxiliary types are given beside, if there was memory for them
pub beside_stands : (old new : Outlook Layers) (memo later : PrivateMemo)
    (share : Option Shared) (partial : Partial) (aux : Members) (r : Result (Unit {0}) Wanting)
    → OnOk r (GivesMembers old new partial aux)
    → IfErr r (λ e. new ≡ old) → Stands old memo share
    → ((k : Key) (v : Kept) → Holds later k v → ⊥)
    → GoesOn memo.lasting later.lasting memo.lasting.terms None
    → GoesOn memo.staying later.staying memo.staying.terms None
    → Stands new later (option_map (shared_from None) share)
beside_stands old new memo later share partial aux (Ok u) h e = gives_stands h
beside_stands old new memo later share partial aux (Err x) h e =
    goes_on old new memo later share (ap (λ (o : Outlook Layers). o.scope.library) e) (ap (λ (o : Outlook Layers). o.terms) e)

-- what stays of what units made is not too many rows
pub restart_bounded : {old new : Outlook Layers} {unit budget : ℕ} (stays : Bool)
    → Restarts old new unit budget stays → old.terms.base ≡ old.scope.library.tables
    → (IsTrue stays → IsBounded (row_count (sizes_of old.terms.own))
    (row_count (sizes_of old.terms.base)))
    → IsBounded (row_count (sizes_of new.terms.own))
    (row_count (sizes_of old.scope.library.tables))
restart_bounded true h base few = rw (h.same refl, ← base) (few refl)
restart_bounded false h base few = rw (h.none refl) (inl (omega arith))

-- a store over a library's has what the library has, once a unit is begun
pub restart_over : {old new : Outlook Layers} {unit budget : ℕ} {stays : Bool}
    → Restarts old new unit budget stays → old.terms.base ≡ old.scope.library.tables
    → Extends (contents_of old.scope.library.tables) (layers_contents new.terms)
restart_over {old} {new} h base =
    subst (λ t. Extends (contents_of t) (layers_contents new.terms)) base h.contents
