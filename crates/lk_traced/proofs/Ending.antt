-- A section begins, or ends.
use Rattle.std.proofs.Common.{◌≡◌, ◌≢◌, ℕ, ◌+◌, ◌≤◌, ◌<◌, Bool, true, false, List, [], ◌∷◌, ◌++◌, length, map, refl, ap, sym, ◌∙◌, Ok, Err, arith}
use Rattle.std.specs.Prelude.{Option, Some, None, is_some, option_map, slice_get, if◌then◌else◌}
use Rattle.std.proofs.lemmas.Bool.Decides.{nat_tests}
use Rattle.std.proofs.lemmas.List.{map-append}
use Rattle.std.proofs.lemmas.Option.{slice_get-map}
use Rattle.lk_rulebook.specs.Units.{LibraryUnit, of_decl, of_block, Library}
use Rattle.lk_store.specs.Contents.{Contents}
use Rattle.lk_lines.specs.declared.words.Word.TheVariants.{TraceOrder}
use Rattle.lk_trace.specs.declared.traced.FileSection.{FileSection}
use Rattle.lk_trace.specs.Files.{section_at}
use Rattle.lk_units.specs.Numbering.{entry}
use Rattle.lk_traced.specs.Placed.{OpenSection, Behind, has_section, begin_section, with_derivation, end_section, places_of}
use Rattle.lk_traced.specs.Begun.{is_declaration, ended_by, HoldsBegun, HoldsOpen, HoldsSections, FollowsSections}
use Rattle.lk_traced.specs.declared.sections.BegunSection.{BegunSection}
use Rattle.lk_traced.specs.declared.sections.Sections.{Sections}

-- where no section is begun, and where one is
none_begun : (o : Option BegunSection) (c : Contents) (p : Option OpenSection) → o ≡ None → HoldsOpen o c p → p ≡ None
none_begun None c None e h = refl
none_begun None c (Some p) e h = absurd h
none_begun (Some o) c p e h = absurd (cc)

-- what the list of kinds says of a unit
kind_at : (us : Library) (kinds : List Bool) (u : ℕ) → kinds ≡ map is_declaration us → slice_get kinds u ≡ option_map is_declaration (slice_get us u)
kind_at us kinds u e = rw e (slice_get-map is_declaration us u)

alone_has : (o : Option LibraryUnit) (least u : ℕ) → Some true ≡ option_map is_declaration o → least ≤ u → has_section least u o ≡ true
alone_has None least u e le = absurd (cc)
alone_has (Some (of_decl d)) least u e le = grind (arith, nat_tests)
alone_has (Some (of_block b rs)) least u e le = absurd (cc)

early_has : (o : Option LibraryUnit) (least u : ℕ) → u < least → has_section least u o ≡ false
early_has None least u lt = refl
early_has (Some (of_decl d)) least u lt = grind (arith, nat_tests)
early_has (Some (of_block b rs)) least u lt = refl

block_has : (o : Option LibraryUnit) (least u : ℕ) → Some false ≡ option_map is_declaration o → has_section least u o ≡ false
block_has None least u e = refl
block_has (Some (of_decl d)) least u e = absurd (cc)
block_has (Some (of_block b rs)) least u e = refl

none_has : (o : Option LibraryUnit) (least u : ℕ) → None ≡ option_map is_declaration o → has_section least u o ≡ false
none_has None least u e = refl
none_has (Some x) least u e = absurd (cc)

module _ (us : Library) (kinds : List Bool) (least u : ℕ) (e : kinds ≡ map is_declaration us) where
  pub has_alone : slice_get kinds u ≡ Some true → least ≤ u → has_section least u (slice_get us u) ≡ true
  has_alone is le = alone_has (slice_get us u) least u (sym is ∙ kind_at us kinds u e) le

  pub has_early : u < least → has_section least u (slice_get us u) ≡ false
  has_early lt = early_has (slice_get us u) least u lt

  pub has_block : slice_get kinds u ≡ Some false → has_section least u (slice_get us u) ≡ false
  has_block is = block_has (slice_get us u) least u (sym is ∙ kind_at us kinds u e)

  pub has_none : slice_get kinds u ≡ None → has_section least u (slice_get us u) ≡ false
  has_none is = none_has (slice_get us u) least u (sym is ∙ kind_at us kinds u e)

-- whether a section is begun
pub none_of : {X : Type 0} (o : Option X) → is_some o ≡ false → o ≡ None
none_of None e = refl
none_of (Some x) e = absurd (cc)

some_of : {X : Type 0} (o : Option X) → is_some o ≡ true → (x : X) × (o ≡ Some x)
some_of None e = absurd (cc)
some_of (Some x) e = (x, refl)

module _ (s : Sections) (c : Contents) (b : Behind) (h : HoldsSections s c b) where
  not_begun : s.begun ≡ None → b.begun ≡ None
  not_begun e = none_begun s.begun c b.begun e h.begun

  -- a section is begun already
  pub begun_twice : (number unit : ℕ) → is_some s.begun ≡ true → begin_section number b unit ≡ Err TraceOrder
  begun_twice number unit is =
      let o = some_of s.begun is in
      go o.0 b.begun refl (rw o.1 at h.begun)
    where
      go : (o : BegunSection) (p : Option OpenSection) → b.begun ≡ p → HoldsOpen (Some o) c p → begin_section number b unit ≡ Err TraceOrder
      go o None e k = absurd k
      go o (Some p) e k = rw e refl

  -- the unit has none
  pub has_no_section : (number unit : ℕ) → is_some s.begun ≡ false → has_section s.least unit (slice_get b.export.units unit) ≡ false → begin_section number b unit ≡ Err TraceOrder
  has_no_section number unit is lacks = rw (not_begun (none_of s.begun is), ← h.least, lacks) refl

  -- the unit has one, and it begins
  pub begins : (n : Sections) (number unit narrow : ℕ) (o : BegunSection) → narrow ≡ unit → is_some s.begun ≡ false → has_section s.least unit (slice_get b.export.units unit) ≡ true
      → n.begun ≡ Some o → n.kinds ≡ s.kinds → n.ended ≡ s.ended → n.least ≡ narrow + 1 → n.taken ≡ s.taken
      → HoldsBegun o c (record { number = number; unit = narrow; lines = []; places = λ j. None })
      → FollowsSections n c (Ok tt) (begin_section number b unit)
  begins n number unit narrow o same is has now kinds ended least taken holds = (
    record b { begun = Some (record { number = number; unit = unit; lines = []; places = λ j. None }); least = unit + 1 },
    rw (not_begun (none_of s.begun is), ← h.least, has) refl,
    record {
      kinds = rw kinds h.kinds;
      ended = rw ended h.ended;
      begun = rw now (rw same at holds);
      least = rw same at least;
      taken = λ q. rw taken (h.taken q);
    },
  )

  -- no section is begun
  pub ends_none : (number : ℕ) (js : List ℕ) → s.begun ≡ None → end_section number b js ≡ Err TraceOrder
  ends_none number js is = rw (not_begun is) refl

  -- the section that is begun ends
  pub ends : (n : Sections) (number : ℕ) (js : List ℕ) (o : BegunSection) (x : FileSection) → s.begun ≡ Some o → n.begun ≡ None → n.kinds ≡ s.kinds
      → n.ended.items ≡ s.ended.items ++ x ∷ [] → n.least ≡ s.least → n.taken ≡ s.taken
      → ((p : OpenSection) → HoldsBegun o c p → section_at c x ≡ ended_by number js p)
      → FollowsSections n c (Ok tt) (end_section number b js)
  ends n number js o x is now kinds ended least taken holds = go b.begun refl (rw is at h.begun)
    where
      go : (p : Option OpenSection) → b.begun ≡ p → HoldsOpen (Some o) c p → FollowsSections n c (Ok tt) (end_section number b js)
      go None e k = absurd k
      go (Some p) e k = (
        record b { sections = b.sections ++ ended_by number js p ∷ []; begun = None },
        rw e refl,
        record {
          kinds = rw kinds h.kinds;
          ended = rw ended (map-append (section_at c) s.ended.items (x ∷ []) ∙ ap (λ xs. xs ++ section_at c x ∷ []) h.ended ∙ ap (λ y. b.sections ++ y ∷ []) (holds p k));
          begun = rw now tt;
          least = rw least h.least;
          taken = λ q. rw taken (h.taken q);
        },
      )

  -- no section is begun, so no number is that of a premise
  pub places_none : s.begun ≡ None → (q : ℕ) → None ≡ places_of b.begun q
  places_none is q = rw (not_begun is) refl

-- the places of the section that is begun
pub places_begun : (s : Sections) (c : Contents) (b : Behind) (o : BegunSection) → HoldsSections s c b → s.begun ≡ Some o → (q : ℕ) → entry o.places q ≡ places_of b.begun q
places_begun s c b o h is q = go b.begun refl (rw is at h.begun)
  where
    go : (p : Option OpenSection) → b.begun ≡ p → HoldsOpen (Some o) c p → entry o.places q ≡ places_of b.begun q
    go None e k = absurd k
    go (Some p) e k = rw e (k.places q)
