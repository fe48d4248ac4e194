-- The sections of units, one after another.
use Rattle.std.proofs.Common.{◌≡◌, ℕ, ◌+◌, Bool, true, false, List, [], ◌∷◌, ◌++◌, refl, sym, ap, ◌∙◌, arith}
use Rattle.std.specs.Prelude.{not, ◌&&◌, ◌||◌, Some, slice_get, if◌then◌else◌}
use Rattle.std.specs.List.{filter, list_any, range_with_len}
use Rattle.std.proofs.lemmas.List.{append-nil, map_push, map-id}
use Rattle.std.proofs.lemmas.List.Elements.{All-nil, All-push}
use Rattle.std.proofs.lemmas.List.Folds.{list_any-append}
use Rattle.std.proofs.lemmas.List.FromFn.{map-range_with_len_more}
use Rattle.lk_rulebook.specs.Place.{Block, BlockRecursor}
use Rattle.lk_rulebook.specs.Units.{Decl, of_decl, of_block, Library}
use Rattle.lk_written.specs.Section.{section_holds}
use Rattle.lk_store.specs.Contents.{Contents}
use Rattle.lk_trim.specs.Whole.{Kept}
use Rattle.lk_sections.specs.declared.trace.TraceWriter.{TraceWriter}
use Rattle.lk_sections.specs.Sections.{UnitSection}
use Rattle.lk_sections.specs.Stored.{HasWritten}
use Rattle.leancheck.specs.Traces.{is_declaration, is_accepted, has_section, lacks_section, traced_below, lacks_below}
use Rattle.leancheck.specs.Derived.{HasOneMore, AreTraced}

-- numbers from 0 on, and one more
pub one_more : (n : ℕ) → range_with_len 0 (n + 1) ≡ range_with_len 0 n ++ n ∷ []
one_more n =
    sym (map-id (range_with_len 0 (n + 1))) ∙ map-range_with_len_more (λ x. x) 0 n n (omega arith)
    ∙ ap (λ xs. xs ++ n ∷ []) (map-id (range_with_len 0 n))

filter_more : (p : ℕ → Bool) (xs : List ℕ) (n : ℕ) → filter p (xs ++ n ∷ []) ≡ filter p xs ++ (if p n then n ∷ [] else [])
filter_more p [] n = refl
filter_more p (x ∷ xs) n = go (p x) (filter_more p xs n)
  where
    go : (b : Bool) → filter p (xs ++ n ∷ []) ≡ filter p xs ++ (if p n then n ∷ [] else [])
        → (if b then x ∷ filter p (xs ++ n ∷ []) else filter p (xs ++ n ∷ [])) ≡ (if b then x ∷ filter p xs else filter p xs) ++ (if p n then n ∷ [] else [])
    go true h = ap (λ ys. x ∷ ys) h
    go false h = h

pub traced_more : (us : Library) (budget : ℕ → ℕ) (n : ℕ) → traced_below us budget (n + 1) ≡ traced_below us budget n ++ (if has_section us (budget n) n then n ∷ [] else [])
traced_more us budget n =
    let p : ℕ → Bool = λ m. has_section us (budget m) m in
    ap (filter p) (one_more n) ∙ filter_more p (range_with_len 0 n) n

or_false : (b : Bool) → (b || false) ≡ b
or_false true = refl
or_false false = refl

pub lacks_more : (us : Library) (budget : ℕ → ℕ) (n : ℕ) → lacks_below us budget (n + 1) ≡ (lacks_below us budget n || lacks_section us (budget n) n)
lacks_more us budget n =
    let p : ℕ → Bool = λ m. lacks_section us (budget m) m in
    ap (list_any p) (one_more n) ∙ list_any-append p (range_with_len 0 n) (n ∷ [])
    ∙ ap (λ b. lacks_below us budget n || b) (or_false (lacks_section us (budget n) n))

module _ (us : Library) (budget : ℕ → ℕ) (n : ℕ) where
  -- a unit that has no section is passed
  pub passed : (c : Contents) (ks : List Kept) (t : TraceWriter) → has_section us (budget n) n ≡ false → AreTraced us budget c ks n t → AreTraced us budget c ks (n + 1) t
  passed c ks t none h = record {
    sections = h.sections;
    are = record {
      units = h.are.units ∙ sym (traced_more us budget n ∙ ap (λ b. traced_below us budget n ++ (if b then n ∷ [] else [])) none ∙ append-nil _);
      hold = h.are.hold;
    };
    written = h.written;
  }

  -- one that has a section is written
  pub written : (c d : Contents) (ks : List Kept) (old new : TraceWriter) → has_section us (budget n) n ≡ true → (h : AreTraced us budget c ks n old) → HasOneMore us n d ks h.sections new → AreTraced us budget d ks (n + 1) new
  written c d ks old new has h more = record {
    sections = h.sections ++ last ∷ [];
    are = record {
      units = map_push (λ (s : UnitSection). s.unit) h.sections last ∙ ap (λ xs. xs ++ n ∷ []) h.are.units
          ∙ sym (traced_more us budget n ∙ ap (λ b. traced_below us budget n ++ (if b then n ∷ [] else [])) has);
      hold = All-push (λ (s : UnitSection). section_holds us s.unit s.section ≡ true) h.sections last h.are.hold more.holds;
    };
    written = more.written;
  }
    where
      last : UnitSection
      last = record { unit = n; section = more.section }

-- whether a unit has a section, by what it is and what it says
module _ (us : Library) (n budget own : ℕ) (yes : Bool) (same : own ≡ budget) where
  declared : (d : Decl) → slice_get us n ≡ Some (of_decl d) → has_section us own n ≡ is_accepted us budget n
  declared d at = ap (λ o. is_declaration o && is_accepted us own n) at ∙ ap (λ k. is_accepted us k n) same

  pub has_one : (d : Decl) → slice_get us n ≡ Some (of_decl d) → yes ≡ is_accepted us budget n → not yes ≡ false → has_section us own n ≡ true
  has_one d at said test = declared d at ∙ sym said ∙ go yes test
    where
      go : (b : Bool) → not b ≡ false → b ≡ true
      go true e = refl
      go false e = absurd cc

  pub has_none : (d : Decl) → slice_get us n ≡ Some (of_decl d) → yes ≡ is_accepted us budget n → not yes ≡ true → has_section us own n ≡ false
  has_none d at said test = declared d at ∙ sym said ∙ go yes test
    where
      go : (b : Bool) → not b ≡ true → b ≡ false
      go true e = absurd cc
      go false e = refl

pub block_has_none : (us : Library) (n budget : ℕ) (b : Block) (rs : List BlockRecursor) → slice_get us n ≡ Some (of_block b rs) → has_section us budget n ≡ false
block_has_none us n budget b rs at = ap (λ o. is_declaration o && is_accepted us budget n) at

-- before the first unit there is no section
pub none_traced : (us : Library) (budget : ℕ → ℕ) (c : Contents) (ks : List Kept) (t : TraceWriter) → HasWritten c ks [] t → AreTraced us budget c ks 0 t
none_traced us budget c ks t h = record {
  sections = [];
  are = record { units = refl; hold = All-nil (λ (s : UnitSection). section_holds us s.unit s.section ≡ true) };
  written = h;
}

not_not : (b : Bool) → not (not b) ≡ b
not_not true = refl
not_not false = refl

-- one more unit was looked at
pub lacks_on : (us : Library) (budget : ℕ → ℕ) (n unit own : ℕ) (lacks complete result : Bool) → unit ≡ n → own ≡ budget n → lacks ≡ lacks_below us budget n
    → complete ≡ not (lacks_section us own unit) → result ≡ (lacks || not complete) → result ≡ lacks_below us budget (n + 1)
lacks_on us budget n unit own lacks complete result u o l k h =
    let before : Bool = lacks_below us budget n in
    h ∙ ap (λ b. b || not complete) l ∙ ap (λ b. before || not b) k ∙ ap (λ b. before || b) (not_not (lacks_section us own unit))
    ∙ ap (λ b. before || b) (ap (lacks_section us own) u ∙ ap (λ m. lacks_section us m n) o) ∙ sym (lacks_more us budget n)
