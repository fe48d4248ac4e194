-- What is told of a library and changes of it.
use Rattle.std.proofs.Common.{◌≡◌, ℕ, zero, suc, ◌<◌, Bool, true, false, List, [], ◌∷◌, ◌++◌, length, map, Result, Ok, Err, Some, Vec, refl, sym, ap, append_assoc, subst, ◌∙◌, arith}
use Rattle.std.specs.Prelude.{All, OnOk, reverse, slice_get}
use Rattle.std.specs.declared.alloc.Global.{Global}
use Rattle.std.proofs.lemmas.List.{append-nil, length-map, reverse-append, reverse-reverse}
use Rattle.std.proofs.lemmas.List.Elements.{All-head, All-tail}
use Rattle.std.proofs.lemmas.Option.{slice_get_within}
use Rattle.lk_rulebook.specs.Units.{Library}
use Rattle.lk_rulebook.specs.Spelled.{library_spelled}
use Rattle.lk_uses.specs.Closure.{IsUnchanged, own_unit}
use Rattle.lk_closure.proofs.Least.{axioms_unchanged}
use Rattle.lk_store.specs.Store.{contents_of}
use Rattle.lk_store.specs.declared.tables.Tables.{Tables}
use Rattle.lk_env.specs.declared.unit.Unit.{Unit as StoredUnit}
use Rattle.lk_env.specs.StoredLibrary.{StoredLibrary}
use Rattle.lk_env.specs.Units.{AreUnitsIn, library_at, library_of}
use Rattle.lk_axioms.specs.Lists.{axiom_lists, KeepsAxioms, HasSameAxioms}
use Rattle.lk_axioms.proofs.Kept.{same_kept}
use Rattle.lk_book.specs.Reading.{ArePartsIn, AreStated, parts_at}
use Rattle.lk_book.specs.declared.rounds.Rounds.{Rounds}
use Rattle.lk_book.proofs.Spelled.{rounds_spelled}
use Rattle.lk_verdict.specs.Told.{Verdict, IsPlainVerdict, AreVerdicts}
use Rattle.lk_verdict.proofs.Spelled.{spelled_clear}
use Rattle.lk_verdict.specs.declared.verdict.Verdict.{Verdict as HeldVerdict}
use Rattle.lk_verdict.specs.Checked.{AreChecked}
use Rattle.lk_verdict.specs.Held.{verdict}
use Rattle.lk_text.specs.Text.{checked_line, report_text}
use Rattle.lk_recheck.specs.Spliced.{next_list}
use Rattle.lk_recheck.specs.Rounds.{IsCount, IsKept, Kept, KeepVerdicts}
use Rattle.lk_recheck.specs.Stale.{MarksStale}
use Rattle.leancheck.specs.declared.rounds.Telling.{Telling}
use Rattle.leancheck.specs.Ends.{Stand, no_stand, TellsPart, TellsParts, no_part, one_part}
use Rattle.leancheck.specs.Telling.{stand_of, IsTelling, TellsMore}
use Rattle.leancheck.proofs.InOrder.{has_unit}
use Rattle.leancheck.proofs.Scanning.{good_of_plain}

-- verdicts that are kept are those of the list
pub list_verdicts : (k : Kept) → IsKept k → AreVerdicts (library_of k.library) (λ n. k.budget) k.verdicts
list_verdicts k is =
    let us = library_of k.library in
    record {
      as_many = is.plain.as_many;
      each = λ n v at. record {
        plain = is.plain.each n v at;
        good = λ yes before. good_of_plain us (spelled_clear us is.spelled) (λ m. k.budget) k.verdicts is.plain.each n v at yes before;
      };
    }

turned : (us vs : Library) (n : ℕ) → IsUnchanged us vs n → IsUnchanged vs us n
turned us vs n h = record { before = λ k i. sym (h.after k i); after = λ k i. sym (h.before k i) }

-- units of which nothing in the closure changed have the axioms that they had
pub keeps_axioms : (us vs : Library) (stale : List Bool) → MarksStale us vs stale → KeepsAxioms vs (axiom_lists us) stale
keeps_axioms us vs stale m = same_kept us vs stale (λ n lt fresh. same n lt (m.fresh n fresh))
  where
    same : (n : ℕ) → n < length vs → IsUnchanged us vs n → HasSameAxioms us vs n
    same n lt h =
        let u = has_unit vs n lt in
        record {
          stands = slice_get_within us n u.0 (h.after n own_unit ∙ u.1);
          there = λ k a. axioms_unchanged us vs n k h a;
          back = λ k a. axioms_unchanged vs us n k (turned us vs n h) a;
        }

-- the verdicts of some units, one after another
module _ (us : Library) (steps : ℕ) where
  abbrev pub AreChecks : List ℕ → List HeldVerdict → Type 0
  AreChecks numbers vs = (k n : ℕ) (v : Verdict) → slice_get numbers k ≡ Some n → slice_get (map verdict vs) k ≡ Some v → IsPlainVerdict us steps n v

  pub checked_more : (numbers : List ℕ) (vs : List HeldVerdict) (x : HeldVerdict) (m : ℕ) → AreChecks numbers vs → slice_get numbers (length vs) ≡ Some m → IsPlainVerdict us steps m (verdict x) → AreChecks numbers (vs ++ x ∷ [])
  checked_more [] vs x m h at p k q v g w = absurd cc
  checked_more (n ∷ ns) [] x m h at p zero q v g w =
      let same : m ≡ q = cc in
      let is : verdict x ≡ v = cc in
      subst (IsPlainVerdict us steps q) is (subst (λ j. IsPlainVerdict us steps j (verdict x)) same p)
  checked_more (n ∷ ns) [] x m h at p (suc k) q v g w = absurd cc
  checked_more (n ∷ ns) (y ∷ vs) x m h at p zero q v g w = h zero q v g w
  checked_more (n ∷ ns) (y ∷ vs) x m h at p (suc k) q v g w = checked_more ns vs x m (λ j. h (suc j)) at p k q v g w

  -- all were checked
  pub checked_all : (numbers : List ℕ) (vs : List HeldVerdict) → length vs ≡ length numbers → AreChecks numbers vs → AreChecked us steps numbers (map verdict vs)
  checked_all numbers vs as_many checks = record { as_many = length-map vs verdict ∙ as_many; each = λ i n v at said. checks i n v at said }

-- what was told so far of all parts: whatever is told of the rest goes on behind it
pub record HasTold (steps : ℕ) (all rest : List Library) (t : Telling) : Type 0 where
  pub telling : IsTelling steps t
  pub leads : (last : Stand) (more : List ℕ) → TellsParts steps last (stand_of t) rest more → TellsParts steps last no_stand all (t.text.items ++ more)

-- nothing was told yet
pub told_nothing : (steps : ℕ) (all : List Library) (t : Telling) → IsTelling steps t → stand_of t ≡ no_stand → t.text.items ≡ [] → HasTold steps all all t
told_nothing steps all t is begins text = record {
  telling = is;
  leads = λ last more told. rw text (subst (λ s. TellsParts steps last s all more) begins told);
}

-- one more part was told
pub told_one : (steps : ℕ) (all rest : List Library) (part : Library) (old new : Telling) → HasTold steps all (part ∷ rest) old → TellsMore steps part old new → HasTold steps all rest new
told_one steps all rest part old new h p = record {
  telling = p.telling;
  leads = λ last more told.
      let so_far : old.text.items ++ (p.text ++ more) ≡ new.text.items ++ more = sym (append_assoc old.text.items p.text more) ∙ ap (λ xs. xs ++ more) (sym p.text_is) in
      subst (λ xs. TellsParts steps last no_stand all xs) so_far
      (h.leads last (p.text ++ more) (one_part (stand_of old) (stand_of new) part rest p.text more p.told told));
}

-- all parts were told
pub told_all : (steps : ℕ) (all : List Library) (t : Telling) → HasTold steps all [] t → TellsParts steps (stand_of t) no_stand all t.text.items
told_all steps all t h = subst (λ xs. TellsParts steps (stand_of t) no_stand all xs) (append-nil t.text.items) (h.leads (stand_of t) [] no_part)

-- what both clauses of a call give
pub both_ok : {T E P Q R : Type 0} (r : Result T E) → (P → Q → R) → OnOk r P → OnOk r Q → OnOk r R
both_ok (Ok x) f p q = f p q
both_ok (Err e) f p q = tt

-- the report of a list and the line behind it were added
pub lines_added : (old lines first new : List ℕ) (us held : Library) (vs ws : List Verdict) (count n : ℕ) → lines ≡ report_text held ws → held ≡ us → ws ≡ vs → n ≡ count → first ≡ old ++ lines
    → new ≡ first ++ checked_line n → new ≡ old ++ (report_text us vs ++ checked_line count)
lines_added old lines first new us held vs ws count n report list verdicts number one two =
    let lines_are : lines ≡ report_text us vs = report ∙ ap (λ l. report_text l ws) list ∙ ap (report_text us) verdicts in
    two ∙ ap (λ k. first ++ checked_line k) number ∙ ap (λ xs. xs ++ checked_line count) (one ∙ ap (λ xs. old ++ xs) lines_are)
    ∙ append_assoc old (report_text us vs) (checked_line count)

abbrev made_stand : Bool → StoredLibrary → List Verdict → Stand
made_stand begun l vs = record { begun = begun; list = library_of l; verdicts = vs }

abbrev kept_stand : Kept → Stand
kept_stand k = made_stand k.begun k.library k.verdicts

-- where no round was yet
pub nowhere : (t : Telling) (k : Kept) (base : Tables) → t.recheck ≡ k → k.begun ≡ false → k.library ≡ (record { tables = base; units = []; budgets = [] }) → k.verdicts ≡ [] → stand_of t ≡ no_stand
nowhere t k base is begun library verdicts =
    ap kept_stand is ∙ ap (λ b. made_stand b k.library k.verdicts) begun ∙ ap (λ (l : StoredLibrary). made_stand false l k.verdicts) library
    ∙ ap (λ vs. made_stand false (record { tables = base; units = []; budgets = [] }) vs) verdicts

-- a part is told: behind the round, the axioms are found, and behind that the lines are added
module _ (steps : ℕ) (part : Library) (old middle new : Telling) (k : Kept) (is : IsTelling steps old) (count : ℕ) where
  pub tells_more : k.budget ≡ old.recheck.budget → k.begun ≡ true → k.library.tables ≡ old.recheck.library.tables → library_of k.library ≡ next_list old.recheck.begun (library_of old.recheck.library) part
      → IsCount (library_of old.recheck.library) (library_of k.library) old.recheck.verdicts count → KeepVerdicts (library_of old.recheck.library) (library_of k.library) old.recheck.verdicts k.verdicts
      → middle.recheck ≡ k → middle.text ≡ old.text → middle.axioms ≡ axiom_lists (library_of k.library) → new.recheck ≡ middle.recheck → new.axioms ≡ middle.axioms → IsKept middle.recheck
      → new.text.items ≡ middle.text.items ++ (report_text (library_of middle.recheck.library) middle.recheck.verdicts ++ checked_line count) → TellsMore steps part old new
  tells_more budget begun tables list counted keeps held stays axioms last same kept added =
      let us = library_of k.library in
      let lines = report_text us k.verdicts ++ checked_line count in
      let whole : new.recheck ≡ k = last ∙ held in
      let right : IsKept k = subst IsKept held kept in
      let behind : new.text.items ≡ middle.text.items ++ lines = subst (λ (r : Kept). new.text.items ≡ middle.text.items ++ (report_text (library_of r.library) r.verdicts ++ checked_line count)) held added in
      let told : TellsPart steps (stand_of old) (kept_stand k) part lines = record {
        begun = begun;
        list = list;
        verdicts = subst (λ b. AreVerdicts us (λ n. b) k.verdicts) (budget ∙ is.budget) (list_verdicts k right);
        kept = keeps;
        count = count;
        counted = counted;
        text_is = refl;
      } in
      record {
        telling = record {
          budget = ap (λ (r : Kept). r.budget) whole ∙ budget ∙ is.budget;
          axioms = same ∙ axioms ∙ ap (λ (r : Kept). axiom_lists (library_of r.library)) (sym whole);
        };
        base = ap (λ (r : Kept). r.library.tables) whole ∙ tables;
        text = lines;
        told = subst (λ (r : Kept). TellsPart steps (stand_of old) (kept_stand r) part lines) (sym whole) told;
        text_is = behind ∙ ap (λ (t : Vec ℕ Global). t.items ++ lines) stays;
      }

-- the units of a part
abbrev part_units : Tables → Vec StoredUnit Global → Library
part_units base us = library_at (contents_of base) us.items

-- the first parts were told, and those that are left stand in reverse
pub record IsTellingOn (steps : ℕ) (base : Tables) (all : List Library) (left : List (Vec StoredUnit Global)) (t : Telling) : Type 0 where
  pub tables : t.recheck.library.tables ≡ base
  pub left_in : All (λ (us : Vec StoredUnit Global). AreUnitsIn (contents_of base) us.items) (reverse left)
  pub spelled : All (λ us. library_spelled us ≡ true) (map (part_units base) (reverse left))
  pub told : HasTold steps all (map (part_units base) (reverse left)) t

pub telling_begins : (steps : ℕ) (r : Rounds) (left : List (Vec StoredUnit Global)) (t : Telling) → left ≡ reverse r.parts.items → ArePartsIn r → AreStated r → t.recheck.library.tables ≡ r.base
    → HasTold steps (parts_at r) (parts_at r) t → IsTellingOn steps r.base (parts_at r) left t
telling_begins steps r left t turned known stated tables told =
    let back : reverse left ≡ r.parts.items = ap reverse turned ∙ reverse-reverse r.parts.items in
    record {
      tables = tables;
      left_in = rw back known;
      spelled = rw back (rounds_spelled stated.0 (parts_at r) stated.1);
      told = rw back told;
    }

module _ (steps : ℕ) (base : Tables) (all : List Library) (left more : List (Vec StoredUnit Global)) (part : Vec StoredUnit Global) (old : Telling) (cut : left ≡ more ++ part ∷ []) (p : IsTellingOn steps base all left old) where
  turned_left : reverse left ≡ part ∷ reverse more
  turned_left = ap reverse cut ∙ reverse-append more (part ∷ [])

  -- the next part is one of the store
  pub part_in : AreUnitsIn (contents_of old.recheck.library.tables) part.items
  part_in = rw p.tables (All-head (λ (us : Vec StoredUnit Global). AreUnitsIn (contents_of base) us.items) part (reverse more) (rw turned_left at p.left_in))

  part_spelled_by : library_spelled (part_units base part) ≡ true
  part_spelled_by = All-head (λ us. library_spelled us ≡ true) (part_units base part) (map (part_units base) (reverse more)) (rw turned_left at p.spelled)

  pub part_spelled : library_spelled (library_at (contents_of old.recheck.library.tables) part.items) ≡ true
  part_spelled = rw p.tables part_spelled_by

  pub telling_on : (new : Telling) → TellsMore steps (library_at (contents_of old.recheck.library.tables) part.items) old new → IsTellingOn steps base all more new
  telling_on new tells =
      let one : TellsMore steps (part_units base part) old new = subst (λ (t : Tables). TellsMore steps (library_at (contents_of t) part.items) old new) p.tables tells in
      record {
        tables = tells.base ∙ p.tables;
        left_in = All-tail (λ (us : Vec StoredUnit Global). AreUnitsIn (contents_of base) us.items) part (reverse more) (rw turned_left at p.left_in);
        spelled = All-tail (λ us. library_spelled us ≡ true) (part_units base part) (map (part_units base) (reverse more)) (rw turned_left at p.spelled);
        told = told_one steps all (map (part_units base) (reverse more)) (part_units base part) old new (rw turned_left at p.told) one;
      }

-- none is left
pub telling_ends : (steps : ℕ) (base : Tables) (all : List Library) (left : List (Vec StoredUnit Global)) (t : Telling) → left ≡ [] → IsTellingOn steps base all left t
    → TellsParts steps (stand_of t) no_stand all t.text.items
telling_ends steps base all left t none p = told_all steps all t (rw none at p.told)
