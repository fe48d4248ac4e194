-- What is told of texts is that of units that are checked.
use Rattle.std.proofs.Common.{◌≡◌, ℕ, zero, suc, ◌+◌, ◌<◌, ◌≤◌, List, [], ◌∷◌, ◌++◌, All, Ok, true, ◌&&◌, length, map, get_or, slice_get, Option, Some, None, refl, sym, ap, ◌∙◌, subst, inl, inr, arith, zero-add}
use Rattle.std.specs.Prelude.{Vec}
use Rattle.std.specs.declared.alloc.Global.{Global}
use Rattle.std.proofs.lemmas.List.{length-map}
use Rattle.lk_tree.proofs.Scans.{both_true, and_true}
use Rattle.lk_rulebook.specs.Units.{Library, LibraryUnit, members_of, trees_of}
use Rattle.lk_rulebook.specs.Spelled.{names_spelled, all_spelled, library_spelled}
use Rattle.lk_book.specs.Texts.{text_of, texts_of}
use Rattle.lk_book.specs.ReadingTexts.{bytes_of_each, AreOfSome}
use Rattle.lk_book.proofs.Alone.{texts_faultless}
use Rattle.lk_book.proofs.Spelled.{text_spelled}
use Rattle.lk_verdict.proofs.Spelled.{spelled_clear}
use Rattle.lk_verdict.specs.Held.{verdict}
use Rattle.lk_verdict.specs.Told.{Verdict, IsPlainVerdict, AreVerdicts}
use Rattle.lk_text.specs.Text.{submitted_units}
use Rattle.lk_session.specs.Texts.{units_in, units_or_none, IsFaultless, AreFaultless}
use Rattle.lk_callers.specs.Owned.{all_units, bytes_in, text_at}
use Rattle.lk_callers.specs.Reports.{submitted_in, IsSessionReport}
use Rattle.lk_callers.specs.declared.report.SessionReport.{SessionReport}
use Rattle.lk_command.specs.Words.{HasValue, Means}
use Rattle.lk_command.specs.declared.words.Callers.{Callers}
use Rattle.lk_command.specs.declared.words.Meaning.TheVariants.{Session}
use Rattle.leancheck.specs.declared.status.Status.{Status}
use Rattle.leancheck.specs.Ends.{status_of, TellsTexts}
use Rattle.leancheck.proofs.Scanning.{good_of_plain}

spelled_append : (us vs : Library) → library_spelled us ≡ true → library_spelled vs ≡ true → library_spelled (us ++ vs) ≡ true
spelled_append [] vs h g = g
spelled_append (u ∷ us) vs h g =
    let e = both_true (names_spelled (members_of u) && all_spelled (trees_of u)) (library_spelled us) h in
    and_true (names_spelled (members_of u) && all_spelled (trees_of u)) (library_spelled (us ++ vs)) e.0 (spelled_append us vs e.1 g)

-- no name that texts state in some order holds a line feed
all_spelled_in : (texts : List (List ℕ)) (order : List ℕ) → AreFaultless text_of texts → ((i k : ℕ) → slice_get order i ≡ Some k → k < length texts) → library_spelled (submitted_units (submitted_in text_of texts order)) ≡ true
all_spelled_in texts [] ok below = refl
all_spelled_in texts (k ∷ order) ok below =
    spelled_append (units_in text_of (text_at texts k)) (submitted_units (submitted_in text_of texts order))
    (text_spelled (text_at texts k) (units_in text_of (text_at texts k)) (ok k [] (below 0 k refl)))
    (all_spelled_in texts order ok (λ i m e. below (suc i) m e))

-- so a report of the texts tells verdicts of their units
pub texts_told : (texts : List (List ℕ)) (callers steps : ℕ) (status : Status) (r : SessionReport) → AreFaultless text_of texts → IsSessionReport text_of texts callers steps r → length (all_units text_of texts) ≤ 65536 → status ≡ status_of (map verdict r.verdicts.items)
    → TellsTexts callers steps texts status r.text.items
texts_told texts callers steps status r ok i few is =
    let us = submitted_units (submitted_in text_of texts i.order) in
    let vs = map verdict r.verdicts.items in
    let plain : (n : ℕ) (v : Verdict) → slice_get vs n ≡ Some v → IsPlainVerdict us steps n v = λ n v at. subst (λ (m : ℕ). IsPlainVerdict us steps m v) (zero-add n) (i.plain n v at) in
    record {
      few = few;
      order = i.order;
      in_order = i.in_order;
      verdicts = vs;
      are = record {
        as_many = length-map r.verdicts.items verdict ∙ i.as_many;
        each = λ n v at. record {
          plain = plain n v at;
          good = λ yes before. good_of_plain us (spelled_clear us (all_spelled_in texts i.order ok i.in_order.below)) (λ m. steps) vs plain n v at yes before;
        };
      };
      status_is = is;
      text_is = i.text_is;
    }

faultless_of : (t : List ℕ) (us : Library) → text_of t ≡ Ok us → IsFaultless text_of t
faultless_of t us e = e ∙ ap (λ (l : Library). Ok l) (sym (ap units_or_none e))

-- texts of an input have no fault
pub read_faultless : (ts : Vec (Vec ℕ Global) Global) → AreOfSome ts → AreFaultless text_of (bytes_in ts.items)
read_faultless ts some k d lt = let f = texts_faultless some.0 (bytes_of_each ts) some.1 k d lt in faultless_of (get_or (bytes_of_each ts) k d) f.0 f.1

-- there is a caller
some_caller : (o : Option (List ℕ)) (n : ℕ) → HasValue 1 64 (Some 1) o n → 1 ≤ n
some_caller None n e = let s : 1 ≡ n = cc in omega (arith, s)
some_caller (Some t) n h = h.2

pub some_callers : (words : List (List ℕ)) (c : Callers) → Means words (Session c) → 1 ≤ c.workers
some_callers words c m = some_caller _ c.workers m.values.workers
