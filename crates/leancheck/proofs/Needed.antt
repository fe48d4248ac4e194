-- What is told of a library for a printed name.
use Rattle.std.proofs.Common.{◌≡◌, ℕ, ◌<◌, ◌≤◌, List, length, Some, None, Result, Ok, Err, IfOk, arith, refl, sym, subst, ap, ◌∙◌}
use Rattle.std.specs.Prelude.{All}
use Rattle.std.specs.declared.option.Option.{Option}
use Rattle.std.specs.List.{Contains}
use Rattle.std.proofs.lemmas.List.{length-map}
use Rattle.std.proofs.lemmas.List.Elements.{All-weaker, All-contains_itself}
use Rattle.lk_store.specs.Store.{contents_of}
use Rattle.lk_env.specs.StoredLibrary.{StoredLibrary}
use Rattle.lk_env.specs.Units.{unit_at, library_of}
use Rattle.lk_env.specs.Budgets.{budgets_of}
use Rattle.lk_uses.specs.Listed.{IsClosureList}
use Rattle.lk_closure.proofs.Least.{closure_earlier}
use Rattle.lk_book.specs.File.{export_at, export_of}
use Rattle.lk_trim.specs.Whole.{canonical_text, kept_of}
use Rattle.lk_text.specs.Named.{first_printed, unknown_line}
use Rattle.lk_readback.specs.Trimmed.{IsTrimmed, StatesAgain}
use Rattle.lk_readback.proofs.Trimmed.{trimmed_again}
use Rattle.leancheck.specs.declared.status.Status.TheVariants.{AllYes, NoSuchName}
use Rattle.leancheck.specs.Ends.{TellsTrimmed, IsTrimming}

-- a closure has units of the library alone
pub closure_below : (l : StoredLibrary) (n : ℕ) (ks : List ℕ) → IsClosureList (library_of l) n ks → n < length l.units
    → All (λ k. k < length l.units) ks
closure_below l n ks closure below =
    All-weaker (Contains ks) (λ k. k < length l.units)
    (λ k has. earlier k (closure_earlier (library_of l) n k (closure.each k has))) ks (All-contains_itself ks)
  where
    earlier : (k : ℕ) → k ≤ n → k < length l.units
    earlier k least = omega (arith, least, below)

below_plain : (l : StoredLibrary) (n : ℕ) → n < length l.units → n < length (library_of l)
below_plain l n below = subst (λ m. n < m) (sym (length-map l.units (unit_at (contents_of l.tables)))) below

-- the text of a closure is what is to be told of a unit
pub needed_text : (l : StoredLibrary) (bytes : List ℕ) (n : ℕ) (ks text : List ℕ) → export_of bytes ≡ Ok (export_at l)
    → n < length l.units → IsClosureList (library_of l) n ks
    → text ≡ canonical_text (kept_of (library_of l) (budgets_of l) ks) → IsTrimmed (export_at l) n text
needed_text l bytes n ks text reads below closure is = record {
  numbers = ks;
  closure = closure;
  text_is = is;
  again = λ within. subst (StatesAgain (export_at l) ks) (sym is) (trimmed_again bytes (export_at l) n ks reads (below_plain l n below) closure within);
}

pub needed_result : {A E : Type 0} (items : A → List ℕ) (l : StoredLibrary) (bytes : List ℕ) (n : ℕ) (ks given : List ℕ) (r : Result A E) → export_of bytes ≡ Ok (export_at l)
    → n < length l.units → IsClosureList (library_of l) n ks → given ≡ ks
    → IfOk r (λ v. items v ≡ canonical_text (kept_of (library_of l) (budgets_of l) given)) → IfOk r (λ v. IsTrimmed (export_at l) n (items v))
needed_result items l bytes n ks given (Err e) reads below closure same is = tt
needed_result items l bytes n ks given (Ok v) reads below closure same is =
    needed_text l bytes n ks (items v) reads below closure (is ∙ ap (λ ns. canonical_text (kept_of (library_of l) (budgets_of l) ns)) same)

-- what is told where a unit bears the name, and where none does
pub told_unit : (l : StoredLibrary) (bytes name : List ℕ) (n : ℕ) (text : List ℕ) → export_of bytes ≡ Ok (export_at l)
    → Some n ≡ first_printed 0 (library_of l) name → IsTrimmed (export_at l) n text → IsTrimming name bytes AllYes text
told_unit l bytes name n text reads first trimmed = record {
  export = export_at l;
  spelled = reads;
  told = subst (λ o. TellsTrimmed (export_at l) name o AllYes text) first (refl, trimmed);
}

pub told_none : (l : StoredLibrary) (bytes name text : List ℕ) → export_of bytes ≡ Ok (export_at l)
    → ◌≡◌ {A = Option ℕ} None (first_printed 0 (library_of l) name) → text ≡ unknown_line name → IsTrimming name bytes NoSuchName text
told_none l bytes name text reads first is = record {
  export = export_at l;
  spelled = reads;
  told = subst (λ o. TellsTrimmed (export_at l) name o NoSuchName text) first (refl, is);
}
