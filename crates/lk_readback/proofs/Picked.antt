-- The units that are kept, picked by their numbers from units that can be stated.
use Rattle.std.specs.Prelude.{ℕ, ◌≡◌, List, All, Result, Ok, Err, Some, None}
use Rattle.std.specs.Prelude.{slice_get}
use Rattle.std.specs.declared.option.Option.{Option}
use Rattle.std.proofs.Common.{refl, ap, subst}
use Rattle.lk_tree.specs.Mentions.{same_name}
use Rattle.lk_lines.specs.declared.line.Fault.{Fault}
use Rattle.lk_members.specs.Faults.{first_open}
use Rattle.lk_members.specs.Plain.{PlainLine, library_stated}
use Rattle.lk_book.specs.Course.{Course}
use Rattle.lk_rulebook.specs.Units.{Library}
use Rattle.lk_env.specs.Budgets.{StatedBudget}
use Rattle.lk_uses.specs.Listed.{units_at}
use Rattle.lk_book.specs.File.{Export, after, closed, export_stated, course_of, export_of}
use Rattle.lk_trim.specs.Whole.{kept_of}
use Rattle.lk_readback.specs.Statable.{AreStatable, IsBudget}
use Rattle.lk_readback.specs.Stated.{kept_units, kept_budgets}
use Rattle.lk_readback.proofs.Members.{AreMembers, HaveNoFault, read_members, read_without_fault}
use Rattle.lk_readback.proofs.Members.{read_budgets_in}
use Rattle.lk_readback.proofs.Gathered.{gathered_statable}
use Rattle.lk_readback.proofs.KeptUnits.{units_kept, picked_each, picked_apart}
use Rattle.lk_readback.proofs.KeptBudgets.{budgets_kept}

-- no number stands twice
pub record AreApart (ns : List ℕ) : Type 0 where
  pub apart : (i j n : ℕ) → slice_get ns i ≡ Some n → slice_get ns j ≡ Some n → i ≡ j

pub kept_units_are : (us : Library) (bs : List StatedBudget) (ns : List ℕ)
    → kept_units (kept_of us bs ns) ≡ units_at us ns
kept_units_are us bs ns = units_kept us bs ns

pub picked_statable : (us : Library) (ns : List ℕ) → AreStatable us → AreApart ns
    → AreStatable (units_at us ns)
picked_statable us ns statable apart =
    record {
      each = picked_each us ns statable.each;
      apart = picked_apart us ns statable.apart apart.apart;
    }

pub kept_budgets_are : (us : Library) (bs : List StatedBudget) (ns : List ℕ) → AreStatable us
    → All IsBudget bs → All IsBudget (kept_budgets (kept_of us bs ns))
kept_budgets_are us bs ns statable budgets = budgets_kept us bs ns statable.each budgets

stated_statable : (o : Option ℕ) (ls : List PlainLine) (bs : List StatedBudget) (e : Export)
    → AreMembers ls → HaveNoFault ls → first_open same_name ls ls ≡ o
    → after (closed o ls) (λ us. Ok (record { units = us; budgets = bs })) ≡ Ok e
    → AreStatable e.units
stated_statable None ls bs e members faultless none q =
    let same : record { units = library_stated ls; budgets = bs } ≡ e = cc in
    let is : library_stated ls ≡ e.units = ap (λ (x : Export). x.units) same in
    subst AreStatable is (gathered_statable ls members faultless none)
stated_statable (Some n) ls bs e members faultless none q = absurd cc

course_statable : (r : Result Course Fault) (e : Export)
    → ((c : Course) → r ≡ Ok c → AreMembers c.state.lines)
    → ((c : Course) → r ≡ Ok c → HaveNoFault c.state.lines)
    → after r (λ c. export_stated c.state) ≡ Ok e → AreStatable e.units
course_statable (Ok c) e members faultless q =
    stated_statable (first_open same_name c.state.lines c.state.lines) c.state.lines c.state.budgets
    e (members c refl) (faultless c refl) refl q
course_statable (Err f) e members faultless q = absurd cc

pub read_statable : (bytes : List ℕ) (e : Export) → export_of bytes ≡ Ok e → AreStatable e.units
read_statable bytes e read =
    course_statable (course_of bytes) e (read_members bytes) (read_without_fault bytes) read

stated_budgets : (o : Option ℕ) (ls : List PlainLine) (bs : List StatedBudget) (e : Export)
    → All IsBudget bs → after (closed o ls) (λ us. Ok (record { units = us; budgets = bs })) ≡ Ok e
    → All IsBudget e.budgets
stated_budgets None ls bs e budgets q =
    let same : record { units = library_stated ls; budgets = bs } ≡ e = cc in
    let is : bs ≡ e.budgets = ap (λ (x : Export). x.budgets) same in
    subst (λ x. All IsBudget x) is budgets
stated_budgets (Some n) ls bs e budgets q = absurd cc

course_budgets : (r : Result Course Fault) (e : Export)
    → ((c : Course) → r ≡ Ok c → All IsBudget c.state.budgets)
    → after r (λ c. export_stated c.state) ≡ Ok e → All IsBudget e.budgets
course_budgets (Ok c) e budgets q =
    stated_budgets (first_open same_name c.state.lines c.state.lines) c.state.lines c.state.budgets
    e (budgets c refl) q
course_budgets (Err f) e budgets q = absurd cc

pub read_budgets : (bytes : List ℕ) (e : Export) → export_of bytes ≡ Ok e → All IsBudget e.budgets
read_budgets bytes e read = course_budgets (course_of bytes) e (read_budgets_in bytes) read
