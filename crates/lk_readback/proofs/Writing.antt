-- Units that are written are read: the lines of their members stand behind those before, in order.
use Rattle.std.specs.Prelude.{◌≡◌, ◌+◌, false, List, [], length, All, Ok}
use Rattle.std.proofs.Common.{arith}
use Rattle.lk_book.specs.Course.{Course, passed}
use Rattle.lk_book.specs.File.{course_of}
use Rattle.lk_trim.specs.Written.{beginning}
use Rattle.lk_trim.specs.Whole.{Kept, write_all, canonical_text}
use Rattle.lk_readback.specs.Statable.{IsUnit, IsBudget}
use Rattle.lk_readback.specs.Within.{IsWithinLimits}
use Rattle.lk_readback.specs.Stated.{all_stated, said_by, AreFaultless, kept_units, kept_budgets}
use Rattle.lk_readback.proofs.Growing.{Fits}
use Rattle.lk_readback.proofs.Blocks.{all_state, length-stated}
use Rattle.lk_readback.proofs.Ends.{begun, beginning_read, read_to_end}

-- the text of units is read to its end, and these are the lines of members, and the budgets
pub record IsReadWhole (ks : List Kept) : Type 0 where
  pub course : Course
  pub read : course_of (canonical_text ks) ≡ Ok course
  pub lines : said_by course.state.lines ≡ all_stated (kept_units ks)
  pub budgets : course.state.budgets ≡ kept_budgets ks

pub canonical_is_read : (ks : List Kept) → All IsUnit (kept_units ks)
    → All IsBudget (kept_budgets ks) → AreFaultless (all_stated (kept_units ks))
    → IsWithinLimits ks → IsReadWhole ks
canonical_is_read ks units budgets faultless within =
    let text = canonical_text ks in
    let many = length-stated ks in
    let items = within.items in
    let states = all_state ks beginning units budgets in
    let fits : Fits (0 + length (all_stated (kept_units ks))) (write_all ks beginning) =
    record { lines = within.lines; input = within.input; items = omega arith } in
    let over = states.on [] begun beginning_read fits faultless in
    let input = within.input in
    let before = over.read.before in
    record {
      course = passed over.after 0 false;
      read = read_to_end text over.after over.read.leads over.read.begun (omega arith);
      lines = over.lines;
      budgets = over.budgets;
    }
