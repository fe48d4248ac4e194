-- What the lines of a file that is read state, one by one.
use Rattle.std.specs.Prelude.{ℕ, ◌≡◌, List, All, Ok}
use Rattle.lk_book.specs.Course.{Course}
use Rattle.lk_book.specs.File.{course_of}
use Rattle.lk_readback.specs.Statable.{IsBudget}
use Rattle.lk_readback.proofs.SmallCourses.{small_course}
pub use Rattle.lk_readback.proofs.SmallMembers.{IsHead, IsCtorLine, IsMember, AreMembers}
pub use Rattle.lk_readback.proofs.SmallMembers.{HaveNoFault}

pub read_members : (bytes : List ℕ) (c : Course) → course_of bytes ≡ Ok c
    → AreMembers c.state.lines
read_members bytes c read = let small = small_course bytes c read in small.lines

pub read_without_fault : (bytes : List ℕ) (c : Course) → course_of bytes ≡ Ok c
    → HaveNoFault c.state.lines
read_without_fault bytes c read = let small = small_course bytes c read in small.faultless

pub read_budgets_in : (bytes : List ℕ) (c : Course) → course_of bytes ≡ Ok c
    → All IsBudget c.state.budgets
read_budgets_in bytes c read = let small = small_course bytes c read in small.budgets
