-- What a line makes of a course.
use Rattle.std.proofs.Common.{ℕ, Ok, Err, refl}
use Rattle.std.specs.Prelude.{false}
use Rattle.lk_store.specs.Contents.{Contents}
use Rattle.lk_lines.specs.Items.{Item}
use Rattle.lk_lines.specs.Says.{OfItem}
use Rattle.lk_units.specs.State.{take_item}
use Rattle.lk_units.specs.Held.{Follows}
use Rattle.lk_units.specs.declared.assembler.Assembler.{Assembler}
use Rattle.lk_units.specs.declared.assembler.TakeError.{TakeError}
use Rattle.lk_units.specs.declared.assembler.TakeError.TheVariants as take_errors
use Rattle.lk_book.specs.Course.{Course, taken, at_line}
use Rattle.lk_book.specs.Courses.{Goes}
use Rattle.lk_book.specs.Passing.{Stands, line_error}
use Rattle.lk_book.specs.declared.reader.Reader.{Reader}

pub item_goes : (r : Reader) (a : Assembler) (store grown : Contents) (c : Course) (number : ℕ) (item : Item) → Stands r store c → Follows a grown (Ok tt) (take_item c.number c.state item)
    → Goes (Stands (record r { assembler = a; first = false }) grown) (Ok tt) (at_line number (taken c (OfItem item)))
item_goes r a store grown c number item h f = (record c { first = false; state = f.0 }, rw f.1 refl, record { dialect = h.dialect; first = refl; number = h.number; before = h.before; holds = f.2 })

pub item_stops : (r : Reader) (a : Assembler) (grown : Contents) (c : Course) (number : ℕ) (item : Item) (e : TakeError) → Follows a grown (Err e) (take_item c.number c.state item)
    → Goes (Stands r grown) (Err (line_error number e)) (at_line number (taken c (OfItem item)))
item_stops r a grown c number item take_errors.NoMemory f = tt
item_stops r a grown c number item (take_errors.Fault w) f = rw f refl
