-- A line that is too long, or goes beyond the input's limit, is at fault by that alone.
use Rattle.std.specs.Prelude.{◌≡◌, ℕ, ◌+◌, Bool, List, length, Err, Some}
use Rattle.std.proofs.Common.{ap}
use Rattle.lk_store.specs.Contents.{Contents}
use Rattle.lk_lines.specs.declared.words.Word.{Word}
use Rattle.lk_lines.specs.Limits.{limits}
use Rattle.lk_lines.specs.Reading.{◌>>=◌}
use Rattle.lk_lines.specs.Says.{said_in}
use Rattle.lk_book.specs.Course.{Course, passed, taken, unless, at_line, step}
use Rattle.lk_book.specs.Passing.{Stands}
use Rattle.lk_book.specs.declared.reader.Reader.{Reader}

pub limited : (r : Reader) (store : Contents) (c : Course) (feed : Bool) (line : List ℕ) (w : Word)
    → Stands r store c → limits r.before (length line) feed ≡ Some w
    → step c feed line ≡ Err (record { line = r.number + 1; word = w })
unfolding step
limited r store c feed line w h e =
    let long : limits c.before (length line) feed ≡ Some w = rw h.before at e in
    rw h.number (ap (λ o. at_line (c.number + 1) (unless o (said_in c.dialect c.first line
    >>= taken (passed c (length line) feed)))) long)
