-- The limits on the length of a line and of the input.
use Rattle.std.specs.Prelude.{ℕ, ◌+◌, ◌^◌, Bool, Some, None, nat_lt, if◌then◌else◌}
use Rattle.std.specs.declared.option.Option.{Option}
use Rattle.lk_lines.specs.declared.words.Word.{Word}
use Rattle.lk_lines.specs.declared.words.Word.TheVariants.{LineTooLong, InputTooLong}

-- The fault of a line of this length with so many bytes of the input before it. Its line feed, where it has one, counts
-- for the input and not for the line. The input's limit comes first.
abbrev pub limits : ℕ → ℕ → Bool → Option Word
limits before length feed =
    if nat_lt (2 ^ 40) (before + length + (if feed then 1 else 0)) then Some InputTooLong
    else if nat_lt (2 ^ 24) length then Some LineTooLong
    else None
