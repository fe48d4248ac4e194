-- The words for faults of the bytes, as they are written, and how a word is found.
use Rattle.std.specs.Prelude.{ℕ, List, [], ◌∷◌, Result, Ok, Err, codes, if◌then◌else◌}
use Rattle.std.specs.Str.{bytes_eq}
use Rattle.lk_lines.specs.declared.words.Word.{Word}
use Rattle.lk_lines.specs.declared.words.Word.TheVariants as word

abbrev pub word_text : Word → List ℕ
word_text word.BadVersion = codes "BadVersion"
word_text word.BadNumber = codes "BadNumber"
word_text word.UnknownTag = codes "UnknownTag"
word_text word.MissingField = codes "MissingField"
word_text word.ExtraField = codes "ExtraField"
word_text word.IndexTaken = codes "IndexTaken"
word_text word.IndexUnknown = codes "IndexUnknown"
word_text word.BadHex = codes "BadHex"
word_text word.LineTooLong = codes "LineTooLong"
word_text word.InputTooLong = codes "InputTooLong"
word_text word.TooManyItems = codes "TooManyItems"
word_text word.BadUtf8 = codes "BadUtf8"
word_text word.NumberTooLarge = codes "NumberTooLarge"
word_text word.BadWord = codes "BadWord"
word_text word.BadCount = codes "BadCount"
word_text word.BlockOpen = codes "BlockOpen"
word_text word.RepeatedMember = codes "RepeatedMember"
word_text word.TraceOrder = codes "TraceOrder"

-- what has this word, the first of a list; or this fault, where none has it
abbrev pub find_word : {A : Type 0} → Word → (A → List ℕ) → List A → List ℕ → Result A Word
find_word none word_of [] word = Err none
find_word none word_of (x ∷ xs) word =
    if bytes_eq word (word_of x) then Ok x else find_word none word_of xs word
