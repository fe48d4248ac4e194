-- No line of a library has a tag of derivations.
use Rattle.std.proofs.Common.{◌≡◌, ◌≢◌, ℕ, ◌^◌, Bool, List, Ok, refl}
use Rattle.std.specs.Prelude.{Contains}
use Rattle.std.specs.List.{AllByRecursion}
use Rattle.std.proofs.lemmas.List.Elements.{All-from_recursion, All-contains}
use Rattle.lk_lines.specs.FileNumbers.{narrow}
use Rattle.lk_lines.specs.declared.line.Statement.{Statement}
use Rattle.lk_lines.specs.declared.line.Statement.TheVariants as statement
use Rattle.lk_lines.specs.declared.tags.Tag.{Tag}
use Rattle.lk_lines.specs.declared.tags.Tag.TheVariants as tag
use Rattle.lk_lines.specs.declared.tags.Dialect.{Dialect}
use Rattle.lk_lines.specs.declared.tags.Dialect.TheVariants.{Export, Rounds, Text, Trace}
use Rattle.lk_lines.specs.Tags.{numbered_tags, plain_tags}
use Rattle.lk_lines.specs.Says.{said_in}
use Rattle.lk_lines.specs.Views.{says_of}
use Rattle.lk_lines.proofs.LineFeedLaws.{said_spelled}
use Rattle.lk_book.specs.Passing.{IsLibraryLine}

-- a tag that a library may have
abbrev IsLibraryTag : Tag → Type 0
IsLibraryTag tag.Trace = ⊥
IsLibraryTag tag.Section = ⊥
IsLibraryTag tag.Parts = ⊥
IsLibraryTag tag.Local = ⊥
IsLibraryTag (tag.Derivation f) = ⊥
IsLibraryTag t = Unit {0}

each_plain : (d : Dialect) → d ≢ Trace → AllByRecursion IsLibraryTag (plain_tags d)
each_plain Export h = (tt, (tt, (tt, (tt, (tt, (tt, (tt, (tt, (tt, tt)))))))))
each_plain Rounds h = (tt, (tt, (tt, (tt, (tt, (tt, (tt, (tt, (tt, tt)))))))))
each_plain Text h = (tt, (tt, (tt, (tt, (tt, (tt, (tt, (tt, tt))))))))
each_plain Trace h = absurd (h refl)

each_numbered : (d : Dialect) → d ≢ Trace → AllByRecursion IsLibraryTag (numbered_tags d)
each_numbered Export h =
    (tt, (tt, (tt, (tt, (tt, (tt, (tt, (tt, (tt, (tt, (tt, (tt, (tt, (tt, (tt, (tt, (tt, tt)))))))))))))))))
each_numbered Rounds h =
    (tt, (tt, (tt, (tt, (tt, (tt, (tt, (tt, (tt, (tt, (tt, (tt, (tt, (tt, (tt, (tt, (tt, tt)))))))))))))))))
each_numbered Text h =
    (tt, (tt, (tt, (tt, (tt, (tt, (tt, (tt, (tt, (tt, (tt, (tt, (tt, (tt, (tt, (tt, (tt, tt)))))))))))))))))
each_numbered Trace h = absurd (h refl)

plain_is : (d : Dialect) (t : Tag) → d ≢ Trace → Contains (plain_tags d) t → IsLibraryTag t
plain_is d t h among =
    All-contains IsLibraryTag (plain_tags d) t (All-from_recursion IsLibraryTag (plain_tags d) (each_plain d h)) among

numbered_is : (d : Dialect) (t : Tag) → d ≢ Trace → Contains (numbered_tags d) t → IsLibraryTag t
numbered_is d t h among =
    All-contains IsLibraryTag (numbered_tags d) t (All-from_recursion IsLibraryTag (numbered_tags d) (each_numbered d h)) among

pub library_line : (d : Dialect) (first : Bool) (bytes : List ℕ) (s : Statement ℕ) → d ≢ Trace
    → said_in d first bytes ≡ Ok (says_of narrow s) → IsLibraryLine s
library_line d first bytes statement.Trace h e =
    let s = said_spelled (2 ^ 32) d first bytes _ e in plain_is d tag.Trace h s.0
library_line d first bytes (statement.Local own number type) h e =
    let s = said_spelled (2 ^ 32) d first bytes _ e in numbered_is d tag.Local h s.2.0
library_line d first bytes (statement.Section unit) h e =
    let s = said_spelled (2 ^ 32) d first bytes _ e in plain_is d tag.Section h s.0
library_line d first bytes (statement.Derivation own line) h e =
    let s = said_spelled (2 ^ 32) d first bytes _ e in numbered_is d _ h s.2.0
library_line d first bytes (statement.Parts premises) h e =
    let s = said_spelled (2 ^ 32) d first bytes _ e in plain_is d tag.Parts h s.0
library_line d first bytes s h e = tt
