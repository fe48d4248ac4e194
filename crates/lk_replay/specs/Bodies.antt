-- What is due of a declaration by its kind.
use Rattle.std.specs.Prelude.{ℕ, Bool, false, ◌&&◌, List, [], Option}
use Rattle.lk_tree.specs.Tree.{Level, Tree}
use Rattle.lk_tree.specs.Level.{is_zero_level}
use Rattle.lk_rulebook.specs.Place.{Place}
use Rattle.lk_rulebook.specs.Units.{Decl, LibraryUnit, of_decl, of_block, Library, place_of}
use Rattle.lk_rulebook.specs.Scan.{is_none, scan_of}
use Rattle.lk_rulebook.specs.Claims.{Claim}
use Rattle.lk_questions.specs.QuotientUnits.{quot_steps}
use Rattle.lk_questions.specs.NumberLaws.{lawful_op}
use Rattle.lk_questions.specs.Tests.{◌>>=◌, test, found, passes}
use Rattle.lk_written.specs.Premises.{Left, ends}
use Rattle.lk_written.specs.Section.{value_read, value_test, laws_test, parts_test}
use Rattle.lk_store.specs.Contents.{Contents}
use Rattle.lk_env.specs.declared.unit.Declaration.{Declaration}
use Rattle.lk_env.specs.Units.{declared_levels, IsStatedIn, IsBodyIn}

-- its names and trees are numbers of the store
abbrev pub IsDeclarationIn : Contents → Declaration → Type 0
IsDeclarationIn c d = IsStatedIn c d.name (declared_levels d) d.ty × IsBodyIn c d.body

-- it is one of the four constants of quotient types, and no premise is left
abbrev pub quotient_test : Place → Left → Decl → Option (Unit {0})
quotient_test w js d = do
  u ← found w (quot_steps d.name d.levels d.type)
  ends js

-- a definition's value is of its type, and meets the laws that are due
abbrev pub definition_test : Place → List Claim → Left → Decl → Tree → Option (Unit {0})
definition_test w ps js d value = do
  r ← value_read ps js d.type value
  laws_test w ps r (lawful_op d.name) d.levels value

-- a theorem's type, whose sort has this level, is a proposition, and the proof is of it
abbrev pub proof_test : List Claim → Left → Level → Tree → Tree → Option (Unit {0})
proof_test ps js l type proof = do
  u ← test (is_zero_level l)
  value_test ps js type proof

-- the last line of a section of unit n, whose lines state these claims
abbrev pub end_test : Library → ℕ → LibraryUnit → List Claim → Left → Bool
end_test us n (of_decl d) ps js =
    is_none (scan_of us n (of_decl d)) && passes (parts_test (place_of us n []) ps js d)
end_test us n (of_block b rs) ps js = false
