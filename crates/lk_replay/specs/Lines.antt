-- Lines, one after another.
use Rattle.std.specs.Prelude.{◌≡◌, List, [], Option, Some, None, IfOk, Result}
use Rattle.lk_tree.specs.Tree.{Tree}
use Rattle.lk_rulebook.specs.Place.{Place}
use Rattle.lk_rulebook.specs.Claims.{Claim as PlainClaim}
use Rattle.lk_questions.specs.Tests.{◌>>=◌, test}
use Rattle.lk_written.specs.Line.{Line, ty, rd, cv}
use Rattle.lk_written.specs.Typing.{type_test}
use Rattle.lk_written.specs.Reducing.{red_test}
use Rattle.lk_written.specs.Equal.{eq_test}
use Rattle.lk_written.specs.Section.{are_fine, claims_by, line_at_fault}
use Rattle.lk_store.specs.declared.memory.NoMemory.{NoMemory}
use Rattle.lk_store.specs.Contents.{Contents, Extends}
use Rattle.lk_premises.specs.Claims.{claims_at, AreClaimsIn}
use Rattle.lk_replay.specs.declared.lines.Reading.{Reading}
use Rattle.lk_replay.specs.declared.lines.Reading.TheVariants.{Holds, Fails}

-- the line is an instance of its rule, where lines before it state ps
abbrev pub line_test : Place → List PlainClaim → Line → Option (Unit {0})
line_test w ps (ty r e T js) = type_test w ps r e T js
line_test w ps (rd r a b js) = red_test w ps r a b js
line_test w ps (cv r a b js) = eq_test w ps r a b js

abbrev pub left_of : Line → Tree
left_of (ty r e T js) = e
left_of (rd r a b js) = a
left_of (cv r a b js) = a

abbrev pub right_of : Line → Tree
right_of (ty r e T js) = T
right_of (rd r a b js) = b
right_of (cv r a b js) = b

-- the same, and its trees are closed and well scoped
abbrev pub line_read : Place → List PlainClaim → Line → Option (Unit {0})
line_read w ps l = do
  u ← test (are_fine (left_of l) (right_of l))
  line_test w ps l

-- each line holds, and these are the claims; or this is the first that does not
abbrev pub IsReading : Contents → Place → List Line → Reading → Type 0
IsReading c w ls (Holds ks) =
    AreClaimsIn c ks.items × (claims_by w [] ls ≡ Some (claims_at c ks.items))
    × (line_at_fault w [] 0 ls ≡ None)
IsReading c w ls (Fails i) = line_at_fault w [] 0 ls ≡ Some i

-- numbers stand for what they stood for, what no test changes is as it was, and lines were read
pub record ReadsLines {S R : Type 0} (contents : S → Contents) (standing : S → R) (old new : S)
    (result : Result Reading NoMemory) (w : Place) (ls : List Line) : Type 0 where
  pub keeps : Extends (contents old) (contents new)
  pub stays : standing new ≡ standing old
  pub ok : IfOk result (IsReading (contents new) w ls)
