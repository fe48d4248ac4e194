-- The first nested occurrence in a tree that is not among those which were met.
use Rattle.std.specs.Prelude.{Bool, true, false, List}
use Rattle.lk_tree.specs.Tree.{Name, Tree, app, lam, pi, let_in, proj}
use Rattle.lk_tree.specs.declared.rule.Rule.{Rule}
use Rattle.lk_rulebook.specs.Place.{Place}
use Rattle.lk_inductive.specs.BlockSteps.{is_among}
use Rattle.lk_nested.specs.Occurrences.{Test, passes, occurs, fails, test_at}

-- there is none; it is this one; or a look-up before it is refused
pub data First : Type 0 where
  nothing : First
  new : Tree → First
  refused_by : Rule → First

-- the one, or else the other
abbrev pub first_of : First → First → First
first_of nothing q = q
first_of (new o) q = new o
first_of (refused_by r) q = refused_by r

-- e is tested, and was met or not; below: what is found in its parts
abbrev pub by_test : Test → Bool → Tree → First → First
by_test passes met e below = below
by_test (occurs J ls b t) true e below = nothing
by_test (occurs J ls b t) false e below = new e
by_test (fails r) met e below = refused_by r

abbrev pub first_unmet : Place → List Name → List Tree → Tree → First
first_unmet w ns met (app f a) = by_test (test_at w ns (app f a)) (is_among (app f a) met) (app f a) (first_of (first_unmet w ns met f) (first_unmet w ns met a))
first_unmet w ns met (lam A b) = first_of (first_unmet w ns met A) (first_unmet w ns met b)
first_unmet w ns met (pi A B) = first_of (first_unmet w ns met A) (first_unmet w ns met B)
first_unmet w ns met (let_in A v b) = first_of (first_unmet w ns met A) (first_of (first_unmet w ns met v) (first_unmet w ns met b))
first_unmet w ns met (proj S i s) = first_unmet w ns met s
first_unmet w ns met e = nothing
