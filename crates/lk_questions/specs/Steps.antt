-- Pieces that several questions share.
use Rattle.std.specs.Prelude.{Bool, true, false, nat_eq, List, length, Option, Some, None}
use Rattle.lk_tree.specs.Tree.{Name, Level, Tree, sort, pi}
use Rattle.lk_tree.specs.declared.rule.Rule.{Rule}
use Rattle.lk_tree.specs.declared.rule.Rule.TheVariants.{LevelCount, NotASort}
use Rattle.lk_tree.specs.Levels.{put_levels}
use Rattle.lk_rulebook.specs.Place.{Entry, Kind, a_def, a_thm, an_axiom, an_opaque, a_quot, a_type, a_ctor, a_rec}
pub use Rattle.lk_rulebook.specs.SameTree.{decided, is_same_tree}
use Rattle.lk_questions.specs.Query.{whnf, infer}
use Rattle.lk_questions.specs.Program.{Program, done, refuse, asked, ◌>>=◌}

-- p where the test holds, else refused by r
abbrev pub given : {A : Type 0} → Bool → Rule → Program A → Program A
given true r p = p
given false r p = refuse r

abbrev pub as_sort : Tree → Program Level
as_sort (sort l) = done l
as_sort _ = refuse NotASort

abbrev pub as_pi : Rule → Tree → Program (Tree × Tree)
as_pi r (pi A B) = done (A, B)
as_pi r _ = refuse r

-- sort(e)
abbrev pub sort_of : Tree → Program Level
sort_of e = do
  T ← asked (infer e)
  S ← asked (whnf T)
  as_sort S

-- t{ls}, with these level parameters
abbrev pub with_params : List Name → List Level → Tree → Program Tree
with_params ps ls t = given (nat_eq (length ls) (length ps)) LevelCount (done (put_levels ps ls t))

-- t{ls}, with the level parameters of the entry
abbrev pub with_levels : Entry → List Level → Tree → Program Tree
with_levels e ls t = with_params e.levels ls t

-- the value of a def or thm
abbrev pub value_of : Kind → Option Tree
value_of (a_def h v) = Some v
value_of (a_thm v) = Some v
value_of an_axiom = None
value_of (an_opaque v) = None
value_of a_quot = None
value_of (a_type b i) = None
value_of (a_ctor b i c) = None
value_of (a_rec r) = None
