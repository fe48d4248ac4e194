-- Same by unfolding, and the ranks by which it is chosen which side unfolds.
use Rattle.std.specs.Prelude.{ℕ, Bool, true, false, nat_lt, nat_eq, ◌&&◌, List, length, Option, Some, None, if◌then◌else◌}
use Rattle.lk_tree.specs.Tree.{Name, name_discrete, Level, Tree, const}
use Rattle.lk_tree.specs.Spine.{apply, head, args}
use Rattle.lk_tree.specs.declared.rule.Rule.TheVariants.{UnknownConstant}
use Rattle.lk_rulebook.specs.Place.{Entry, Kind, Hint, opaque_hint, abbreviation, regular, a_def, a_thm}
use Rattle.lk_questions.specs.Query.{same}
use Rattle.lk_questions.specs.Program.{Program, done, look, asked, ◌>>=◌}
use Rattle.lk_questions.specs.Steps.{decided, with_levels}
use Rattle.lk_questions.specs.Levels.{complete_test, levels_equal}
use Rattle.lk_questions.specs.Pairs.{same_all, Line, answers, answers_yes, ◌or_else◌, goes_on}

-- opaque hints and theorems, then regular hints by their heights, then abbreviations
pub data Rank : Type 0 where
  lowest : Rank
  height : ℕ → Rank
  highest : Rank

abbrev pub is_less : Rank → Rank → Bool
is_less lowest lowest = false
is_less lowest (height n) = true
is_less lowest highest = true
is_less (height m) lowest = false
is_less (height m) (height n) = nat_lt m n
is_less (height m) highest = true
is_less highest _ = false

abbrev pub rank_of_hint : Hint → Rank
rank_of_hint opaque_hint = lowest
rank_of_hint (regular n) = height n
rank_of_hint abbreviation = highest

-- what a term whose head is a def or thm unfolds by
pub record Unfolding : Type 0 where
  pub name : Name
  pub levels : List Level
  pub entry : Entry
  pub value : Tree
  pub rank : Rank

abbrev pub unfolding_by : Name → List Level → Entry → Kind → Option Unfolding
unfolding_by c ls g (a_def h v) = Some (record { name = c; levels = ls; entry = g; value = v; rank = rank_of_hint h })
unfolding_by c ls g (a_thm v) = Some (record { name = c; levels = ls; entry = g; value = v; rank = lowest })
unfolding_by c ls g _ = None

abbrev pub unfolding_of : Tree → Program (Option Unfolding)
unfolding_of (const c ls) = look UnknownConstant c λ g. done (unfolding_by c ls g g.kind)
unfolding_of _ = done None

abbrev pub unfold_with : Unfolding → Tree → Program Tree
unfold_with u e = do
  v ← with_levels u.entry u.levels u.value
  done (apply v (args e))

abbrev pub unfold_both : Tree → Tree → Unfolding → Unfolding → Program Bool
unfold_both a b u v = do
  a' ← unfold_with u a
  b' ← unfold_with v b
  asked (same a' b')

abbrev pub unfold_first : Tree → Tree → Unfolding → Program Bool
unfold_first a b u = do
  a' ← unfold_with u a
  asked (same a' b)

abbrev pub unfold_second : Tree → Tree → Unfolding → Program Bool
unfold_second a b v = do
  b' ← unfold_with v b
  asked (same a b')

-- whether the heads are one constant at equal levels, with as many arguments, which are the same pair by pair
abbrev pub same_by_arguments : Tree → Tree → Unfolding → Unfolding → Program Bool
same_by_arguments a b u v =
    if decided (name_discrete u.name v.name)
    then (do
      one ← levels_equal complete_test u.levels v.levels
      if one && nat_eq (length (args a)) (length (args b)) then same_all (args a) (args b) else done false)
    else done false

abbrev pub by_ranks : Tree → Tree → Option Unfolding → Option Unfolding → Line
by_ranks a b None None = goes_on
by_ranks a b (Some u) None = answers (unfold_first a b u)
by_ranks a b None (Some v) = answers (unfold_second a b v)
by_ranks a b (Some u) (Some v) =
    if is_less u.rank v.rank then answers (unfold_second a b v)
    else (if is_less v.rank u.rank then answers (unfold_first a b u)
    else answers (answers_yes (same_by_arguments a b u v) or_else unfold_both a b u v))

-- the side of the greater rank unfolds
abbrev pub by_unfolding : Tree → Tree → Line
by_unfolding a b = do
  u ← unfolding_of (head a)
  v ← unfolding_of (head b)
  by_ranks a b u v
