-- Core of Quot.lift and Quot.ind that are applied.
use Rattle.std.specs.Prelude.{Bool, true, false, List, [], ◌∷◌, if◌then◌else◌}
use Rattle.lk_tree.specs.Tree.{Name, Tree, const, app}
use Rattle.lk_tree.specs.Spine.{apply, head, args}
use Rattle.lk_tree.specs.declared.rule.Rule.TheVariants.{UnknownConstant}
use Rattle.lk_rulebook.specs.Place.{Kind, a_quot}
use Rattle.lk_rulebook.specs.Names.{quot_mk, quot_lift, quot_ind}
use Rattle.lk_tree.specs.Mentions.{same_name}
use Rattle.lk_questions.specs.Query.{core, whnf}
use Rattle.lk_questions.specs.Program.{Program, done, look, asked, ◌>>=◌}

abbrev pub by_quot : Kind → Bool
by_quot a_quot = true
by_quot _ = false

-- the major premise of e is h xs in weak head form: where that is Quot.mk A r a, Core of f a rest
abbrev pub at_mk : Tree → Tree → List Tree → Tree → List Tree → Program Tree
at_mk e f rest (const c ks) (A ∷ r ∷ a ∷ []) =
    if same_name c quot_mk
    then (look UnknownConstant quot_mk λ g. if by_quot g.kind then asked (core (apply (app f a) rest)) else done e)
    else done e
at_mk e f rest _ _ = done e

abbrev pub at_major : Tree → Tree → Tree → List Tree → Program Tree
at_major e f major rest = do
  m ← asked (whnf major)
  at_mk e f rest (head m) (args m)

abbrev pub core_lift : Tree → List Tree → Program Tree
core_lift e (A ∷ r ∷ B ∷ f ∷ h ∷ major ∷ rest) = at_major e f major rest
core_lift e _ = done e

abbrev pub core_ind : Tree → List Tree → Program Tree
core_ind e (A ∷ r ∷ B ∷ h ∷ major ∷ rest) = at_major e h major rest
core_ind e _ = done e

-- e is c applied to these arguments, c given by a quot unit
abbrev pub core_quot : Tree → Name → List Tree → Program Tree
core_quot e c xs = if same_name c quot_lift then core_lift e xs else (if same_name c quot_ind then core_ind e xs else done e)
