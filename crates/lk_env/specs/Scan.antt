-- The tests that the trees of a unit have to pass.
use Rattle.std.specs.Prelude.{◌≡◌, ◌&&◌, List, Bool, Option, map}
use Rattle.std.specs.List.{list_all}
use Rattle.lk_tree.specs.Tree.{Tree}
use Rattle.lk_tree.specs.Scan.{is_bound, is_narrow}
use Rattle.lk_rulebook.specs.Units.{flaw_of}
use Rattle.lk_store.specs.Contents.{Contents, tree_at}
use Rattle.lk_env.specs.declared.scan.Test.{Test}
use Rattle.lk_env.specs.declared.scan.Test.TheVariants.{Closed, Narrow}
use Rattle.lk_tree.specs.declared.rule.Rule.{Rule}
use Rattle.lk_env.specs.declared.unit.Constructor.{Constructor}
use Rattle.lk_env.specs.declared.unit.BlockType.{BlockType}
use Rattle.lk_env.specs.declared.unit.RecursorRule.{RecursorRule}
use Rattle.lk_env.specs.declared.unit.Recursor.{Recursor}
use Rattle.lk_env.specs.declared.unit.Unit.{Unit as StoredUnit}
use Rattle.lk_env.specs.Units.{library_at}

abbrev pub passes : Test → Tree → Bool
passes Closed e = is_bound 0 e
passes Narrow e = is_narrow e

-- the types of a type's constructors pass
abbrev pub constructors_test : Contents → Test → BlockType → Bool
constructors_test c test t = list_all (λ (k : Constructor). passes test (tree_at c k.ty)) t.constructors.items

-- the trees of a recursor pass: its type and the right sides of its rules
abbrev pub recursor_test : Contents → Test → Recursor → Bool
recursor_test c test r = passes test (tree_at c r.ty) && list_all (λ (x : RecursorRule). passes test (tree_at c x.value)) r.rules.items

-- the flaw of each unit
abbrev pub AreFlaws : Contents → List StoredUnit → List (Option Rule) → Type 0
AreFlaws c us flaws = flaws ≡ map flaw_of (library_at c us)
