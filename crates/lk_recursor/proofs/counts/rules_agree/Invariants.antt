use Rattle.std.proofs.Common.{◌≡◌, length, map, All}
use Rattle.lk_store.specs.Contents.{tree_at}
use Rattle.lk_env.specs.Units.{rule_at, IsRuleIn}
use Rattle.lk_inductive.specs.Block.{Shape as PlainShape}
use Rattle.lk_inductive.specs.Recursors.{rules_of}
use Rattle.lk_inductive.specs.Compare.{same_rules}
use Rattle.lk_block.specs.Shapes.{constructor_shape_at, IsConstructorShapeIn}
use Rattle.lk_restore.specs.Originals.{restoring_at}
use Rattle.lk_recursor.proofs.counts.rules_agree.Given as goal

abbrev pub invariant-constructors : goal.invariant-constructors
invariant-constructors g l =
    let c = g.T.Terms.contents l.terms in
    record {
      left_in : All (IsRuleIn c) l.left;
      rest_in : All (IsConstructorShapeIn c) l.rest;
      same : (s : PlainShape) → same_rules (map (rule_at c) l.rules) (rules_of (restoring_at c l.fn.originals s) s (map (tree_at c) l.minors) (map (constructor_shape_at c) l.constructors))
          ≡ same_rules (map (rule_at c) l.left) (rules_of (restoring_at c l.fn.originals s) s (map (tree_at c) l.premises) (map (constructor_shape_at c) l.rest));
    }

abbrev pub decreases-constructors : goal.decreases-constructors
decreases-constructors g l = length l.rest
