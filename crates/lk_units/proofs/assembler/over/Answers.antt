use Rattle.std.proofs.Common.{refl, length}
use Rattle.std.proofs.lemmas.List.Elements.{All-nil}
use Rattle.lk_store.specs.Contents.{tree_at}
use Rattle.lk_env.specs.Units.{IsRuleIn}
use Rattle.lk_units.specs.Held.{IsPartIn}
use Rattle.lk_units.proofs.Holding.{none_below, none_numbered}
use Rattle.lk_units.proofs.assembler.over.Goals as goal

pub returns-clause-known : goal.returns-clause-known
returns-clause-known c store names levels = record {
  names_below = names;
  levels_below = levels;
  trees_below = none_below c.new.result (length store.trees) c.new.ensures;
  rules_below = none_below c.new-2.result (length c.new-3.result.items) c.new-2.ensures;
  rules_in = rw c.new-3.ensures.items (All-nil (IsRuleIn store));
  parts_in = rw c.new-4.ensures.items (All-nil (IsPartIn store));
  lines_in = rw c.new-5.ensures.lines (All-nil _);
  indexed = c.new-5.ensures.indexed;
  faultless = rw c.new-5.ensures.lines tt;
  budgets_in = rw c.new-6.ensures.items (All-nil _);
}

pub returns-clause-holds : goal.returns-clause-holds
returns-clause-holds c store names levels = record {
  names = names;
  levels = levels;
  trees = none_numbered c.new.result (tree_at store) c.new.ensures;
  rules = none_numbered c.new-2.result _ c.new-2.ensures;
  parts = rw c.new-4.ensures.items refl;
  lines = rw c.new-5.ensures.lines refl;
  budgets = rw c.new-6.ensures.items refl;
  count = refl;
}
