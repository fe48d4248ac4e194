use Rattle.std.proofs.Common.{◌≡◌, take, true}
use Rattle.std.specs.List.{list_all}
use Rattle.lk_store.specs.Store.{contents_of}
use Rattle.lk_scan.specs.Walks.{names_of, AreOver}
use Rattle.lk_scan.specs.Members.{rule_over}
use Rattle.lk_scan.proofs.trees.rules_over.Given as goal

abbrev pub invariant-loop-rule : goal.invariant-loop-rule
invariant-loop-rule l =
    let c = contents_of l.base in
    let ps = names_of c l.declared in
    record {
      met_over : AreOver c ps l.met;
      so_far : list_all (rule_over c ps) (take l.rule-index l.rules) ≡ true;
    }
