use Rattle.std.proofs.Common.{ℕ}
use Rattle.std.specs.Prelude.{Vec}
use Rattle.std.specs.declared.alloc.Global.{Global}
use Rattle.lk_reach.specs.Axioms.{IsListOf}
use Rattle.lk_uses.specs.Listed.{IsClosureList}
use Rattle.lk_env.specs.Units.{library_of}
use Rattle.lk_needs.specs.Marks.{IsMarkedUnit}
use Rattle.lk_needs.proofs.Listed.{if_ok}
use Rattle.lk_needs.proofs.Searching.{closure_listed}
use Rattle.lk_needs.proofs.closing.closure.Goals as goal

pub returns : goal.returns
returns c =
    let known = rw c.units-units.ensures.value at c.units-units.ensures.known in
    if_ok (λ (ks : Vec ℕ Global). IsListOf (IsMarkedUnit c.find_needs.new.needs) ks.items) (λ (ks : Vec ℕ Global). IsClosureList (library_of c.args.library.now) c.args.unit ks.items) c.list_units.result
    (λ ks h. closure_listed c.args.library.now c.args.unit c.find_needs.new.needs known c.in_ok-find_needs.ensures ks.items h) c.list_units.ensures
