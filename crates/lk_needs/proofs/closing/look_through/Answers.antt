use Rattle.std.proofs.Common.{subst, sym}
use Rattle.std.proofs.lemmas.Result.{on_ok_weaker}
use Rattle.lk_needs.specs.Leads.{Leads}
use Rattle.lk_needs.proofs.Opened.{all_things, opened}
use Rattle.lk_needs.proofs.closing.look_through.Goals as goal

pub enter_all-requires : goal.enter_all-requires
enter_all-requires c =
    all_things c.args.library.now c.args.unit c.args.thing c.args.needs.now c.deref.result.now c.requires.unit_in c.requires.room (subst (Leads c.args.library.now c.args.unit c.args.thing) (sym c.deref.ensures.value) c.in_ok-list_things.ensures)

pub returns : goal.returns
returns c =
    on_ok_weaker c.enter_all.result (λ e. opened c.args.library.now c.args.unit c.args.thing c.args.needs.now c.enter_all.new.self c.deref.result.now
    (subst (Leads c.args.library.now c.args.unit c.args.thing) (sym c.deref.ensures.value) c.in_ok-list_things.ensures) e) c.enter_all.ensures
