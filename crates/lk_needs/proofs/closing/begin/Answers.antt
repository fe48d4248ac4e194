use Rattle.std.proofs.Common.{◌∙◌}
use Rattle.std.proofs.lemmas.Result.{on_ok_weaker}
use Rattle.lk_needs.proofs.Searching.{starts_in, begun}
use Rattle.lk_needs.proofs.closing.begin.Goals as goal

pub enter_all-requires : goal.enter_all-requires
enter_all-requires c =
    let listed = rw c.base.ensures at c.in_ok-list_builtins.ensures in
    starts_in c.args.library.now c.args.unit c.requires.unit_in c.args.needs.now c.list_builtins.new.things.items c.deref.result.now listed (c.deref.ensures.value ∙ c.in_ok-push.ensures.items) c.requires.unmarked.room

pub returns : goal.returns
returns c =
    let listed = rw c.base.ensures at c.in_ok-list_builtins.ensures in
    on_ok_weaker c.enter_all.result (λ e. begun c.args.library.now c.args.unit c.requires.unit_in c.args.needs.now c.enter_all.new.self c.list_builtins.new.things.items c.deref.result.now
    c.requires.unmarked listed (c.deref.ensures.value ∙ c.in_ok-push.ensures.items) e) c.enter_all.ensures
