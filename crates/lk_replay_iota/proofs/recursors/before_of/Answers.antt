use Rattle.std.proofs.Common.{Some, option_map, sym, ap, ◌∙◌}
use Rattle.lk_rulebook.specs.Structures.{before_major}
use Rattle.lk_store.specs.Store.{contents_of}
use Rattle.lk_constructor.proofs.Giving.{entry_there}
use Rattle.lk_replay_iota.proofs.recursors.before_of.Goals as goal

pub returns-in-Some : goal.returns-in-Some
returns-in-Some g c y h =
    let basis = (g.L.Looks.sight (g.L.Terms.rest c.args.looks.now)).basis in
    let l = g.L.Scope.Lends.lent c.scope.result.now in
    ap (option_map before_major) (c.in-Some.ensures.value y (entry_there basis l c.args.entry y c.scope.ensures.is h))
    ∙ ap Some (sym (c.count_before.ensures (contents_of l.tables) c.in-Some.field-0-1.now))

pub returns-in-None : goal.returns-in-None
returns-in-None g c y h =
    let basis = (g.L.Looks.sight (g.L.Terms.rest c.args.looks.now)).basis in
    let l = g.L.Scope.Lends.lent c.scope.result.now in
    ap (option_map before_major) (c.in-None.ensures.value y (entry_there basis l c.args.entry y c.scope.ensures.is h))
