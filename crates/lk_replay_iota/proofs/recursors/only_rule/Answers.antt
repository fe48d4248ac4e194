use Rattle.std.proofs.Common.{sym, ◌∙◌}
use Rattle.lk_store.specs.Store.{contents_of}
use Rattle.lk_constructor.proofs.Giving.{entry_there, over_there}
use Rattle.lk_replay_iota.proofs.RuledForms.{ruled_known, ruled_steady}
use Rattle.lk_replay_iota.proofs.recursors.only_rule.Goals as goal

pub returns-clause-known : goal.returns-clause-known
returns-clause-known g c =
    let basis = (g.L.Looks.sight (g.L.Terms.rest c.args.looks.now)).basis in
    let l = g.L.Scope.Lends.lent c.scope.result.now in
    let d = g.L.Terms.contents c.args.looks.now in
    ruled_known (contents_of l.tables) d (over_there basis l d c.scope.ensures.is c.scope.ensures.over) c.only_of.result c.only_of.ensures.known

pub returns-clause-is : goal.returns-clause-is
returns-clause-is g c y h =
    let basis = (g.L.Looks.sight (g.L.Terms.rest c.args.looks.now)).basis in
    let l = g.L.Scope.Lends.lent c.scope.result.now in
    let d = g.L.Terms.contents c.args.looks.now in
    c.only_of.ensures.is y (entry_there basis l c.args.entry y c.scope.ensures.is h)
    ∙ sym (ruled_steady (contents_of l.tables) d (over_there basis l d c.scope.ensures.is c.scope.ensures.over) c.only_of.result c.only_of.ensures.known)
