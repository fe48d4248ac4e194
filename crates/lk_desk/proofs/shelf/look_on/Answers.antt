use Rattle.std.proofs.Common.{sym, subst}
use Rattle.lk_desk.specs.Truth.{entries_of}
use Rattle.lk_desk.proofs.Truths.{all_spelled, found_true}
use Rattle.lk_store.specs.Layers.{layers_contents}
use Rattle.lk_desk.proofs.shelf.look_on.Goals as goal

pub made-found-requires-clause-spelled : goal.made-found-requires-clause-spelled
made-found-requires-clause-spelled g c = all_spelled (g.S.Shelf.job c.args.shelf.now) c.args.terms.now.base (entries_of c.in-Some.taken) c.requires.tables c.in-Some.ensures.some.0

pub returns-clause-some : goal.returns-clause-some
returns-clause-some g c =
    let new = c.made-found.new.terms in
    found_true (g.S.Shelf.job c.args.shelf.now) c.args.terms.now.base (layers_contents new) (entries_of c.in-Some.taken) c.args.key c.args.unit c.made-found.result
    c.requires.tables c.in-Some.ensures.some.0 c.made-found.ensures.some
