use Rattle.lk_units.proofs.Placing.{line_placed, line_told, placed_known}
use Rattle.lk_units.proofs.assembler.Assembler.place.Goals as goal

pub returns-in-Ok-clause-known : goal.returns-in-Ok-clause-known
returns-in-Ok-clause-known g c =
    placed_known c.args.self.now (g.T.Terms.contents c.args.store.now) c.args.said c.args.number c.take.new.self c.requires.known c.requires.said_in c.in-Ok.ensures.indexed c.in-Ok.ensures.lines c.in-Ok.ensures.fault

pub returns-in-Ok-clause-follows : goal.returns-in-Ok-clause-follows
returns-in-Ok-clause-follows g c s h =
    line_placed c.args.self.now (g.T.Terms.contents c.args.store.now) s c.args.said c.count_names-names.ensures.apart c.requires.known h c.requires.said_in c.args.number c.take.new.self c.in-Ok.ensures.lines
    c.in-Ok.ensures.fault

pub returns-in-Err-clause-follows : goal.returns-in-Err-clause-follows
returns-in-Err-clause-follows g c s h =
    rw c.member_error.ensures
    (line_told c.args.self.now (g.T.Terms.contents c.args.store.now) s c.args.said c.count_names-names.ensures.apart c.requires.known h c.requires.said_in c.args.number c.in-Err.error c.in-Err.ensures.fault)
