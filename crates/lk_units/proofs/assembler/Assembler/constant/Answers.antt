use Rattle.std.proofs.Common.{rules, map, Ok, Err}
use Rattle.lk_store.specs.Contents.{name_at, level_at}
use Rattle.lk_units.proofs.Holding.{found}
use Rattle.lk_units.proofs.Several.{found_all}
use Rattle.lk_units.proofs.Lines.{constant_made, constant_fails}
use Rattle.lk_units.proofs.assembler.Assembler.constant.Goals as goal

pub returns-in-Ok-clause-made : goal.returns-in-Ok-clause-made
returns-in-Ok-clause-made g c s h =
    let store = g.T.Terms.contents c.args.store.now in
    let name = found c.args.self.now.by_name (name_at store) s.names c.args.name c.in_ok-name.name h.names (search rules) in
    let levels = found_all c.args.self.now.by_level (level_at store) s.levels (g.N.FileNumber.view.values c.args.levels.now) (Ok c.in-Ok.levels) h.levels c.in-Ok.ensures.found in
    rw (constant_made s c.args.name (g.N.FileNumber.view.values c.args.levels.now) (name_at store c.in_ok-name.name) (map (level_at store) c.in-Ok.levels.items) name levels) c.make_constant.ensures.made

pub returns-in-Err-clause-made : goal.returns-in-Err-clause-made
returns-in-Err-clause-made g c s h =
    let store = g.T.Terms.contents c.args.store.now in
    let name = found c.args.self.now.by_name (name_at store) s.names c.args.name c.in_ok-name.name h.names (search rules) in
    let fault = found_all c.args.self.now.by_level (level_at store) s.levels (g.N.FileNumber.view.values c.args.levels.now) (Err c.in-Err.error) h.levels c.in-Err.ensures.found in
    constant_fails c.in-Err.error s c.args.name (g.N.FileNumber.view.values c.args.levels.now) (name_at store c.in_ok-name.name) name fault
