use Rattle.lk_store.specs.Contents.{name_at}
use Rattle.lk_units.proofs.Several.{found_all}
use Rattle.lk_units.proofs.assembler.Assembler.names_of.Goals as goal

pub returns-clause-made : goal.returns-clause-made
returns-clause-made g c store s h = found_all c.args.self.now.by_name (name_at store) s.names (g.N.FileNumber.view.values c.args.names.now) c.find_all.result h.names c.find_all.ensures.found
