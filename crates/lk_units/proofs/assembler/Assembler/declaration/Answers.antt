use Rattle.std.proofs.Common.{rules, ◌≡◌, Ok}
use Rattle.lk_store.specs.Contents.{name_at, tree_at}
use Rattle.lk_env.specs.Units.{body_at}
use Rattle.lk_units.proofs.Holding.{found}
use Rattle.lk_units.proofs.Lines.{declaration_made, declaration_fails}
use Rattle.lk_units.proofs.assembler.Assembler.declaration.Goals as goal

pub returns-in-Ok-parameters-clause-made : goal.returns-in-Ok-parameters-clause-made
returns-in-Ok-parameters-clause-made g c store s said h m =
    let body : said ≡ Ok (body_at store c.in-Ok.body) = rw c.in-Ok.is at m in
    declaration_made s c.args.name c.args.ty said (g.N.FileNumber.view.values c.args.parameters.now) _ _ _ _
    (found c.args.self.now.by_name (name_at store) s.names c.args.name c.in-Some.name h.names (search rules))
    (found c.args.self.now.by_tree (tree_at store) s.trees c.args.ty c.in-Some-find_place.ty h.trees (search rules))
    body
    (c.in-Ok-parameters.ensures.made store s h)

pub returns-in-Err-parameters-clause-made : goal.returns-in-Err-parameters-clause-made
returns-in-Err-parameters-clause-made g c store s said h m =
    let body : said ≡ Ok (body_at store c.in-Ok.body) = rw c.in-Ok.is at m in
    declaration_fails c.in-Err-parameters.error s c.args.name c.args.ty said (g.N.FileNumber.view.values c.args.parameters.now) _ _ _
    (found c.args.self.now.by_name (name_at store) s.names c.args.name c.in-Some.name h.names (search rules))
    (found c.args.self.now.by_tree (tree_at store) s.trees c.args.ty c.in-Some-find_place.ty h.trees (search rules))
    body
    (c.in-Err-parameters.ensures.made store s h)
