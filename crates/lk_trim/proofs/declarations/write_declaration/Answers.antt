use Rattle.std.proofs.Common.{refl}
use Rattle.lk_env.specs.Units.{declaration_at}
use Rattle.lk_trim.specs.Units.{decl_line}
use Rattle.lk_trim.proofs.Chains.{then_writes, line_writes}
use Rattle.lk_trim.proofs.declarations.write_declaration.Goals as goal

pub returns : goal.returns
returns g c =
    let s = g.T.Terms.contents c.args.store.now in
    let levels = rw c.levels_of.ensures at c.in_ok-write_names.ensures in
    then_writes (then_writes (then_writes (then_writes c.in_ok-write_own_name.ensures c.in_ok-write_own_type.ensures) c.in_ok-write_body.ensures) levels)
    (line_writes c.in_ok-write_names.ensures.numbers (decl_line (declaration_at s c.args.d.now)) c.add_declaration.new.out.items c.in_ok-add_declaration.ensures c.in_ok-push.ensures.items refl)
