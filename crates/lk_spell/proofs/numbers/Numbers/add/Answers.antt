use Rattle.std.proofs.Common.{refl}
use Rattle.lk_spell.proofs.Adding.{adds}
use Rattle.lk_spell.proofs.numbers.Numbers.add.Goals as goal

pub returns : goal.returns
returns c =
    let now = record c.args.self.now { own = c.insert.new.self } in
    adds c.args.self.now now c.args.part c.args.number refl c.in_ok-insert.ensures.updates.1 c.in_ok-insert.ensures.updates.2
