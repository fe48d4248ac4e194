use Rattle.std.proofs.Common.{rules, sym, subst}
use Rattle.lk_desk.specs.Shards.{IsPut, HasRoom}
use Rattle.lk_desk.proofs.Keys.{put_is}
use Rattle.lk_desk.proofs.shard.Shard.put.Goals as goal

pub returns-clause-stored : goal.returns-clause-stored
returns-clause-stored c = λ is.
    let e = c.in_ok-insert.ensures in
    let before = c.args.self.now.answers.entries in
    let aside = c.set_aside.new.self.answers.entries in
    let room : HasRoom before c.args.key = search rules in
    subst (λ es. IsPut es c.insert.new.self.entries c.args.key c.args.entry) c.set_aside.ensures
    (put_is aside c.insert.new.self.entries c.args.key c.args.entry c.in_ok-insert.field-0 (subst (λ es. HasRoom es c.args.key) (sym c.set_aside.ensures) room) e.old e.updates.1 e.updates.2 e.entries e.len)
