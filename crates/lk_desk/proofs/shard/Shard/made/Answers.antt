use Rattle.std.proofs.lemmas.Map.Views.{Contains-from_lookup}
use Rattle.lk_desk.specs.Truth.{entries_of}
use Rattle.lk_desk.proofs.Keys.{key_exact}
use Rattle.lk_desk.proofs.shard.Shard.made.Goals as goal

pub made-requires-clause-spelled : goal.made-requires-clause-spelled
made-requires-clause-spelled c =
    let entry = c.in-Some.entry.now in
    c.requires.spelled (c.args.key, entry) (Contains-from_lookup key_exact c.args.key entry (entries_of c.args.self.now) c.in-Some.ensures.some.0)
