use Rattle.std.proofs.Common.{rules, ℕ, ◌≡◌, replicate}
use Rattle.lk_recheck.proofs.Chained.{no_links}
use Rattle.lk_recheck.proofs.sources.Sources.new.Goals as goal

pub returns : goal.returns
returns c =
    let zeros : c.resize.new.self.items ≡ replicate {A = ℕ} c.args.things 0 = search rules in
    no_links c.args.things _ zeros c.new.ensures.items
