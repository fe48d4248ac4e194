use Rattle.std.proofs.Common.{rules, ◌≡◌, ◌+◌, length, refl, ap, set}
use Rattle.std.proofs.lemmas.List.{get_or_read}
use Rattle.lk_recheck.proofs.Chained.{one_link}
use Rattle.lk_recheck.proofs.sources.Sources.add.Goals as goal

pub returns : goal.returns
returns c =
    let count : c.len-count.result ≡ length c.args.self.now.links.items = search rules in
    one_link c.args.self.now _ c.args.source c.args.target c.requires.linked c.requires.source_in c.requires.target_in
    (record { source = c.args.source; previous = c.index-previous.result.now }) refl
    (get_or_read c.args.self.now.last.items c.args.target c.index-previous.result.now c.requires.target_in c.index-previous.ensures 0)
    c.in_ok-push.ensures.items (ap (λ k. set c.args.self.now.last.items c.args.target (k + 1)) count)
