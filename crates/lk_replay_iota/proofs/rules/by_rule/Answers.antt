use Rattle.std.proofs.Common.{rules, ◌∙◌}
use Rattle.lk_store.specs.Contents.{tree_at}
use Rattle.lk_premises.proofs.AtHead.{head_some, head_none}
use Rattle.lk_replay_iota.specs.Rules.{entry_read}
use Rattle.lk_replay_iota.proofs.RuleForms.{iota_read}
use Rattle.lk_replay_iota.proofs.rules.by_rule.Goals as goal

pub returns-in-Some : goal.returns-in-Some
returns-in-Some g c =
    let t = tree_at (g.L.Terms.contents c.args.looks.now) in
    let w = (g.L.Looks.sight (g.L.Terms.rest c.args.looks.now)).basis.place in
    let h = c.in-Some.ensures.headed in
    rw (iota_read w c.args.place c.args.left.now (t c.args.f) (t c.args.e) (t c.args.b)
    ∙ head_some w (t c.args.f) (λ n y. entry_read w c.args.place c.args.left.now n.1 y (t c.args.f) (t c.args.e) (t c.args.b)) _ h.entry h.means)
    (c.with_entry.ensures h.entry h.is)

pub returns-in-None : goal.returns-in-None
returns-in-None g c =
    let t = tree_at (g.L.Terms.contents c.args.looks.now) in
    let w = (g.L.Looks.sight (g.L.Terms.rest c.args.looks.now)).basis.place in
    rw (iota_read w c.args.place c.args.left.now (t c.args.f) (t c.args.e) (t c.args.b)
    ∙ head_none w (t c.args.f) (λ n y. entry_read w c.args.place c.args.left.now n.1 y (t c.args.f) (t c.args.e) (t c.args.b)) c.in-None.ensures.headless)
    (record { keeps = search rules; stays = search rules; ok = search rules })
