use Rattle.std.proofs.Common.{map, sym, ◌∙◌}
use Rattle.lk_store.specs.Contents.{name_at, tree_at}
use Rattle.lk_block.proofs.OpenedMentions.{body_mentions}
use Rattle.lk_env.proofs.Stays.{names_stay}
use Rattle.lk_block.proofs.positive.step_under.Goals as goal

pub returns-clause-under : goal.returns-clause-under
returns-clause-under g c =
    let before = g.A.Terms.contents c.args.asks.now in
    let after = g.A.Terms.contents c.open_local.new.asks in
    let names = map (name_at before) c.args.frame.now.names in
    rw (names_stay before after c.in_ok-opened.ensures.keeps c.args.frame.now.names c.requires.frame_in.names_in, c.in_ok-opened.ensures.opened.is)
    (body_mentions names (tree_at before c.args.domain) (tree_at before c.args.body) c.args.number c.requires.mentioning (sym c.in-Ok-false.ensures ∙ c.in-Ok-false.field-0-test))
