use Rattle.std.proofs.Common.{ap, ◌∙◌}
use Rattle.lk_tree.specs.Mentions.{same_name}
use Rattle.lk_store.specs.Contents.{name_at}
use Rattle.lk_lit.proofs.builtin.is_builtin.Goals as goal

pub returns-in-Word : goal.returns-in-Word
returns-in-Word g c =
    let x = name_at (g.T.Terms.contents c.args.terms.now) c.args.name in
    c.is_word.ensures ∙ ap (same_name x) c.in-Word.ensures

pub returns-in-Dotted : goal.returns-in-Dotted
returns-in-Dotted g c =
    let x = name_at (g.T.Terms.contents c.args.terms.now) c.args.name in
    c.is_dotted.ensures ∙ ap (same_name x) c.in-Dotted.ensures
