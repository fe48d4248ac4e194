use Rattle.std.proofs.Common.{sym, ◌∙◌}
use Rattle.lk_store.specs.Contents.{tree_at}
use Rattle.lk_type.specs.Marks.{IsMentioned}
use Rattle.lk_type.proofs.Marks.{marked_none, marked_one}
use Rattle.lk_type.proofs.marking.mark.Goals as goal

pub returns-in-None : goal.returns-in-None
returns-in-None g c =
    marked_none c.args.marks.now.items c.requires.marks (λ n o. sym c.in-None.is ∙ c.outermost.ensures.is n o)

pub returns : goal.returns
returns g c =
    let mentioned : IsMentioned c.args.binders (tree_at (g.L.Terms.contents c.args.looks.now) c.args.e) c.in-Some.n c.args.subterm.count =
    rw c.in-Some.is at c.outermost.ensures.mentioned in
    marked_one c.in-Some.n c.args.marks.now.items c.raise.new.marks.items c.requires.marks mentioned
    (λ n o. sym c.in-Some.is ∙ c.outermost.ensures.is n o) c.raise.ensures
