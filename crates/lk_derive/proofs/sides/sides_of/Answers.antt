use Rattle.lk_derive.proofs.PairsMade.{pair_made}
use Rattle.lk_derive.proofs.sides.sides_of.Goals as goal

pub returns-clause-sides : goal.returns-clause-sides
returns-clause-sides g c =
    let one = c.in_ok-left.ensures in
    let two = c.in_ok-right.ensures in
    pair_made (g.T.Terms.contents c.args.terms.now) (g.T.Terms.contents c.make_side.new.terms) (g.T.Terms.contents c.make_side-2.new.terms) c.args.law c.args.value c.in_ok-left.left c.in_ok-right.right
    one.keeps two.keeps c.requires one.ok.known one.ok.is two.ok.known two.ok.is
