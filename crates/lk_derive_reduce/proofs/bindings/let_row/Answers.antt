use Rattle.std.proofs.Common.{ap}
use Rattle.lk_tree.specs.Tree.{Tree}
use Rattle.lk_tree.specs.Bind.{opened}
use Rattle.lk_rulebook.specs.Place.{Place}
use Rattle.lk_written.specs.Line.{zeta_rule}
use Rattle.lk_store.specs.Contents.{Contents, tree_at}
use Rattle.lk_derive_reduce.proofs.CoreRuns.{let_opens}
use Rattle.lk_derive_reduce.proofs.CoreRows.{opens_within, opens_whole}
use Rattle.lk_derive_reduce.proofs.bindings.let_row.Goals as goal

pub step_then_core-requires-clause-answered : goal.step_then_core-requires-clause-answered
step_then_core-requires-clause-answered g c =
    let t = tree_at (g.D.Terms.contents c.args.derives.now) in
    let w : Place = (g.D.Looks.sight (g.D.Terms.rest c.args.derives.now)).basis.place in
    let w' : Place = (g.D.Looks.sight (g.D.Terms.rest c.open_with.new.terms)).basis.place in
    let r : Tree = opened (t c.args.body) (t c.args.value) in
    opens_within w w' c.args.enough zeta_rule (t c.args.e) r (tree_at (g.D.Terms.contents c.open_with.new.terms) c.in_ok-next.next)
    (ap (λ z. (g.D.Looks.sight z).basis.place) c.open_with.ensures.rest) c.in_ok-next.ensures.ok.is
    (let_opens w c.args.enough (t c.args.e) (t c.args.value) (t c.args.body) c.requires.is c.requires.claimed)

pub returns-clause-whole : goal.returns-clause-whole
returns-clause-whole g c =
    let t = tree_at (g.D.Terms.contents c.args.derives.now) in
    let m : Contents = g.D.Terms.contents c.open_with.new.terms in
    let d : Contents = g.D.Terms.contents c.step_then_core.new.derives in
    let w : Place = (g.D.Looks.sight (g.D.Terms.rest c.args.derives.now)).basis.place in
    let w' : Place = (g.D.Looks.sight (g.D.Terms.rest c.open_with.new.terms)).basis.place in
    let r : Tree = opened (t c.args.body) (t c.args.value) in
    opens_whole w w' c.args.enough d c.args.row.now c.step_then_core.new.row zeta_rule (t c.args.e) (tree_at m c.args.e) r (tree_at m c.in_ok-next.next)
    (ap (λ z. (g.D.Looks.sight z).basis.place) c.open_with.ensures.rest) (c.open_with.ensures.keeps.trees.same c.args.e c.requires.e_in) c.in_ok-next.ensures.ok.is
    c.requires.stated c.requires.empty c.requires.claimed
    (let_opens w c.args.enough (t c.args.e) (t c.args.value) (t c.args.body) c.requires.is c.requires.claimed) c.in_ok-step_then_core.ensures.goes
