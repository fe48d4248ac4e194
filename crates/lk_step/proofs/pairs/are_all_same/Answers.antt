use Rattle.std.proofs.Common.{rules, ◌≡◌, ◌++◌, ◌∷◌, [], subst}
use Rattle.lk_step.specs.Told.{IsSame}
use Rattle.lk_store.specs.Contents.{tree_at}
use Rattle.lk_step.proofs.Moving.{tree_in}
use Rattle.lk_step.proofs.Comparing.{compares_none, compares_known, compares_asks, compares_no, compares_more, compares_done}
use Rattle.lk_step.proofs.pairs.are_all_same.Goals as goal

pub pairs-init : goal.pairs-init
pairs-init g c = compares_none g.D.Terms.contents g.D.Terms.rest g.D.Looks.sight c.args.derives.now c.args.pairs.now c.args.enough c.requires.pairs_in c.requires.run

pub are_same-requires-clause-a_in : goal.are_same-requires-clause-a_in
are_same-requires-clause-a_in g c =
    let split : c.pairs.rest.now ≡ c.in-Some.more.now ++ c.in-Some.pair.now ∷ [] = search rules in
    tree_in c.pairs.invariant.leaves c.in-Some.pair.now.left (compares_known g.D.Terms.contents g.D.Terms.rest g.D.Looks.sight c.args.derives.now c.pairs.derives c.args.pairs.now c.pairs.rest.now c.args.enough c.pairs.invariant c.in-Some.more.now c.in-Some.pair.now split).left_in

pub are_same-requires-clause-b_in : goal.are_same-requires-clause-b_in
are_same-requires-clause-b_in g c =
    let split : c.pairs.rest.now ≡ c.in-Some.more.now ++ c.in-Some.pair.now ∷ [] = search rules in
    tree_in c.pairs.invariant.leaves c.in-Some.pair.now.right (compares_known g.D.Terms.contents g.D.Terms.rest g.D.Looks.sight c.args.derives.now c.pairs.derives c.args.pairs.now c.pairs.rest.now c.args.enough c.pairs.invariant c.in-Some.more.now c.in-Some.pair.now split).right_in

pub are_same-requires-clause-answered : goal.are_same-requires-clause-answered
are_same-requires-clause-answered g c =
    let split : c.pairs.rest.now ≡ c.in-Some.more.now ++ c.in-Some.pair.now ∷ [] = search rules in
    compares_asks g.D.Terms.contents g.D.Terms.rest g.D.Looks.sight c.args.derives.now c.pairs.derives c.args.pairs.now c.pairs.rest.now c.args.enough c.pairs.invariant c.in-Some.more.now c.in-Some.pair.now split

pub returns-then-not-branch-clause-told : goal.returns-then-not-branch-clause-told
returns-then-not-branch-clause-told g c =
    let split : c.pairs.rest.now ≡ c.in-Some.more.now ++ c.in-Some.pair.now ∷ [] = search rules in
    let n = g.D.Terms.contents c.pairs.derives in
    let w = (g.D.Looks.sight (g.D.Terms.rest c.pairs.derives)).basis.place in
    let p = c.in-Some.pair.now in
    λ v m r. compares_no g.D.Terms.contents g.D.Terms.rest g.D.Looks.sight c.args.derives.now c.pairs.derives c.args.pairs.now c.pairs.rest.now c.args.enough c.pairs.invariant c.in-Some.more.now p split (subst (λ y. IsSame w (tree_at n p.left) (tree_at n p.right) y) c.if-not-branch.true c.in_ok-are_same.ensures.told) v m r

pub pairs-preserved : goal.pairs-preserved
pairs-preserved g c =
    let split : c.pairs.rest.now ≡ c.in-Some.more.now ++ c.in-Some.pair.now ∷ [] = search rules in
    let n = g.D.Terms.contents c.pairs.derives in
    let w = (g.D.Looks.sight (g.D.Terms.rest c.pairs.derives)).basis.place in
    let p = c.in-Some.pair.now in
    compares_more g.D.Terms.contents g.D.Terms.rest g.D.Looks.sight c.args.derives.now c.pairs.derives c.args.pairs.now c.pairs.rest.now c.args.enough c.pairs.invariant c.in-Some.more.now p split c.are_same.new.derives c.in_ok-are_same.ensures.leaves (subst (λ y. IsSame w (tree_at n p.left) (tree_at n p.right) y) c.if-not-branch.false c.in_ok-are_same.ensures.told)

pub returns-clause-told : goal.returns-clause-told
returns-clause-told g c = λ v m r. compares_done g.D.Terms.contents g.D.Terms.rest g.D.Looks.sight c.args.derives.now c.pairs.derives c.args.pairs.now c.pairs.rest.now c.args.enough c.pairs.invariant c.in_default.ensures.cases v m r
