use Rattle.std.proofs.Common.{refl, ap}
use Rattle.lk_rulebook.specs.Place.{Place}
use Rattle.lk_store.specs.Contents.{Contents, tree_at}
use Rattle.lk_premises.specs.Claims.{claims_at}
use Rattle.lk_derive_reduce.proofs.FormRows.{delta_within, delta_whole}
use Rattle.lk_derive_reduce.proofs.values.unfolded_once.Goals as goal

pub then_form-requires-clause-answered : goal.then_form-requires-clause-answered
then_form-requires-clause-answered g c =
    let old : Contents = g.D.Terms.contents c.args.derives.now in
    let w : Place = (g.D.Looks.sight (g.D.Terms.rest c.args.derives.now)).basis.place in
    delta_within w old c.args.row.now c.args.enough (tree_at old c.args.e) (tree_at old c.args.core) (tree_at old c.args.next) c.requires.run

pub returns-clause-whole : goal.returns-clause-whole
returns-clause-whole g c =
    let old : Contents = g.D.Terms.contents c.args.derives.now in
    let d : Contents = g.D.Terms.contents c.then_form.new.derives in
    let w : Place = (g.D.Looks.sight (g.D.Terms.rest c.args.derives.now)).basis.place in
    delta_whole w c.args.enough old d c.args.row.now c.add_step.new.row c.chain.new.row c.then_form.new.row (tree_at old c.args.e) (tree_at old c.args.core) (tree_at old c.args.next) c.requires.stated c.requires.run
    (λ holds. c.in_ok-add_step.ensures w _ _ _ refl refl (ap (claims_at old) c.no_premise.ensures) holds) c.in_ok-chain.ensures c.in_ok-then_form.ensures.follows
