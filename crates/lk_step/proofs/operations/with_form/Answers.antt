use Rattle.lk_store.specs.Contents.{Contents}
use Rattle.lk_step.proofs.Driven.{next_within, map_lit_same, resumed_driven}
use Rattle.lk_step.proofs.operations.with_form.Goals as goal

pub form_of-requires-clause-answered : goal.form_of-requires-clause-answered
form_of-requires-clause-answered g c =
    let s = g.D.Looks.sight (g.D.Terms.rest c.args.derives.now) in
    next_within s.basis.place (g.D.Terms.contents c.args.derives.now) s.last c.args.e c.args.sheet c.args.enough c.requires.going

pub returns-clause-driven : goal.returns-clause-driven
returns-clause-driven g c =
    let old : Contents = g.D.Terms.contents c.args.derives.now in
    let mid : Contents = g.D.Terms.contents c.form_of.new.derives in
    resumed_driven g.D.Terms.contents g.D.Terms.rest g.D.Looks.sight c.args.derives.now c.form_of.new.derives c.resume.new.looks c.resume.result c.args.e c.in_ok-form.form c.in_ok-form.ensures.told.cost c.args.sheet c.args.enough
    c.form_of.ensures.leaves.place c.in_ok-form.ensures.told.answered (map_lit_same old mid c.form_of.ensures.leaves.keeps c.args.sheet c.requires.going.driven.known.1) c.resume.ensures
