use Rattle.std.proofs.Common.{refl}
use Rattle.std.specs.Prelude.{[], ◌∷◌}
use Rattle.lk_rulebook.specs.Place.{Place}
use Rattle.lk_rulebook.specs.Claims.{reduces}
use Rattle.lk_written.specs.Line.{ReductionRule}
use Rattle.lk_store.specs.Contents.{Contents, tree_at}
use Rattle.lk_trace.specs.Meaning.{reduction_rule_of}
use Rattle.lk_derive_quot.proofs.QuotientRows.{step_within, step_whole}
use Rattle.lk_derive_quot.proofs.rows.step_row.Goals as goal

pub then_core-requires-clause-answered : goal.then_core-requires-clause-answered
then_core-requires-clause-answered g c =
    let old : Contents = g.D.Terms.contents c.args.derives.now in
    let t = tree_at old in
    let w : Place = (g.D.Looks.sight (g.D.Terms.rest c.args.derives.now)).basis.place in
    step_within w old c.args.row.now c.args.enough (reduction_rule_of c.args.rule) (t c.args.e) (t c.args.major) (t c.args.form) (t c.args.next) (t c.args.ends.front) (t c.args.ends.short) c.args.ends.behind c.requires.at

pub returns-clause-whole : goal.returns-clause-whole
returns-clause-whole g c =
    let old : Contents = g.D.Terms.contents c.args.derives.now in
    let d : Contents = g.D.Terms.contents c.then_core.new.derives in
    let t = tree_at old in
    let w : Place = (g.D.Looks.sight (g.D.Terms.rest c.args.derives.now)).basis.place in
    let rule : ReductionRule = reduction_rule_of c.args.rule in
    step_whole w c.args.enough old d c.args.row.now c.add_step.new.row c.state_behind.new.row c.then_core.new.row rule (t c.args.e) (t c.args.major) (t c.args.form) (t c.args.next) (t c.args.ends.front) (t c.args.ends.short) c.args.ends.behind
    c.requires.stated c.requires.at
    (λ holds. c.in_ok-add_step.ensures w (t c.args.ends.front) (t c.args.ends.short) (reduces (t c.args.major) (t c.args.form) ∷ []) refl refl (c.in_ok-premises.ensures.are old) holds)
    c.in_ok-state_behind.ensures c.in_ok-then_core.ensures.follows
