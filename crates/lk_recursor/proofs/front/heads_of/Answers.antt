use Rattle.std.proofs.Common.{map, ap, sym, subst, ◌∙◌}
use Rattle.lk_tree.specs.Tree.{param}
use Rattle.lk_store.specs.Contents.{name_at, IsList}
use Rattle.lk_store.proofs.Extending.{Extends-trans}
use Rattle.lk_spine.specs.Reading.{AreTrees}
use Rattle.lk_inductive.specs.Block as plain
use Rattle.lk_inductive.specs.Recursors.{motives, shape_bound}
use Rattle.lk_block.specs.Shapes.{shape_at}
use Rattle.lk_recursor.proofs.Fronts.{heads_made}
use Rattle.lk_block.proofs.Shaping.{shape-steady}
use Rattle.lk_recursor.proofs.Steady.{list-steady}
use Rattle.lk_recursor.proofs.front.heads_of.Goals as goal

pub motives_of-requires-clause-levels_are : goal.motives_of-requires-clause-levels_are
motives_of-requires-clause-levels_are g c =
    let before = g.T.Terms.contents c.args.terms.now in
    let first = g.T.Terms.contents c.parameter_levels.new.terms in
    let second = g.T.Terms.contents c.elimination_level.new.terms in
    let s = c.args.shape.now in
    let own = c.in_ok-own_levels.own_levels in
    let grown = Extends-trans before first second c.in_ok-own_levels.ensures.keeps c.in_ok-level.ensures.keeps in
    subst (λ (p : plain.Shape). IsList second own (map param p.levels)) (sym (shape-steady before second grown s c.requires.shape_in))
    (list-steady first second c.in_ok-level.ensures.keeps own (map param (shape_at before s).levels)
    (subst (λ ns. IsList first own (map param (map (name_at before) ns))) c.deref.ensures.value c.in_ok-own_levels.ensures.ok))

pub motives_of-requires-clause-first_is : goal.motives_of-requires-clause-first_is
motives_of-requires-clause-first_is g c =
    let before = g.T.Terms.contents c.args.terms.now in
    let first = g.T.Terms.contents c.parameter_levels.new.terms in
    let second = g.T.Terms.contents c.elimination_level.new.terms in
    c.requires.first_is ∙ ap shape_bound (sym (shape-steady before second (Extends-trans before first second c.in_ok-own_levels.ensures.keeps c.in_ok-level.ensures.keeps) c.args.shape.now c.requires.shape_in))

pub returns-clause-ok : goal.returns-clause-ok
returns-clause-ok g c =
    let before = g.T.Terms.contents c.args.terms.now in
    let first = g.T.Terms.contents c.parameter_levels.new.terms in
    let second = g.T.Terms.contents c.elimination_level.new.terms in
    let after = g.T.Terms.contents c.motives_of.new.terms in
    let s = c.args.shape.now in
    let own = c.in_ok-own_levels.own_levels in
    let ms = c.in_ok-motives.motives in
    let level = c.in_ok-level.ensures in
    let made = c.in_ok-motives.ensures in
    let grown = Extends-trans before first second c.in_ok-own_levels.ensures.keeps level.keeps in
    heads_made after s (shape_at before s) (shape-steady before after (Extends-trans before second after grown made.keeps) s c.requires.shape_in) (record { own_levels = own; motives = ms })
    (list-steady first after (Extends-trans first second after level.keeps made.keeps) own (map param (shape_at before s).levels)
    (subst (λ ns. IsList first own (map param (map (name_at before) ns))) c.deref.ensures.value c.in_ok-own_levels.ensures.ok))
    (subst (λ (p : plain.Shape). AreTrees after ms.items (motives p)) (shape-steady before second grown s c.requires.shape_in) made.ok)
