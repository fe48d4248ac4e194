use Rattle.std.proofs.Common.{◌∷◌, refl, ap, ◌∙◌}
use Rattle.lk_block.specs.Shapes.{shape_at}
use Rattle.lk_recursor.proofs.Names.{names_large, names_large-known}
use Rattle.lk_recursor.proofs.levels.level_names.Goals as goal

pub returns-clause-ok : goal.returns-clause-ok
returns-clause-ok g c =
    let before = g.T.Terms.contents c.args.terms.now in
    let after = g.T.Terms.contents c.motive_level_name.new.terms in
    names_large before after c.in_ok-first.ensures.keeps c.in_ok-first.first c.args.shape.now.levels.items c.in_ok-all.all.items (shape_at before c.args.shape.now) c.requires.levels_in refl
    (c.in_ok-all.ensures ∙ ap (λ ns. c.in_ok-first.first ∷ ns) c.deref-2.ensures.value) c.in_ok-first.ensures.ok c.if-not-shape.false

pub returns-clause-known : goal.returns-clause-known
returns-clause-known g c =
    let before = g.T.Terms.contents c.args.terms.now in
    let after = g.T.Terms.contents c.motive_level_name.new.terms in
    names_large-known before after c.in_ok-first.ensures.keeps c.in_ok-first.first c.args.shape.now.levels.items c.in_ok-all.all.items c.requires.levels_in
    (c.in_ok-all.ensures ∙ ap (λ ns. c.in_ok-first.first ∷ ns) c.deref-2.ensures.value) c.in_ok-first.ensures.ok.known
