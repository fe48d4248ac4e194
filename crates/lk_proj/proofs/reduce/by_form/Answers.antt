use Rattle.std.proofs.Common.{ap, refl, ◌∙◌}
use Rattle.lk_questions.specs.Erased.{a_tree, erased}
use Rattle.lk_store.specs.Contents.{name_at, tree_at}
use Rattle.lk_ask.proofs.Settles.{behind, refused_behind}
use Rattle.lk_ask.proofs.Steps.{same_steps}
use Rattle.lk_proj.specs.Reductions.{head_rest}
use Rattle.lk_proj.proofs.Reducing.{subject_is}
use Rattle.lk_proj.proofs.reduce.by_form.Goals as goal

pub returns-in-Ok : goal.returns-in-Ok
returns-in-Ok g c =
    let before = g.L.Terms.contents c.args.looks.now in
    let made = g.L.Terms.contents c.text_to_ctor.new.looks in
    let sight = g.L.Looks.sight (g.L.Terms.rest c.args.looks.now) in
    let after = g.L.Looks.sight (g.L.Terms.rest c.text_to_ctor.new.looks) in
    let p = c.args.p in
    let has = c.requires.p_in in
    let e = tree_at before p.whole in
    let S = name_at before p.structure in
    let settles = rw c.in-Ok.is at c.in_ok-e.ensures.settles in
    let m = tree_at made c.in-Ok.e in
    same_steps (ap (erased sight.basis.place a_tree sight.last)
    (subject_is e (tree_at before c.args.form) S p.field (tree_at before p.subject) has.is))
    (behind a_tree (λ y. head_rest e S p.field y) c.in-Ok.e settles
    (same_steps (ap (erased after.basis.place a_tree after.last)
    (ap (λ y. head_rest y (name_at made p.structure) p.field m)
    (settles.keeps.trees.same p.whole has.whole_in)
    ∙ ap (λ y. head_rest e y p.field m) (settles.keeps.names.same p.structure has.structure_in)))
    c.by_head.ensures))

pub returns-in-Err : goal.returns-in-Err
returns-in-Err g c =
    let before = g.L.Terms.contents c.args.looks.now in
    let sight = g.L.Looks.sight (g.L.Terms.rest c.args.looks.now) in
    let p = c.args.p in
    let e = tree_at before p.whole in
    let S = name_at before p.structure in
    let settles = rw c.in-Err.is at c.in_ok-e.ensures.settles in
    same_steps (ap (erased sight.basis.place a_tree sight.last)
    (subject_is e (tree_at before c.args.form) S p.field (tree_at before p.subject)
    c.requires.p_in.is))
    (refused_behind a_tree (λ y. head_rest e S p.field y) c.in-Err.rule (λ w t last. refl) settles)
