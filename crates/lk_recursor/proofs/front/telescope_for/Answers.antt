use Rattle.std.proofs.Common.{◌≡◌, ◌++◌, List, map, length, ap, subst, ◌∙◌, arith}
use Rattle.std.proofs.lemmas.Bool.Decides.{nat_tests}
use Rattle.std.proofs.lemmas.Option.{IfSome_then}
use Rattle.lk_tree.specs.Tree.{Tree}
use Rattle.lk_store.specs.Contents.{tree_at}
use Rattle.lk_inductive.specs.Recursors.{front, motives}
use Rattle.lk_block.specs.Shapes.{shape_at}
use Rattle.lk_recursor.specs.Telescopes.{IsTelescope}
use Rattle.lk_recursor.proofs.Telescopes.{none_there}
use Rattle.lk_recursor.proofs.front.telescope_for.Goals as goal

pub returns-clause-ok : goal.returns-clause-ok
returns-clause-ok g c =
    let before = g.T.Terms.contents c.args.terms.now in
    let after = g.T.Terms.contents c.telescope_of.new.terms in
    let p = shape_at before c.args.shape.now in
    let os = c.args.originals.now in
    let given = map (tree_at before) c.args.minor_premises.now in
    let empty : length os ≡ 0 = (let e = c.if-not-is_empty.false in let f = c.is_empty.ensures in grind (arith, nat_tests)) in
    let all : map (tree_at before) c.deref.result.now ++ (map (tree_at before) c.deref-2.result.now ++ given) ≡ front p =
    ap (λ ys. map (tree_at before) ys ++ (map (tree_at before) c.deref-2.result.now ++ given)) c.deref.ensures.value
    ∙ ap (λ ys. p.params ++ (map (tree_at before) ys ++ given)) c.deref-2.ensures.value
    ∙ ap (λ ys. p.params ++ (ys ++ given)) c.requires.heads_are.motives_are.are
    ∙ ap (λ ys. p.params ++ (motives p ++ ys)) c.requires.minors_are.are in
    IfSome_then c.in_ok-made.made c.in_ok-made.ensures.ok (λ t is. record { none_read_back = none_there os empty; is = subst (λ (xs : List Tree). IsTelescope after xs t) all is })
