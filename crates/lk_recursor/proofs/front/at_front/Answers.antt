use Rattle.std.proofs.Common.{◌≡◌, ◌++◌, map, ap, sym, ◌∙◌}
use Rattle.lk_tree.specs.Spine.{apply}
use Rattle.lk_store.specs.Contents.{tree_at}
use Rattle.lk_store.proofs.Extending.{Extends-trans}
use Rattle.lk_inductive.specs.Recursors.{motives, minors}
use Rattle.lk_block.specs.Shapes.{shape_at}
use Rattle.lk_recursor.proofs.Lists.{apply-append}
use Rattle.lk_recursor.proofs.Applied.{applied_then}
use Rattle.lk_recursor.proofs.front.at_front.Goals as goal

pub returns-clause-ok : goal.returns-clause-ok
returns-clause-ok g c =
    let before = g.T.Terms.contents c.args.terms.now in
    let one = g.T.Terms.contents c.apply.new.terms in
    let two = g.T.Terms.contents c.apply-2.new.terms in
    let after = g.T.Terms.contents c.apply-3.new.terms in
    let p = shape_at before c.args.shape.now in
    let h = tree_at before c.args.head in
    let front = c.requires.front_is in
    let first = c.in_ok-first.ensures in
    let second = c.in_ok-second.ensures in
    let made = c.in_ok-made.ensures.ok in
    let ms = c.args.front.now.heads.motives.items in
    let ns = c.args.front.now.minors.items in
    let first_is : tree_at one c.in_ok-first.first ≡ apply h p.params = first.ok.is ∙ ap (λ ys. apply h (map (tree_at before) ys)) c.deref.ensures.value in
    let second_is : tree_at two c.in_ok-second.second ≡ apply (apply h p.params) (motives p) =
    applied_then before one first.keeps c.deref-2.result.now ms (tree_at two c.in_ok-second.second) (tree_at one c.in_ok-first.first) (apply h p.params) c.deref-2.ensures.value front.heads_are.motives_are.known first_is second.ok.is
    ∙ ap (apply (apply h p.params)) front.heads_are.motives_are.are in
    record {
      known = made.known;
      is =
          applied_then before two (Extends-trans before one two first.keeps second.keeps) c.deref-3.result.now ns (tree_at after c.in_ok-made.made) (tree_at two c.in_ok-second.second) (apply (apply h p.params) (motives p)) c.deref-3.ensures.value front.minors_are.known second_is made.is
          ∙ ap (apply (apply (apply h p.params) (motives p))) front.minors_are.are
          ∙ sym (apply-append h p.params (motives p ++ minors p) ∙ apply-append (apply h p.params) (motives p) (minors p));
    }
