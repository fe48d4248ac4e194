use Rattle.std.proofs.Common.{◌++◌, ◌∷◌, [], ap, ◌∙◌}
use Rattle.lk_store.specs.Contents.{name_at}
use Rattle.lk_store.proofs.Extending.{Extends-trans}
use Rattle.lk_lists.proofs.Lists.{all_last, all_others}
use Rattle.lk_enlarge.specs.Components.{behind, IsPartIn}
use Rattle.lk_enlarge.proofs.Behind.{part_stays, part_known, moved, all_moved}
use Rattle.lk_enlarge.proofs.components.with_components.Goals as goal

pub with_component-requires-clause-part_in : goal.with_component-requires-clause-part_in
with_component-requires-clause-part_in g c =
    let before = g.T.Terms.contents c.args.terms.now in
    let was = c.parts.invariant in
    part_known before (g.T.Terms.contents c.parts.terms) was.keeps c.in-Some.part.now (all_last (IsPartIn before) c.parts.left.now c.in-Some.others.now c.in-Some.part.now c.in-Some.ensures.cases.0 was.left_in)

pub parts-preserved : goal.parts-preserved
parts-preserved g c =
    let before = g.T.Terms.contents c.args.terms.now in
    let now = g.T.Terms.contents c.parts.terms in
    let after = g.T.Terms.contents c.with_component.new.terms in
    let was = c.parts.invariant in
    let k = c.in-Some.part.now in
    let split = c.in-Some.ensures.cases.0 in
    let known = all_last (IsPartIn before) c.parts.left.now c.in-Some.others.now k split was.left_in in
    let made = c.in_ok-made.ensures.ok in
    record {
      keeps = Extends-trans before now after was.keeps c.in_ok-made.ensures.keeps;
      same_rest = c.in_ok-made.ensures.rest ∙ was.same_rest;
      left_in = all_others (IsPartIn before) c.parts.left.now c.in-Some.others.now k split was.left_in;
      made_in = made.known;
      leads =
          moved before c.parts.left.now c.in-Some.others.now k (name_at now c.parts.made) (name_at after c.in_ok-made.made) (name_at before c.args.front ++ behind before c.args.parts.now)
          split (made.is ∙ ap (λ p. name_at now c.parts.made ++ p ∷ []) (part_stays before now was.keeps k known)) was.leads;
    }

pub returns-clause-ok : goal.returns-clause-ok
returns-clause-ok g c =
    let before = g.T.Terms.contents c.args.terms.now in
    let was = c.parts.invariant in
    record {
      known = was.made_in;
      is = all_moved before c.parts.left.now (name_at (g.T.Terms.contents c.parts.terms) c.parts.made) (name_at before c.args.front ++ behind before c.args.parts.now) c.in_default.ensures.cases was.leads;
    }
