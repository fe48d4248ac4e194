use Rattle.std.proofs.Common.{◌<◌, ◌∷◌, length, map, ap, ◌∙◌}
use Rattle.lk_tree.specs.Tree.{Name, param}
use Rattle.lk_store.specs.Contents.{name_at, list_at}
use Rattle.lk_store.proofs.Extending.{Extends-trans}
use Rattle.lk_lists.proofs.Lists.{all_last, all_others}
use Rattle.lk_block.proofs.ParameterLevels.{parameters_next}
use Rattle.lk_block.proofs.parameters.parameter_levels.Goals as goal

pub names-preserved : goal.names-preserved
names-preserved g c =
    let before = g.T.Terms.contents c.args.terms.now in
    let now = g.T.Terms.contents c.names.terms in
    let after = g.T.Terms.contents c.with_parameter.new.terms in
    let was = c.names.invariant in
    let n = c.in-Some.name.now in
    let split = c.in-Some.ensures.cases.0 in
    let known = all_last (λ x. x < length before.names) c.names.left.now c.in-Some.others.now n split was.left_in in
    let made = c.in_ok-list-2.ensures.ok in
    record {
      keeps = Extends-trans before now after was.keeps c.in_ok-list-2.ensures.keeps;
      same_rest = c.in_ok-list-2.ensures.rest ∙ was.same_rest;
      left_in = all_others (λ x. x < length before.names) c.names.left.now c.in-Some.others.now n split was.left_in;
      list_in = made.known;
      leads =
          parameters_next (name_at before) c.names.left.now c.in-Some.others.now n (list_at now c.names.list) (list_at after c.in_ok-list-2.list) (map param (map (name_at before) c.args.names.now))
          split (made.is ∙ ap (λ (m : Name). param m ∷ list_at now c.names.list) (was.keeps.names.same n known)) was.leads;
    }
