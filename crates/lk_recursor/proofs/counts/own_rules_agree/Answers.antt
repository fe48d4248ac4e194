use Rattle.std.proofs.Common.{map, ap, ◌∙◌}
use Rattle.lk_store.specs.Contents.{tree_at}
use Rattle.lk_env.specs.Units.{rule_at}
use Rattle.lk_inductive.specs.Recursors.{rules_of}
use Rattle.lk_inductive.specs.Compare.{same_rules}
use Rattle.lk_block.specs.Shapes.{shape_at, constructor_shape_at}
use Rattle.lk_recursor.specs.Fronts.{read_by}
use Rattle.lk_recursor.proofs.counts.own_rules_agree.Goals as goal

pub returns : goal.returns
returns g c =
    let s = g.T.Terms.contents c.args.terms.now in
    let x = c.args.pair.now in
    let p = shape_at s x.shared.shape.now in
    let back = read_by s x.shared.shape.now x.shared.front.now in
    let ms = map (tree_at s) x.own.minors.now in
    c.rules_agree.ensures p
    ∙ ap (λ rs. same_rules (map (rule_at s) rs) (rules_of back p ms (map (constructor_shape_at s) c.deref-2.result.now))) c.deref.ensures.value
    ∙ ap (λ ks. same_rules (map (rule_at s) x.stated.now.rules.items) (rules_of back p ms (map (constructor_shape_at s) ks))) c.deref-2.ensures.value
