use Rattle.lk_level_order.specs.declared.cases.Question.{Question}
use Rattle.lk_level_order.proofs.Related.{answer_is}
use Rattle.lk_level_order.proofs.compared.related.Goals as goal

pub returns : goal.returns
returns g c =
    let q : Question = record { relation = c.args.relation; places = record { left = c.in_ok-left.left; right = c.in_ok-right.right } } in
    answer_is (g.T.Terms.contents c.args.terms.now) c.args.names.now c.place-2.new.parts q c.args.a c.args.b c.args.rights c.len.result
    c.requires.gathered c.requires.few c.in_ok-place-2.ensures c.in_ok-left.ensures c.in_ok-right.ensures c.len.ensures.len
    c.holds.result c.holds.ensures
