use Rattle.std.proofs.Common.{◌≡◌, ◌∙◌}
use Rattle.std.proofs.lemmas.Result.{IfOk-weaker}
use Rattle.lk_level_order.specs.Values.{digits}
use Rattle.lk_level_order.proofs.Asked.{number_tested, number_refuted}
use Rattle.lk_level_order.proofs.cases.number_holds.Goals as goal

pub returns-clause-yes : goal.returns-clause-yes
returns-clause-yes c =
    let case_is : c.deref_mut.result.now ≡ digits c.args.count c.args.case = c.deref_mut.ensures.value ∙ c.in_ok-set_case.ensures in
    IfOk-weaker c.case_holds.result _ _ (λ r f e. number_tested c.args.parts.now c.args.question c.args.rights c.args.count c.args.case c.deref_mut.result.now case_is (f e)) c.case_holds.ensures.yes

pub returns-clause-no : goal.returns-clause-no
returns-clause-no c =
    let case_is : c.deref_mut.result.now ≡ digits c.args.count c.args.case = c.deref_mut.ensures.value ∙ c.in_ok-set_case.ensures in
    IfOk-weaker c.case_holds.result _ _ (λ r f e. number_refuted c.args.parts.now c.args.question c.args.rights c.args.count c.args.case c.deref_mut.result.now case_is (f e)) c.case_holds.ensures.no
