use Rattle.std.proofs.Common.{◌≡◌, ◌<◌, length, ap, sym, subst, ◌∙◌, arith}
use Rattle.std.proofs.lemmas.List.{get_or_default}
use Rattle.std.proofs.lemmas.List.Elements.{All-set}
use Rattle.leancheck.specs.declared.order.UnitVerdict.{UnitVerdict}
use Rattle.leancheck.specs.Drawn.{IsPlainUnder, IsRight, IsRightOne}
use Rattle.leancheck.proofs.Working.{numbers_set}
use Rattle.leancheck.proofs.worker.check_from.Goals as goal

pub loop-i-preserved : goal.loop-i-preserved
loop-i-preserved g c =
    let i = c.loop-i.invariant in
    let items = c.loop-i.answers.items in
    let at = c.loop-i.i in
    let old = c.index_mut.result.now in
    let lt : at < length items = omega arith in
    let same : c.index.result.now ≡ old =
    c.index.ensures ∙ (get_or_default items at _ _ lt ∙ sym c.index_mut.ensures.value) in
    let Right = IsRight c.args.library.now c.args.steps in
    let right : Right old.number c.check_unit-verdict.result =
    subst (λ (a : UnitVerdict). Right a.number c.check_unit-verdict.result) same
    (subst (λ b. IsPlainUnder c.args.library.now b c.index.result.now.number c.check_unit-verdict.result) c.budget_of-budget.ensures c.check_unit-verdict.ensures.right) in
    let below = subst (λ (a : UnitVerdict). a.number < length c.args.library.now.units)
    (sym c.index_mut.ensures.value) (i.right at old lt).0 in
    let one : UnitVerdict = record { number = old.number; verdict = c.check_unit-verdict.result } in
    record {
      library = c.check_unit-verdict.ensures.library ∙ i.library;
      count = i.count;
      numbers = numbers_set items at one old (ap (λ a. a.number) c.index_mut.ensures.value)
          ∙ i.numbers;
      right = All-set (IsRightOne c.args.library.now c.args.steps) items at one (below, right)
          i.right;
    }
