use Rattle.std.proofs.Common.{rules, ◌≡◌, ◌++◌, ◌∷◌, [], ◌+◌, suc, ap, ◌∙◌, arith}
use Rattle.lk_type.specs.Lambdas.{counted}
use Rattle.lk_type.proofs.ClosedRuns.{run_longer}
use Rattle.lk_type.proofs.lambdas.last_run.Goals as goal

pub numbers-preserved : goal.numbers-preserved
numbers-preserved c =
    let parts : c.numbers.left.now ≡ c.in-Some.others.now ++ c.in-Some.number.now ∷ [] = search rules in
    let next : c.numbers.first ≡ suc c.in-Some.number.now = search rules in
    let more : suc c.numbers.count ≡ c.numbers.count + 1 = omega arith in
    record {
      some = omega arith;
      is = run_longer c.args.numbers.now c.numbers.left.now c.in-Some.others.now c.in-Some.number.now c.numbers.first c.numbers.count
          c.numbers.invariant.is parts next ∙ ap (λ m. c.in-Some.others.now ++ counted c.in-Some.number.now m) more;
    }
