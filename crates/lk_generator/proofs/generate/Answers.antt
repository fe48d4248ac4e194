use Rattle.std.proofs.Common.{◌≡◌, ◌-◌, ◌++◌, rules, arith, refl, ◌∙◌, ap}
use Rattle.lk_generator.specs.Generated.{beginning, units_to}
use Rattle.lk_generator.proofs.Following.{number_more, cited_is, free_more, units_more}
use Rattle.lk_generator.proofs.generate.Goals as goal

pub loop-i-preserved : goal.loop-i-preserved
loop-i-preserved c =
    let number_is = number_more c.args.seed c.loop-i.i c.loop-i.number c.next-number.result (search rules) c.loop-i.invariant.number c.next-number.ensures.is in
    let cited_now = cited_is c.args.seed c.loop-i.i c.next-number.result number_is in
    record {
      file = units_more c.args.seed c.loop-i.i _ c.loop-i.free _ _ (search rules) cited_now c.loop-i.invariant.free c.loop-i.invariant.file c.in_ok-add_unit.ensures;
      number = number_is;
      small = search rules;
      free = free_more c.args.seed c.loop-i.i _ c.loop-i.free c.expressions_of-free.result _ (search rules) cited_now c.loop-i.invariant.free c.expressions_of-free.ensures.is refl;
      few = omega (arith, c.expressions_of-free.ensures.few);
      within = search rules;
    }

pub returns : goal.returns
returns c =
    let end : c.loop-i.i - 1 ≡ c.args.units - 1 = omega (arith, c.loop-i.invariant.within, c.from-i-end.ensures) in
    ap (λ v. v.items) c.into_bytes.ensures.value ∙ c.loop-i.invariant.file ∙ ap (λ n. beginning ++ units_to c.args.seed n) end
