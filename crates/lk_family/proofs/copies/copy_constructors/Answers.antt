use Rattle.lk_env.specs.Units.{constructor_at, IsConstructorIn}
use Rattle.std.proofs.Common.{map}
use Rattle.lk_family.proofs.Copied.{copied_next, have_next}
use Rattle.lk_family.proofs.copies.copy_constructors.Goals as goal

pub constructors-preserved : goal.constructors-preserved
constructors-preserved c =
    let before = c.constructors.copies.items in
    let after = c.push.new.self.items in
    let rest = c.constructors.rest.now in
    let more = c.in-Some.more.now in
    let split = c.in-Some.ensures.cases.0 in
    record {
      value = λ s. copied_next (constructor_at s) before after rest more c.in-Some.first.now c.in_ok-copy.copy (map (constructor_at s) c.args.stated.now) split c.in-Ok.ensures.items (c.in_ok-copy.ensures.value s) (c.constructors.invariant.value s);
      known = λ s. have_next (IsConstructorIn s) c.args.stated.now before after rest more c.in-Some.first.now c.in_ok-copy.copy split c.in-Ok.ensures.items (c.in_ok-copy.ensures.known s) (c.constructors.invariant.known s);
    }
