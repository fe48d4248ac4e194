use Rattle.lk_env.specs.Units.{type_at, IsTypeIn}
use Rattle.std.proofs.Common.{map}
use Rattle.lk_family.proofs.Copied.{copied_next, have_next}
use Rattle.lk_family.proofs.copies.copy_types.Goals as goal

pub types-preserved : goal.types-preserved
types-preserved c =
    let before = c.types.copies.items in
    let after = c.push.new.self.items in
    let rest = c.types.rest.now in
    let more = c.in-Some.more.now in
    let split = c.in-Some.ensures.cases.0 in
    record {
      value = λ s. copied_next (type_at s) before after rest more c.in-Some.first.now c.in_ok-copy.copy (map (type_at s) c.args.stated.now) split c.in-Ok.ensures.items (c.in_ok-copy.ensures.value s) (c.types.invariant.value s);
      known = λ s. have_next (IsTypeIn s) c.args.stated.now before after rest more c.in-Some.first.now c.in_ok-copy.copy split c.in-Ok.ensures.items (c.in_ok-copy.ensures.known s) (c.types.invariant.known s);
    }
