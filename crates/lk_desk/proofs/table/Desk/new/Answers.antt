use Rattle.std.proofs.Common.{◌≡◌, ◌<◌, ◌^◌, refl, subst, rules, ℕ}
use Rattle.lk_desk.proofs.Opening.{opened}
use Rattle.lk_desk.specs.Job.{job_of, units_of}
use Rattle.lk_desk.proofs.table.Desk.new.Goals as goal

pub new-requires : goal.new-requires
new-requires c =
    let same : c.in-Ok.units ≡ units_of (job_of c.args.library.now) = search rules in
    let small : c.in-Ok.units < 2 ^ 32 = search rules in
    opened (job_of c.args.library.now) _ c.in_ok-slots.slots.items (subst (λ (n : ℕ). n < 2 ^ 32) same small) refl refl refl c.in_ok-slots.ensures.count c.in_ok-slots.ensures.each
