use Rattle.std.proofs.Common.{◌≡◌, false, true, refl}
use Rattle.std.proofs.lemmas.Result.{on_ok_weaker}
use Rattle.lk_needs.specs.Marks.{room_of}
use Rattle.lk_recheck.proofs.Spreading.{one_started, not_started}
use Rattle.lk_recheck.proofs.hitting.mark_changed.Goals as goal

pub returns-then-is_changed : goal.returns-then-is_changed
returns-then-is_changed c =
    on_ok_weaker c.enter.result (λ e. one_started (room_of c.args.hits.now) c.args.changed.now c.args.unit c.args.hits.now c.requires.before c.enter.new.self c.requires.unit_in (c.if-is_changed.ensures.0 refl) e) c.enter.ensures

pub returns-else-is_changed : goal.returns-else-is_changed
returns-else-is_changed c =
    not_started (room_of c.args.hits.now) c.args.changed.now c.args.unit c.args.hits.now c.requires.before (λ e. let t : false ≡ true = c.if-is_changed.ensures.1 e in absurd cc)
