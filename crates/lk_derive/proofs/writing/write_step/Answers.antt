use Rattle.std.proofs.lemmas.Result.{on_ok_weaker}
use Rattle.lk_derive.specs.Notes.{stated_at}
use Rattle.lk_derive.proofs.Stepped.{rests_on, step_written}
use Rattle.lk_derive.proofs.writing.write_step.Goals as goal

pub numbers_of-requires-clause-there : goal.numbers_of-requires-clause-there
numbers_of-requires-clause-there g c =
    let t = g.R.Rows.contents c.args.rows.now in
    rw c.deref.ensures.value (rw c.store-2.ensures (rests_on t (stated_at t c.args.notes.now) c.args.step.now c.requires.there))

pub returns : goal.returns
returns g c =
    let t = g.R.Rows.contents c.args.rows.now in
    let named = rw c.store-2.ensures at (rw c.deref.ensures.value at c.in_ok-premises.ensures) in
    on_ok_weaker c.add.result
    (λ adds. step_written (g.R.Rows.place c.args.rows.now) t c.args.notes.now c.add.new.self c.args.step.now c.in_ok-premises.premises c.requires.step_in c.requires.notes c.requires.holds named adds)
    c.add.ensures
