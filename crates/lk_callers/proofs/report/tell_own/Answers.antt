use Rattle.std.proofs.Common.{◌≡◌, ◌∙◌, List, length, map, ap, sym}
use Rattle.lk_session.specs.Texts.{units_of}
use Rattle.std.proofs.lemmas.List.{length-map}
use Rattle.lk_store.specs.Store.{contents_of}
use Rattle.lk_env.specs.Units.{library_of, unit_at}
use Rattle.lk_env.specs.declared.unit.Unit.{Unit as StoredUnit}
use Rattle.lk_verdict.specs.declared.verdict.Verdict.{Verdict as HeldVerdict}
use Rattle.lk_verdict.specs.Held.{verdict}
use Rattle.lk_text.specs.Text.{session_text}
use Rattle.lk_callers.specs.Told.{told_submissions}
use Rattle.lk_callers.proofs.Wholes.{take_whole, units_counted}
use Rattle.lk_callers.proofs.report.tell_own.Goals as goal

pub returns : goal.returns
returns g c = λ budget right.
    let seen = c.args.pass.now.known.seen in
    let stated = g.T.Reads.stated in
    let units : library_of c.library-library.result.now ≡ units_of stated seen = c.library-library.ensures.units ∙ ap (units_of stated) (take_whole seen c.args.pass.now.read c.requires.read) in
    let told = c.in_ok-verdicts.ensures in
    record {
      as_many = told.count ∙ units_counted stated c.library-library.result.now c.units.result.now c.args.pass.now.read seen c.units.ensures.value c.library-library.ensures.units c.requires.read;
      plain = told.each stated budget seen right;
      text_is = c.in_ok-text.ensures stated seen c.requires.marks units ∙ ap (λ (vs : List HeldVerdict). session_text (told_submissions stated seen) (map verdict vs)) c.deref.ensures.value;
    }
