use Rattle.lk_store.specs.Store.{contents_of}
use Rattle.lk_env.specs.Units.{library_of}
use Rattle.lk_text.proofs.Session.{all_written}
use Rattle.lk_text.proofs.submissions.add_submissions.Goals as goal

pub returns : goal.returns
returns c ss same told =
    all_written (library_of c.args.library.now) (contents_of c.args.library.now.tables) c.args.out.now.items c.loop-submission.out.items c.loop-submission.number c.loop-submission.rest.now c.args.submissions.now c.loop-submission.left.now
    c.args.library.now.units c.loop-submission.said.now c.args.verdicts.now ss c.in_default.ensures.cases same told c.loop-submission.invariant.text
