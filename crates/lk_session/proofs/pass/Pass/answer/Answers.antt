use Rattle.std.proofs.Common.{◌≡◌, map, sym, subst}
use Rattle.lk_rulebook.specs.Units.{Library}
use Rattle.lk_env.specs.Units.{library_of}
use Rattle.lk_verdict.specs.Held.{verdict}
use Rattle.lk_session.specs.Texts.{units_of}
use Rattle.lk_session.specs.Answers.{AreFrom}
use Rattle.lk_session.proofs.Reading.{read_whole}
use Rattle.lk_session.proofs.pass.Pass.answer.Goals as goal

pub check_each-requires-clause-given : goal.check_each-requires-clause-given
check_each-requires-clause-given g c κs within =
    let whole : library_of c.library-library.result.now ≡ units_of g.T.Reads.stated c.args.self.now.known.seen = read_whole g.T.Reads.stated (library_of c.library-library.result.now) c.catch_up.new.self.read c.catch_up.new.self.known c.args.self.now.known c.library-library.ensures.units c.catch_up.ensures.known c.in-Ok.ensures.read in
    subst (λ (us : Library). AreFrom us (g.C.Checks.budget_of c.args.checks.now) c.args.first (map verdict c.args.verdicts.now.items)) (sym whole) c.requires.given

pub returns-clause-each : goal.returns-clause-each
returns-clause-each g c =
    let whole : library_of c.library-library.result.now ≡ units_of g.T.Reads.stated c.args.self.now.known.seen = read_whole g.T.Reads.stated (library_of c.library-library.result.now) c.catch_up.new.self.read c.catch_up.new.self.known c.args.self.now.known c.library-library.ensures.units c.catch_up.ensures.known c.in-Ok.ensures.read in
    subst (λ (us : Library). AreFrom us (g.C.Checks.budget_of c.args.checks.now) c.args.first (map verdict c.check_each.new.verdicts.items)) whole c.check_each.ensures.each
