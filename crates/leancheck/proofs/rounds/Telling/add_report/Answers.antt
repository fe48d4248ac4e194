use Rattle.std.proofs.Common.{map, ap}
use Rattle.std.proofs.lemmas.Result.{on_ok_weaker}
use Rattle.lk_env.specs.Units.{library_of}
use Rattle.lk_env.specs.StoredLibrary.{StoredLibrary}
use Rattle.lk_verdict.specs.Held.{verdict}
use Rattle.leancheck.proofs.Changes.{lines_added}
use Rattle.leancheck.proofs.rounds.Telling.add_report.Goals as goal

pub returns-clause-text : goal.returns-clause-text
returns-clause-text c =
    let k = c.args.self.now.recheck in
    on_ok_weaker c.add_checked.result
    (lines_added c.args.self.now.text.items c.in_ok-lines.lines.items c.append.new.self.items c.add_checked.new.out.items (library_of k.library) (library_of c.library.result.now) k.verdicts
    (map verdict c.verdicts-verdicts.result.now) c.args.count c.from.result c.in_ok-lines.ensures (ap (λ (l : StoredLibrary). library_of l) c.library.ensures) c.verdicts-verdicts.ensures.value
    c.from.ensures c.in_ok-append.ensures.items)
    c.add_checked.ensures
