use Rattle.std.proofs.Common.{rules, ap}
use Rattle.lk_questions.specs.Strings.{expansion_of}
use Rattle.lk_questions.specs.Tests.{◌>>=◌}
use Rattle.lk_written.specs.Reducing.{tree_in}
use Rattle.lk_store.specs.Contents.{text_at}
use Rattle.lk_premises.proofs.Settled.{failed_found}
use Rattle.lk_replay_equal.proofs.texts.text_expansion.Goals as goal

pub returns-in-Err : goal.returns-in-Err
returns-in-Err g c =
    let sight = g.L.Looks.sight (g.L.Terms.rest c.args.looks.now) in
    let s = text_at (g.L.Terms.contents c.args.looks.now) c.args.text in
    let fails = rw c.in-Err.is at c.in_ok-expansion.ensures.settles.comes_to in
    record {
      keeps = search rules;
      stays = search rules;
      known = search rules;
      ok = ap (λ o. o >>= tree_in) (failed_found sight.basis.place (expansion_of s) sight.last c.in-Err.field-0 fails);
    }
