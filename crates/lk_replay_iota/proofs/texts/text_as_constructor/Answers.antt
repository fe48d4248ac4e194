use Rattle.std.proofs.Common.{rules}
use Rattle.lk_questions.specs.Strings.{text_to_ctor}
use Rattle.lk_store.specs.Contents.{tree_at}
use Rattle.lk_premises.proofs.Settled.{failed_found}
use Rattle.lk_replay_iota.proofs.texts.text_as_constructor.Goals as goal

pub returns-in-Err : goal.returns-in-Err
returns-in-Err g c =
    let sight = g.L.Looks.sight (g.L.Terms.rest c.args.looks.now) in
    let t = tree_at (g.L.Terms.contents c.args.looks.now) c.args.e in
    let fails = rw c.in-Err.is at c.in_ok-tree.ensures.settles.comes_to in
    record {
      keeps = search rules;
      stays = search rules;
      known = search rules;
      ok = failed_found sight.basis.place (text_to_ctor t) sight.last c.in-Err.field-0 fails;
    }
