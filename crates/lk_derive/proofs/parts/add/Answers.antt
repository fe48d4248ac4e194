use Rattle.std.proofs.lemmas.Result.{on_ok_weaker}
use Rattle.lk_store.specs.Contents.{tree_at}
use Rattle.lk_ask.specs.Questions.{query_of}
use Rattle.lk_derive.proofs.PartsAdded.{part_added}
use Rattle.lk_derive.proofs.parts.add.Goals as goal

pub returns-clause-adds : goal.returns-clause-adds
returns-clause-adds g c =
    let rows = c.args.rows.now in
    let t = g.R.Rows.contents rows in
    on_ok_weaker c.push_claim.result
    (λ pushed. part_added (g.R.Rows.place rows) t (g.R.Rows.contents c.derive.new.rows) c.derive.ensures.stays.keeps c.args.parts.now c.requires.due.parts_are
    c.derive.new.derivation c.push_claim.new.claims (query_of (tree_at t) c.args.query) c.args.claim c.in_ok-derive.ensures.derives c.requires.claim_in c.requires.claim_is pushed)
    c.push_claim.ensures
