use Rattle.std.proofs.Common.{◌-◌, arith}
use Rattle.lk_rulebook.specs.Structures.{has_plain_fields_after}
use Rattle.lk_store.specs.Contents.{tree_at}
use Rattle.lk_mentions.proofs.Heads.{whole_missing_after, whole_behind}
use Rattle.lk_mentions.proofs.fields.behind_pis.Goals as goal

pub returns-in-None-clause-rest : goal.returns-in-None-clause-rest
returns-in-None-clause-rest g c = λ ns n.
    let d = g.T.Terms.contents c.args.terms.now in
    whole_missing_after ns (has_plain_fields_after ns c.args.count n (tree_at d c.args.e)) c.pis.left (c.pis.left - 1) n (tree_at d c.pis.rest) (c.pis.invariant.same ns n) (omega (arith, c.pis-test.true)) c.in-None.ensures

pub pis-preserved : goal.pis-preserved
pis-preserved g c =
    let d = g.T.Terms.contents c.args.terms.now in
    record {
      known = c.in-Some.ensures.body_known;
      same = λ ns n.
          whole_behind ns d c.pis.rest c.in-Some.pi c.in-Some.ensures (has_plain_fields_after ns c.args.count n (tree_at d c.args.e)) c.pis.left (c.pis.left - 1) n (c.pis.invariant.same ns n) (omega (arith, c.pis-test.true));
    }
