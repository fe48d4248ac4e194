use Rattle.std.proofs.Common.{◌-◌, arith}
use Rattle.lk_rulebook.specs.Structures.{has_plain_fields}
use Rattle.lk_store.specs.Contents.{tree_at}
use Rattle.lk_mentions.specs.Names.{names_at}
use Rattle.lk_mentions.proofs.Heads.{whole_missing, field_mentions, field_clear}
use Rattle.lk_mentions.proofs.fields.has_plain_head.Goals as goal

pub returns-in-None : goal.returns-in-None
returns-in-None g c =
    let d = g.T.Terms.contents c.args.terms.now in
    let ns = names_at d c.args.names.now in
    whole_missing ns (has_plain_fields ns c.args.count (tree_at d c.args.e)) c.fields.left (c.fields.left - 1) (tree_at d c.fields.rest) c.fields.invariant.same (omega (arith, c.fields-test.true)) c.in-None.ensures

pub returns-then-not-branch : goal.returns-then-not-branch
returns-then-not-branch g c =
    let d = g.T.Terms.contents c.args.terms.now in
    let ns = names_at d c.args.names.now in
    field_mentions ns d c.fields.rest c.in-Some.pi c.in-Some.ensures (has_plain_fields ns c.args.count (tree_at d c.args.e)) c.fields.left (c.fields.left - 1) c.in_ok-is_clear-in-Some.field-0
    c.fields.invariant.same (omega (arith, c.fields-test.true)) c.in_ok-is_clear-in-Some.ensures.clear c.if-not-branch.true

pub fields-preserved : goal.fields-preserved
fields-preserved g c =
    let d = g.T.Terms.contents c.args.terms.now in
    let ns = names_at d c.args.names.now in
    record {
      known = c.in-Some.ensures.body_known;
      met = c.in_ok-is_clear-in-Some.ensures.met;
      same =
          field_clear ns d c.fields.rest c.in-Some.pi c.in-Some.ensures (has_plain_fields ns c.args.count (tree_at d c.args.e)) c.fields.left (c.fields.left - 1) c.in_ok-is_clear-in-Some.field-0
          c.fields.invariant.same (omega (arith, c.fields-test.true)) c.in_ok-is_clear-in-Some.ensures.clear c.if-not-branch.false;
    }
