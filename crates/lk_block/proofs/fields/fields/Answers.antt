use Rattle.std.proofs.Common.{◌-◌, ◌∷◌, ◌++◌, [], map, refl, ap, ◌∙◌, rules, arith}
use Rattle.std.proofs.lemmas.List.Elements.{All-nil, All-same, All-push}
use Rattle.std.proofs.lemmas.Result.{err_from_is_err_and}
use Rattle.lk_store.specs.Contents.{tree_at}
use Rattle.lk_store.proofs.Extending.{Extends-trans}
use Rattle.lk_block.specs.Frames.{frame_at}
use Rattle.lk_block.specs.Shapes.{field_at, IsFieldIn}
use Rattle.lk_block.proofs.Frames.{frame-steady}
use Rattle.lk_block.proofs.Shaping.{field-steady, fields-known, each-push}
use Rattle.lk_block.proofs.EachField.{fields_first, fields_next, fields_halt, fields_end}
use Rattle.lk_block.proofs.fields.fields.Goals as goal

pub fields-init : goal.fields-init
fields-init g c =
    let before = g.A.Terms.contents c.args.asks.now in
    record {
      keeps = search rules;
      same_standing = refl;
      found_in = All-same (IsFieldIn before) c.new-found.result.items [] c.new-found.ensures.items (All-nil (IsFieldIn before));
      rest_in = c.requires.e_in;
      leads = rw c.new-found.ensures.items (fields_first (g.A.Asks.standing c.args.asks.now) (frame_at before c.args.frame.now) c.args.first c.args.count (tree_at before c.args.e) (g.A.Asks.left c.args.asks.now));
    }

pub returns-in_err-next-clause-outcome : goal.returns-in_err-next-clause-outcome
returns-in_err-next-clause-outcome g c fuel enough =
    let before = g.A.Terms.contents c.args.asks.now in
    let now = g.A.Terms.contents c.fields.asks in
    let p = err_from_is_err_and c.from_residual.result c.from_residual.ensures.1 in
    rw (p.1, p.2) (fields_halt (g.A.Asks.standing c.args.asks.now) (g.A.Asks.standing c.fields.asks) c.fields.invariant.same_standing
    (frame_at before c.args.frame.now) c.args.first c.args.count (tree_at before c.args.e) (g.A.Asks.left c.args.asks.now) (map (field_at now) c.fields.found.items) c.fields.number c.fields.left (tree_at now c.fields.rest) (g.A.Asks.left c.fields.asks) c.fields.invariant.leads
    (frame_at now c.args.frame.now) (frame-steady before now c.args.frame.now c.fields.invariant.keeps c.requires.frame_in)
    (c.fields.left - 1) c.in_err-next.field-0.0 (let some = c.fields-test.true in omega arith) c.in_err-next.ensures.outcome fuel enough)

pub fields-preserved : goal.fields-preserved
fields-preserved g c =
    let before = g.A.Terms.contents c.args.asks.now in
    let now = g.A.Terms.contents c.fields.asks in
    let after = g.A.Terms.contents c.next_field.new.asks in
    let more = c.keep.new.kept.items in
    let grown = c.in_ok-next.ensures.keeps in
    let pushed = c.in_ok-number.ensures.kept in
    record {
      keeps = Extends-trans before now after c.fields.invariant.keeps grown;
      same_standing = c.in_ok-next.ensures.stays ∙ c.fields.invariant.same_standing;
      found_in = All-same (IsFieldIn after) more (c.fields.found.items ++ c.in_ok-next.next.0 ∷ []) pushed (All-push (IsFieldIn after) c.fields.found.items c.in_ok-next.next.0 (fields-known now after grown c.fields.found.items c.fields.invariant.found_in) c.in_ok-next.ensures.field_known);
      rest_in = c.in_ok-next.ensures.rest_known;
      leads =
          fields_next (g.A.Asks.standing c.args.asks.now) (g.A.Asks.standing c.fields.asks) c.fields.invariant.same_standing
          (frame_at before c.args.frame.now) c.args.first c.args.count (tree_at before c.args.e) (g.A.Asks.left c.args.asks.now) (map (field_at now) c.fields.found.items) c.fields.number c.fields.left (tree_at now c.fields.rest) (g.A.Asks.left c.fields.asks) c.fields.invariant.leads
          (frame_at now c.args.frame.now) (frame-steady before now c.args.frame.now c.fields.invariant.keeps c.requires.frame_in)
          (map (field_at after) more) _ (c.fields.left - 1) (field_at after c.in_ok-next.next.0) (tree_at after c.in_ok-next.next.1) (g.A.Asks.left c.next_field.new.asks)
          (let some = c.fields-test.true in omega arith) c.in_ok-number.ensures.next
          (ap (map (field_at after)) pushed ∙ each-push (IsFieldIn now) (field_at after) (field_at now) c.fields.found.items c.in_ok-next.next.0 (field-steady now after grown) c.fields.invariant.found_in)
          c.in_ok-next.ensures.outcome;
    }

pub returns-clause-outcome : goal.returns-clause-outcome
returns-clause-outcome g c fuel enough =
    let before = g.A.Terms.contents c.args.asks.now in
    let now = g.A.Terms.contents c.fields.asks in
    fields_end (g.A.Asks.standing c.args.asks.now) (g.A.Asks.standing c.fields.asks) c.fields.invariant.same_standing
    (frame_at before c.args.frame.now) c.args.first c.args.count (tree_at before c.args.e) (g.A.Asks.left c.args.asks.now) (map (field_at now) c.fields.found.items) c.fields.number c.fields.left (tree_at now c.fields.rest) (g.A.Asks.left c.fields.asks) c.fields.invariant.leads
    (frame_at now c.args.frame.now) (frame-steady before now c.args.frame.now c.fields.invariant.keeps c.requires.frame_in)
    (let none = c.fields-test.false in omega arith) fuel enough
