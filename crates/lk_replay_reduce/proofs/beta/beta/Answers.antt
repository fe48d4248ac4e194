use Rattle.std.proofs.Common.{subst, arith}
use Rattle.std.specs.Prelude.{IfOk}
use Rattle.lk_store.specs.Contents.{tree_at, IsTree}
use Rattle.lk_replay_reduce.proofs.Opened.{most_opened}
use Rattle.lk_replay_reduce.proofs.beta.beta.Goals as goal

pub returns-then-are_closed : goal.returns-then-are_closed
returns-then-are_closed g c =
    let before = g.L.Terms.contents c.args.looks.now in
    let after = g.L.Terms.contents c.put_at_once.new.looks in
    let under = c.body_under-body in
    let h = tree_at before c.args.head in
    let made = c.put_at_once.ensures h under.ensures.body.is (omega arith)
    (c.are_closed.ensures c.if-are_closed.true) in
    record {
      keeps = made.keeps;
      stays = made.stays;
      ok = subst (λ t. IfOk c.put_at_once.result (λ e. IsTree after e t))
          (most_opened before under.result.1 h c.args.args.now under.ensures.count) made.ok;
    }

pub returns-else-are_closed : goal.returns-else-are_closed
returns-else-are_closed g c =
    let before = g.L.Terms.contents c.args.looks.now in
    let after = g.L.Terms.contents c.open_in_turn.new.looks in
    let under = c.body_under-body in
    let h = tree_at before c.args.head in
    let made = c.open_in_turn.ensures in
    record {
      keeps = made.keeps;
      stays = made.stays;
      ok = subst (λ t. IfOk c.open_in_turn.result (λ e. IsTree after e t))
          (most_opened before under.result.1 h c.args.args.now under.ensures.count) made.ok;
    }
