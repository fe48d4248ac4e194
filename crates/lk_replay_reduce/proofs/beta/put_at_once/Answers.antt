use Rattle.std.proofs.Common.{subst, rules}
use Rattle.std.specs.Prelude.{IfOk}
use Rattle.lk_store.specs.Contents.{IsTree}
use Rattle.lk_replay_reduce.proofs.Opened.{put_applied}
use Rattle.lk_replay_reduce.proofs.beta.put_at_once.Goals as goal

pub returns : goal.returns
returns g c h body few closed =
    let before = g.L.Terms.contents c.args.looks.now in
    let put = g.L.Terms.contents c.put.new.terms in
    let made = g.L.Terms.contents c.apply.new.terms in
    let split = c.split_at in
    record {
      keeps = search rules;
      stays = search rules;
      ok = subst (λ t. IfOk c.apply.result (λ e. IsTree made e t))
          (put_applied before put c.in_ok-e.e c.args.body c.args.count c.args.args.now
          split.result.0.now split.result.1.now h c.in_ok-e.ensures.keeps c.requires.args_in
          split.ensures.front split.ensures.back c.in_ok-e.ensures.ok.is body few
          c.requires.few closed)
          c.apply.ensures.ok;
    }
