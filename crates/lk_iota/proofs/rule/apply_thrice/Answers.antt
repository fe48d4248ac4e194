use Rattle.std.proofs.Common.{rules, subst}
use Rattle.std.specs.Prelude.{IfOk}
use Rattle.lk_store.specs.Contents.{IsTree}
use Rattle.lk_iota.proofs.RightSides.{applied_thrice}
use Rattle.lk_iota.proofs.rule.apply_thrice.Goals as goal

pub returns : goal.returns
returns g c =
    let before = g.T.Terms.contents c.args.terms.now in
    let middle = g.T.Terms.contents c.apply.new.terms in
    let after = g.T.Terms.contents c.apply-2.new.terms in
    record {
      keeps = search rules;
      stays = search rules;
      ok = subst (λ t. IfOk c.apply-3.result
          (λ e. IsTree (g.T.Terms.contents c.apply-3.new.terms) e t))
          (applied_thrice before middle after c.args.front c.in_ok-first.first c.in_ok-second.second
          c.args.shared.now c.args.fields.now c.args.others.now
          c.apply.ensures.keeps c.apply-2.ensures.keeps c.requires.fields_in c.requires.others_in
          c.in_ok-first.ensures.ok.is c.in_ok-second.ensures.ok.is)
          c.apply-3.ensures.ok;
    }
