use Rattle.std.proofs.Common.{ℕ, map, sym, ap, ◌∙◌}
use Rattle.std.specs.Prelude.{Vec}
use Rattle.std.specs.declared.alloc.Global.{Global}
use Rattle.lk_store.specs.Contents.{name_at, tree_at}
use Rattle.lk_env.specs.Units.{body_at, declaration_at}
use Rattle.leancheck.proofs.Verdicts.{questions_answered}
use Rattle.leancheck.proofs.checking.ask_quotient.Goals as goal

pub returns-clause-verdict : goal.returns-clause-verdict
returns-clause-verdict g c =
    let k = g.Q.Terms.contents c.args.asks.now in
    let d = declaration_at k c.args.declaration.now in
    let body = ap (body_at k) c.requires.quotient in
    let levels = c.deref-2.ensures.value ∙ ap (λ (v : Vec ℕ Global). v.items) c.deref.ensures in
    rw c.verdict_of.ensures
    (questions_answered (g.Q.Asks.standing c.args.asks.now) (g.Q.Asks.left c.args.asks.now) _ d
    c.check_quotient.result c.requires.table (c.check_quotient.ensures.outcome d (ap (name_at k) (sym c.from-name.ensures))
    (sym (ap (map (name_at k)) levels)) (ap (tree_at k) (sym c.from-ty.ensures)) body))
