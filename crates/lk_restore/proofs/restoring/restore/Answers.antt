use Rattle.std.proofs.Common.{◌≡◌, false, true, nat_eq, subst, sym, ap, ◌∙◌, arith}
use Rattle.std.specs.Prelude.{IfOk}
use Rattle.std.proofs.lemmas.Bool.Decides.{nat_tests}
use Rattle.lk_store.specs.Contents.{tree_at, IsTree}
use Rattle.lk_restore.proofs.Steps.{walk_is, nothing_back}
use Rattle.lk_restore.proofs.restoring.restore.Goals as goal

pub returns-then-is_empty-clause-ok : goal.returns-then-is_empty-clause-ok
returns-then-is_empty-clause-ok g c = λ s standing over.
    let before = g.T.Terms.contents c.args.terms.now in
    record { known = c.requires.e_in; is = nothing_back before s c.args.originals.now (let e = c.if-is_empty.true in let f = c.is_empty.ensures in grind (arith, nat_tests)) (tree_at before c.args.e) }

pub returns-clause-ok : goal.returns-clause-ok
returns-clause-ok g c = λ s standing over.
    let before = g.T.Terms.contents c.args.terms.now in
    let after = g.T.Terms.contents c.rewritten.new.terms in
    subst (λ t. IfOk c.rewritten.result (λ r. IsTree after r t))
    (walk_is before s c.args.originals.now standing over (λ none. let h : false ≡ true = sym c.if-is_empty.false ∙ c.is_empty.ensures ∙ ap (λ n. nat_eq n 0) none in cc) (tree_at before c.args.e)) c.rewritten.ensures.ok
