use Rattle.std.proofs.Common.{rules, ◌≡◌, ◌+◌, ◌++◌, ◌∷◌, [], refl, ap, ◌∙◌, arith}
use Rattle.lk_store.specs.Contents.{tree_at, IsTree}
use Rattle.lk_inductive.specs.Block.{domain}
use Rattle.lk_inductive.specs.Recursors.{number}
use Rattle.lk_subst.specs.Runs.{close_in}
use Rattle.lk_recursor.proofs.Telescopes.{telescope_next}
use Rattle.lk_recursor.proofs.telescope.add_local.Goals as goal

pub returns-clause-ok : goal.returns-clause-ok
returns-clause-ok g c = λ yes xs is.
    let before = g.T.Terms.contents c.args.terms.now in
    let after = g.T.Terms.contents c.close_runs.new.terms in
    let was = c.args.telescope.now in
    let x = tree_at before c.args.local in
    let parts = c.parts_of-number in
    let closed = c.in_ok-closed.ensures in
    let number_is : parts.result.0 ≡ number x = parts.ensures.number in
    let low = c.if-number-inner.false in
    let place = c.if-number-inner-2.false in
    let here : number x ≡ was.runs.inner.first + was.runs.inner.count = omega arith in
    let pushed : c.push.new.self.items ≡ was.domains.items ++ c.in_ok-closed.closed ∷ [] = search rules in
    let made : IsTree after c.in_ok-closed.closed (close_in 0 was.runs (domain x)) = record { known = closed.ok.known; is = closed.ok.is ∙ ap (close_in 0 was.runs) parts.ensures.domain.is } in
    telescope_next before after closed.keeps xs x was _ c.in_ok-closed.closed c.in_ok-count.count here made pushed refl c.in_ok-count.ensures is
