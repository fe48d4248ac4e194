use Rattle.std.proofs.Common.{sym, ◌∙◌}
use Rattle.lk_store.specs.Contents.{tree_at}
use Rattle.lk_eta.proofs.Applied.{full_goes, other_goes}
use Rattle.lk_ask.proofs.LineSteps.{line_now}
use Rattle.lk_eta.proofs.structure.by_entry.Goals as goal

pub returns-then-branch : goal.returns-then-branch
returns-then-branch g c e x ks h at =
    let s = c.args.looks.now in
    let t = tree_at (g.L.Terms.contents s) in
    let sight = g.L.Looks.sight (g.L.Terms.rest s) in
    line_now s _ _ (c.requires.a_in, (c.requires.a_in, c.requires.b_in))
    (λ p. full_goes (t c.args.a) (t c.args.b) x ks e e.kind sight.basis.place sight.last (p (t c.args.a) (t c.args.b)) (sym (c.in_ok-is_full.ensures e h) ∙ c.if-branch.true) at)

pub returns-else-branch : goal.returns-else-branch
returns-else-branch g c e x ks h at =
    let s = c.args.looks.now in
    let t = tree_at (g.L.Terms.contents s) in
    let sight = g.L.Looks.sight (g.L.Terms.rest s) in
    line_now s _ _ (c.requires.a_in, c.requires.b_in)
    (λ p. other_goes (t c.args.a) (t c.args.b) x ks e e.kind sight.basis.place sight.last (p (t c.args.a) (t c.args.b)) (sym (c.in_ok-is_full.ensures e h) ∙ c.if-branch.false))
