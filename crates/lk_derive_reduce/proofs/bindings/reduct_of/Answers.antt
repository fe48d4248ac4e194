use Rattle.std.proofs.Common.{◌≡◌, Some, None, sym, subst, ◌∙◌}
use Rattle.lk_tree.specs.Tree.{Tree}
use Rattle.lk_tree.specs.Spine.{head, args}
use Rattle.lk_questions.specs.Core.{core_steps}
use Rattle.lk_store.specs.Contents.{tree_at, IsTree}
use Rattle.lk_step.specs.Reducing.{beta_reduct}
use Rattle.lk_derive_reduce.proofs.CoreRuns.{lam_steps}
use Rattle.lk_derive_reduce.proofs.Begun.{Begun, begun, begins_leave}
use Rattle.lk_derive_reduce.proofs.bindings.reduct_of.Goals as goal

pub returns-in_err-step-clause-leaves : goal.returns-in_err-step-clause-leaves
returns-in_err-step-clause-leaves g c =
    begins_leave g.D.Terms.contents g.D.Terms.rest g.D.Looks.sight c.args.derives.now c.begin.new.looks c.begin.result c.args.e (core_steps (tree_at (g.D.Terms.contents c.args.derives.now) c.args.e)) c.begin.ensures

pub returns-clause-made : goal.returns-clause-made
returns-clause-made g c =
    let e : Tree = tree_at (g.D.Terms.contents c.args.derives.now) c.args.e in
    let x : Tree = beta_reduct (head e) (args e) in
    let b : Begun g.D.Terms.contents g.D.Terms.rest g.D.Looks.sight c.args.derives.now c.begin.new.looks c.in_ok-step.step x =
    begun g.D.Terms.contents g.D.Terms.rest g.D.Looks.sight c.args.derives.now c.begin.new.looks c.in_ok-step.step c.args.e x (core_steps e) c.in_ok-step.ensures (lam_steps e c.requires.applied c.requires.lambda) c.requires.applied in
    let same : Some b.number ≡ Some c.in-Some.r = sym b.is ∙ sym c.core_of_step.ensures ∙ c.in-Some.is in
    let number : b.number ≡ c.in-Some.r = cc in
    subst (λ z. IsTree (g.D.Terms.contents c.begin.new.looks) z x) number b.made

pub unreachable-requires : goal.unreachable-requires
unreachable-requires g c =
    let e : Tree = tree_at (g.D.Terms.contents c.args.derives.now) c.args.e in
    let x : Tree = beta_reduct (head e) (args e) in
    let b : Begun g.D.Terms.contents g.D.Terms.rest g.D.Looks.sight c.args.derives.now c.begin.new.looks c.in_ok-step.step x =
    begun g.D.Terms.contents g.D.Terms.rest g.D.Looks.sight c.args.derives.now c.begin.new.looks c.in_ok-step.step c.args.e x (core_steps e) c.in_ok-step.ensures (lam_steps e c.requires.applied c.requires.lambda) c.requires.applied in
    let none : None ≡ Some b.number = sym c.in-None.is ∙ c.core_of_step.ensures ∙ b.is in
    absurd cc
