use Rattle.std.proofs.Common.{sym, subst}
use Rattle.lk_questions.specs.LiteralLines.{step_of}
use Rattle.lk_store.specs.Contents.{Contents, tree_at}
use Rattle.lk_tree.specs.Spine.{head}
use Rattle.lk_step.specs.Driving.{IsDriven}
use Rattle.lk_step.proofs.Driven.{run_within, driven_value}
use Rattle.lk_step.proofs.operations.computed.Goals as goal

pub returns-clause-comes : goal.returns-clause-comes
returns-clause-comes g c = λ r n h.
    let s0 = g.D.Looks.sight (g.D.Terms.rest c.args.derives.now) in
    let s1 = g.D.Looks.sight (g.D.Terms.rest c.begin_step.new.derives) in
    let s2 = g.D.Looks.sight (g.D.Terms.rest c.one_more.new.derives) in
    let s3 = g.D.Looks.sight (g.D.Terms.rest c.one_more-2.new.derives) in
    let d1 : Contents = g.D.Terms.contents c.begin_step.new.derives in
    let d2 : Contents = g.D.Terms.contents c.one_more.new.derives in
    let d3 : Contents = g.D.Terms.contents c.one_more-2.new.derives in
    let e = tree_at (g.D.Terms.contents c.args.derives.now) c.args.e in
    let first : IsDriven s0.basis.place d1 s1.last c.in_ok-first.first r 2 c.args.enough = c.in_ok-first.ensures.driven r n h (run_within s0.basis.place (step_of e (head e)) c.args.enough c.requires.run r n h) in
    let second : IsDriven s1.basis.place d2 s2.last c.in_ok-second.second r 1 c.args.enough = c.in_ok-second.ensures.driven r 1 (subst (λ z. IsDriven z d1 s1.last c.in_ok-first.first r 2 c.args.enough) (sym c.begin_step.ensures.leaves.place) first) in
    let third : IsDriven s2.basis.place d3 s3.last c.in_ok-third.third r 0 c.args.enough = c.in_ok-third.ensures.driven r 0 (subst (λ z. IsDriven z d2 s2.last c.in_ok-second.second r 1 c.args.enough) (sym c.one_more.ensures.leaves.place) second) in
    driven_value s2.basis.place d3 s3.last c.value_in.ensures.term c.value_in.result r 0 c.args.enough (subst (λ p. IsDriven s2.basis.place d3 s3.last p r 0 c.args.enough) c.value_in.ensures.is third)
