use Rattle.std.proofs.Common.{Some, ap, sym, subst, ◌∙◌}
use Rattle.lk_questions.specs.Erased.{a_tree, erased}
use Rattle.lk_store.specs.Contents.{tree_at}
use Rattle.lk_iota.specs.Iotas.{compared_rest, Reduces}
use Rattle.lk_ask.proofs.Steps.{gives_now}
use Rattle.lk_iota.proofs.candidate.by_candidate.Goals as goal

pub returns-then-equal : goal.returns-then-equal
returns-then-equal g c p at is =
    subst (λ b. Reduces g.L.Terms.contents g.L.Terms.rest g.L.Looks.sight c.args.looks.now
    c.by_subject.new.looks c.by_subject.result
    (λ t. compared_rest (t c.args.e) (Some p) (t c.args.candidate) b)) (sym c.if-equal.true)
    (c.by_subject.ensures p at is)

pub returns-else-equal : goal.returns-else-equal
returns-else-equal g c p at is =
    let sight = g.L.Looks.sight (g.L.Terms.rest c.args.looks.now) in
    let d = g.L.Terms.contents c.args.looks.now in
    gives_now c.args.looks.now _ _
    (c.ask_major.ensures.known _ c.requires.redex_in.major_in c.requires.e_in)
    (c.ask_major.ensures.steps sight.basis.place d sight.basis.library sight.last p at is
    ∙ ap (λ b. erased sight.basis.place a_tree sight.last
    (compared_rest (tree_at d c.args.e) (Some p) (tree_at d c.args.candidate) b))
    (sym c.if-equal.false))
