use Rattle.std.proofs.Common.{refl, ap, sym, subst, ◌∙◌}
use Rattle.lk_questions.specs.Erased.{a_tree}
use Rattle.lk_store.specs.Contents.{tree_at}
use Rattle.lk_ask.specs.Looks.{Basis}
use Rattle.lk_ask.proofs.Settles.{behind, refused_behind}
use Rattle.lk_iota.specs.Redexes.{redex_at, IsRedex}
use Rattle.lk_iota.specs.Iotas.{by_subject, Reduces}
use Rattle.lk_iota.proofs.Steady.{redex_steady}
use Rattle.lk_iota.proofs.subject.by_form.Goals as goal

pub returns-in-Ok : goal.returns-in-Ok
returns-in-Ok g c p at is =
    let d = g.L.Terms.contents c.args.looks.now in
    let f = g.L.Terms.contents c.literal_to_ctor.new.looks in
    let before = (g.L.Looks.sight (g.L.Terms.rest c.args.looks.now)).basis in
    let after = (g.L.Looks.sight (g.L.Terms.rest c.literal_to_ctor.new.looks)).basis in
    let e = tree_at d c.args.e in
    let u = c.args.redex.now in
    let settles = rw c.in-Ok.is at c.in_ok-subject.ensures.settles in
    let same = settles.keeps.trees.same c.args.e c.requires.e_in in
    let at_after = ap (redex_at after.place) same
    ∙ ap (λ (b : Basis _). redex_at b.place e) settles.stays ∙ at in
    let is_after = subst (λ (b : Basis _). IsRedex f b.library u p) (sym settles.stays)
    (redex_steady settles.keeps before.library u p c.requires.redex_in is) in
    behind a_tree (by_subject e p) c.in-Ok.subject settles
    (subst (λ y. Reduces g.L.Terms.contents g.L.Terms.rest g.L.Looks.sight
    c.literal_to_ctor.new.looks c.by_subject.new.looks c.by_subject.result
    (λ t. by_subject y p (t c.in-Ok.subject))) same (c.by_subject.ensures p at_after is_after))

pub returns-in-Err : goal.returns-in-Err
returns-in-Err g c p at is =
    let e = tree_at (g.L.Terms.contents c.args.looks.now) c.args.e in
    refused_behind a_tree (by_subject e p) c.in-Err.rule (λ w t last. refl)
    (rw c.in-Err.is at c.in_ok-subject.ensures.settles)
