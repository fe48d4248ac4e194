use Rattle.std.proofs.Common.{sym, ap, subst}
use Rattle.lk_questions.specs.Erased.{truth, erased}
use Rattle.lk_questions.specs.Unfolding.{unfold_second}
use Rattle.lk_store.specs.Contents.{tree_at}
use Rattle.lk_ask.proofs.Steps.{same_steps, after_making}
use Rattle.lk_lazy.specs.Heads.{IsUnfolding}
use Rattle.lk_lazy.proofs.Ranks.{still_unfolds, first_unfolds}
use Rattle.lk_lazy.proofs.lazy.unfold_both.Goals as goal

pub returns : goal.returns
returns g c p q i j =
    let rest = g.L.Terms.rest in
    let old = g.L.Terms.contents c.args.looks.now in
    let middle = g.L.Terms.contents c.unfold.new.looks in
    let made = c.in_ok-left.ensures in
    let unfolded = rw (i.levels_are, i.value_is, c.in-Some.is) at made.ok p.entry i.entry_is in
    let first = first_unfolds (tree_at old c.args.a) (tree_at old c.args.b) p q
    middle c.in-Some.left unfolded in
    let l = (g.L.Looks.sight (rest c.args.looks.now)).basis.library in
    let still = subst (λ r. IsUnfolding middle (g.L.Looks.sight r).basis.library c.args.v q)
    (sym made.rest) (still_unfolds old middle l c.args.v q made.keeps j) in
    let t = tree_at middle in
    let second = after_making
    (λ s. erased s.basis.place truth s.last (unfold_second (t c.in-Some.left) (t c.args.b) q))
    made.keeps made.rest (c.unfold_right.ensures q still) in
    same_steps (ap (erased _ truth _) (sym first))
    (rw (made.keeps.trees.same c.args.b c.requires.b_in) at second)
