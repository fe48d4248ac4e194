use Rattle.std.proofs.Common.{sym, ◌∙◌, subst}
use Rattle.std.specs.Prelude.{IfOk}
use Rattle.lk_tree.specs.Tree.{Tree}
use Rattle.lk_rulebook.specs.Place.{Place}
use Rattle.lk_rulebook.specs.Claims.{equals}
use Rattle.lk_questions.specs.Steps.{sort_of}
use Rattle.lk_questions.specs.Same.{by_proof_irrelevance}
use Rattle.lk_store.specs.Contents.{Contents, level_at, tree_at}
use Rattle.lk_step.specs.Tests.{IsRun}
use Rattle.lk_derive_equal.specs.Sorts.{IsSorted}
use Rattle.lk_step.specs.Tells.{Tells}
use Rattle.lk_step.proofs.Moving.{moved2, back2, leaves_on}
use Rattle.lk_derive_equal.proofs.ProofLine.{proof_sort, proof_other}
use Rattle.lk_derive_equal.proofs.proofs.ProofIrrelevanceTest.tell.Goals as goal

pub sort_of-requires-clause-run : goal.sort_of-requires-clause-run
sort_of-requires-clause-run g c =
    let w : Place = (g.D.Looks.sight (g.D.Terms.rest c.args.derives.now)).basis.place in
    let d : Contents = g.D.Terms.contents c.args.derives.now in
    let A : Tree = tree_at (g.D.Terms.contents c.type_of.new.derives) c.in_ok-left.left in
    subst (λ w. IsRun w (sort_of A) c.args.enough) (sym c.in_ok-left.ensures.leaves.place)
    (proof_sort w (tree_at d c.args.a) (tree_at d c.args.b) A c.args.enough c.requires.run c.in_ok-left.ensures.told)

pub returns-then-not-level_is_zero-clause-tells : goal.returns-then-not-level_is_zero-clause-tells
returns-then-not-level_is_zero-clause-tells g c =
    let w : Place = (g.D.Looks.sight (g.D.Terms.rest c.args.derives.now)).basis.place in
    let d : Contents = g.D.Terms.contents c.args.derives.now in
    let n : Contents = g.D.Terms.contents c.sort_of.new.derives in
    let A : Tree = tree_at (g.D.Terms.contents c.type_of.new.derives) c.in_ok-left.left in
    let s = c.in_ok-sort.sort in
    let sorted : IsSorted w A n s = subst (λ w. IsSorted w A n s) c.in_ok-left.ensures.leaves.place c.in_ok-sort.ensures.sorted in
    λ says cost h. proof_other w (tree_at d c.args.a) (tree_at d c.args.b) A (tree_at n s.ty) (tree_at n s.form) (level_at n s.level)
    c.in_ok-left.ensures.told sorted.typed sorted.formed sorted.form_is (sym c.level_is_zero.ensures ∙ c.if-not-level_is_zero.true) says cost h

pub by_types-requires-clause-run : goal.by_types-requires-clause-run
by_types-requires-clause-run g c =
    moved2 (leaves_on c.in_ok-left.ensures.leaves c.in_ok-sort.ensures.leaves) (λ w a b. IsRun w (by_proof_irrelevance a b) c.args.enough) c.args.a c.args.b c.requires.a_in c.requires.b_in c.requires.run

pub returns-clause-tells : goal.returns-clause-tells
returns-clause-tells g c =
    let n : Contents = g.D.Terms.contents c.by_types.new.derives in
    back2 (leaves_on c.in_ok-left.ensures.leaves c.in_ok-sort.ensures.leaves) (λ w a b. IfOk c.by_types.result (Tells w n (by_proof_irrelevance a b) (equals a b))) c.args.a c.args.b c.requires.a_in c.requires.b_in c.by_types.ensures.tells
