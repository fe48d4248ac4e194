use Rattle.std.proofs.Common.{ℕ, ◌≡◌, Bool, sym, ◌∙◌, subst}
use Rattle.std.proofs.lemmas.Result.{IfOk-weaker}
use Rattle.lk_tree.specs.Tree.{Tree}
use Rattle.lk_tree.specs.Spine.{args}
use Rattle.lk_rulebook.specs.Place.{Place}
use Rattle.lk_rulebook.specs.Claims.{equals}
use Rattle.lk_questions.specs.Pairs.{same_all}
use Rattle.lk_questions.specs.Unfolding.{by_unfolding}
use Rattle.lk_store.specs.Contents.{Contents, tree_at}
use Rattle.lk_step.specs.Pairs.{same_pairs, pairs_at}
use Rattle.lk_step.specs.Runs.{Runs}
use Rattle.lk_step.specs.Tests.{IsRun}
use Rattle.lk_step.proofs.Moving.{moved2, tree_stays}
use Rattle.lk_derive_lazy.specs.Turns.{Bears, TurnsAgain}
use Rattle.lk_derive_lazy.proofs.Likeness.{arguments_run, arguments_bear, turns_again}
use Rattle.lk_derive_lazy.proofs.Spines.{heads_of, pairs_program, alike_stays}
use Rattle.lk_derive_lazy.proofs.arguments.by_arguments.Goals as goal

pub are_all_same-requires-clause-run : goal.are_all_same-requires-clause-run
are_all_same-requires-clause-run g c =
    let w : Place = (g.D.Looks.sight (g.D.Terms.rest c.args.derives.now)).basis.place in
    let d : Contents = g.D.Terms.contents c.args.derives.now in
    let h = c.requires.alike in
    let p = c.args.found.now in
    rw c.deref.ensures.value
    (subst (λ q. IsRun w q c.args.enough) (sym (pairs_program d c.args.a c.args.b p h.paired))
    (arguments_run w (tree_at d c.args.a) (tree_at d c.args.b) (heads_of d c.args.a c.args.b p h) h.paired.as_many c.args.enough c.requires.yes))

pub both_row-requires-clause-again : goal.both_row-requires-clause-again
both_row-requires-clause-again g c =
    let w : Place = (g.D.Looks.sight (g.D.Terms.rest c.args.derives.now)).basis.place in
    let d : Contents = g.D.Terms.contents c.args.derives.now in
    let a : Tree = tree_at d c.args.a in
    let b : Tree = tree_at d c.args.b in
    let h = c.requires.alike in
    let p = c.args.found.now in
    let told : (v : Bool) (m : ℕ) → Runs w (same_all (args a) (args b)) v m → v ≡ c.in_ok-are_all_same.field-0 =
    λ v m r. c.in_ok-are_all_same.ensures.told v m (subst (λ ps. Runs w (same_pairs (pairs_at d ps)) v m) (sym c.deref.ensures.value) (subst (λ q. Runs w q v m) (sym (pairs_program d c.args.a c.args.b p h.paired)) r)) in
    moved2 c.in_ok-are_all_same.ensures.leaves (λ w e f. TurnsAgain w e f) c.args.a c.args.b c.requires.a_in c.requires.b_in
    (turns_again w a b (heads_of d c.args.a c.args.b p h) h.paired.as_many c.requires.two.stated c.requires.two.left c.requires.two.right c.args.enough c.requires.yes (λ v m r. told v m r ∙ c.if-not-branch.true))

pub arguments_row-requires-clause-alike : goal.arguments_row-requires-clause-alike
arguments_row-requires-clause-alike g c =
    let d : Contents = g.D.Terms.contents c.args.derives.now in
    let n : Contents = g.D.Terms.contents c.are_all_same.new.derives in
    alike_stays d n c.in_ok-are_all_same.ensures.leaves.keeps c.args.a c.args.b c.args.found.now c.requires.a_in c.requires.b_in c.requires.alike

pub returns-clause-bears : goal.returns-clause-bears
returns-clause-bears g c =
    let w : Place = (g.D.Looks.sight (g.D.Terms.rest c.args.derives.now)).basis.place in
    let d : Contents = g.D.Terms.contents c.args.derives.now in
    let n : Contents = g.D.Terms.contents c.are_all_same.new.derives in
    let a : Tree = tree_at d c.args.a in
    let b : Tree = tree_at d c.args.b in
    let h = c.requires.alike in
    let p = c.args.found.now in
    let l = c.in_ok-are_all_same.ensures.leaves in
    let told : (v : Bool) (m : ℕ) → Runs w (same_all (args a) (args b)) v m → v ≡ c.in_ok-are_all_same.field-0 =
    λ v m r. c.in_ok-are_all_same.ensures.told v m (subst (λ ps. Runs w (same_pairs (pairs_at d ps)) v m) (sym c.deref.ensures.value) (subst (λ q. Runs w q v m) (sym (pairs_program d c.args.a c.args.b p h.paired)) r)) in
    IfOk-weaker c.arguments_row.result _ (Bears w n (by_unfolding a b) (equals a b))
    (λ r f. arguments_bear w a b (heads_of d c.args.a c.args.b p h) h.paired.as_many (λ v m r. told v m r ∙ c.if-not-branch.false) n (tree_at n c.args.a) (tree_at n c.args.b) r
    (tree_stays l c.args.a c.requires.a_in) (tree_stays l c.args.b c.requires.b_in) c.requires.two (λ m. f w m))
    c.arguments_row.ensures
