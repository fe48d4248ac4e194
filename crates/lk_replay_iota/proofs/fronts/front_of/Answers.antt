use Rattle.std.proofs.Common.{◌≡◌, ◌<◌, ℕ, length, sym, ap, ◌∙◌, true, false}
use Rattle.lk_tree.specs.Tree.{Tree, app}
use Rattle.lk_questions.specs.Steps.{is_same_tree}
use Rattle.lk_store.specs.Contents.{tree_at}
use Rattle.lk_lit.specs.Operations.{is_app}
use Rattle.lk_lit.proofs.Arguments.{not_app}
use Rattle.lk_eta.proofs.Pairing.{all_last, all_others}
use Rattle.lk_premises.proofs.Comparing.{same_tree, one_tree}
use Rattle.lk_replay_iota.proofs.Applying.{front_goes, front_comes, no_front}
use Rattle.lk_replay_iota.proofs.fronts.front_of.Goals as goal

pub down-preserved : goal.down-preserved
down-preserved g c =
    let d = g.T.Terms.contents c.args.terms.now in
    let f = tree_at d in
    let was = c.down.invariant in
    let left = c.down.left.now in
    let others = c.in-Some.others.now in
    let last = c.in-Some.last.now in
    let split = c.in-Some.ensures.cases.0 in
    let function = c.in-App.function in
    let argument = c.in-App.argument in
    let is = c.in-App.ensures.tree in
    let one = same_tree (f argument) (f last) (sym c.same_tree.ensures ∙ c.if-not-same_tree.false) in
    record {
      at_in = c.in-App.ensures.known.0;
      left_in = all_others (λ (x : ℕ). x < length d.trees) left others last split was.left_in;
      goes = λ h e. was.goes h (front_goes f left others last split (f c.down.at) (f function) (f argument) is h one e);
      comes = λ h e. (front_comes f left others last split (f c.down.at) (f function) (f argument) is h (was.comes h e)).0;
    }

pub returns-then-not-same_tree : goal.returns-then-not-same_tree
returns-then-not-same_tree g c h e =
    let f = tree_at (g.T.Terms.contents c.args.terms.now) in
    let was = c.down.invariant in
    let both = front_comes f c.down.left.now c.in-Some.others.now c.in-Some.last.now c.in-Some.ensures.cases.0 (f c.down.at) (f c.in-App.function) (f c.in-App.argument) c.in-App.ensures.tree h (was.comes h e) in
    let t : is_same_tree (f c.in-App.argument) (f c.in-Some.last.now) ≡ true = one_tree (f c.in-App.argument) (f c.in-Some.last.now) both.1 in
    let n = c.same_tree.ensures in
    let k = c.if-not-same_tree.true in
    absurd cc

pub returns-in_default-view : goal.returns-in_default-view
returns-in_default-view g c h e =
    let d = g.T.Terms.contents c.args.terms.now in
    let f = tree_at d in
    let left = c.down.left.now in
    let others = c.in-Some.others.now in
    let last = c.in-Some.last.now in
    let none : (g x : Tree) → f c.down.at ≡ app g x → ⊥ =
    λ g x k. let other : is_app (f c.down.at) ≡ false = not_app d c.view.result (f c.down.at) c.in_default-view.not-App c.view.ensures.tree in
    let one : is_app (f c.down.at) ≡ true = ap is_app k in
    absurd cc in
    no_front f left others last c.in-Some.ensures.cases.0 (f c.down.at) none h (c.down.invariant.comes h e)

pub same_tree-requires-clause-b_in : goal.same_tree-requires-clause-b_in
same_tree-requires-clause-b_in g c =
    let d = g.T.Terms.contents c.args.terms.now in
    all_last (λ (x : ℕ). x < length d.trees) c.down.left.now c.in-Some.others.now c.in-Some.last.now c.in-Some.ensures.cases.0 c.down.invariant.left_in
