use Rattle.std.proofs.Common.{◌≡◌, ℕ, ◌<◌, ◌∷◌, length, map, sym, subst, ◌∙◌, arith, rules}
use Rattle.std.specs.Prelude.{IfOk}
use Rattle.std.proofs.lemmas.Bool.Decides.{nat_tests}
use Rattle.std.proofs.lemmas.List.Elements.{All-same, All-head, All-rest}
use Rattle.lk_store.specs.Contents.{tree_at, IsTree}
use Rattle.lk_store.proofs.Extending.{Extends-trans}
use Rattle.lk_tree.specs.Spine.{apply}
use Rattle.lk_questions.specs.Core.{beta}
use Rattle.lk_replay_reduce.proofs.Opened.{one_opened, none_left, no_lambda, all_taken, rest_applied}
use Rattle.lk_replay_reduce.proofs.beta.open_in_turn.Goals as goal
use Rattle.lk_replay_reduce.proofs.beta.open_in_turn.Goals.{in_default-view-via-in-Lam+else-left-gt0, in_default-view-via-in_default-view}

pub open-preserved : goal.open-preserved
open-preserved g c =
    let before = g.L.Terms.contents c.args.looks.now in
    let now = g.L.Terms.contents c.open.looks in
    let was = c.open.invariant in
    let made = c.in_ok-e-in-Lam.ensures in
    let left = c.open.left in
    let a = c.in-Some.a.now in
    let more = c.in-Some.more.now in
    let rest : c.open.rest.now ≡ a ∷ more = c.in-Some.ensures.cases.0 in
    let P : ℕ → Type 0 = λ e. e < length before.trees in
    let a_in : P a = All-head P a more (All-same P _ _ (sym rest) was.args_known) in
    let e = tree_at now c.open.e in
    let whole = beta c.args.count (tree_at before c.args.head)
    (map (tree_at before) c.args.args.now) in
    let stands : beta left e (map (tree_at before) (a ∷ more)) ≡ whole =
    subst (λ xs. beta left e (map (tree_at before) xs) ≡ whole) rest was.stands in
    record {
      grown = Extends-trans _ _ _ was.grown made.keeps;
      same_rest = made.rest ∙ was.same_rest;
      known = made.ok.known;
      args_known = All-rest P a more c.open.rest.now rest was.args_known;
      stands = one_opened left e _ _ (tree_at now c.in-Lam.body) (tree_at before a) (tree_at now a)
          (map (tree_at before) more) whole (grind (arith, nat_tests, c.if-left-gt0.true))
          c.in-Lam.ensures.tree made.ok.is (was.grown.trees.same a a_in) stands;
    }

pub returns-in_default-view : goal.returns-in_default-view
returns-in_default-view g c =
    let before = g.L.Terms.contents c.args.looks.now in
    let now = g.L.Terms.contents c.open.looks in
    let after = g.L.Terms.contents c.apply.new.terms in
    let was = c.open.invariant in
    let left = c.open.left in
    let e = tree_at now c.open.e in
    let xs = map (tree_at before) c.open.rest.now in
    let whole = beta c.args.count (tree_at before c.args.head)
    (map (tree_at before) c.args.args.now) in
    let stop : beta left e xs ≡ apply e xs = elim c.in_default-view.branch [
      | in_default-view-via-in-Lam+else-left-gt0 w ↦
          none_left e xs left (grind (arith, nat_tests, w.if-left-gt0.false))
      | in_default-view-via-in_default-view w ↦
          no_lambda now c.view.result e xs left c.view.ensures.tree w.in_default-view.not-Lam
    ] in
    record {
      keeps = Extends-trans _ _ _ was.grown c.apply.ensures.keeps;
      stays = c.apply.ensures.rest ∙ was.same_rest;
      ok = subst (λ t. IfOk c.apply.result (λ r. IsTree after r t))
          (rest_applied before now e whole c.open.rest.now left was.grown was.args_known
          stop was.stands)
          c.apply.ensures.ok;
    }

pub returns : goal.returns
returns g c =
    let before = g.L.Terms.contents c.args.looks.now in
    let now = g.L.Terms.contents c.open.looks in
    let was = c.open.invariant in
    let none : length c.open.rest.now ≡ 0 = search rules in
    let e = tree_at now c.open.e in
    let taken = all_taken c.open.left e (tree_at before) c.open.rest.now none in
    record {
      keeps = was.grown;
      stays = was.same_rest;
      ok = record { known = was.known; is = taken ∙ was.stands };
    }
