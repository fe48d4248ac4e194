use Rattle.std.proofs.Common.{◌≡◌, true, sym, subst, rules, if◌then◌else◌}
use Rattle.lk_tree.specs.Tree.{name_discrete}
use Rattle.lk_questions.specs.Levels.{complete_test, levels_equal}
use Rattle.lk_questions.specs.Pairs.{answers_yes, goes_on}
use Rattle.lk_questions.specs.Steps.{decided}
use Rattle.lk_store.specs.Contents.{name_at, list_at, tree_at}
use Rattle.lk_same.specs.Sames.{GoesLine, then_eta}
use Rattle.lk_same.proofs.parts.constants.Goals as goal

pub returns : goal.returns
returns g c a b =
    let d = g.L.Terms.contents c.args.looks.now in
    let t = tree_at d in
    let p = then_eta (t a) (t b) in
    let r = c.tested_yes.result in
    let line = answers_yes (levels_equal complete_test (list_at d c.args.left_levels)
    (list_at d c.args.right_levels)) in
    let one : decided (name_discrete (name_at d c.args.left) (name_at d c.args.right)) ≡ true = search rules in
    record {
      known = c.tested_yes.ensures.known _;
      goes = λ w last. subst (λ y. GoesLine w t last (if y then line else goes_on) p r) (sym one)
          (subst (λ l. GoesLine w t last (answers_yes l) p r) c.in_ok-equal.ensures
          (c.tested_yes.ensures.goes w t last p));
    }
