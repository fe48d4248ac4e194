use Rattle.std.proofs.Common.{rules, ◌≡◌, length, ap, sym}
use Rattle.lk_tree.specs.Spine.{args}
use Rattle.lk_questions.specs.Erased.{a_tree, erased}
use Rattle.lk_store.specs.Contents.{name_at, tree_at}
use Rattle.lk_ask.proofs.Steps.{same_steps}
use Rattle.lk_quot.specs.Redexes.{plain_redex}
use Rattle.lk_quot.proofs.Elements.{three_are}
use Rattle.lk_quot.proofs.core_form.by_name.Goals as goal

pub returns : goal.returns
returns g c ks =
    let before = (g.L.Looks.sight (g.L.Terms.rest c.args.looks.now)) in
    let t = tree_at (g.L.Terms.contents c.args.looks.now) in
    let es = c.in_ok-arguments.arguments.items in
    let three : length es ≡ 3 = search rules in
    same_steps (sym (ap (erased before.basis.place a_tree before.last)
    (three_are t (t c.args.e) (plain_redex t c.args.redex.now)
    (name_at (g.L.Terms.contents c.args.looks.now) c.args.name) ks (args (t c.args.m)) es
    c.index.result.now c.in_ok-arguments.ensures.are three c.index.ensures
    (c.is_dotted.ensures.0 c.if-not-is_dotted.false))))
    c.at_constructor.ensures
