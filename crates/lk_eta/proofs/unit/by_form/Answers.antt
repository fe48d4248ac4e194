use Rattle.std.proofs.Common.{◌≡◌, Some, sym, ap, ◌∙◌}
use Rattle.lk_tree.specs.Spine.{head, args}
use Rattle.lk_tree.specs.declared.rule.Rule.TheVariants.{UnknownConstant}
use Rattle.lk_rulebook.specs.Place.{Entry}
use Rattle.lk_questions.specs.Erased.{truth, erased}
use Rattle.lk_questions.specs.Pairs.{◌or_else◌}
use Rattle.lk_store.specs.Contents.{name_at, list_at, tree_at}
use Rattle.lk_ask.specs.Looks.{entry_at}
use Rattle.lk_ask.proofs.Looking.{found_goes}
use Rattle.lk_ask.proofs.Steps.{carried}
use Rattle.lk_eta.specs.Units.{kind_line}
use Rattle.lk_ask.proofs.LineSteps.{same_line, after_looking}
use Rattle.lk_eta.proofs.UnitLike.{unit_looks}
use Rattle.lk_eta.proofs.unit.by_form.Goals as goal

pub returns-in-Ok : goal.returns-in-Ok
returns-in-Ok g c =
    let t = tree_at (g.L.Terms.contents c.args.looks.now) in
    let before = g.L.Looks.sight (g.L.Terms.rest c.args.looks.now) in
    let w = before.basis.place in
    let last = (g.L.Looks.sight (g.L.Terms.rest c.look.new.self)).last in
    let h = c.in-Ok.ensures.found in
    let e = h.entry in
    let x = name_at (g.L.Terms.contents c.args.looks.now) c.in-Const.name in
    let ks = list_at (g.L.Terms.contents c.args.looks.now) c.in-Const.field-1 in
    let same = c.look.ensures.contents in
    let stays = c.look.ensures.stays in
    let head_is = c.in-Const.ensures.tree ∙ c.head-front.ensures.is in
    let there = carried (λ k b. entry_at b c.in-Ok.entry ≡ Some e) same stays h.is in
    same_line
    (λ p.
    let r = p (t c.args.a) (t c.args.b) in
    let form = t c.args.form in
    sym (ap (erased w truth before.last) (unit_looks (t c.args.a) (t c.args.b) (t c.args.ty) (head form) (args form) x ks r head_is)
    ∙ found_goes w truth x UnknownConstant (λ (g : Entry). kind_line (t c.args.b) (t c.args.ty) g.kind (args form) or_else r) before.basis.library before.last last c.in-Ok.entry h))
    (after_looking
    (λ k b p. erased b.place truth last (kind_line (tree_at k c.args.b) (tree_at k c.args.ty) e.kind (args (tree_at k c.args.form)) or_else p (tree_at k c.args.a) (tree_at k c.args.b)))
    same stays (c.by_entry.ensures e there))
