use Rattle.std.proofs.Common.{◌≡◌, Some, sym, ap, ◌∙◌}
use Rattle.lk_tree.specs.Spine.{head, args}
use Rattle.lk_tree.specs.declared.rule.Rule.TheVariants.{UnknownConstant}
use Rattle.lk_rulebook.specs.Place.{Entry as PlainEntry}
use Rattle.lk_questions.specs.Erased.{truth, erased}
use Rattle.lk_questions.specs.Iota.{ctor_app_by}
use Rattle.lk_questions.specs.Pairs.{◌or_else◌}
use Rattle.lk_questions.specs.Eta.{eta_struct}
use Rattle.lk_store.specs.Contents.{name_at, list_at, tree_at}
use Rattle.lk_env.specs.Lent.{constructor_in}
use Rattle.lk_ask.specs.Looks.{entry_at}
use Rattle.lk_ask.proofs.Looking.{found_goes}
use Rattle.lk_ask.proofs.Steps.{carried}
use Rattle.lk_eta.specs.Structures.{constructor_at}
use Rattle.lk_eta.proofs.Applied.{constructor_named, structure_looks}
use Rattle.lk_ask.proofs.LineSteps.{same_line, after_looking}
use Rattle.lk_eta.proofs.structure.begin.Goals as goal

pub returns-in-Ok : goal.returns-in-Ok
returns-in-Ok g c =
    let d = g.L.Terms.contents c.args.looks.now in
    let before = g.L.Looks.sight (g.L.Terms.rest c.args.looks.now) in
    let w = before.basis.place in
    let last = (g.L.Looks.sight (g.L.Terms.rest c.look.new.self)).last in
    let h = c.in-Ok.ensures.found in
    let e = h.entry in
    let x = name_at d c.in-Const.name in
    let ks = list_at d c.in-Const.field-1 in
    let same = c.look.ensures.contents in
    let stays = c.look.ensures.stays in
    let head_is = c.in-Const.ensures.tree ∙ c.head-front.ensures.is in
    let there = carried (λ k b. entry_at b c.in-Ok.entry ≡ Some e) same stays h.is in
    let at = carried (λ k b. constructor_at b.place (head (tree_at k c.args.b)) ≡ constructor_in e.kind) same stays (constructor_named w x ks e (head (tree_at d c.args.b)) head_is h.means) in
    same_line
    (λ p.
    let r = p (tree_at d c.args.a) (tree_at d c.args.b) in
    let a = tree_at d c.args.a in
    let b = tree_at d c.args.b in
    sym (ap (erased w truth before.last) (structure_looks a b x ks r head_is)
    ∙ found_goes w truth x UnknownConstant (λ (g : PlainEntry). eta_struct a b (ctor_app_by x ks (args b) g g.kind) or_else r) before.basis.library before.last last c.in-Ok.entry h))
    (after_looking
    (λ k b p. erased b.place truth last (eta_struct (tree_at k c.args.a) (tree_at k c.args.b) (ctor_app_by x ks (args (tree_at k c.args.b)) e e.kind) or_else p (tree_at k c.args.a) (tree_at k c.args.b)))
    same stays (c.by_entry.ensures e x ks there at))
