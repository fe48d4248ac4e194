use Rattle.std.proofs.Common.{◌≡◌, Some, sym, ap, subst, ◌∙◌, rules}
use Rattle.lk_tree.specs.Tree.{const}
use Rattle.lk_tree.specs.Spine.{head}
use Rattle.lk_tree.specs.declared.rule.Rule.TheVariants.{UnknownConstant}
use Rattle.lk_questions.specs.Erased.{a_tree, erased, erased_then}
use Rattle.lk_questions.specs.Program.{◌>>=◌}
use Rattle.lk_questions.proofs.Continuing.{then_is}
use Rattle.lk_questions.specs.Core.{unfolded, stepped}
use Rattle.lk_questions.specs.Literals.{literal_step}
use Rattle.lk_questions.specs.Steps.{value_of}
use Rattle.lk_store.specs.Contents.{name_at, list_at, tree_at, Extends}
use Rattle.lk_ask.specs.Looks.{entry_at}
use Rattle.lk_ask.proofs.Looking.{found_goes}
use Rattle.lk_ask.proofs.Steps.{same_steps, after_look, carried}
use Rattle.lk_core.specs.Forms.{after_literal, unfolded_at}
use Rattle.lk_core.proofs.Constants.{unfolded_is, part_then}
use Rattle.lk_core.proofs.whnf.constant_end.Goals as goal

pub returns-in_err-part : goal.returns-in_err-part
returns-in_err-part g c =
    let look = c.look.ensures in
    let entry = c.in-Ok.entry in
    let h = c.in-Ok.ensures.found in
    let there = carried (λ k d. entry_at d entry ≡ Some h.entry) look.contents look.stays h.is in
    let at_head = subst (λ k. const (name_at k c.args.name) (list_at k c.args.levels)
    ≡ head (tree_at k c.args.e)) (sym look.contents) c.requires.head_is in
    let p = c.in_err-part.ensures h.entry there at_head in
    record {
      keeps = subst (λ k. Extends k (g.L.Terms.contents c.begin.new.looks)) look.contents p.keeps;
      stays = p.stays ∙ look.stays;
      known = search rules;
      steps = search rules;
    }

pub of_literal-requires : goal.of_literal-requires
of_literal-requires g c =
    let look = c.look.ensures in
    let entry = c.in-Ok.entry in
    let h = c.in-Ok.ensures.found in
    let there = carried (λ k d. entry_at d entry ≡ Some h.entry) look.contents look.stays h.is in
    let at_head = subst (λ k. const (name_at k c.args.name) (list_at k c.args.levels)
    ≡ head (tree_at k c.args.e)) (sym look.contents) c.requires.head_is in
    (c.in_ok-part.ensures h.entry there at_head).known

pub returns : goal.returns
returns g c =
    let look = c.look.ensures in
    let entry = c.in-Ok.entry in
    let h = c.in-Ok.ensures.found in
    let t = g.L.Terms.contents c.args.looks.now in
    let s = g.L.Looks.sight (g.L.Terms.rest c.args.looks.now) in
    let w = s.basis.place in
    let last = (g.L.Looks.sight (g.L.Terms.rest c.look.new.self)).last in
    let e = tree_at t c.args.e in
    let x = name_at t c.args.name in
    let ls = list_at t c.args.levels in
    let there = carried (λ k d. entry_at d entry ≡ Some h.entry) look.contents look.stays h.is in
    let at_head = subst (λ k. const (name_at k c.args.name) (list_at k c.args.levels)
    ≡ head (tree_at k c.args.e)) (sym look.contents) c.requires.head_is in
    let p = c.in_ok-part.ensures h.entry there at_head in
    let now = g.L.Terms.contents c.look.new.self in
    let made = part_then c.args.e (λ u. literal_step (u c.args.e) (name_at now c.args.name)
    (list_at now c.args.levels) h.entry) after_literal p c.of_literal.ensures in
    let whole = after_look (λ k d. erased_then d.place (after_literal d.place (tree_at k c.args.e)) last
    (literal_step (tree_at k c.args.e) (name_at k c.args.name) (list_at k c.args.levels) h.entry))
    look.contents look.stays made in
    let unfolds = unfolded_is w e (head e) x ls h.entry c.requires.head_is h.means in
    same_steps (then_is w a_tree (λ r. stepped r (unfolded_at w e (head e))) last
    (literal_step e x ls h.entry)
    ∙ ap (λ u. erased w a_tree last (literal_step e x ls h.entry >>= λ r. stepped r u)) unfolds
    ∙ sym (found_goes w a_tree x UnknownConstant (λ y. literal_step e x ls y
    >>= λ r. stepped r (unfolded y (const x ls) e (value_of y.kind))) s.basis.library s.last last entry h))
    whole
