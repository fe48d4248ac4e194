use Rattle.std.proofs.Common.{◌≡◌, Some, true, false, sym, ap, ◌∙◌, rules}
use Rattle.lk_rulebook.specs.Names.{eq}
use Rattle.lk_questions.specs.Settled.{comes}
use Rattle.lk_questions.specs.QuotientUnits.{is_eq}
use Rattle.lk_store.specs.Contents.{name_at}
use Rattle.lk_ask.specs.Looks.{entry_at}
use Rattle.lk_ask.proofs.Steps.{carried}
use Rattle.lk_quot.proofs.Testing.{tested}
use Rattle.lk_quot.proofs.units.look_eq.Goals as goal

pub returns-then-branch : goal.returns-then-branch
returns-then-branch g c =
    let sight = g.L.Looks.sight in
    let b = (sight (g.L.Terms.rest c.args.looks.now)).basis in
    let x = name_at (g.L.Terms.contents c.args.looks.now) c.args.name in
    let entry = c.in-Ok.entry in
    let h = c.in-Ok.ensures.found in
    let there = carried (λ k d. entry_at d entry ≡ Some h.entry) c.look.ensures.contents
    c.look.ensures.stays h.is in
    record {
      keeps = search rules;
      stays = search rules;
      comes_to = tested b.place x eq b.library _ _ entry h c.requires.name_is
          (λ e. is_eq e e.kind) true
          (sym (c.in_ok-is_eq.ensures.ok h.entry there) ∙ c.if-branch.true)
          ∙ ap (λ r. comes (sight r).last tt) (sym c.is_eq.ensures.made.stays);
    }

pub returns-else-branch : goal.returns-else-branch
returns-else-branch g c =
    let sight = g.L.Looks.sight in
    let b = (sight (g.L.Terms.rest c.args.looks.now)).basis in
    let x = name_at (g.L.Terms.contents c.args.looks.now) c.args.name in
    let entry = c.in-Ok.entry in
    let h = c.in-Ok.ensures.found in
    let there = carried (λ k d. entry_at d entry ≡ Some h.entry) c.look.ensures.contents
    c.look.ensures.stays h.is in
    record {
      keeps = search rules;
      stays = search rules;
      comes_to = tested b.place x eq b.library _ _ entry h c.requires.name_is
          (λ e. is_eq e e.kind) false
          (sym (c.in_ok-is_eq.ensures.ok h.entry there) ∙ c.if-branch.false);
    }
