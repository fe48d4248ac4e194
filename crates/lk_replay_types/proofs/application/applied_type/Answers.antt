use Rattle.std.proofs.Common.{rules, ◌≡◌, ℕ, ◌<◌, length, option_map, ap, sym, ◌∙◌}
use Rattle.std.proofs.lemmas.List.Elements.{All-pop}
use Rattle.lk_written.specs.Typing as typing
use Rattle.lk_store.specs.Contents.{tree_at}
use Rattle.lk_store.proofs.Extending.{Extends-trans}
use Rattle.lk_subst.specs.Numbers.{trees-known}
use Rattle.lk_premises.specs.Claims.{claims_at}
use Rattle.lk_premises.specs.Reading.{read_at}
use Rattle.lk_premises.specs.Spines.{stack_at}
use Rattle.lk_premises.proofs.Staying.{claims_known, claims_same}
use Rattle.lk_premises.proofs.Stacks.{stack_popped, stack_same}
use Rattle.lk_replay_types.specs.Applications.{applied_once}
use Rattle.lk_replay_types.proofs.Applied.{applied_on, applied_stops}
use Rattle.lk_replay_types.proofs.application.applied_type.Goals as goal

pub arguments-preserved : goal.arguments-preserved
arguments-preserved g c =
    let start = g.T.Terms.contents c.args.terms.now in
    let before = g.T.Terms.contents c.arguments.terms in
    let after = g.T.Terms.contents c.apply_once.new.terms in
    let was = c.arguments.invariant in
    let once = c.in_ok-next.ensures in
    let x = c.in-Some.argument in
    let xs = c.pop.new.self.items in
    let ps = claims_at start c.args.claims.now in
    let cs = claims_same start before was.grown c.args.claims.now c.requires.claims_in in
    let left = All-pop (λ (y : ℕ). y < length before.trees) c.arguments.arguments.items xs c.pop.result c.pop.ensures.items was.arguments_in in
    let read : applied_once ps c.arguments.at.after.now (tree_at before c.arguments.at.tree) (tree_at before x) ≡ option_map (read_at after) c.in_ok-next.field-0 = rw cs at once.ok in
    let read_some = rw c.in-Some-2.is at read in
    let popped = stack_popped before c.arguments.arguments.items xs x c.in-Some.ensures.items in
    let on = applied_on ps (tree_at before x) (stack_at before xs) c.arguments.at.after.now (tree_at before c.arguments.at.tree) (read_at after c.in-Some-2.next) read_some in
    record {
      grown = Extends-trans _ _ _ was.grown once.keeps;
      stays = once.stays ∙ was.stays;
      claims_in = claims_known before after once.keeps c.args.claims.now was.claims_in;
      tree_in = search rules;
      arguments_in = trees-known before after xs once.keeps left.0;
      is = ap (typing.applied_type ps c.in-Some-2.next.after.now (tree_at after c.in-Some-2.next.tree)) (stack_same before after xs once.keeps left.0)
          ∙ sym on
          ∙ ap (typing.applied_type ps c.arguments.at.after.now (tree_at before c.arguments.at.tree)) (sym popped)
          ∙ was.is;
    }

pub returns-in-None : goal.returns-in-None
returns-in-None g c =
    let start = g.T.Terms.contents c.args.terms.now in
    let before = g.T.Terms.contents c.arguments.terms in
    let after = g.T.Terms.contents c.apply_once.new.terms in
    let was = c.arguments.invariant in
    let once = c.in_ok-next.ensures in
    let x = c.in-Some.argument in
    let xs = c.pop.new.self.items in
    let ps = claims_at start c.args.claims.now in
    let cs = claims_same start before was.grown c.args.claims.now c.requires.claims_in in
    let read : applied_once ps c.arguments.at.after.now (tree_at before c.arguments.at.tree) (tree_at before x) ≡ option_map (read_at after) c.in_ok-next.field-0 = rw cs at once.ok in
    let read_none = rw c.in-None.is at read in
    let popped = stack_popped before c.arguments.arguments.items xs x c.in-Some.ensures.items in
    record {
      keeps = Extends-trans _ _ _ was.grown once.keeps;
      stays = once.stays ∙ was.stays;
      known = tt;
      ok = sym was.is
          ∙ ap (typing.applied_type ps c.arguments.at.after.now (tree_at before c.arguments.at.tree)) popped
          ∙ applied_stops ps (tree_at before x) (stack_at before xs) c.arguments.at.after.now (tree_at before c.arguments.at.tree) read_none;
    }
