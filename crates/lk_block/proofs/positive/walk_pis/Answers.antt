use Rattle.std.proofs.Common.{◌<◌, [], ◌∷◌, ◌++◌, length, map, refl, ap, subst, ◌∙◌, rules}
use Rattle.std.proofs.lemmas.List.{map-append}
use Rattle.std.proofs.lemmas.List.Elements.{All-nil, All-same, All-push}
use Rattle.std.proofs.lemmas.Result.{err_from_is_err_and}
use Rattle.lk_store.specs.Contents.{name_at, tree_at}
use Rattle.lk_store.proofs.Extending.{Extends-trans}
use Rattle.lk_subst.specs.Numbers.{trees-steady, trees-known}
use Rattle.lk_declaration.specs.Courses.{Goes}
use Rattle.lk_block.specs.Frames.{frame_at}
use Rattle.lk_block.specs.Members.{member_at}
use Rattle.lk_block.specs.Positive.{walk_step, step_at, IsStepIn, GoesUnderMention}
use Rattle.lk_block.proofs.Frames.{frame-steady}
use Rattle.lk_block.proofs.Walks.{walk_first, walk_next, walk_ends, walk_halts}
use Rattle.lk_block.proofs.positive.walk_pis.Goals as goal

pub walk-init : goal.walk-init
walk-init g c =
    let before = g.A.Terms.contents c.args.asks.now in
    record {
      keeps = search rules;
      same_standing = refl;
      arguments_in = All-same (λ x. x < length before.trees) c.args.arguments.now.items [] c.requires.none_yet (All-nil (λ x. x < length before.trees));
      rest_in = c.requires.e_in;
      known = tt;
      known_in = tt;
      leads = rw c.requires.none_yet (walk_first (g.A.Asks.standing c.args.asks.now) (frame_at before c.args.frame.now) c.args.first (tree_at before c.args.e) (g.A.Asks.left c.args.asks.now));
    }

pub returns-in_err-step-clause-outcome : goal.returns-in_err-step-clause-outcome
returns-in_err-step-clause-outcome g c =
    let before = g.A.Terms.contents c.args.asks.now in
    let now = g.A.Terms.contents c.walk.asks in
    let p = err_from_is_err_and c.from_residual.result c.from_residual.ensures.1 in
    rw (p.1, p.2) (walk_halts (g.A.Asks.standing c.args.asks.now) (g.A.Asks.standing c.walk.asks) c.walk.invariant.same_standing
    (frame_at before c.args.frame.now) c.args.first (tree_at before c.args.e) (g.A.Asks.left c.args.asks.now) (map (tree_at now) c.walk.arguments.items) c.walk.number (tree_at now c.walk.rest) (g.A.Asks.left c.walk.asks) c.walk.invariant.leads
    (frame_at now c.args.frame.now) (frame-steady before now c.args.frame.now c.walk.invariant.keeps c.requires.frame_in) c.in_err-step.field-0.0 c.in_err-step.ensures.outcome)

pub returns-in-Ends-clause-outcome : goal.returns-in-Ends-clause-outcome
returns-in-Ends-clause-outcome g c =
    let before = g.A.Terms.contents c.args.asks.now in
    let now = g.A.Terms.contents c.walk.asks in
    let after = g.A.Terms.contents c.walk_step.new.asks in
    let left = g.A.Asks.left c.walk_step.new.asks in
    let kept = trees-steady now after c.walk.arguments.items c.in_ok-step.ensures.keeps c.walk.invariant.arguments_in in
    rw kept (walk_ends (g.A.Asks.standing c.args.asks.now) (g.A.Asks.standing c.walk.asks) c.walk.invariant.same_standing
    (frame_at before c.args.frame.now) c.args.first (tree_at before c.args.e) (g.A.Asks.left c.args.asks.now) (map (tree_at now) c.walk.arguments.items) c.walk.number (tree_at now c.walk.rest) (g.A.Asks.left c.walk.asks) c.walk.invariant.leads
    (frame_at now c.args.frame.now) (frame-steady before now c.args.frame.now c.walk.invariant.keeps c.requires.frame_in) (member_at after c.in-Ends.found) left
    (subst (λ s. Goes (g.A.Asks.standing c.walk.asks) (walk_step (frame_at now c.args.frame.now) c.walk.number (tree_at now c.walk.rest)) (g.A.Asks.left c.walk.asks) (step_at after s) left) c.in-Ends.is c.in_ok-step.ensures.outcome))

pub walk-preserved : goal.walk-preserved
walk-preserved g c =
    let before = g.A.Terms.contents c.args.asks.now in
    let now = g.A.Terms.contents c.walk.asks in
    let after = g.A.Terms.contents c.walk_step.new.asks in
    let left = g.A.Asks.left c.walk_step.new.asks in
    let grown = c.in_ok-step.ensures.keeps in
    let more = c.keep.new.kept.items in
    let pushed = c.in_ok-number-in-Under.ensures.kept in
    let parts : (c.in-Under.local < length after.trees) × (c.in-Under.inner < length after.trees) = subst (IsStepIn after) c.in-Under.is c.in_ok-step.ensures.known in
    record {
      keeps = Extends-trans before now after c.walk.invariant.keeps grown;
      same_standing = c.in_ok-step.ensures.stays ∙ c.walk.invariant.same_standing;
      arguments_in = All-same (λ x. x < length after.trees) more (c.walk.arguments.items ++ c.in-Under.local ∷ []) pushed
          (All-push (λ x. x < length after.trees) c.walk.arguments.items c.in-Under.local (trees-known now after c.walk.arguments.items grown c.walk.invariant.arguments_in) parts.0);
      rest_in = parts.1;
      known = subst (GoesUnderMention (map (name_at after) c.args.frame.now.names) after) c.in-Under.is c.in_ok-step.ensures.under;
      known_in = parts.1;
      leads =
          walk_next (g.A.Asks.standing c.args.asks.now) (g.A.Asks.standing c.walk.asks) c.walk.invariant.same_standing
          (frame_at before c.args.frame.now) c.args.first (tree_at before c.args.e) (g.A.Asks.left c.args.asks.now) (map (tree_at now) c.walk.arguments.items) c.walk.number (tree_at now c.walk.rest) (g.A.Asks.left c.walk.asks) c.walk.invariant.leads
          (frame_at now c.args.frame.now) (frame-steady before now c.args.frame.now c.walk.invariant.keeps c.requires.frame_in)
          (map (tree_at after) more) _ (tree_at after c.in-Under.local) (tree_at after c.in-Under.inner) left c.in_ok-number-in-Under.ensures.next
          (ap (map (tree_at after)) pushed ∙ map-append (tree_at after) c.walk.arguments.items (c.in-Under.local ∷ []) ∙ ap (λ ts. ts ++ tree_at after c.in-Under.local ∷ []) (trees-steady now after c.walk.arguments.items grown c.walk.invariant.arguments_in))
          c.in_ok-step.ensures.paid
          (subst (λ s. Goes (g.A.Asks.standing c.walk.asks) (walk_step (frame_at now c.args.frame.now) c.walk.number (tree_at now c.walk.rest)) (g.A.Asks.left c.walk.asks) (step_at after s) left) c.in-Under.is c.in_ok-step.ensures.outcome);
    }
