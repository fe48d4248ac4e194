use Rattle.std.proofs.Common.{rules, ◌≡◌, ◌<◌, ℕ, ◌-◌, suc, ◌∷◌, length, map, option_map, ap, sym, ◌∙◌, arith}
use Rattle.std.proofs.lemmas.List.Elements.{All-head, All-rest, All-same}
use Rattle.lk_written.specs.Typing.{past}
use Rattle.lk_store.specs.Contents.{tree_at}
use Rattle.lk_store.proofs.Extending.{Extends-trans}
use Rattle.lk_premises.specs.Claims.{claims_at}
use Rattle.lk_premises.specs.Reading.{read_at}
use Rattle.lk_premises.proofs.Staying.{claims_known, claims_same}
use Rattle.lk_replay_types.specs.Subjects.{past_once}
use Rattle.lk_replay_types.proofs.FieldSteps.{past_on, past_stops}
use Rattle.lk_replay_types.proofs.parameters.past_parameters.Goals as goal

pub parameters-preserved : goal.parameters-preserved
parameters-preserved g c =
    let start = g.T.Terms.contents c.args.terms.now in
    let before = g.T.Terms.contents c.parameters.terms in
    let after = g.T.Terms.contents c.next_parameter.new.terms in
    let was = c.parameters.invariant in
    let once = c.in_ok-next.ensures in
    let ps = claims_at start c.args.claims.now in
    let r = tree_at before c.parameters.at.tree in
    let first = c.in-Some.argument.now in
    let more = c.in-Some.more.now in
    let split = c.in-Some.ensures.cases.0 in
    let claims = claims_same start before was.grown c.args.claims.now c.requires.claims_in in
    let all = All-same (λ (x : ℕ). x < length start.trees) (first ∷ more) c.parameters.rest.now (sym split) was.arguments_in in
    let here : first < length start.trees = All-head (λ (x : ℕ). x < length start.trees) first more all in
    let argument = was.grown.trees.same first here in
    let js = c.parameters.at.after.now in
    let moved : past_once (claims_at before c.args.claims.now) js (tree_at before first) r ≡ past_once ps js (tree_at start first) r =
    ap (λ x. past_once x js (tree_at before first) r) claims ∙ ap (λ x. past_once ps js x r) argument in
    let read : past_once ps js (tree_at start first) r ≡ option_map (read_at after) c.in_ok-next.field-0 = sym moved ∙ once.ok in
    let read_some = rw c.in-Some-2.is at read in
    let less : c.parameters.due ≡ suc (c.parameters.due - 1) = omega arith in
    let on = past_on ps (tree_at start first) (map (tree_at start) more) c.parameters.due (c.parameters.due - 1) c.parameters.at.after.now r (read_at after c.in-Some-2.next) less read_some in
    record {
      grown = Extends-trans _ _ _ was.grown once.keeps;
      stays = once.stays ∙ was.stays;
      claims_in = claims_known before after once.keeps c.args.claims.now was.claims_in;
      tree_in = search rules;
      arguments_in = All-rest (λ (x : ℕ). x < length start.trees) first more c.parameters.rest.now split was.arguments_in;
      is = sym on ∙ ap (λ zs. past ps c.parameters.at.after.now (map (tree_at start) zs) c.parameters.due r) (sym split) ∙ was.is;
    }

pub returns-in-None : goal.returns-in-None
returns-in-None g c =
    let start = g.T.Terms.contents c.args.terms.now in
    let before = g.T.Terms.contents c.parameters.terms in
    let after = g.T.Terms.contents c.next_parameter.new.terms in
    let was = c.parameters.invariant in
    let once = c.in_ok-next.ensures in
    let ps = claims_at start c.args.claims.now in
    let r = tree_at before c.parameters.at.tree in
    let first = c.in-Some.argument.now in
    let more = c.in-Some.more.now in
    let split = c.in-Some.ensures.cases.0 in
    let claims = claims_same start before was.grown c.args.claims.now c.requires.claims_in in
    let all = All-same (λ (x : ℕ). x < length start.trees) (first ∷ more) c.parameters.rest.now (sym split) was.arguments_in in
    let here : first < length start.trees = All-head (λ (x : ℕ). x < length start.trees) first more all in
    let argument = was.grown.trees.same first here in
    let js = c.parameters.at.after.now in
    let moved : past_once (claims_at before c.args.claims.now) js (tree_at before first) r ≡ past_once ps js (tree_at start first) r =
    ap (λ x. past_once x js (tree_at before first) r) claims ∙ ap (λ x. past_once ps js x r) argument in
    let read : past_once ps js (tree_at start first) r ≡ option_map (read_at after) c.in_ok-next.field-0 = sym moved ∙ once.ok in
    let read_none = rw c.in-None.is at read in
    let less : c.parameters.due ≡ suc (c.parameters.due - 1) = omega arith in
    record {
      keeps = Extends-trans _ _ _ was.grown once.keeps;
      stays = once.stays ∙ was.stays;
      known = tt;
      ok = sym was.is
          ∙ ap (λ zs. past ps c.parameters.at.after.now (map (tree_at start) zs) c.parameters.due r) split
          ∙ past_stops ps (tree_at start first) (map (tree_at start) more) c.parameters.due (c.parameters.due - 1) c.parameters.at.after.now r less read_none;
    }
