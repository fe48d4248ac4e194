use Rattle.std.proofs.Common.{◌∷◌, ◌++◌, [], ◌<◌, length, map, refl}
use Rattle.std.proofs.lemmas.List.Elements.{All-same, All-push}
use Rattle.lk_lists.proofs.Lists.{rest_have, first_has}
use Rattle.lk_env.specs.Units.{constructor_at, IsConstructorIn}
use Rattle.lk_store.specs.Contents.{tree_at}
use Rattle.lk_enlarge.specs.declared.draft.Draft.{Draft}
use Rattle.lk_enlarge.specs.Drafts.{drafts_of, IsDraftIn}
use Rattle.lk_enlarge.proofs.Outlines.{draft_moved}
use Rattle.lk_enlarge.proofs.draft.drafts_of.Goals as goal

pub drafts-preserved : goal.drafts-preserved
drafts-preserved c =
    let was = c.drafts.invariant in
    let k = c.in-Some.first.now in
    let more = c.in-Some.more.now in
    let split = c.in-Some.ensures.cases.0 in
    let ty = c.in-Some-split_first.ty.now in
    let others = c.in-Some-split_first.more_types.now in
    let cut = c.in-Some-split_first.ensures.cases.0 in
    let new : Draft = record { name = k.name; place = k.place; fields = k.fields; ty = ty } in
    let drafts = c.drafts.drafts.items in
    let pushed = c.in_ok-push-in-Some-split_first.ensures.items in
    record {
      leads = λ d. draft_moved d drafts c.push.new.self.items new c.drafts.left.now more k c.drafts.left_types.now others ty (drafts_of (map (constructor_at d) c.args.stated.now) (map (tree_at d) c.args.types.now)) split cut pushed refl (was.leads d);
      drafts_in = λ d h i.
          All-same (IsDraftIn d) c.push.new.self.items (drafts ++ new ∷ []) pushed (All-push (IsDraftIn d) drafts new (was.drafts_in d h i)
          (record { name_in = (first_has (IsConstructorIn d) c.drafts.left.now k more split (was.left_in d h)).stated.name_in; ty_in = first_has (λ x. x < length d.trees) c.drafts.left_types.now ty others cut (was.types_in d i) }));
      left_in = λ d h. rest_have (IsConstructorIn d) c.drafts.left.now k more split (was.left_in d h);
      types_in = λ d i. rest_have (λ x. x < length d.trees) c.drafts.left_types.now ty others cut (was.types_in d i);
    }
