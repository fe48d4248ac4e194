use Rattle.std.proofs.Common.{◌<◌, ◌∷◌, ◌++◌, [], length, map, All, refl, ap, ◌∙◌}
use Rattle.std.proofs.lemmas.List.Elements.{All-same, All-push}
use Rattle.std.proofs.lemmas.Result.{err_from_is_err_and}
use Rattle.lk_store.specs.Contents.{level_at, tree_at}
use Rattle.lk_store.proofs.Extending.{Extends-trans}
use Rattle.lk_env.specs.Units.{type_at, IsTypeIn}
use Rattle.lk_subst.specs.Numbers.{trees-steady}
use Rattle.lk_block.specs.Forms.{next_form}
use Rattle.lk_block.specs.Parts.{lists_at}
use Rattle.lk_lists.proofs.Lists.{rest_have, first_has, none_left}
use Rattle.lk_block.proofs.Firsts.{form_kept, lists-known, lists-push, types_next, types_halt, types_end}
use Rattle.lk_block.proofs.types.more_types.Goals as goal

pub returns-in_err-own-clause-outcome : goal.returns-in_err-own-clause-outcome
returns-in_err-own-clause-outcome g c =
    let before = g.A.Terms.contents c.args.asks.now in
    let now = g.A.Terms.contents c.types.asks in
    let ps = map (tree_at before) c.args.parameters.now in
    let l = level_at before c.args.level in
    let stated = c.in-Some.stated.now in
    let known = first_has (IsTypeIn before) c.types.rest.now stated c.in-Some.more.now c.in-Some.ensures.cases.0 c.types.invariant.rest_in in
    let kept = c.types.invariant.keeps in
    let same_params = trees-steady before now c.args.parameters.now kept c.requires.parameters_in in
    let same_level = kept.levels.same c.args.level c.requires.level_in in
    let same_type = kept.trees.same stated.ty known.stated.ty_in in
    let p = next_form ps l stated.indices (tree_at before stated.ty) in
    let q = next_form (map (tree_at now) c.args.parameters.now) (level_at now c.args.level) stated.indices (tree_at now stated.ty) in
    let why = err_from_is_err_and c.from_residual.result c.from_residual.ensures.1 in
    rw (why.1, why.2) (types_halt (g.A.Asks.standing c.args.asks.now) (g.A.Asks.standing c.types.asks) c.types.invariant.same_standing
    ps (map (tree_at now) c.args.parameters.now) l (level_at now c.args.level) (lists_at before c.args.indices.now.items) (map (type_at before) c.args.types.now) (g.A.Asks.left c.args.asks.now)
    (lists_at now c.types.indices.items) (map (type_at before) c.types.rest.now) (g.A.Asks.left c.types.asks) c.types.invariant.leads
    p q (type_at before stated) (map (type_at before) c.in-Some.more.now) c.in_err-own.field-0.0 (ap (map (type_at before)) c.in-Some.ensures.cases.0) refl
    (form_kept (map (tree_at now) c.args.parameters.now) ps (level_at now c.args.level) l stated.indices (tree_at now stated.ty) (tree_at before stated.ty) same_params same_level same_type) c.in_err-own.ensures.outcome)

pub types-preserved : goal.types-preserved
types-preserved g c =
    let before = g.A.Terms.contents c.args.asks.now in
    let now = g.A.Terms.contents c.types.asks in
    let ps = map (tree_at before) c.args.parameters.now in
    let l = level_at before c.args.level in
    let stated = c.in-Some.stated.now in
    let known = first_has (IsTypeIn before) c.types.rest.now stated c.in-Some.more.now c.in-Some.ensures.cases.0 c.types.invariant.rest_in in
    let kept = c.types.invariant.keeps in
    let same_params = trees-steady before now c.args.parameters.now kept c.requires.parameters_in in
    let same_level = kept.levels.same c.args.level c.requires.level_in in
    let same_type = kept.trees.same stated.ty known.stated.ty_in in
    let p = next_form ps l stated.indices (tree_at before stated.ty) in
    let q = next_form (map (tree_at now) c.args.parameters.now) (level_at now c.args.level) stated.indices (tree_at now stated.ty) in
    let after = g.A.Terms.contents c.next_type.new.asks in
    let grown = c.in_ok-own.ensures.keeps in
    let pushed = c.in-Ok.ensures.items in
    record {
      keeps = Extends-trans before now after kept grown;
      same_standing = c.in_ok-own.ensures.stays ∙ c.types.invariant.same_standing;
      rest_in = rest_have (IsTypeIn before) c.types.rest.now stated c.in-Some.more.now c.in-Some.ensures.cases.0 c.types.invariant.rest_in;
      lists_in = All-same (λ ys. All (λ x. x < length after.trees) ys.items) c.push.new.self.items (c.types.indices.items ++ c.in_ok-own.own ∷ []) pushed
          (All-push (λ ys. All (λ x. x < length after.trees) ys.items) c.types.indices.items c.in_ok-own.own (lists-known now after c.types.indices.items grown c.types.invariant.lists_in) c.in_ok-own.ensures.known);
      leads = types_next (g.A.Asks.standing c.args.asks.now) (g.A.Asks.standing c.types.asks) c.types.invariant.same_standing
          ps (map (tree_at now) c.args.parameters.now) l (level_at now c.args.level) (lists_at before c.args.indices.now.items) (map (type_at before) c.args.types.now) (g.A.Asks.left c.args.asks.now)
          (lists_at now c.types.indices.items) (map (type_at before) c.types.rest.now) (g.A.Asks.left c.types.asks) c.types.invariant.leads
          p q (type_at before stated) (map (type_at before) c.in-Some.more.now) (map (tree_at after) c.in_ok-own.own.items) (lists_at after c.push.new.self.items) (g.A.Asks.left c.next_type.new.asks) (ap (map (type_at before)) c.in-Some.ensures.cases.0) refl
          (form_kept (map (tree_at now) c.args.parameters.now) ps (level_at now c.args.level) l stated.indices (tree_at now stated.ty) (tree_at before stated.ty) same_params same_level same_type)
          (ap (lists_at after) pushed ∙ lists-push now after c.types.indices.items c.in_ok-own.own grown c.types.invariant.lists_in) c.in_ok-own.ensures.outcome;
    }

pub returns-clause-outcome : goal.returns-clause-outcome
returns-clause-outcome g c =
    let before = g.A.Terms.contents c.args.asks.now in
    let now = g.A.Terms.contents c.types.asks in
    let ps = map (tree_at before) c.args.parameters.now in
    let l = level_at before c.args.level in
    types_end (g.A.Asks.standing c.args.asks.now) (g.A.Asks.standing c.types.asks) c.types.invariant.same_standing
    ps (map (tree_at now) c.args.parameters.now) l (level_at now c.args.level) (lists_at before c.args.indices.now.items) (map (type_at before) c.args.types.now) (g.A.Asks.left c.args.asks.now)
    (lists_at now c.types.indices.items) (map (type_at before) c.types.rest.now) (g.A.Asks.left c.types.asks) c.types.invariant.leads
    (none_left (type_at before) c.types.rest.now c.in_default.ensures.cases)
