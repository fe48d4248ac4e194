use Rattle.std.proofs.Common.{◌∷◌, ◌++◌, [], map, refl, sym, ap, subst, ◌∙◌, rules}
use Rattle.std.proofs.lemmas.List.{map-append}
use Rattle.std.proofs.lemmas.List.Elements.{All-nil, All-same, All-push, All-weaker}
use Rattle.std.proofs.lemmas.Result.{err_from_is_err_and}
use Rattle.lk_nested.specs.Findings.{finding, FindsNothing}
use Rattle.lk_lists.proofs.Lists.{rest_have, first_has, none_left}
use Rattle.lk_env.proofs.Stays.{types_stay, type_in_stays}
use Rattle.lk_env.specs.Units.{type_at, IsTypeIn}
use Rattle.lk_store.proofs.Extending.{Extends-trans}
use Rattle.lk_auxiliary.specs.Auxiliaries.{auxs_at}
use Rattle.lk_enlarge.specs.Owns.{own_type}
use Rattle.lk_auxiliary.specs.Settings.{setting_at}
use Rattle.lk_enlarge.proofs.Grown.{setting_known}
use Rattle.lk_enlarge.proofs.Each.{each_first, each_next, each_stopped, each_end, types_each}
use Rattle.lk_enlarge.proofs.Owned.{type_owns_steady, met_on, met_back}
use Rattle.lk_enlarge.proofs.types.own_types.Goals as goal

pub types-init : goal.types-init
types-init g c =
    let before = g.F.Terms.contents c.args.asks.now in
    let w = (g.F.Asks.standing c.args.asks.now).place in
    record {
      keeps = search rules;
      same_rest = refl;
      met = c.requires.met;
      made_in = All-same (IsTypeIn before) c.new-made.result.items [] c.new-made.ensures.items (All-nil (IsTypeIn before));
      left_in = c.requires.stated_in;
      leads = rw c.new-made.ensures.items (each_first w (own_type (setting_at before c.args.setting.now)) (map (type_at before) c.args.stated.now) (auxs_at before c.args.met.now.auxs.items));
    }

pub own_type-requires-clause-setting_in : goal.own_type-requires-clause-setting_in
own_type-requires-clause-setting_in g c = setting_known (g.F.Terms.contents c.args.asks.now) (g.F.Terms.contents c.types.asks) c.types.invariant.keeps c.args.setting.now c.requires.setting_in

pub own_type-requires-clause-met : goal.own_type-requires-clause-met
own_type-requires-clause-met g c =
    let before = g.F.Terms.contents c.args.asks.now in
    let now = g.F.Terms.contents c.types.asks in
    let was = c.types.invariant in
    let w = (g.F.Asks.standing c.args.asks.now).place in
    let v = (g.F.Asks.standing c.types.asks).place in
    let place = ap (λ x. x.place) (g.met.F.Asks.decided c.types.asks c.args.asks.now was.same_rest).0 in
    met_on before now was.keeps c.args.setting.now c.requires.setting_in v w place now c.types.met was.met

pub own_type-requires-clause-stated_in : goal.own_type-requires-clause-stated_in
own_type-requires-clause-stated_in g c =
    let before = g.F.Terms.contents c.args.asks.now in
    let was = c.types.invariant in
    type_in_stays before (g.F.Terms.contents c.types.asks) was.keeps c.in-Some.first.now (first_has (IsTypeIn before) c.types.left.now c.in-Some.first.now c.in-Some.more.now c.in-Some.ensures.cases.0 was.left_in)

pub returns-in_err-ty-clause-owns : goal.returns-in_err-ty-clause-owns
returns-in_err-ty-clause-owns g c =
    let before = g.F.Terms.contents c.args.asks.now in
    let now = g.F.Terms.contents c.types.asks in
    let was = c.types.invariant in
    let w = (g.F.Asks.standing c.args.asks.now).place in
    let v = (g.F.Asks.standing c.types.asks).place in
    let place = ap (λ x. x.place) (g.met.F.Asks.decided c.types.asks c.args.asks.now was.same_rest).0 in
    let k = c.in-Some.first.now in
    let more = c.in-Some.more.now in
    let split = c.in-Some.ensures.cases.0 in
    let known = first_has (IsTypeIn before) c.types.left.now k more split was.left_in in
    let as_ = auxs_at now c.types.met.auxs.items in
    let stop = c.in_err-ty.field-0.0 in
    let p = err_from_is_err_and c.from_residual.result c.from_residual.ensures.1 in
    rw (p.1, p.2) (subst (λ q. FindsNothing (finding w q) stop) (sym (types_each (setting_at before c.args.setting.now) (map (type_at before) c.args.stated.now) (auxs_at before c.args.met.now.auxs.items))) (each_stopped w (own_type (setting_at before c.args.setting.now)) (map (type_at before) c.args.stated.now) (auxs_at before c.args.met.now.auxs.items) (map (type_at now) c.types.made.items) (map (type_at before) c.types.left.now) as_ was.leads
    (type_at before k) (map (type_at before) more) (ap (map (type_at before)) split) stop
    (subst (λ f. FindsNothing f stop) (type_owns_steady before now was.keeps c.args.setting.now c.requires.setting_in v w place k known as_) c.in_err-ty.ensures.owns)))

pub types-preserved : goal.types-preserved
types-preserved g c =
    let before = g.F.Terms.contents c.args.asks.now in
    let now = g.F.Terms.contents c.types.asks in
    let after = g.F.Terms.contents c.own_type.new.asks in
    let was = c.types.invariant in
    let w = (g.F.Asks.standing c.args.asks.now).place in
    let v = (g.F.Asks.standing c.types.asks).place in
    let place = ap (λ x. x.place) (g.met.F.Asks.decided c.types.asks c.args.asks.now was.same_rest).0 in
    let k = c.in-Some.first.now in
    let more = c.in-Some.more.now in
    let split = c.in-Some.ensures.cases.0 in
    let known = first_has (IsTypeIn before) c.types.left.now k more split was.left_in in
    let as_ = auxs_at now c.types.met.auxs.items in
    let bs = auxs_at after c.own_type.new.met.auxs.items in
    let new = c.in_ok-ty.ty in
    let grown = c.in_ok-ty.ensures.keeps in
    let made = c.types.made.items in
    let pushed = c.in-Ok.ensures.items in
    record {
      keeps = Extends-trans before now after was.keeps grown;
      same_rest = c.in_ok-ty.ensures.rest ∙ was.same_rest;
      met = met_back before now was.keeps c.args.setting.now c.requires.setting_in v w place after c.own_type.new.met c.in_ok-ty.ensures.met;
      made_in = All-same (IsTypeIn after) c.push.new.self.items (made ++ new ∷ []) pushed (All-push (IsTypeIn after) made new (All-weaker (IsTypeIn now) (IsTypeIn after) (type_in_stays now after grown) made was.made_in) c.in_ok-ty.ensures.type_known);
      left_in = rest_have (IsTypeIn before) c.types.left.now k more split was.left_in;
      leads =
          each_next w (own_type (setting_at before c.args.setting.now)) (map (type_at before) c.args.stated.now) (auxs_at before c.args.met.now.auxs.items) (map (type_at now) made) (map (type_at before) c.types.left.now) as_ was.leads
          (type_at before k) (map (type_at before) more) (ap (map (type_at before)) split)
          (type_at after new) bs (map (type_at after) c.push.new.self.items)
          (ap (map (type_at after)) pushed ∙ map-append (type_at after) made (new ∷ []) ∙ ap (λ ks. ks ++ type_at after new ∷ []) (types_stay now after grown made was.made_in))
          (sym (type_owns_steady before now was.keeps c.args.setting.now c.requires.setting_in v w place k known as_) ∙ c.in_ok-ty.ensures.owns);
    }

pub returns-clause-owns : goal.returns-clause-owns
returns-clause-owns g c =
    let before = g.F.Terms.contents c.args.asks.now in
    let now = g.F.Terms.contents c.types.asks in
    let w = (g.F.Asks.standing c.args.asks.now).place in
    ap (finding w) (types_each (setting_at before c.args.setting.now) (map (type_at before) c.args.stated.now) (auxs_at before c.args.met.now.auxs.items))
    ∙ each_end w (own_type (setting_at before c.args.setting.now)) (map (type_at before) c.args.stated.now) (auxs_at before c.args.met.now.auxs.items) (map (type_at now) c.types.made.items) (map (type_at before) c.types.left.now) (auxs_at now c.types.met.auxs.items) c.types.invariant.leads
    (none_left (type_at before) c.types.left.now c.in_default.ensures.cases)
