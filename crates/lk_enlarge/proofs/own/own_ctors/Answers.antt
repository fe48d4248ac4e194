use Rattle.std.proofs.Common.{◌∷◌, ◌++◌, [], map, refl, sym, ap, subst, ◌∙◌, rules}
use Rattle.std.proofs.lemmas.List.{map-append}
use Rattle.std.proofs.lemmas.List.Elements.{All-nil, All-same, All-push, All-weaker}
use Rattle.std.proofs.lemmas.Result.{err_from_is_err_and}
use Rattle.lk_nested.specs.Findings.{finding, FindsNothing}
use Rattle.lk_lists.proofs.Lists.{rest_have, first_has, none_left}
use Rattle.lk_env.proofs.Stays.{constructors_stay}
use Rattle.lk_env.specs.Units.{constructor_at, IsConstructorIn}
use Rattle.lk_store.proofs.Extending.{Extends-trans}
use Rattle.lk_inductive.specs.Nested.{own_ctor}
use Rattle.lk_auxiliary.specs.Auxiliaries.{auxs_at}
use Rattle.lk_auxiliary.specs.Settings.{setting_at}
use Rattle.lk_enlarge.proofs.Each.{each_first, each_next, each_stopped, each_end, own_each}
use Rattle.lk_enlarge.proofs.Grown.{setting_known}
use Rattle.lk_enlarge.proofs.Owned.{owns_steady, constructor_known, met_on, met_back}
use Rattle.lk_enlarge.proofs.own.own_ctors.Goals as goal

pub constructors-init : goal.constructors-init
constructors-init g c =
    let before = g.F.Terms.contents c.args.asks.now in
    let w = (g.F.Asks.standing c.args.asks.now).place in
    record {
      keeps = search rules;
      same_rest = refl;
      met = c.requires.met;
      made_in = All-same (IsConstructorIn before) c.new-made.result.items [] c.new-made.ensures.items (All-nil (IsConstructorIn before));
      left_in = c.requires.stated_in;
      leads = rw c.new-made.ensures.items (each_first w (own_ctor (setting_at before c.args.setting.now)) (map (constructor_at before) c.args.stated.now) (auxs_at before c.args.met.now.auxs.items));
    }

pub own_ctor-requires-clause-setting_in : goal.own_ctor-requires-clause-setting_in
own_ctor-requires-clause-setting_in g c = setting_known (g.F.Terms.contents c.args.asks.now) (g.F.Terms.contents c.constructors.asks) c.constructors.invariant.keeps c.args.setting.now c.requires.setting_in

pub own_ctor-requires-clause-met : goal.own_ctor-requires-clause-met
own_ctor-requires-clause-met g c =
    let before = g.F.Terms.contents c.args.asks.now in
    let now = g.F.Terms.contents c.constructors.asks in
    let was = c.constructors.invariant in
    let w = (g.F.Asks.standing c.args.asks.now).place in
    let v = (g.F.Asks.standing c.constructors.asks).place in
    let place = ap (λ x. x.place) (g.met.F.Asks.decided c.constructors.asks c.args.asks.now was.same_rest).0 in
    met_on before now was.keeps c.args.setting.now c.requires.setting_in v w place now c.constructors.met was.met

pub own_ctor-requires-clause-stated_in : goal.own_ctor-requires-clause-stated_in
own_ctor-requires-clause-stated_in g c =
    let before = g.F.Terms.contents c.args.asks.now in
    let was = c.constructors.invariant in
    constructor_known before (g.F.Terms.contents c.constructors.asks) was.keeps c.in-Some.first.now (first_has (IsConstructorIn before) c.constructors.left.now c.in-Some.first.now c.in-Some.more.now c.in-Some.ensures.cases.0 was.left_in)

pub returns-in_err-constructor-clause-owns : goal.returns-in_err-constructor-clause-owns
returns-in_err-constructor-clause-owns g c =
    let before = g.F.Terms.contents c.args.asks.now in
    let now = g.F.Terms.contents c.constructors.asks in
    let was = c.constructors.invariant in
    let w = (g.F.Asks.standing c.args.asks.now).place in
    let v = (g.F.Asks.standing c.constructors.asks).place in
    let place = ap (λ x. x.place) (g.met.F.Asks.decided c.constructors.asks c.args.asks.now was.same_rest).0 in
    let k = c.in-Some.first.now in
    let more = c.in-Some.more.now in
    let split = c.in-Some.ensures.cases.0 in
    let known = first_has (IsConstructorIn before) c.constructors.left.now k more split was.left_in in
    let as_ = auxs_at now c.constructors.met.auxs.items in
    let stop = c.in_err-constructor.field-0.0 in
    let p = err_from_is_err_and c.from_residual.result c.from_residual.ensures.1 in
    rw (p.1, p.2) (subst (λ q. FindsNothing (finding w q) stop) (sym (own_each (setting_at before c.args.setting.now) (map (constructor_at before) c.args.stated.now) (auxs_at before c.args.met.now.auxs.items))) (each_stopped w (own_ctor (setting_at before c.args.setting.now)) (map (constructor_at before) c.args.stated.now) (auxs_at before c.args.met.now.auxs.items) (map (constructor_at now) c.constructors.made.items) (map (constructor_at before) c.constructors.left.now) as_ was.leads
    (constructor_at before k) (map (constructor_at before) more) (ap (map (constructor_at before)) split) stop
    (subst (λ f. FindsNothing f stop) (owns_steady before now was.keeps c.args.setting.now c.requires.setting_in v w place k known as_) c.in_err-constructor.ensures.owns)))

pub constructors-preserved : goal.constructors-preserved
constructors-preserved g c =
    let before = g.F.Terms.contents c.args.asks.now in
    let now = g.F.Terms.contents c.constructors.asks in
    let after = g.F.Terms.contents c.own_ctor.new.asks in
    let was = c.constructors.invariant in
    let w = (g.F.Asks.standing c.args.asks.now).place in
    let v = (g.F.Asks.standing c.constructors.asks).place in
    let place = ap (λ x. x.place) (g.met.F.Asks.decided c.constructors.asks c.args.asks.now was.same_rest).0 in
    let k = c.in-Some.first.now in
    let more = c.in-Some.more.now in
    let split = c.in-Some.ensures.cases.0 in
    let known = first_has (IsConstructorIn before) c.constructors.left.now k more split was.left_in in
    let as_ = auxs_at now c.constructors.met.auxs.items in
    let bs = auxs_at after c.own_ctor.new.met.auxs.items in
    let new = c.in_ok-constructor.constructor in
    let grown = c.in_ok-constructor.ensures.keeps in
    let made = c.constructors.made.items in
    let pushed = c.in-Ok.ensures.items in
    record {
      keeps = Extends-trans before now after was.keeps grown;
      same_rest = c.in_ok-constructor.ensures.rest ∙ was.same_rest;
      met = met_back before now was.keeps c.args.setting.now c.requires.setting_in v w place after c.own_ctor.new.met c.in_ok-constructor.ensures.met;
      made_in = All-same (IsConstructorIn after) c.push.new.self.items (made ++ new ∷ []) pushed (All-push (IsConstructorIn after) made new (All-weaker (IsConstructorIn now) (IsConstructorIn after) (constructor_known now after grown) made was.made_in) c.in_ok-constructor.ensures.constructor_known);
      left_in = rest_have (IsConstructorIn before) c.constructors.left.now k more split was.left_in;
      leads =
          each_next w (own_ctor (setting_at before c.args.setting.now)) (map (constructor_at before) c.args.stated.now) (auxs_at before c.args.met.now.auxs.items) (map (constructor_at now) made) (map (constructor_at before) c.constructors.left.now) as_ was.leads
          (constructor_at before k) (map (constructor_at before) more) (ap (map (constructor_at before)) split)
          (constructor_at after new) bs (map (constructor_at after) c.push.new.self.items)
          (ap (map (constructor_at after)) pushed ∙ map-append (constructor_at after) made (new ∷ []) ∙ ap (λ ks. ks ++ constructor_at after new ∷ []) (constructors_stay now after grown made was.made_in))
          (sym (owns_steady before now was.keeps c.args.setting.now c.requires.setting_in v w place k known as_) ∙ c.in_ok-constructor.ensures.owns);
    }

pub returns-clause-owns : goal.returns-clause-owns
returns-clause-owns g c =
    let before = g.F.Terms.contents c.args.asks.now in
    let now = g.F.Terms.contents c.constructors.asks in
    let w = (g.F.Asks.standing c.args.asks.now).place in
    ap (finding w) (own_each (setting_at before c.args.setting.now) (map (constructor_at before) c.args.stated.now) (auxs_at before c.args.met.now.auxs.items))
    ∙ each_end w (own_ctor (setting_at before c.args.setting.now)) (map (constructor_at before) c.args.stated.now) (auxs_at before c.args.met.now.auxs.items) (map (constructor_at now) c.constructors.made.items) (map (constructor_at before) c.constructors.left.now) (auxs_at now c.constructors.met.auxs.items) c.constructors.invariant.leads
    (none_left (constructor_at before) c.constructors.left.now c.in_default.ensures.cases)
