use Rattle.std.proofs.Common.{◌≡◌, ◌-◌, ◌+◌, ◌∷◌, ◌++◌, [], suc, List, Option, map, refl, sym, ap, subst, ◌∙◌, rules, arith}
use Rattle.std.specs.Prelude.{option_map, IfSome}
use Rattle.std.proofs.lemmas.List.{map-append}
use Rattle.std.proofs.lemmas.List.Elements.{All-nil, All-same, All-push, All-weaker}
use Rattle.std.proofs.lemmas.Result.{err_from_is_err_and}
use Rattle.lk_rulebook.specs.Place.{BlockType}
use Rattle.lk_nested.specs.Findings.{found, FindsNothing}
use Rattle.lk_env.proofs.Stays.{types_stay, type_in_stays}
use Rattle.lk_env.specs.Units.{type_at, IsTypeIn}
use Rattle.lk_store.proofs.Extending.{Extends-trans}
use Rattle.lk_auxiliary.specs.Auxiliaries.{auxs_at}
use Rattle.lk_auxiliary.specs.Settings.{setting_at}
use Rattle.lk_enlarge.proofs.Drafts.{LeadsTypes, types_first, types_next, types_end, types_stop}
use Rattle.lk_enlarge.proofs.DraftsStay.{next_steady}
use Rattle.lk_enlarge.proofs.Grown.{setting_known}
use Rattle.lk_enlarge.proofs.Owned.{met_on, met_back}
use Rattle.lk_enlarge.proofs.auxiliary_types.auxiliary_types.Goals as goal

pub types-init : goal.types-init
types-init g c =
    let before = g.F.Terms.contents c.args.asks.now in
    let w = (g.F.Asks.standing c.args.asks.now).place in
    record {
      keeps = search rules;
      same_rest = refl;
      met = c.requires.met;
      made_in = All-same (IsTypeIn before) c.new-made.result.items [] c.new-made.ensures.items (All-nil (IsTypeIn before));
      within = omega arith;
      leads = rw c.new-made.ensures.items (types_first w (setting_at before c.args.setting.now) 1025 (auxs_at before c.args.met.now.auxs.items));
    }

pub nest_next-requires-clause-setting_in : goal.nest_next-requires-clause-setting_in
nest_next-requires-clause-setting_in g c = setting_known (g.F.Terms.contents c.args.asks.now) (g.F.Terms.contents c.types.asks) c.types.invariant.keeps c.args.setting.now c.requires.setting_in

pub nest_next-requires-clause-met : goal.nest_next-requires-clause-met
nest_next-requires-clause-met g c =
    let before = g.F.Terms.contents c.args.asks.now in
    let now = g.F.Terms.contents c.types.asks in
    let was = c.types.invariant in
    let w = (g.F.Asks.standing c.args.asks.now).place in
    let v = (g.F.Asks.standing c.types.asks).place in
    let place = ap (λ x. x.place) (g.met.F.Asks.decided c.types.asks c.args.asks.now was.same_rest).0 in
    met_on before now was.keeps c.args.setting.now c.requires.setting_in v w place now c.types.met was.met

pub returns-in_err-nest_next-clause-nests : goal.returns-in_err-nest_next-clause-nests
returns-in_err-nest_next-clause-nests g c =
    let before = g.F.Terms.contents c.args.asks.now in
    let now = g.F.Terms.contents c.types.asks in
    let was = c.types.invariant in
    let w = (g.F.Asks.standing c.args.asks.now).place in
    let v = (g.F.Asks.standing c.types.asks).place in
    let place = ap (λ x. x.place) (g.met.F.Asks.decided c.types.asks c.args.asks.now was.same_rest).0 in
    let i = c.types.number in
    let small = c.types-test.true in
    let one : 1025 - i ≡ suc (1024 - i) = omega arith in
    let as_ = auxs_at now c.types.met.auxs.items in
    let stop = c.in_err-nest_next.field-0.0 in
    let p = err_from_is_err_and c.from_residual.result c.from_residual.ensures.1 in
    rw (p.1, p.2) (types_stop w (setting_at before c.args.setting.now) 1025 (auxs_at before c.args.met.now.auxs.items) (map (type_at now) c.types.made.items) (1025 - i) i as_ was.leads (1024 - i) one stop
    (subst (λ f. FindsNothing f stop) (next_steady before now was.keeps c.args.setting.now c.requires.setting_in v w place i as_) c.in_err-nest_next.ensures.nests))

pub returns-in-None-clause-met : goal.returns-in-None-clause-met
returns-in-None-clause-met g c =
    let before = g.F.Terms.contents c.args.asks.now in
    let now = g.F.Terms.contents c.types.asks in
    let after = g.F.Terms.contents c.nest_next.new.asks in
    let was = c.types.invariant in
    let w = (g.F.Asks.standing c.args.asks.now).place in
    let v = (g.F.Asks.standing c.types.asks).place in
    let place = ap (λ x. x.place) (g.met.F.Asks.decided c.types.asks c.args.asks.now was.same_rest).0 in
    met_back before now was.keeps c.args.setting.now c.requires.setting_in v w place after c.nest_next.new.met c.in_ok-nest_next.ensures.met

pub returns-in-None-clause-nests : goal.returns-in-None-clause-nests
returns-in-None-clause-nests g c =
    let before = g.F.Terms.contents c.args.asks.now in
    let now = g.F.Terms.contents c.types.asks in
    let after = g.F.Terms.contents c.nest_next.new.asks in
    let was = c.types.invariant in
    let w = (g.F.Asks.standing c.args.asks.now).place in
    let v = (g.F.Asks.standing c.types.asks).place in
    let place = ap (λ x. x.place) (g.met.F.Asks.decided c.types.asks c.args.asks.now was.same_rest).0 in
    let i = c.types.number in
    let small = c.types-test.true in
    let one : 1025 - i ≡ suc (1024 - i) = omega arith in
    let as_ = auxs_at now c.types.met.auxs.items in
    let bs = auxs_at after c.nest_next.new.met.auxs.items in
    let made = c.types.made.items in
    let none = sym (next_steady before now was.keeps c.args.setting.now c.requires.setting_in v w place i as_) ∙ c.in_ok-nest_next.ensures.nests ∙ ap (λ (o : Option BlockType). found (o, bs)) (ap (option_map (type_at after)) c.in-None.is) in
    types_end w (setting_at before c.args.setting.now) 1025 (auxs_at before c.args.met.now.auxs.items) (map (type_at now) made) (1025 - i) i as_ was.leads (1024 - i) one bs none
    ∙ ap (λ (ts : List BlockType). found (ts, bs)) (sym (types_stay now after c.in_ok-nest_next.ensures.keeps made was.made_in))

pub types-preserved : goal.types-preserved
types-preserved g c =
    let before = g.F.Terms.contents c.args.asks.now in
    let now = g.F.Terms.contents c.types.asks in
    let after = g.F.Terms.contents c.nest_next.new.asks in
    let was = c.types.invariant in
    let w = (g.F.Asks.standing c.args.asks.now).place in
    let v = (g.F.Asks.standing c.types.asks).place in
    let place = ap (λ x. x.place) (g.met.F.Asks.decided c.types.asks c.args.asks.now was.same_rest).0 in
    let i = c.types.number in
    let small = c.types-test.true in
    let one : 1025 - i ≡ suc (1024 - i) = omega arith in
    let less : 1025 - (i + 1) ≡ 1024 - i = omega arith in
    let next : i + 1 ≡ suc i = omega arith in
    let as_ = auxs_at now c.types.met.auxs.items in
    let bs = auxs_at after c.nest_next.new.met.auxs.items in
    let start = auxs_at before c.args.met.now.auxs.items in
    let plain = setting_at before c.args.setting.now in
    let new = c.in-Some.ty in
    let grown = c.in_ok-nest_next.ensures.keeps in
    let made = c.types.made.items in
    let pushed = c.in-Ok.ensures.items in
    let new_in = subst (λ o. IfSome o (IsTypeIn after)) c.in-Some.is c.in_ok-nest_next.ensures.made_known in
    let found_next = sym (next_steady before now was.keeps c.args.setting.now c.requires.setting_in v w place i as_) ∙ c.in_ok-nest_next.ensures.nests ∙ ap (λ (o : Option BlockType). found (o, bs)) (ap (option_map (type_at after)) c.in-Some.is) in
    record {
      keeps = Extends-trans before now after was.keeps grown;
      same_rest = c.in_ok-nest_next.ensures.rest ∙ was.same_rest;
      met = met_back before now was.keeps c.args.setting.now c.requires.setting_in v w place after c.nest_next.new.met c.in_ok-nest_next.ensures.met;
      made_in = All-same (IsTypeIn after) c.push.new.self.items (made ++ new ∷ []) pushed (All-push (IsTypeIn after) made new (All-weaker (IsTypeIn now) (IsTypeIn after) (type_in_stays now after grown) made was.made_in) new_in);
      within = omega arith;
      leads =
          subst (λ m. LeadsTypes w plain 1025 start (map (type_at after) c.push.new.self.items) m (i + 1) bs) (sym less)
          (types_next w plain 1025 start (map (type_at now) made) (1025 - i) i as_ was.leads (1024 - i) one (i + 1) next (type_at after new) bs (map (type_at after) c.push.new.self.items)
          (ap (map (type_at after)) pushed ∙ map-append (type_at after) made (new ∷ []) ∙ ap (λ ks. ks ++ type_at after new ∷ []) (types_stay now after grown made was.made_in))
          found_next);
    }
