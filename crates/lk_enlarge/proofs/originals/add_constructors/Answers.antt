use Rattle.std.proofs.Common.{◌∷◌, [], map, sym, ap, subst, ◌∙◌}
use Rattle.lk_env.specs.Units.{constructor_at, IsConstructorIn}
use Rattle.lk_inductive.specs.Restore.{ctors_stand}
use Rattle.lk_lists.proofs.Lists.{rest_have, first_has, none_left}
use Rattle.lk_store.specs.Contents.{name_at}
use Rattle.lk_store.proofs.Extending.{Extends-trans}
use Rattle.lk_auxiliary.specs.Auxiliaries.{aux_at}
use Rattle.lk_auxiliary.specs.Settings.{setting_at}
use Rattle.lk_auxiliary.proofs.Others.{aux_stays, aux_known}
use Rattle.lk_enlarge.specs.Originals.{Adds, constructor_stands}
use Rattle.lk_enlarge.proofs.Grown.{setting_stays, setting_known}
use Rattle.lk_enlarge.proofs.Adding.{name_known, stands_as, one_added, more_added, none_added}
use Rattle.lk_enlarge.proofs.originals.add_constructors.Goals as goal

pub stand_constructor-requires-clause-setting_in : goal.stand_constructor-requires-clause-setting_in
stand_constructor-requires-clause-setting_in g c =
    setting_known (g.T.Terms.contents c.args.terms.now) (g.T.Terms.contents c.constructors.terms) c.constructors.invariant.keeps c.args.setting.now c.requires.setting_in

pub stand_constructor-requires-clause-aux_in : goal.stand_constructor-requires-clause-aux_in
stand_constructor-requires-clause-aux_in g c = aux_known (g.T.Terms.contents c.args.terms.now) (g.T.Terms.contents c.constructors.terms) c.constructors.invariant.keeps c.args.aux.now c.requires.aux_in

pub stand_constructor-requires-clause-constructor_in : goal.stand_constructor-requires-clause-constructor_in
stand_constructor-requires-clause-constructor_in g c =
    let before = g.T.Terms.contents c.args.terms.now in
    let was = c.constructors.invariant in
    let known = first_has (IsConstructorIn before) c.constructors.left.now c.in-Some.constructor.now c.in-Some.more.now c.in-Some.ensures.cases.0 was.left_in in
    name_known before (g.T.Terms.contents c.constructors.terms) was.keeps c.in-Some.constructor.now.name known.stated.name_in

pub constructors-preserved : goal.constructors-preserved
constructors-preserved g c =
    let before = g.T.Terms.contents c.args.terms.now in
    let now = g.T.Terms.contents c.constructors.terms in
    let after = g.T.Terms.contents c.stand_constructor.new.terms in
    let was = c.constructors.invariant in
    let k = c.in-Some.constructor.now in
    let more = c.in-Some.more.now in
    let split = c.in-Some.ensures.cases.0 in
    let made = c.in_ok-made.ensures in
    let s = c.args.setting.now in
    let a = c.args.aux.now in
    let i = c.args.number in
    let own = setting_at before s in
    let os = c.constructors.originals.items in
    let ms = c.push.new.self.items in
    let known = first_has (IsConstructorIn before) c.constructors.left.now k more split was.left_in in
    let stands = stands_as after (setting_at now s) own (constructor_stands i (aux_at now a) (name_at now k.name)) (constructor_stands i (aux_at before a) (name_at before k.name)) c.in_ok-made.made
    (setting_stays before now was.keeps s c.requires.setting_in)
    (ap (constructor_stands i (aux_at now a)) (was.keeps.names.same k.name known.stated.name_in) ∙ ap (λ b. constructor_stands i b (name_at before k.name)) (aux_stays before now was.keeps a c.requires.aux_in))
    made.stands in
    record {
      keeps = Extends-trans before now after was.keeps made.keeps;
      same_rest = made.rest ∙ was.same_rest;
      left_in = rest_have (IsConstructorIn before) c.constructors.left.now k more split was.left_in;
      leads = λ d ns h. was.leads d ns
          (subst (λ ks. Adds now d own os ns (ctors_stand i (aux_at before a) (map (constructor_at before) ks))) (sym split)
          (more_added now after own d os ms ns (constructor_stands i (aux_at before a) (name_at before k.name) ∷ []) (ctors_stand i (aux_at before a) (map (constructor_at before) more))
          (one_added now after own made.keeps os ms c.in_ok-made.made (constructor_stands i (aux_at before a) (name_at before k.name)) c.in_ok-push.ensures.items stands)
          h));
    }

pub returns-clause-adds : goal.returns-clause-adds
returns-clause-adds g c =
    let before = g.T.Terms.contents c.args.terms.now in
    let now = g.T.Terms.contents c.constructors.terms in
    let own = setting_at before c.args.setting.now in
    let os = c.constructors.originals.items in
    c.constructors.invariant.leads now os
    (subst (λ ks. Adds now now own os os (ctors_stand c.args.number (aux_at before c.args.aux.now) ks)) (sym (none_left (constructor_at before) c.constructors.left.now c.in_default.ensures.cases)) (none_added now own os))
