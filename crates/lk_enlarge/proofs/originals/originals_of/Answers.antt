use Rattle.std.proofs.Common.{suc, ap, sym, subst, ◌∙◌}
use Rattle.lk_inductive.specs.Restore.{all_stand}
use Rattle.lk_lists.proofs.Lists.{rest_have, first_has, none_left}
use Rattle.lk_store.specs.Contents.{name_at}
use Rattle.lk_store.proofs.Extending.{Extends-trans}
use Rattle.lk_auxiliary.specs.Auxiliaries.{aux_at, auxs_at, IsAuxiliaryIn}
use Rattle.lk_auxiliary.specs.Settings.{setting_at}
use Rattle.lk_auxiliary.proofs.Others.{aux_stays, aux_known}
use Rattle.lk_enlarge.specs.Originals.{Adds, StandFor, one_stands}
use Rattle.lk_enlarge.proofs.Grown.{setting_stays, setting_known}
use Rattle.lk_enlarge.proofs.Adding.{adds_as, more_added, end_added}
use Rattle.lk_enlarge.proofs.originals.originals_of.Given as given
use Rattle.lk_enlarge.proofs.originals.originals_of.Goals as goal

pub add_type-requires-clause-setting_in : goal.add_type-requires-clause-setting_in
add_type-requires-clause-setting_in g c = setting_known (g.T.Terms.contents c.args.terms.now) (g.T.Terms.contents c.auxs.terms) c.auxs.invariant.keeps c.args.setting.now c.requires.setting_in

pub add_type-requires-clause-aux_in : goal.add_type-requires-clause-aux_in
add_type-requires-clause-aux_in g c =
    let before = g.T.Terms.contents c.args.terms.now in
    let was = c.auxs.invariant in
    aux_known before (g.T.Terms.contents c.auxs.terms) was.keeps c.in-Some.aux.now (first_has (IsAuxiliaryIn before) c.auxs.left.now c.in-Some.aux.now c.in-Some.more.now c.in-Some.ensures.cases.0 was.left_in)

pub auxs-preserved : goal.auxs-preserved
auxs-preserved g c =
    let before = g.T.Terms.contents c.args.terms.now in
    let now = g.T.Terms.contents c.auxs.terms in
    let after = g.T.Terms.contents c.add_type.new.terms in
    let was = c.auxs.invariant in
    let a = c.in-Some.aux.now in
    let more = c.in-Some.more.now in
    let split = c.in-Some.ensures.cases.0 in
    let made = c.in_ok-add_type.ensures in
    let s = c.args.setting.now in
    let i = c.auxs.number in
    let own = setting_at before s in
    let first = name_at before c.args.first in
    let os = c.auxs.originals.items in
    let ms = c.add_type.new.originals.items in
    let known = first_has (IsAuxiliaryIn before) c.auxs.left.now a more split was.left_in in
    let added =
    adds_as now after (setting_at now s) own os ms (one_stands (name_at now c.args.first) i (aux_at now a)) (one_stands first i (aux_at before a))
    (setting_stays before now was.keeps s c.requires.setting_in)
    (ap (λ n. one_stands n i (aux_at now a)) (was.keeps.names.same c.args.first c.requires.first_in) ∙ ap (one_stands first i) (aux_stays before now was.keeps a known))
    made.adds in
    record {
      keeps = Extends-trans before now after was.keeps made.keeps;
      same_rest = made.rest ∙ was.same_rest;
      left_in = rest_have (IsAuxiliaryIn before) c.auxs.left.now a more split was.left_in;
      leads = λ d ns h. was.leads d ns
          (subst (λ as_. Adds now d own os ns (all_stand first i (auxs_at before as_))) (sym split)
          (more_added now after own d os ms ns (one_stands first i (aux_at before a)) (all_stand first (suc i) (auxs_at before more)) added
          (subst (λ j. Adds after d own ms ns (all_stand first j (auxs_at before more))) c.in_ok-number.ensures h)));
    }

-- once none are left
ended : (g : given.Over) (c : goal.In_default g) → StandFor (g.T.Terms.contents c.auxs.terms) (setting_at (g.T.Terms.contents c.args.terms.now) c.args.setting.now)
    (all_stand (name_at (g.T.Terms.contents c.args.terms.now) c.args.first) 0 (auxs_at (g.T.Terms.contents c.args.terms.now) c.args.stand.now)) c.auxs.originals.items
ended g c =
    let before = g.T.Terms.contents c.args.terms.now in
    let first = name_at before c.args.first in
    let left = all_stand first c.auxs.number (auxs_at before c.auxs.left.now) in
    let all = all_stand first 0 (auxs_at before c.args.stand.now) in
    let none = ap (all_stand first c.auxs.number) (none_left (aux_at before) c.auxs.left.now c.in_default.ensures.cases) in
    end_added before (g.T.Terms.contents c.auxs.terms) (setting_at before c.args.setting.now) c.auxs.originals.items left all none c.auxs.invariant.leads

pub returns-clause-known : goal.returns-clause-known
returns-clause-known g c = (ended g c).known

pub returns-clause-are : goal.returns-clause-are
returns-clause-are g c = (ended g c).are

pub returns-clause-standing : goal.returns-clause-standing
returns-clause-standing g c = (ended g c).standing
