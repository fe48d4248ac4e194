use Rattle.std.proofs.Common.{ap, ◌∙◌}
use Rattle.lk_inductive.specs.Enlarged.{aux_ctor}
use Rattle.lk_store.specs.Contents.{name_at}
use Rattle.lk_auxiliary.specs.Auxiliaries.{aux_at}
use Rattle.lk_auxiliary.specs.Settings.{setting_at}
use Rattle.lk_auxiliary.proofs.Others.{aux_stays, aux_known}
use Rattle.lk_enlarge.specs.Originals.{at_instance, constructor_stands}
use Rattle.lk_enlarge.proofs.Grown.{setting_stays, setting_known}
use Rattle.lk_enlarge.proofs.Adding.{stands_as}
use Rattle.lk_enlarge.proofs.originals.stand_constructor.Goals as goal

pub stand_at-requires-clause-setting_in : goal.stand_at-requires-clause-setting_in
stand_at-requires-clause-setting_in g c = setting_known (g.T.Terms.contents c.args.terms.now) (g.T.Terms.contents c.name_of_constructor.new.terms) c.in_ok-name.ensures.keeps c.args.setting.now c.requires.setting_in

pub stand_at-requires-clause-aux_in : goal.stand_at-requires-clause-aux_in
stand_at-requires-clause-aux_in g c = aux_known (g.T.Terms.contents c.args.terms.now) (g.T.Terms.contents c.name_of_constructor.new.terms) c.in_ok-name.ensures.keeps c.args.aux.now c.requires.aux_in

pub returns-clause-stands : goal.returns-clause-stands
returns-clause-stands g c =
    let before = g.T.Terms.contents c.args.terms.now in
    let mid = g.T.Terms.contents c.name_of_constructor.new.terms in
    let after = g.T.Terms.contents c.stand_at.new.terms in
    let s = c.args.setting.now in
    let a = c.args.aux.now in
    let i = c.args.number in
    let k = c.args.constructor in
    let named = c.in_ok-name.ensures in
    stands_as after (setting_at mid s) (setting_at before s) (at_instance (aux_at mid a) (name_at mid c.in_ok-name.name) (name_at mid k)) (constructor_stands i (aux_at before a) (name_at before k)) c.in_ok-made.made
    (setting_stays before mid named.keeps s c.requires.setting_in)
    (ap (λ n. at_instance (aux_at mid a) n (name_at mid k)) named.ok.is
    ∙ ap (at_instance (aux_at mid a) (aux_ctor i (name_at before k))) (named.keeps.names.same k c.requires.constructor_in)
    ∙ ap (λ b. constructor_stands i b (name_at before k)) (aux_stays before mid named.keeps a c.requires.aux_in))
    c.in_ok-made.ensures.stands
