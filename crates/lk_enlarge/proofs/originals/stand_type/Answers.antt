use Rattle.std.proofs.Common.{ap, ◌∙◌}
use Rattle.lk_store.specs.Contents.{name_at}
use Rattle.lk_auxiliary.specs.Auxiliaries.{aux_at}
use Rattle.lk_auxiliary.specs.Settings.{setting_at}
use Rattle.lk_auxiliary.proofs.Others.{aux_stays, aux_known}
use Rattle.lk_enlarge.specs.Originals.{at_instance, type_stands}
use Rattle.lk_enlarge.proofs.Grown.{setting_stays, setting_known}
use Rattle.lk_enlarge.proofs.Adding.{stands_as}
use Rattle.lk_enlarge.proofs.originals.stand_type.Goals as goal

pub stand_at-requires-clause-setting_in : goal.stand_at-requires-clause-setting_in
stand_at-requires-clause-setting_in g c = setting_known (g.T.Terms.contents c.args.terms.now) (g.T.Terms.contents c.name_of_type.new.terms) c.in_ok-name.ensures.keeps c.args.setting.now c.requires.setting_in

pub stand_at-requires-clause-aux_in : goal.stand_at-requires-clause-aux_in
stand_at-requires-clause-aux_in g c = aux_known (g.T.Terms.contents c.args.terms.now) (g.T.Terms.contents c.name_of_type.new.terms) c.in_ok-name.ensures.keeps c.args.aux.now c.requires.aux_in

pub returns-clause-stands : goal.returns-clause-stands
returns-clause-stands g c =
    let before = g.T.Terms.contents c.args.terms.now in
    let mid = g.T.Terms.contents c.name_of_type.new.terms in
    let after = g.T.Terms.contents c.stand_at.new.terms in
    let s = c.args.setting.now in
    let a = c.args.aux.now in
    let i = c.args.number in
    let named = c.in_ok-name.ensures in
    stands_as after (setting_at mid s) (setting_at before s) (at_instance (aux_at mid a) (name_at mid c.in_ok-name.name) (name_at mid a.name)) (type_stands i (aux_at before a)) c.in_ok-made.made
    (setting_stays before mid named.keeps s c.requires.setting_in)
    (ap (λ n. at_instance (aux_at mid a) n (name_at mid a.name)) named.ok.is ∙ ap (type_stands i) (aux_stays before mid named.keeps a c.requires.aux_in))
    c.in_ok-made.ensures.stands
