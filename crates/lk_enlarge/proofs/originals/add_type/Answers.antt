use Rattle.std.proofs.Common.{◌∷◌, [], refl, ap}
use Rattle.lk_inductive.specs.Restore.{ctors_stand}
use Rattle.lk_store.specs.Contents.{name_at}
use Rattle.lk_store.proofs.Extending.{Extends-trans}
use Rattle.lk_auxiliary.specs.Auxiliaries.{aux_at}
use Rattle.lk_auxiliary.specs.Settings.{setting_at}
use Rattle.lk_auxiliary.proofs.Others.{aux_stays, aux_known}
use Rattle.lk_enlarge.specs.Originals.{type_stands, recursor_stands}
use Rattle.lk_enlarge.proofs.Grown.{setting_stays, setting_known}
use Rattle.lk_enlarge.proofs.Adding.{stands_as, adds_as, one_added, more_added}
use Rattle.lk_enlarge.proofs.originals.add_type.Goals as goal

pub add_constructors-requires-clause-setting_in : goal.add_constructors-requires-clause-setting_in
add_constructors-requires-clause-setting_in g c =
    let before = g.T.Terms.contents c.args.terms.now in
    let mid = g.T.Terms.contents c.stand_type.new.terms in
    let now = g.T.Terms.contents c.stand_recursor.new.terms in
    setting_known before now (Extends-trans before mid now c.in_ok-ty.ensures.keeps c.in_ok-recursor.ensures.keeps) c.args.setting.now c.requires.setting_in

pub add_constructors-requires-clause-aux_in : goal.add_constructors-requires-clause-aux_in
add_constructors-requires-clause-aux_in g c =
    let before = g.T.Terms.contents c.args.terms.now in
    let mid = g.T.Terms.contents c.stand_type.new.terms in
    let now = g.T.Terms.contents c.stand_recursor.new.terms in
    aux_known before now (Extends-trans before mid now c.in_ok-ty.ensures.keeps c.in_ok-recursor.ensures.keeps) c.args.aux.now c.requires.aux_in

pub returns-clause-adds : goal.returns-clause-adds
returns-clause-adds g c =
    let before = g.T.Terms.contents c.args.terms.now in
    let mid = g.T.Terms.contents c.stand_type.new.terms in
    let now = g.T.Terms.contents c.stand_recursor.new.terms in
    let after = g.T.Terms.contents c.add_constructors.new.terms in
    let s = c.args.setting.now in
    let a = c.args.aux.now in
    let i = c.args.number in
    let own = setting_at before s in
    let first = name_at before c.args.first in
    let of = type_stands i (aux_at before a) in
    let recursor = recursor_stands first i in
    let os = c.args.originals.now.items in
    let ms = c.push.new.self.items in
    let ps = c.push-2.new.self.items in
    let ns = c.add_constructors.new.originals.items in
    let one = c.in_ok-ty.ensures in
    let two = c.in_ok-recursor.ensures in
    let x = Extends-trans before mid now one.keeps two.keeps in
    let type_added = one_added before mid own one.keeps os ms c.in_ok-ty.ty of c.in_ok-push.ensures.items one.stands in
    let recursor_added =
    one_added mid now own two.keeps ms ps c.in_ok-recursor.recursor recursor c.in_ok-push-2.ensures.items
    (stands_as now own own (recursor_stands (name_at mid c.args.first) i) recursor c.in_ok-recursor.recursor refl (ap (λ n. recursor_stands n i) (one.keeps.names.same c.args.first c.requires.first_in)) (two.stands own)) in
    let constructors_added =
    adds_as now after (setting_at now s) own ps ns (ctors_stand i (aux_at now a) (aux_at now a).own.ctors) (ctors_stand i (aux_at before a) (aux_at before a).own.ctors)
    (setting_stays before now x s c.requires.setting_in) (ap (λ b. ctors_stand i b b.own.ctors) (aux_stays before now x a c.requires.aux_in)) c.in_ok-add_constructors.ensures.adds in
    more_added before now own after os ps ns (of ∷ recursor ∷ []) (ctors_stand i (aux_at before a) (aux_at before a).own.ctors)
    (more_added before mid own now os ms ps (of ∷ []) (recursor ∷ []) type_added recursor_added)
    constructors_added
