use Rattle.std.proofs.Common.{◌≡◌, ◌<◌, length, map, ap, ◌∙◌, arith}
use Rattle.std.proofs.lemmas.Result.{IfOk-weaker}
use Rattle.std.proofs.lemmas.List.Elements.{All-weaker}
use Rattle.lk_env.proofs.Stays.{constructors_stay}
use Rattle.lk_env.specs.Units.{constructor_at, type_at, IsConstructorIn, IsTypeIn}
use Rattle.lk_inductive.specs.Enlarged.{aux_name}
use Rattle.lk_inductive.specs.Recursors.{pis}
use Rattle.lk_store.specs.Contents.{name_at, tree_at}
use Rattle.lk_store.proofs.Extending.{Extends-trans}
use Rattle.lk_enlarge.specs.Drafts.{outline_at}
use Rattle.lk_enlarge.specs.DraftsNested.{type_with, outlined}
use Rattle.lk_auxiliary.specs.Settings.{setting_at}
use Rattle.lk_enlarge.proofs.Grown.{setting_stays, setting_known}
use Rattle.lk_enlarge.proofs.Owned.{constructor_known}
use Rattle.lk_enlarge.proofs.auxiliary_types.type_of.Goals as goal

pub returns-clause-known : goal.returns-clause-known
returns-clause-known g c =
    let c0 = g.T.Terms.contents c.args.terms.now in
    let c1 = g.T.Terms.contents c.over_locals.new.terms in
    let c2 = g.T.Terms.contents c.name_of_type.new.terms in
    let x02 = Extends-trans c0 c1 c2 c.in_ok-ty.ensures.keeps c.in_ok-name.ensures.keeps in
    let ty = c.in_ok-ty.ensures.ok.known in
    let longer = c.in_ok-name.ensures.keeps.trees.longer in
    let ty_in : c.in_ok-ty.ty < length c2.trees = omega arith in
    IfOk-weaker c.type_with.result _ (IsTypeIn c2)
    (λ t h. h c2 (setting_known c0 c2 x02 c.args.setting.now c.requires.setting_in) c.in_ok-name.ensures.ok.known ty_in
    (All-weaker (IsConstructorIn c0) (IsConstructorIn c2) (constructor_known c0 c2 x02) c.args.constructors.items c.requires.constructors_in))
    c.type_with.ensures.known

pub returns-clause-value : goal.returns-clause-value
returns-clause-value g c =
    let c0 = g.T.Terms.contents c.args.terms.now in
    let c1 = g.T.Terms.contents c.over_locals.new.terms in
    let c2 = g.T.Terms.contents c.name_of_type.new.terms in
    let x12 = c.in_ok-name.ensures.keeps in
    let x02 = Extends-trans c0 c1 c2 c.in_ok-ty.ensures.keeps x12 in
    let i = c.args.number in
    let s = setting_at c0 c.args.setting.now in
    let o = outline_at c0 c.args.outline.now in
    let n = c.args.outline.now.indices in
    let name = c.in_ok-name.name in
    let ty = c.in_ok-ty.ty in
    let items = c.args.constructors.items in
    let ks = map (constructor_at c0) items in
    let ty_is : tree_at c2 ty ≡ pis s.params o.type = x12.trees.same ty c.in_ok-ty.ensures.ok.known ∙ c.in_ok-ty.ensures.ok.is in
    IfOk-weaker c.type_with.result _ (λ t. type_at c2 t ≡ outlined s i o ks)
    (λ t h. h c2
    ∙ ap (λ z. type_with z n (name_at c2 name) (tree_at c2 ty) (map (constructor_at c2) items)) (setting_stays c0 c2 x02 c.args.setting.now c.requires.setting_in)
    ∙ ap (λ z. type_with s n z (tree_at c2 ty) (map (constructor_at c2) items)) c.in_ok-name.ensures.ok.is
    ∙ ap (λ z. type_with s n (aux_name i) z (map (constructor_at c2) items)) ty_is
    ∙ ap (type_with s n (aux_name i) (pis s.params o.type)) (constructors_stay c0 c2 x02 items c.requires.constructors_in))
    c.type_with.ensures.value
