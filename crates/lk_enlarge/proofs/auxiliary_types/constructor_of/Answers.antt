use Rattle.std.proofs.Common.{◌≡◌, ◌<◌, length, ap, ◌∙◌, arith}
use Rattle.std.proofs.lemmas.Result.{IfOk-weaker}
use Rattle.lk_env.specs.Units.{constructor_at, IsConstructorIn}
use Rattle.lk_inductive.specs.Enlarged.{aux_name, aux_ctor}
use Rattle.lk_inductive.specs.Recursors.{pis}
use Rattle.lk_store.specs.Contents.{name_at, tree_at}
use Rattle.lk_store.proofs.Extending.{Extends-trans}
use Rattle.lk_enlarge.specs.Drafts.{draft_at}
use Rattle.lk_enlarge.specs.DraftsNested.{ctor_with, drafted}
use Rattle.lk_auxiliary.specs.Settings.{setting_at}
use Rattle.lk_enlarge.proofs.DraftsStay.{draft_stays}
use Rattle.lk_enlarge.proofs.Grown.{setting_stays, setting_known}
use Rattle.lk_enlarge.proofs.auxiliary_types.constructor_of.Goals as goal

pub returns-clause-known : goal.returns-clause-known
returns-clause-known g c =
    let c0 = g.T.Terms.contents c.args.terms.now in
    let c1 = g.T.Terms.contents c.over_locals.new.terms in
    let c2 = g.T.Terms.contents c.name_of_type.new.terms in
    let c3 = g.T.Terms.contents c.name_of_constructor.new.terms in
    let x13 = Extends-trans c1 c2 c3 c.in_ok-parent.ensures.keeps c.in_ok-name.ensures.keeps in
    let x03 = Extends-trans c0 c1 c3 c.in_ok-ty.ensures.keeps x13 in
    let parent = c.in_ok-parent.ensures.ok.known in
    let ty = c.in_ok-ty.ensures.ok.known in
    let more = c.in_ok-name.ensures.keeps.names.longer in
    let longer = x13.trees.longer in
    let parent_in : c.in_ok-parent.parent < length c3.names = omega arith in
    let ty_in : c.in_ok-ty.ty < length c3.trees = omega arith in
    IfOk-weaker c.constructor_with.result _ (IsConstructorIn c3)
    (λ k h. h c3 (setting_known c0 c3 x03 c.args.setting.now c.requires.setting_in) c.in_ok-name.ensures.ok.known parent_in ty_in)
    c.constructor_with.ensures.known

pub returns-clause-value : goal.returns-clause-value
returns-clause-value g c =
    let c0 = g.T.Terms.contents c.args.terms.now in
    let c1 = g.T.Terms.contents c.over_locals.new.terms in
    let c2 = g.T.Terms.contents c.name_of_type.new.terms in
    let c3 = g.T.Terms.contents c.name_of_constructor.new.terms in
    let x01 = c.in_ok-ty.ensures.keeps in
    let x12 = c.in_ok-parent.ensures.keeps in
    let x23 = c.in_ok-name.ensures.keeps in
    let x02 = Extends-trans c0 c1 c2 x01 x12 in
    let x13 = Extends-trans c1 c2 c3 x12 x23 in
    let x03 = Extends-trans c0 c1 c3 x01 x13 in
    let i = c.args.number in
    let s = setting_at c0 c.args.setting.now in
    let d = draft_at c0 c.args.draft in
    let name = c.in_ok-name.name in
    let parent = c.in_ok-parent.parent in
    let ty = c.in_ok-ty.ty in
    let name_is : name_at c3 name ≡ aux_ctor i (name_at c0 c.args.draft.name) = c.in_ok-name.ensures.ok.is ∙ ap (aux_ctor i) (x02.names.same c.args.draft.name c.requires.draft_in.name_in) in
    let parent_is : name_at c3 parent ≡ aux_name i = x23.names.same parent c.in_ok-parent.ensures.ok.known ∙ c.in_ok-parent.ensures.ok.is in
    let ty_is : tree_at c3 ty ≡ pis s.params (tree_at c0 c.args.e) = x13.trees.same ty c.in_ok-ty.ensures.ok.known ∙ c.in_ok-ty.ensures.ok.is in
    IfOk-weaker c.constructor_with.result _ (λ k. constructor_at c3 k ≡ drafted s i d (tree_at c0 c.args.e))
    (λ k h. h c3
    ∙ ap (λ z. ctor_with z (draft_at c3 c.args.draft) (name_at c3 name) (name_at c3 parent) (tree_at c3 ty)) (setting_stays c0 c3 x03 c.args.setting.now c.requires.setting_in)
    ∙ ap (λ z. ctor_with s z (name_at c3 name) (name_at c3 parent) (tree_at c3 ty)) (draft_stays c0 c3 x03 c.args.draft c.requires.draft_in)
    ∙ ap (λ z. ctor_with s d z (name_at c3 parent) (tree_at c3 ty)) name_is
    ∙ ap (λ z. ctor_with s d (aux_ctor i d.name) z (tree_at c3 ty)) parent_is
    ∙ ap (ctor_with s d (aux_ctor i d.name) (aux_name i)) ty_is)
    c.constructor_with.ensures.value
