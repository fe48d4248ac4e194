use Rattle.std.proofs.Common.{◌∙◌, subst}
use Rattle.lk_rulebook.specs.Place.{Place}
use Rattle.lk_store.specs.Contents.{Contents, tree_at}
use Rattle.lk_derive_reduce.specs.declared.rows.HeadForm.TheVariants.{Named}
use Rattle.lk_derive_reduce.specs.Forms.{IsHeadForm, IsLam, IsStuck}
use Rattle.lk_derive_reduce.proofs.Inert.{rigid_whole}
use Rattle.lk_derive_reduce.proofs.rows.applied_row.Goals as goal

pub beta_row-requires-clause-lambda : goal.beta_row-requires-clause-lambda
beta_row-requires-clause-lambda g c =
    let old : Contents = g.D.Terms.contents c.args.derives.now in
    subst IsLam c.head-front.ensures.is (subst (IsHeadForm old (tree_at old c.head-front.result)) c.in-Lambda.is c.head_form.ensures)

pub head_row-requires-clause-stuck : goal.head_row-requires-clause-stuck
head_row-requires-clause-stuck g c =
    let old : Contents = g.D.Terms.contents c.args.derives.now in
    subst IsStuck c.head-front.ensures.is (subst (IsHeadForm old (tree_at old c.head-front.result)) c.in-Stuck.is c.head_form.ensures)

pub is_constant_row-requires-clause-head_is : goal.is_constant_row-requires-clause-head_is
is_constant_row-requires-clause-head_is g c =
    let old : Contents = g.D.Terms.contents c.args.derives.now in
    let k : IsHeadForm old (tree_at old c.head-front.result) (Named c.in-Named.constant) = subst (IsHeadForm old (tree_at old c.head-front.result)) c.in-Named.is c.head_form.ensures in
    k.2 ∙ c.head-front.ensures.is

pub returns-in-Rigid-clause-filled : goal.returns-in-Rigid-clause-filled
returns-in-Rigid-clause-filled g c =
    let old : Contents = g.D.Terms.contents c.args.derives.now in
    let w : Place = (g.D.Looks.sight (g.D.Terms.rest c.args.derives.now)).basis.place in
    rigid_whole w c.args.enough old c.args.row.now (tree_at old c.args.e) (tree_at old c.head-front.result) c.requires.applied c.head-front.ensures.is
    (subst (IsHeadForm old (tree_at old c.head-front.result)) c.in-Rigid.is c.head_form.ensures) c.requires.empty c.requires.claimed
