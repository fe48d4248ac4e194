use Rattle.std.proofs.Common.{refl}
use Rattle.lk_questions.specs.Query.{whnf}
use Rattle.lk_store.specs.Contents.{tree_at}
use Rattle.lk_derive_iota.proofs.Growing.{within_at}
use Rattle.lk_derive_iota.proofs.AskingRuns.{type_within, form_within, has_form}
use Rattle.lk_derive_iota.proofs.asking.typed_form.Goals as goal

pub type_of-requires-clause-answered : goal.type_of-requires-clause-answered
type_of-requires-clause-answered g c = type_within c.requires.typed

pub form_of-requires-clause-answered : goal.form_of-requires-clause-answered
form_of-requires-clause-answered g c =
    let told = c.in_ok-ty.ensures.told in
    within_at {most = c.args.enough} {q = whnf (tree_at (g.D.Terms.contents c.type_of.new.derives) c.in_ok-ty.ty)} c.type_of.ensures.leaves.place refl (form_within c.requires.typed (tree_at (g.D.Terms.contents c.type_of.new.derives) c.in_ok-ty.ty) told.cost told.answered)

pub returns-clause-told : goal.returns-clause-told
returns-clause-told g c = has_form c.type_of.ensures.leaves.place c.in_ok-ty.ensures.told c.in_ok-form.ensures.told
