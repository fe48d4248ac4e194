use Rattle.std.proofs.Common.{refl}
use Rattle.lk_questions.specs.Query.{whnf}
use Rattle.lk_store.specs.Contents.{tree_at}
use Rattle.lk_derive_iota.proofs.Growing.{within_at}
use Rattle.lk_derive_iota.proofs.AskingRuns.{type_within, form_within, asks_typed}
use Rattle.lk_derive_iota.proofs.asking.ask_typed.Goals as goal

pub ask_type-requires-clause-answered : goal.ask_type-requires-clause-answered
ask_type-requires-clause-answered g c = type_within c.requires.typed

pub ask_form-requires-clause-answered : goal.ask_form-requires-clause-answered
ask_form-requires-clause-answered g c =
    let told = c.in_ok-ty.ensures.asks in
    within_at {most = c.args.enough} {q = whnf (tree_at (g.D.Terms.contents c.ask_type.new.derives) c.in_ok-ty.ty)} c.ask_type.ensures.leaves.place refl (form_within c.requires.typed (tree_at (g.D.Terms.contents c.ask_type.new.derives) c.in_ok-ty.ty) told.cost told.answered)

pub returns-clause-asks : goal.returns-clause-asks
returns-clause-asks g c =
    asks_typed c.ask_type.ensures.leaves.place (c.ask_form.ensures.leaves.keeps.trees.same c.in_ok-ty.ty c.in_ok-ty.ensures.known) c.in_ok-ty.ensures.asks c.in_ok-form.ensures.asks
