use Rattle.std.proofs.Common.{sym, subst, ◌∙◌}
use Rattle.lk_declaration.specs.Courses.{Settles}
use Rattle.lk_env.specs.Units.{type_at}
use Rattle.lk_questions.specs.Program.{Program}
use Rattle.lk_store.specs.Contents.{tree_at}
use Rattle.lk_auxiliary.specs.Parts.{PlainParts, parts_at}
use Rattle.lk_auxiliary.specs.Places.{levels_of, arguments_of}
use Rattle.lk_auxiliary.proofs.Families.{form_steady}
use Rattle.lk_auxiliary.proofs.PartsMade.{whole_is}
use Rattle.lk_auxiliary.proofs.Steady.{at_in_stays, at_args_of}
use Rattle.lk_auxiliary.proofs.family.parts_at_args.Goals as goal

pub parts_of-requires-clause-at_in : goal.parts_of-requires-clause-at_in
parts_of-requires-clause-at_in g c =
    at_in_stays (g.T.Terms.contents c.args.terms.now) (g.T.Terms.contents c.at_args.new.terms) c.in_ok-ty.ensures.keeps c.args.at.now c.requires.at_in

pub returns-clause-parts : goal.returns-clause-parts
returns-clause-parts g c =
    let before = g.T.Terms.contents c.args.terms.now in
    let mid = g.T.Terms.contents c.at_args.new.terms in
    let after = g.T.Terms.contents c.parts_of.new.terms in
    let at = c.args.at.now in
    let own = c.args.own.now in
    let ls = levels_of before at in
    let bs = arguments_of before at in
    subst (λ (q : Program PlainParts). Settles q (parts_at after) c.parts_of.result)
    (form_steady before mid c.in_ok-ty.ensures.keeps at c.requires.at_in own c.requires.own_in c.args.at.now.first c.in_ok-ty.ty
    ∙ sym (whole_is c.args.at.now.first ls bs (type_at before own) (tree_at mid c.in_ok-ty.ty) (at_args_of before at own.levels.items c.deref.result.now own.ty c.deref.ensures.value (tree_at mid c.in_ok-ty.ty) c.in_ok-ty.ensures.made)))
    c.parts_of.ensures.parts
