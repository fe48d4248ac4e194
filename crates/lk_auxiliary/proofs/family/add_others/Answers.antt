use Rattle.std.proofs.Common.{List, map, sym, ap, subst, ◌∙◌}
use Rattle.std.proofs.lemmas.Result.{err_from_is_err_and}
use Rattle.lk_declaration.specs.Courses.{Refuses}
use Rattle.lk_env.specs.Units.{type_at, IsTypeIn}
use Rattle.lk_inductive.specs.Enlarged.{Aux}
use Rattle.lk_questions.specs.Program.{Program}
use Rattle.lk_store.specs.Contents.{name_at}
use Rattle.lk_store.proofs.Extending.{Extends-trans}
use Rattle.lk_lists.proofs.Lists.{rest_have, first_has}
use Rattle.lk_env.proofs.Stays.{type_in_stays}
use Rattle.lk_auxiliary.proofs.Pasts.{refuses_too}
use Rattle.lk_auxiliary.specs.Auxiliaries.{auxs_at}
use Rattle.lk_auxiliary.specs.Parts.{one_other, more_others}
use Rattle.lk_auxiliary.specs.Places.{levels_of, arguments_of}
use Rattle.lk_auxiliary.proofs.Others.{others_next, others_stop, other_steady}
use Rattle.lk_auxiliary.proofs.Steady.{at_in_stays}
use Rattle.lk_auxiliary.proofs.family.add_others.Goals as goal

pub add_other-requires-clause-at_in : goal.add_other-requires-clause-at_in
add_other-requires-clause-at_in g c =
    at_in_stays (g.T.Terms.contents c.args.terms.now) (g.T.Terms.contents c.types.terms) c.types.invariant.keeps c.args.at.now c.requires.at_in

pub add_other-requires-clause-stated_in : goal.add_other-requires-clause-stated_in
add_other-requires-clause-stated_in g c =
    let before = g.T.Terms.contents c.args.terms.now in
    let now = g.T.Terms.contents c.types.terms in
    type_in_stays before now c.types.invariant.keeps c.in-Some.stated.now (first_has (IsTypeIn before) c.types.rest.now c.in-Some.stated.now c.in-Some.more.now c.in-Some.ensures.cases.0 c.types.invariant.rest_in)

pub returns-in_err-add_other-clause-others : goal.returns-in_err-add_other-clause-others
returns-in_err-add_other-clause-others g c =
    let before = g.T.Terms.contents c.args.terms.now in
    let now = g.T.Terms.contents c.types.terms in
    let was = c.types.invariant in
    let at = c.args.at.now in
    let stated = c.in-Some.stated.now in
    let more = c.in-Some.more.now in
    let split = c.in-Some.ensures.cases.0 in
    let ls = levels_of before at in
    let bs = arguments_of before at in
    let J = name_at before c.args.name in
    let known = first_has (IsTypeIn before) c.types.rest.now stated more split was.rest_in in
    let stop = c.in_err-add_other.field-0.0 in
    let p = err_from_is_err_and c.from_residual.result c.from_residual.ensures.1 in
    rw (p.1, p.2) (refuses_too (one_other c.args.at.now.first ls bs J (auxs_at now c.types.found.items) (type_at before stated)) (more_others c.args.at.now.first ls bs J (auxs_at before c.args.found.now.items) (map (type_at before) c.args.types.now)) stop
    (λ r h. was.leads ∙ others_stop c.args.at.now.first ls bs J (auxs_at now c.types.found.items) (map (type_at before) c.types.rest.now) (type_at before stated) (map (type_at before) more) r (ap (map (type_at before)) split) h)
    (subst (λ (q : Program (List Aux)). Refuses q stop) (other_steady before now was.keeps at c.requires.at_in c.args.at.now.first c.args.name (auxs_at now c.types.found.items) stated c.requires.name_in known) c.in_err-add_other.ensures.other))

pub types-preserved : goal.types-preserved
types-preserved g c =
    let before = g.T.Terms.contents c.args.terms.now in
    let now = g.T.Terms.contents c.types.terms in
    let after = g.T.Terms.contents c.add_other.new.terms in
    let was = c.types.invariant in
    let at = c.args.at.now in
    let stated = c.in-Some.stated.now in
    let more = c.in-Some.more.now in
    let split = c.in-Some.ensures.cases.0 in
    let ls = levels_of before at in
    let bs = arguments_of before at in
    let J = name_at before c.args.name in
    let known = first_has (IsTypeIn before) c.types.rest.now stated more split was.rest_in in
    record {
      keeps = Extends-trans before now after was.keeps c.in_ok-add_other.ensures.keeps;
      same_rest = c.in_ok-add_other.ensures.rest ∙ was.same_rest;
      found_in = c.in_ok-add_other.ensures.known;
      rest_in = rest_have (IsTypeIn before) c.types.rest.now stated more split was.rest_in;
      leads = was.leads
          ∙ others_next c.args.at.now.first ls bs J (auxs_at now c.types.found.items) (auxs_at after c.add_other.new.found.items) (map (type_at before) c.types.rest.now) (type_at before stated) (map (type_at before) more) (ap (map (type_at before)) split)
          (sym (other_steady before now was.keeps at c.requires.at_in c.args.at.now.first c.args.name (auxs_at now c.types.found.items) stated c.requires.name_in known) ∙ c.in_ok-add_other.ensures.other);
    }
