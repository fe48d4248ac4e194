use Rattle.std.proofs.Common.{◌≡◌, List, ◌∷◌, [], ◌++◌, map, sym, ap, subst, ◌∙◌}
use Rattle.std.proofs.lemmas.Result.{err_from_is_err_and}
use Rattle.lk_declaration.specs.Courses.{Refuses}
use Rattle.lk_env.specs.Units.{type_at}
use Rattle.lk_inductive.specs.Enlarged.{Aux}
use Rattle.lk_questions.specs.Program.{Program, ◌>>=◌}
use Rattle.lk_store.specs.Contents.{name_at}
use Rattle.lk_auxiliary.proofs.Pasts.{refuses_too}
use Rattle.lk_auxiliary.specs.Auxiliaries.{aux_at, auxs_at}
use Rattle.lk_auxiliary.specs.Parts.{more_others, family_form}
use Rattle.lk_auxiliary.specs.Places.{levels_of, arguments_of}
use Rattle.lk_auxiliary.proofs.Others.{more_steady}
use Rattle.lk_auxiliary.proofs.Steady.{at_in_stays}
use Rattle.lk_auxiliary.proofs.family.family_of.Goals as goal

pub add_others-requires-clause-at_in : goal.add_others-requires-clause-at_in
add_others-requires-clause-at_in g c =
    at_in_stays (g.T.Terms.contents c.args.terms.now) (g.T.Terms.contents c.aux_of.new.terms) c.in_ok-own.ensures.keeps c.args.at.now c.requires.at_in

pub returns-in_err-add_others-clause-family : goal.returns-in_err-add_others-clause-family
returns-in_err-add_others-clause-family g c =
    let before = g.T.Terms.contents c.args.terms.now in
    let mid = g.T.Terms.contents c.aux_of.new.terms in
    let at = c.args.at.now in
    let ls = levels_of before at in
    let bs = arguments_of before at in
    let J = name_at before c.args.name in
    let family = c.args.family.now in
    let ts = map (type_at before) family.types.items in
    let t = type_at before family.own in
    let grown = c.in_ok-own.ensures.keeps in
    let first = c.args.at.now.first in
    let stop = c.in_err-add_others.field-0.0 in
    let alone : auxs_at mid c.push.new.self.items ≡ aux_at mid c.in_ok-own.own ∷ [] = ap (auxs_at mid) c.in-Ok.ensures.items ∙ ap (λ xs. auxs_at mid (xs ++ c.in_ok-own.own ∷ [])) c.new-found.ensures.items in
    let p = err_from_is_err_and c.from_residual-in_err-add_others.result c.from_residual-in_err-add_others.ensures.1 in
    rw (p.1, p.2) (refuses_too (more_others first ls bs J (aux_at mid c.in_ok-own.own ∷ []) ts) (family_form first ls bs J ts t) stop
    (λ r h. ap (λ q. q >>= λ a. more_others first ls bs J (a ∷ []) ts) c.in_ok-own.ensures.aux ∙ h)
    (subst (λ (q : Program (List Aux)). Refuses q stop) (more_steady before mid grown at c.requires.at_in first c.args.name (auxs_at mid c.push.new.self.items) family.types.items c.deref.result.now c.requires.name_in c.deref.ensures.value c.requires.family_in.types_in ∙ ap (λ f. more_others first ls bs J f ts) alone) c.in_err-add_others.ensures.others))

pub returns-clause-family : goal.returns-clause-family
returns-clause-family g c =
    let before = g.T.Terms.contents c.args.terms.now in
    let mid = g.T.Terms.contents c.aux_of.new.terms in
    let at = c.args.at.now in
    let ls = levels_of before at in
    let bs = arguments_of before at in
    let J = name_at before c.args.name in
    let family = c.args.family.now in
    let ts = map (type_at before) family.types.items in
    let grown = c.in_ok-own.ensures.keeps in
    let first = c.args.at.now.first in
    let alone : auxs_at mid c.push.new.self.items ≡ aux_at mid c.in_ok-own.own ∷ [] = ap (auxs_at mid) c.in-Ok.ensures.items ∙ ap (λ xs. auxs_at mid (xs ++ c.in_ok-own.own ∷ [])) c.new-found.ensures.items in
    ap (λ q. q >>= λ a. more_others first ls bs J (a ∷ []) ts) c.in_ok-own.ensures.aux
    ∙ sym (more_steady before mid grown at c.requires.at_in first c.args.name (auxs_at mid c.push.new.self.items) family.types.items c.deref.result.now c.requires.name_in c.deref.ensures.value c.requires.family_in.types_in ∙ ap (λ f. more_others first ls bs J f ts) alone)
    ∙ c.in_ok-add_others.ensures.others
