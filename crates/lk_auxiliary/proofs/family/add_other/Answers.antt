use Rattle.std.proofs.Common.{◌∷◌, ◌++◌, [], sym, ap, ◌∙◌}
use Rattle.std.proofs.lemmas.List.{map-append}
use Rattle.std.proofs.lemmas.List.Elements.{All-same, All-push}
use Rattle.lk_env.specs.Units.{type_at}
use Rattle.lk_questions.specs.Program.{done}
use Rattle.lk_store.specs.Contents.{name_at}
use Rattle.lk_auxiliary.specs.Auxiliaries.{aux_at, auxs_at, IsAuxiliaryIn}
use Rattle.lk_auxiliary.specs.Places.{levels_of, arguments_of}
use Rattle.lk_auxiliary.proofs.Others.{other_made, auxs_stay, auxs_known}
use Rattle.lk_auxiliary.proofs.family.add_other.Goals as goal

pub returns-clause-known : goal.returns-clause-known
returns-clause-known g c =
    let before = g.T.Terms.contents c.args.terms.now in
    let after = g.T.Terms.contents c.aux_of.new.terms in
    let found = c.args.found.now.items in
    let other = c.in_ok-other.other in
    All-same (IsAuxiliaryIn after) c.push.new.self.items (found ++ other ∷ []) c.in-Ok.ensures.items (All-push (IsAuxiliaryIn after) found other (auxs_known before after c.in_ok-other.ensures.keeps found c.requires.found_in) c.in_ok-other.ensures.known)

pub returns-clause-other : goal.returns-clause-other
returns-clause-other g c =
    let before = g.T.Terms.contents c.args.terms.now in
    let after = g.T.Terms.contents c.aux_of.new.terms in
    let found = c.args.found.now.items in
    let other = c.in_ok-other.other in
    let at = c.args.at.now in
    other_made at.first (levels_of before at) (arguments_of before at) (name_at before c.args.name) (auxs_at before found) (type_at before c.args.stated.now) (aux_at after other) (sym c.names_equal.ensures ∙ c.if-names_equal.false) c.in_ok-other.ensures.aux
    ∙ ap done (sym (ap (auxs_at after) c.in-Ok.ensures.items ∙ map-append (aux_at after) found (other ∷ []) ∙ ap (λ as_. as_ ++ aux_at after other ∷ []) (auxs_stay before after c.in_ok-other.ensures.keeps found c.requires.found_in)))
