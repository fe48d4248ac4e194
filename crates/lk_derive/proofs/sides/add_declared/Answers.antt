use Rattle.std.proofs.Common.{◌<◌, option_map, sym, ap, ◌∙◌, subst}
use Rattle.std.specs.Prelude.{All, IfSome, length}
use Rattle.std.proofs.lemmas.Result.{on_ok_weaker}
use Rattle.std.proofs.lemmas.List.Elements.{All-nil}
use Rattle.lk_store.specs.Contents.{tree_at}
use Rattle.lk_ask.specs.Sheets.{IsKnownPair}
use Rattle.lk_derive.proofs.LawsMade.{no_sides, all_sides}
use Rattle.lk_derive.proofs.sides.add_declared.Goals as goal

pub add_lawful-requires-clause-pairs_in : goal.add_lawful-requires-clause-pairs_in
add_lawful-requires-clause-pairs_in g c =
    let n = length (g.T.Terms.contents c.args.terms.now).trees in
    subst (All (IsKnownPair n)) (sym c.requires.none) (All-nil (IsKnownPair n))

pub add_lawful-requires-clause-name_in : goal.add_lawful-requires-clause-name_in
add_lawful-requires-clause-name_in g c = rw c.from.ensures c.requires.declaration_in.stated_in.name_in

pub add_lawful-requires-clause-value_in : goal.add_lawful-requires-clause-value_in
add_lawful-requires-clause-value_in g c =
    let s = g.T.Terms.contents c.args.terms.now in
    subst (λ o. IfSome o (λ v. v < length s.trees)) c.in-Some.is (c.definition_of.ensures.known s c.requires.declaration_in.body_in)

pub returns-in-Some-clause-adds : goal.returns-in-Some-clause-adds
returns-in-Some-clause-adds g c =
    let s = g.T.Terms.contents c.args.terms.now in
    let t = g.T.Terms.contents c.add_lawful.new.terms in
    let v_in = subst (λ o. IfSome o (λ v. v < length s.trees)) c.in-Some.is (c.definition_of.ensures.known s c.requires.declaration_in.body_in) in
    let adds = rw c.from.ensures at c.add_lawful.ensures.adds in
    on_ok_weaker c.add_lawful.result
    (λ added. all_sides s t c.add_lawful.ensures.keeps c.args.declaration.now c.requires.declaration_in c.in-Some.value v_in (ap (option_map (tree_at t)) (sym c.in-Some.is) ∙ c.definition_of.ensures.value t)
    c.args.sides.now.items c.add_lawful.new.sides.items c.requires.none added)
    adds

pub returns-in-None-clause-adds : goal.returns-in-None-clause-adds
returns-in-None-clause-adds g c =
    let s = g.T.Terms.contents c.args.terms.now in
    no_sides s c.args.declaration.now c.args.sides.now.items c.requires.none (ap (option_map (tree_at s)) (sym c.in-None.is) ∙ c.definition_of.ensures.value s)
