use Rattle.std.proofs.Common.{map, length, true, sym, ap, subst, ◌≡◌, ◌∙◌}
use Rattle.std.proofs.lemmas.List.{length-map}
use Rattle.lk_declaration.specs.Courses.{Settles}
use Rattle.lk_inductive.specs.Nested.{has_pis, past_pis}
use Rattle.lk_store.specs.Contents.{name_at, level_at, tree_at}
use Rattle.lk_subst.specs.Numbers.{trees-steady}
use Rattle.lk_auxiliary.specs.Places.{levels_of, arguments_of}
use Rattle.lk_auxiliary.proofs.Instances.{at_args_is, counts_agree}
use Rattle.lk_auxiliary.proofs.instance.at_args.Goals as goal

pub returns-clause-made : goal.returns-clause-made
returns-clause-made g c =
    let before = g.T.Terms.contents c.args.terms.now in
    let mid = g.T.Terms.contents c.put_levels_in.new.terms in
    let after = g.T.Terms.contents c.past_pis.new.terms in
    let at = c.args.at.now in
    let us = map (name_at before) c.args.names.now in
    let e = tree_at before c.args.e in
    let grown = c.in_ok-whole.ensures.keeps in
    let pis : has_pis (length (arguments_of before at)) e ≡ true = ap (λ n. has_pis n e) (length-map at.arguments.now (tree_at before)) ∙ sym c.has_pis.ensures ∙ c.if-not-has_pis.false in
    let is = at_args_is (levels_of before at) (arguments_of before at) us e (counts_agree (level_at before) (name_at before) at.levels.now c.args.names.now c.if-at-names.false) pis in
    let moved = ap (λ x. past_pis x (tree_at mid c.in_ok-whole.whole)) (trees-steady before mid at.arguments.now grown c.requires.at_in.arguments_in) ∙ ap (past_pis (arguments_of before at)) c.in_ok-whole.ensures.ok.is in
    subst (λ p. Settles p (tree_at after) c.past_pis.result) (moved ∙ sym is) c.past_pis.ensures.past
