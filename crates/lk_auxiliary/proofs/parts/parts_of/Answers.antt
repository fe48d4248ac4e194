use Rattle.std.proofs.Common.{map, sym, subst, refl, ◌∙◌, List, arith}
use Rattle.std.proofs.lemmas.Result.{err_from_is_err_and}
use Rattle.lk_declaration.specs.Courses.{Refuses}
use Rattle.lk_questions.specs.Program.{Program}
use Rattle.lk_tree.specs.Tree.{Tree}
use Rattle.lk_env.specs.Units.{type_at}
use Rattle.lk_inductive.specs.Nested.{ctors_at}
use Rattle.lk_store.specs.Contents.{level_at, tree_at}
use Rattle.lk_subst.specs.Numbers.{trees-steady}
use Rattle.lk_auxiliary.proofs.Pasts.{refuses_too}
use Rattle.lk_auxiliary.specs.Parts.{parts_form}
use Rattle.lk_auxiliary.specs.Places.{levels_of, arguments_of}
use Rattle.lk_auxiliary.proofs.PartsMade.{parts_are, parts_stop}
use Rattle.lk_auxiliary.proofs.Steady.{at_in_stays, ctors_steady}
use Rattle.lk_auxiliary.proofs.parts.parts_of.Goals as goal

pub ctors_at-requires-clause-at_in : goal.ctors_at-requires-clause-at_in
ctors_at-requires-clause-at_in g c =
    at_in_stays (g.T.Terms.contents c.args.terms.now) (g.T.Terms.contents c.end_of.new.terms) c.in_ok-end.ensures.keeps c.args.at.now c.requires.at_in

pub returns-in_err-constructors-clause-parts : goal.returns-in_err-constructors-clause-parts
returns-in_err-constructors-clause-parts g c =
    let before = g.T.Terms.contents c.args.terms.now in
    let mid = g.T.Terms.contents c.end_of.new.terms in
    let own = c.args.own.now in
    let ls = levels_of before c.args.at.now in
    let bs = arguments_of before c.args.at.now in
    let p = err_from_is_err_and c.from_residual-in_err-constructors.result c.from_residual-in_err-constructors.ensures.1 in
    rw (p.1, p.2) (refuses_too (ctors_at ls bs (type_at before own).ctors) (parts_form c.args.at.now.first ls bs (type_at before own) (tree_at before c.args.ty)) c.in_err-constructors.field-0.0
    (λ x h. parts_stop c.args.at.now.first ls bs (type_at before own) (tree_at before c.args.ty) (map (tree_at mid) c.in_ok-end.end.0.items, level_at mid c.in_ok-end.end.1) c.in_ok-end.ensures.end x h)
    (subst (λ (q : Program (List Tree)). Refuses q c.in_err-constructors.field-0.0) (ctors_steady before mid c.in_ok-end.ensures.keeps c.args.at.now c.requires.at_in c.deref.result.now own.constructors.items c.deref.ensures.value c.requires.own_in.constructors_in) c.in_err-constructors.ensures.made))

pub returns-clause-parts : goal.returns-clause-parts
returns-clause-parts g c =
    let before = g.T.Terms.contents c.args.terms.now in
    let mid = g.T.Terms.contents c.end_of.new.terms in
    let after = g.T.Terms.contents c.ctors_at.new.terms in
    let own = c.args.own.now in
    let ls = levels_of before c.args.at.now in
    let bs = arguments_of before c.args.at.now in
    let first = c.in_ok-end.ensures.keeps in
    let second = c.in_ok-constructors.ensures.keeps in
    parts_are c.args.at.now.first ls bs (type_at before own) (tree_at before c.args.ty) (map (tree_at mid) c.in_ok-end.end.0.items, level_at mid c.in_ok-end.end.1) c.in_ok-end.ensures.end (map (tree_at after) c.in_ok-constructors.constructors.items)
    (sym (ctors_steady before mid first c.args.at.now c.requires.at_in c.deref.result.now own.constructors.items c.deref.ensures.value c.requires.own_in.constructors_in) ∙ c.in_ok-constructors.ensures.made)
    ∙ rw (second.trees.same c.args.ty (let small = c.requires.ty_in in let longer = first.trees.longer in omega arith) ∙ first.trees.same c.args.ty c.requires.ty_in, trees-steady mid after c.in_ok-end.end.0.items second c.in_ok-end.ensures.indices_known, second.levels.same c.in_ok-end.end.1 c.in_ok-end.ensures.level_known) refl
