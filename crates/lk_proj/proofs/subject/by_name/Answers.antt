use Rattle.std.proofs.Common.{◌∷◌, [], ap, sym, ◌∙◌, rules}
use Rattle.lk_rulebook.specs.Place.{Entry as PlainEntry}
use Rattle.lk_tree.specs.declared.rule.Rule.TheVariants.{UnknownConstant}
use Rattle.lk_questions.specs.Erased.{a_tree, erased}
use Rattle.lk_questions.specs.Projections.{of_kind, of_struct}
use Rattle.lk_store.specs.Contents.{name_at, list_at, tree_at}
use Rattle.lk_ask.specs.Looks.{Basis}
use Rattle.lk_ask.proofs.Looking.{found_goes}
use Rattle.lk_ask.proofs.Steps.{same_steps, after_look}
use Rattle.lk_constructor.proofs.Giving.{entry_there}
use Rattle.lk_structure.proofs.Structured.{some_structure, none_structure, stated_known}
use Rattle.lk_structure.proofs.Structured.{lent_is, stated_is, kind_some, kind_none}
use Rattle.lk_proj.proofs.subject.by_name.Goals as goal

pub by_structure-requires-clause-structure_in : goal.by_structure-requires-clause-structure_in
by_structure-requires-clause-structure_in g c =
    stated_known (g.L.Scope.Lends.lent c.scope.result.now) (g.L.Looks.sight (g.L.Terms.rest
    c.look.new.self)).basis.library
    (g.L.Terms.contents c.look.new.self) c.in-Some.structure c.scope.ensures.is
    c.scope.ensures.over
    c.in-Some.ensures.known

pub returns-in-Some : goal.returns-in-Some
returns-in-Some g c =
    let before = g.L.Terms.contents c.args.looks.now in
    let sight = g.L.Looks.sight (g.L.Terms.rest c.args.looks.now) in
    let looked = g.L.Looks.sight (g.L.Terms.rest c.look.new.self) in
    let w = sight.basis.place in
    let p = c.args.p in
    let h = c.in-Ok.ensures.found in
    let l = (g.L.Scope.Lends.lent c.scope.result.now) in
    let m = looked.basis.library in
    let is = c.scope.ensures.is in
    let S = name_at before p.structure in
    let s = tree_at before p.subject in
    let T = tree_at before c.args.ty in
    let ls = list_at before c.args.levels in
    let at = entry_there sight.basis l c.in-Ok.entry h.entry
    (is ∙ ap (λ (b : Basis _). b.library) c.look.ensures.stays) h.is in
    let found = some_structure l c.in-Some.structure _ (c.in-Some.ensures.is h.entry at) in
    let q = found.0 in
    let known = c.in-Some.ensures.known in
    let over = c.scope.ensures.over in
    same_steps (sym
    (found_goes w a_tree S UnknownConstant (λ (y : PlainEntry). of_kind S p.field s T ls y.kind)
    sight.basis.library
    sight.last looked.last c.in-Ok.entry h
    ∙ ap (erased w a_tree looked.last) (kind_some S p.field s T ls h.entry.kind q found.1)))
    (after_look (λ d b. erased b.place a_tree looked.last (of_struct (name_at d p.structure) p.field
    (tree_at d p.subject) (tree_at d c.args.ty) (list_at d c.args.levels) q.0 (q.1 ∷ [])))
    c.look.ensures.contents
    c.look.ensures.stays (c.by_structure.ensures q.0 q.1
    (lent_is l m (g.L.Terms.contents c.look.new.self) c.in-Some.structure is over known q found.2)
    (stated_is l m (g.L.Terms.contents c.look.new.self) c.in-Some.structure is over known q
    found.2)))

pub returns-in-None : goal.returns-in-None
returns-in-None g c =
    let before = g.L.Terms.contents c.args.looks.now in
    let sight = g.L.Looks.sight (g.L.Terms.rest c.args.looks.now) in
    let last = (g.L.Looks.sight (g.L.Terms.rest c.look.new.self)).last in
    let w = sight.basis.place in
    let p = c.args.p in
    let h = c.in-Ok.ensures.found in
    let S = name_at before p.structure in
    let s = tree_at before p.subject in
    let T = tree_at before c.args.ty in
    let ls = list_at before c.args.levels in
    let at = entry_there sight.basis (g.L.Scope.Lends.lent c.scope.result.now) c.in-Ok.entry h.entry
    (c.scope.ensures.is ∙ ap (λ (b : Basis _). b.library) c.look.ensures.stays) h.is in
    let none = none_structure (g.L.Scope.Lends.lent c.scope.result.now) _ (c.in-None.ensures.is h.entry at) in
    record {
      keeps = search rules;
      stays = search rules;
      known = search rules;
      steps = sym
          (found_goes w a_tree S UnknownConstant (λ (y : PlainEntry). of_kind S p.field s T ls
          y.kind) sight.basis.library
          sight.last last c.in-Ok.entry h
          ∙ ap (erased w a_tree last) (kind_none S p.field s T ls h.entry.kind none));
    }
