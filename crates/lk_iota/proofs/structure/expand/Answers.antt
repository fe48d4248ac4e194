use Rattle.std.proofs.Common.{◌≡◌, [], Some, ◌++◌, map, ap, sym, subst, ◌∙◌}
use Rattle.lk_tree.specs.Tree.{Name}
use Rattle.lk_tree.specs.Spine.{head, args}
use Rattle.lk_rulebook.specs.Structures.{projections}
use Rattle.lk_questions.specs.Erased.{a_tree, erased}
use Rattle.lk_questions.specs.Iota.{levels_at}
use Rattle.lk_store.specs.Contents.{tree_at}
use Rattle.lk_ask.proofs.Steps.{after_making}
use Rattle.lk_constructor.specs.Applied.{IsApplied}
use Rattle.lk_iota.specs.Redexes.{IsRedex}
use Rattle.lk_iota.specs.Expansions.{at_ctor, expansion, levels_or_empty}
use Rattle.lk_iota.specs.Iotas.{Reduces}
use Rattle.lk_iota.proofs.Steady.{redex_steady, applied_steady, joined_steady}
use Rattle.lk_iota.proofs.structure.expand.Goals as goal

pub returns : goal.returns
returns g c p k is only =
    let d = g.L.Terms.contents c.args.looks.now in
    let f = g.L.Terms.contents c.projections_of.new.terms in
    let library = (g.L.Looks.sight (g.L.Terms.rest c.args.looks.now)).basis.library in
    let grown = c.projections_of.ensures.keeps in
    let same = c.projections_of.ensures.rest in
    let e = tree_at d c.args.e in
    let m = tree_at d c.args.m in
    let ty = tree_at d c.args.ty in
    let u = c.args.constructor in
    let b = expansion m k ty in
    let fields : map (tree_at f) c.in_ok-projections.projections.items
    ≡ projections k.ind.name m 0 k.ctor.fields = c.in_ok-projections.ensures.are
    ∙ ap (λ (x : Name). projections x m 0 u.fields) only.stands.inductive_is
    ∙ ap (projections k.ind.name m 0) only.stands.fields_are in
    let joined = joined_steady grown c.in_ok-subject.subject.items
    c.in_ok-projections.projections.items c.deref-2.result.now (args ty)
    (projections k.ind.name m 0 k.ctor.fields) c.in_ok-subject.ensures.known
    c.in_ok-subject.ensures.are fields
    (c.deref-2.ensures.value ∙ c.in_ok-extend_from_slice.ensures.items
    ∙ ap (λ r. c.in_ok-subject.subject.items ++ r) c.deref.ensures.value) in
    let redex = subst (λ r. IsRedex f (g.L.Looks.sight r).basis.library c.args.redex.now p) (sym same)
    (redex_steady grown library c.args.redex.now p c.requires.redex_in is) in
    let applied = subst (λ r. IsApplied f (g.L.Looks.sight r).basis.library
    (map (tree_at f) c.deref-2.result.now) u b) (sym same)
    (applied_steady grown library [] _ _ (levels_or_empty (levels_at k.ind.name (head ty))) u k
    c.requires.constructor_in only.stands joined) in
    after_making (λ s. erased s.basis.place a_tree s.last (at_ctor e p (Some b))) grown same
    (subst (λ y. Reduces g.L.Terms.contents g.L.Terms.rest g.L.Looks.sight
    c.projections_of.new.terms c.by_arguments.new.looks c.by_arguments.result
    (λ t. at_ctor y p (Some b))) (grown.trees.same c.args.e c.requires.e_in)
    (c.by_arguments.ensures p b redex applied))
