use Rattle.std.proofs.Common.{ap, ◌∙◌}
use Rattle.lk_tree.specs.Tree.{const}
use Rattle.lk_store.specs.Contents.{Contents, name_at, list_at, tree_at}
use Rattle.lk_store.proofs.Extending.{Extends-trans}
use Rattle.lk_subst.specs.Numbers.{trees-steady}
use Rattle.lk_derive_iota.proofs.SRuns.{expansion_made}
use Rattle.lk_derive_iota.proofs.structures.expand.Goals as goal

pub returns-clause-is : goal.returns-clause-is
returns-clause-is g c =
    let d0 : Contents = g.L.Terms.contents c.args.looks.now in
    let d1 : Contents = g.L.Terms.contents c.projections_of.new.terms in
    let d2 : Contents = g.L.Terms.contents c.make.new.self in
    let d3 : Contents = g.L.Terms.contents c.apply.new.terms in
    let d4 : Contents = g.L.Terms.contents c.apply-2.new.terms in
    let k = c.args.constructor in
    let x01 = c.projections_of.ensures.keeps in
    let x12 = c.make.ensures.keeps in
    let x02 = Extends-trans _ _ _ x01 x12 in
    let x13 = Extends-trans _ _ _ x12 c.apply.ensures.keeps in
    let es = c.in_ok-arguments.arguments.items in
    let ps = c.in_ok-fields.fields.items in
    let ks = list_at d0 c.args.levels in
    let front = c.in_ok-front.ensures.ok.is ∙ ap (λ n. const n (list_at d1 c.args.levels)) (x01.names.same k.name c.requires.constructor_in.name_in) ∙ ap (const (name_at d0 k.name)) (x01.lists.same c.args.levels c.requires.levels_in) in
    record {
      known = c.in_ok-x.ensures.ok.known;
      is = expansion_made d0 d2 d3 k ks (tree_at d0 c.args.m) (tree_at d0 c.args.ty) (tree_at d2 c.in_ok-front.front) (tree_at d3 c.in_ok-at.at) (tree_at d4 c.in_ok-x.x) es ps c.deref.result.now c.deref-2.result.now
          front c.deref.ensures.value c.deref-2.ensures.value (trees-steady d0 d2 es x02 c.in_ok-arguments.ensures.known ∙ c.in_ok-arguments.ensures.are) (trees-steady d1 d3 ps x13 c.in_ok-fields.ensures.known ∙ c.in_ok-fields.ensures.are)
          c.in_ok-at.ensures.ok.is c.in_ok-x.ensures.ok.is;
    }
