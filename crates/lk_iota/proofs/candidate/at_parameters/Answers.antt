use Rattle.std.proofs.Common.{rules, ◌≡◌, ℕ, None, ◌<◌, ◌≤◌, length, map, take, ap, sym, subst, ◌∙◌}
use Rattle.std.proofs.Common.{arith}
use Rattle.std.specs.Prelude.{All}
use Rattle.std.proofs.lemmas.List.Elements.{All-take}
use Rattle.std.proofs.lemmas.List.{length-map, take-map}
use Rattle.lk_tree.specs.Tree.{const}
use Rattle.lk_tree.specs.Spine.{apply, args}
use Rattle.lk_questions.specs.Query.{infer}
use Rattle.lk_questions.specs.Erased.{asks, with_tree}
use Rattle.lk_store.specs.Contents.{list_at, tree_at}
use Rattle.lk_store.proofs.Extending.{Extends-trans}
use Rattle.lk_subst.specs.Numbers.{trees-known}
use Rattle.lk_iota.specs.declared.sheet.IotaTermSheet.TheVariants.{Candidate}
use Rattle.lk_iota.specs.Iotas.{iota_term_rest}
use Rattle.lk_ask.proofs.Steps.{gives_now}
use Rattle.lk_iota.proofs.Steady.{front_steady}
use Rattle.lk_iota.proofs.Going.{too_few, candidate_asked}
use Rattle.lk_iota.proofs.candidate.at_parameters.Goals as goal

pub returns-then-from-len : goal.returns-then-from-len
returns-then-from-len g c p b at is only =
    let sight = g.L.Looks.sight (g.L.Terms.rest c.args.looks.now) in
    let d = g.L.Terms.contents c.args.looks.now in
    let ty = tree_at d c.args.ty in
    let items = c.in_ok-arguments.arguments.items in
    let many : length (args ty) ≡ length items =
    sym (ap length c.in_ok-arguments.ensures.are) ∙ length-map items (tree_at d) in
    let parameters = only.stands.parameters_are in
    let more = c.if-from-len.true in
    let few : length (args ty) < b.ctor.parameters = omega arith in
    gives_now c.args.looks.now _ _
    (c.ask_major.ensures.known _ c.requires.redex_in.major_in c.requires.e_in)
    (c.ask_major.ensures.steps sight.basis.place d sight.basis.library sight.last p at is
    ∙ too_few sight.basis.place sight.last (tree_at d c.args.e) p b ty (list_at d c.args.levels)
    few)

pub apply-requires-clause-args_in : goal.apply-requires-clause-args_in
apply-requires-clause-args_in g c =
    let d = g.L.Terms.contents c.args.looks.now in
    let f = g.L.Terms.contents c.make.new.self in
    let items = c.in_ok-arguments.arguments.items in
    let P : ℕ → Type 0 = λ e. e < length f.trees in
    All-take P c.args.constructor.parameters c.deref.result.now
    (subst (All P) (sym c.deref.ensures.value)
    (trees-known d f items c.make.ensures.keeps c.in_ok-arguments.ensures.known))

pub returns : goal.returns
returns g c p b at is only =
    let sight = g.L.Looks.sight (g.L.Terms.rest c.args.looks.now) in
    let w = sight.basis.place in
    let d = g.L.Terms.contents c.args.looks.now in
    let f = g.L.Terms.contents c.make.new.self in
    let h = g.L.Terms.contents c.apply.new.terms in
    let e = tree_at d c.args.e in
    let ty = tree_at d c.args.ty in
    let ks = list_at d c.args.levels in
    let items = c.in_ok-arguments.arguments.items in
    let many : length (args ty) ≡ length items =
    sym (ap length c.in_ok-arguments.ensures.are) ∙ length-map items (tree_at d) in
    let parameters = only.stands.parameters_are in
    let less = c.if-from-len.false in
    let enough : b.ctor.parameters ≤ length (args ty) = omega arith in
    let grown = Extends-trans _ _ _ c.make.ensures.keeps c.apply.ensures.keeps in
    let front : tree_at f c.in_ok-front.front ≡ const b.name ks =
    c.in_ok-front.ensures.ok.is ∙ ap (λ x. const x ks) only.stands.name_is in
    let values : map (tree_at f) (take c.args.constructor.parameters c.deref.result.now)
    ≡ take b.ctor.parameters (args ty) =
    ap (λ ys. map (tree_at f) (take c.args.constructor.parameters ys)) c.deref.ensures.value
    ∙ front_steady c.make.ensures.keeps items c.in_ok-arguments.ensures.known
    c.args.constructor.parameters
    ∙ sym (take-map (tree_at d) c.args.constructor.parameters items)
    ∙ ap (take c.args.constructor.parameters) c.in_ok-arguments.ensures.are
    ∙ ap (λ n. take n (args ty)) parameters in
    record {
      keeps = grown;
      stays = search rules;
      known = search rules;
      steps = ap (λ r. asks (g.L.Looks.sight r).last (infer (tree_at h c.in_ok-candidate.candidate))
          (with_tree (iota_term_rest w None (Candidate (tree_at h c.args.e) (tree_at h c.args.ty)
          (tree_at h c.in_ok-candidate.candidate))))) (c.apply.ensures.rest ∙ c.make.ensures.rest)
          ∙ candidate_asked w sight.last e (tree_at h c.args.e) ty (tree_at h c.args.ty)
          (tree_at h c.in_ok-candidate.candidate) p b ks (grown.trees.same c.args.e c.requires.e_in)
          (grown.trees.same c.args.ty c.requires.ty_in)
          (c.in_ok-candidate.ensures.ok.is
          ∙ ap (λ t. apply t (map (tree_at f) (take c.args.constructor.parameters c.deref.result.now)))
          front ∙ ap (apply (const b.name ks)) values) at enough;
    }
