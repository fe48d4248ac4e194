use Rattle.std.proofs.Common.{◌≡◌, sym, ap, ◌∙◌}
use Rattle.lk_tree.specs.Tree.{Name, Tree}
use Rattle.lk_rulebook.specs.Names.{quot_mk}
use Rattle.lk_questions.specs.Tests.{passes}
use Rattle.lk_store.specs.Contents.{name_at, tree_at}
use Rattle.lk_store.proofs.Extending.{Extends-trans}
use Rattle.lk_premises.specs.Claims.{claims_at}
use Rattle.lk_premises.proofs.Staying.{claims_same}
use Rattle.lk_replay_reduce.specs.Quotients.{quot_name, quot_read, redex_at}
use Rattle.lk_replay_reduce.proofs.quotients.on_quotient.Goals as goal

pub returns : goal.returns
returns g c =
    let start = g.L.Terms.contents c.args.looks.now in
    let mid = g.L.Terms.contents c.dotted.new.terms in
    let last = g.L.Terms.contents c.dotted-2.new.terms in
    let w = (g.L.Looks.sight (g.L.Terms.rest c.args.looks.now)).basis.place in
    let first = c.in_ok-expected.ensures in
    let second = c.in_ok-constructor.ensures in
    let keeps = Extends-trans start mid last first.keeps second.keeps in
    let ps = claims_at start c.args.claims.now in
    let js = c.args.left.now in
    let r = c.args.redex in
    let quot = quot_name c.args.word.now in
    let stays = second.stays ∙ first.stays in
    let claims = claims_same start last keeps c.args.claims.now c.requires.claims_in in
    let expected : name_at last c.in_ok-expected.expected ≡ quot = second.keeps.names.same c.in_ok-expected.expected first.ok.known ∙ first.ok.is in
    let constructor : name_at last c.in_ok-constructor.constructor ≡ quot_mk = second.ok.is in
    let name = keeps.names.same r.name c.requires.redex_in.name_in in
    let function = keeps.trees.same r.function c.requires.redex_in.function_in in
    let major = keeps.trees.same r.major c.requires.redex_in.major_in in
    let whole = keeps.trees.same c.args.b c.requires.b_in in
    let redex : redex_at last r ≡ redex_at start r =
    ap (λ (n : Name). (n, tree_at last r.function, tree_at last r.major)) name
    ∙ ap (λ (t : Tree). (name_at start r.name, t, tree_at last r.major)) function
    ∙ ap (λ (t : Tree). (name_at start r.name, tree_at start r.function, t)) major in
    record {
      keeps = keeps;
      stays = stays;
      ok = c.with_names.ensures
          ∙ ap (λ z. passes (quot_read (g.L.Looks.sight z).basis.place (claims_at last c.args.claims.now) js (name_at last c.in_ok-expected.expected) (name_at last c.in_ok-constructor.constructor) (redex_at last r) (tree_at last c.args.b))) stays
          ∙ ap (λ z. passes (quot_read w z js (name_at last c.in_ok-expected.expected) (name_at last c.in_ok-constructor.constructor) (redex_at last r) (tree_at last c.args.b))) claims
          ∙ ap (λ z. passes (quot_read w ps js z (name_at last c.in_ok-constructor.constructor) (redex_at last r) (tree_at last c.args.b))) expected
          ∙ ap (λ z. passes (quot_read w ps js quot z (redex_at last r) (tree_at last c.args.b))) constructor
          ∙ ap (λ z. passes (quot_read w ps js quot quot_mk z (tree_at last c.args.b))) redex
          ∙ ap (λ z. passes (quot_read w ps js quot quot_mk (redex_at start r) z)) whole;
    }
