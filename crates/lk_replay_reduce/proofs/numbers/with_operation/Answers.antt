use Rattle.std.proofs.Common.{◌≡◌, true, sym, ap, subst, ◌∙◌, IfOk}
use Rattle.lk_questions.specs.Shapes.{nat_shape}
use Rattle.lk_questions.specs.Tests.{passes, found}
use Rattle.lk_store.specs.Contents.{tree_at}
use Rattle.lk_store.proofs.Extending.{Extends-trans}
use Rattle.lk_premises.specs.Claims.{claims_at}
use Rattle.lk_premises.proofs.Staying.{claims_same}
use Rattle.lk_replay_reduce.specs.Numbers.{operation_read, shaped_read}
use Rattle.lk_replay_reduce.specs.Operations.{operation_at}
use Rattle.lk_premises.proofs.Passing.{behind}
use Rattle.lk_replay_reduce.proofs.numbers.with_operation.Goals as goal

pub returns : goal.returns
returns g c =
    let start = g.L.Terms.contents c.args.looks.now in
    let mid = g.L.Terms.contents c.has_nat_shape.new.looks in
    let last = g.L.Terms.contents c.nat_zero.new.terms in
    let old = (g.L.Looks.sight (g.L.Terms.rest c.args.looks.now)).basis in
    let new = (g.L.Looks.sight (g.L.Terms.rest c.nat_zero.new.terms)).basis in
    let w = old.place in
    let shape = c.in_ok-has_nat_shape.ensures in
    let keeps = Extends-trans start mid last shape.keeps c.nat_zero.ensures.keeps in
    let ps = claims_at start c.args.claims.now in
    let js = c.args.left.now in
    let op = operation_at c.args.operation in
    let a = tree_at start c.args.a in
    let b = tree_at start c.args.b in
    let same : new ≡ old = ap (λ r. (g.L.Looks.sight r).basis) c.nat_zero.ensures.stays ∙ shape.stays in
    let claims = claims_same start last keeps c.args.claims.now c.requires.claims_in in
    let first = keeps.trees.same c.args.a c.requires.a_in in
    let second = keeps.trees.same c.args.b c.requires.b_in in
    let shaped : passes (found w nat_shape) ≡ true = sym shape.ok ∙ c.if-not-branch.false in
    let is : passes (operation_read new.place (claims_at last c.args.claims.now) js op (tree_at last c.args.a) (tree_at last c.args.b)) ≡ passes (shaped_read w ps js op a b) =
    ap (λ z. passes (operation_read z.place (claims_at last c.args.claims.now) js op (tree_at last c.args.a) (tree_at last c.args.b))) same
    ∙ ap (λ z. passes (operation_read w z js op (tree_at last c.args.a) (tree_at last c.args.b))) claims
    ∙ ap (λ z. passes (operation_read w ps js op z (tree_at last c.args.b))) first
    ∙ ap (λ z. passes (operation_read w ps js op a z)) second
    ∙ sym (behind (found w nat_shape) (operation_read w ps js op a b) shaped) in
    let done = c.is_computed.ensures in
    record {
      keeps = Extends-trans start last (g.L.Terms.contents c.is_computed.new.looks) keeps done.keeps;
      stays = ap (λ r. (g.L.Looks.sight r).basis) done.stays ∙ same;
      ok = subst (λ z. IfOk c.is_computed.result (λ r. r ≡ z)) is done.ok;
    }
