use Rattle.std.proofs.Common.{◌≡◌, length, sym, ap, subst, ◌∙◌}
use Rattle.std.specs.Prelude.{IfOk}
use Rattle.lk_questions.specs.Tests.{passes}
use Rattle.lk_store.specs.Contents.{tree_at}
use Rattle.lk_store.proofs.Extending.{Extends-trans}
use Rattle.lk_laws.specs.Operations.{op_at}
use Rattle.lk_premises.specs.Claims.{claims_at}
use Rattle.lk_premises.proofs.Staying.{claims_same}
use Rattle.lk_replay.proofs.LawForms.{operation_on}
use Rattle.lk_replay.proofs.laws.test_operation.Goals as goal

pub returns : goal.returns
returns g c =
    let start = g.L.Terms.contents c.args.looks.now in
    let between = g.L.Terms.contents c.has.new.looks in
    let after = g.L.Terms.contents c.test_counted.new.looks in
    let before = (g.L.Looks.sight (g.L.Terms.rest c.args.looks.now)).basis in
    let next = (g.L.Looks.sight (g.L.Terms.rest c.has.new.looks)).basis in
    let one = c.in_ok-has.ensures in
    let two = c.test_counted.ensures in
    let stated = claims_same start between one.keeps c.args.claims.now c.requires.claims_in in
    let value = one.keeps.trees.same c.args.value c.requires.value_in in
    let met = sym one.ok ∙ c.if-not-branch.false in
    let same = operation_on before.place (claims_at start c.args.claims.now) (claims_at between c.args.claims.now) c.args.left.now stated
    next.place (op_at c.args.op) (length c.args.levels.now) (tree_at between c.args.value) (tree_at start c.args.value)
    (ap (λ b. b.place) one.stays) value met in
    record {
      keeps = Extends-trans start between after one.keeps two.keeps;
      stays = two.stays ∙ one.stays;
      ok = subst (λ z. IfOk c.test_counted.result (λ b. b ≡ passes z)) same two.ok;
    }
