use Rattle.std.proofs.Common.{◌≡◌, map, sym, ap, subst, ◌∙◌}
use Rattle.std.specs.Prelude.{IfOk}
use Rattle.lk_questions.specs.Tests.{passes}
use Rattle.lk_store.specs.Contents.{tree_at}
use Rattle.lk_store.proofs.Extending.{Extends-trans}
use Rattle.lk_laws.specs.Operations.{op_at}
use Rattle.lk_laws.specs.Sides.{law_at}
use Rattle.lk_premises.specs.Claims.{claims_at}
use Rattle.lk_premises.proofs.Staying.{claims_same}
use Rattle.lk_replay.proofs.LawForms.{stated_on}
use Rattle.lk_replay.proofs.laws.test_stated.Goals as goal

pub returns : goal.returns
returns g c =
    let start = g.L.Terms.contents c.args.looks.now in
    let between = g.L.Terms.contents c.has_stated.new.looks in
    let after = g.L.Terms.contents c.test_each.new.looks in
    let before = (g.L.Looks.sight (g.L.Terms.rest c.args.looks.now)).basis in
    let next = (g.L.Looks.sight (g.L.Terms.rest c.has_stated.new.looks)).basis in
    let one = c.in_ok-has_stated.ensures in
    let two = c.test_each.ensures in
    let stated = claims_same start between one.keeps c.args.claims.now c.requires.claims_in in
    let value = one.keeps.trees.same c.args.value c.requires.value_in in
    let laws = c.laws_of.result.now in
    let are = ap (λ t. map (law_at t) laws) value ∙ c.laws_of.ensures (tree_at start c.args.value) in
    let met = sym one.ok ∙ c.if-not-branch.false in
    let same = stated_on before.place (claims_at start c.args.claims.now) (claims_at between c.args.claims.now) c.args.left.now stated
    next.place (op_at c.args.op) (tree_at start c.args.value) (map (law_at (tree_at between c.args.value)) laws)
    (ap (λ b. b.place) one.stays) are met in
    record {
      keeps = Extends-trans start between after one.keeps two.keeps;
      stays = two.stays ∙ one.stays;
      ok = subst (λ z. IfOk c.test_each.result (λ b. b ≡ passes z)) same two.ok;
    }
