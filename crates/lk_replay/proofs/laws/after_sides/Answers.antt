use Rattle.std.proofs.Common.{sym, ap, ◌∙◌}
use Rattle.lk_written.specs.Premises.{equal}
use Rattle.lk_store.specs.Contents.{tree_at}
use Rattle.lk_store.proofs.Extending.{Extends-trans}
use Rattle.lk_laws.specs.Sides.{side_tree}
use Rattle.lk_premises.specs.Claims.{claims_at}
use Rattle.lk_premises.proofs.Staying.{claims_same}
use Rattle.lk_replay.proofs.laws.after_sides.Goals as goal

pub returns-clause-read : goal.returns-clause-read
returns-clause-read g c =
    let start = g.L.Terms.contents c.args.looks.now in
    let between = g.L.Terms.contents c.make_side.new.terms in
    let after = g.L.Terms.contents c.make_side-2.new.terms in
    let one = c.in_ok-first.ensures in
    let two = c.in_ok-second.ensures in
    let grown = Extends-trans start between after one.keeps two.keeps in
    let stated = claims_same start after grown c.args.claims.now c.requires.claims_in in
    let first = two.keeps.trees.same c.in_ok-first.first one.ok.known ∙ one.ok.is in
    let value = one.keeps.trees.same c.args.value c.requires.value_in in
    let second = two.ok.is ∙ ap (λ t. side_tree t c.args.law.right) value in
    let js = c.args.left.now in
    let a = side_tree (tree_at start c.args.value) c.args.law.left in
    sym (ap (λ z. equal z js (tree_at after c.in_ok-first.first) (tree_at after c.in_ok-second.second)) stated
    ∙ ap (λ t. equal (claims_at start c.args.claims.now) js t (tree_at after c.in_ok-second.second)) first
    ∙ ap (equal (claims_at start c.args.claims.now) js a) second)
    ∙ c.equal.ensures
