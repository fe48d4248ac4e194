use Rattle.std.proofs.Common.{◌≡◌, option_map, sym, ap, subst, ◌∙◌}
use Rattle.std.specs.Prelude.{IfOk}
use Rattle.lk_store.specs.Contents.{tree_at}
use Rattle.lk_laws.specs.Sides.{law_at, side_tree}
use Rattle.lk_premises.specs.Claims.{claims_at}
use Rattle.lk_premises.proofs.Staying.{claims_same}
use Rattle.lk_replay.proofs.LawForms.{read_on}
use Rattle.lk_replay.proofs.laws.after_law.Goals as goal

pub returns-clause-read : goal.returns-clause-read
returns-clause-read g c =
    let start = g.L.Terms.contents c.args.looks.now in
    let between = g.L.Terms.contents c.has_held.new.looks in
    let w = (g.L.Looks.sight (g.L.Terms.rest c.args.looks.now)).basis.place in
    let keeps = c.in_ok-has_held.ensures.keeps in
    let stated = claims_same start between keeps c.args.claims.now c.requires.claims_in in
    let value = keeps.trees.same c.args.value c.requires.value_in in
    let left = ap (λ t. side_tree t c.args.law.left) value in
    let right = ap (λ t. side_tree t c.args.law.right) value in
    let met = sym c.in_ok-has_held.ensures.ok ∙ c.if-not-branch.false in
    let same = read_on w (claims_at start c.args.claims.now) (claims_at between c.args.claims.now) c.args.left.now stated
    (law_at (tree_at start c.args.value) c.args.law) (side_tree (tree_at between c.args.value) c.args.law.left)
    (side_tree (tree_at between c.args.value) c.args.law.right) left right met in
    subst (λ z. IfOk c.after_sides.result (λ o. z ≡ option_map (λ r. r.now) o)) same c.after_sides.ensures.read
