use Rattle.std.proofs.Common.{ℕ, sym, ◌∙◌}
use Rattle.lk_rulebook.specs.Place.{Place}
use Rattle.lk_rulebook.specs.Claims.{equals}
use Rattle.lk_store.specs.Contents.{Contents, tree_at}
use Rattle.std.proofs.lemmas.Result.{IfOk-weaker}
use Rattle.lk_questions.specs.Query.{same}
use Rattle.lk_questions.specs.Same.{by_shape}
use Rattle.lk_step.specs.Meaning.{IsRowOf}
use Rattle.lk_step.specs.Tells.{Rests}
use Rattle.lk_derive_equal.proofs.WholeRow.{one_row, shape_yes, shape_pair, shape_row}
use Rattle.lk_derive_equal.proofs.row.equality_row.Goals as goal

pub returns-then-same_tree-clause-row : goal.returns-then-same_tree-clause-row
returns-then-same_tree-clause-row g c =
    let w : Place = (g.D.Looks.sight (g.D.Terms.rest c.args.derives.now)).basis.place in
    let d : Contents = g.D.Terms.contents c.args.derives.now in
    let a : ℕ = c.args.a in
    let b : ℕ = c.args.b in
    one_row w (tree_at d a) (tree_at d b) c.args.enough c.requires.claimed d c.empty_row.result (sym c.same_tree.ensures ∙ c.if-same_tree.true) (c.empty_row.ensures.row d)

pub returns-then-same_tree-clause-known : goal.returns-then-same_tree-clause-known
returns-then-same_tree-clause-known g c = c.empty_row.ensures.known (g.D.Terms.contents c.args.derives.now)

pub by_shapes-requires-clause-pair : goal.by_shapes-requires-clause-pair
by_shapes-requires-clause-pair g c =
    let w : Place = (g.D.Looks.sight (g.D.Terms.rest c.args.derives.now)).basis.place in
    let d : Contents = g.D.Terms.contents c.args.derives.now in
    let a : ℕ = c.args.a in
    let b : ℕ = c.args.b in
    shape_pair w (tree_at d a) (tree_at d b) c.args.enough c.requires.claimed (sym c.same_tree.ensures ∙ c.if-same_tree.false) c.requires.stated

pub by_shapes-requires-clause-says : goal.by_shapes-requires-clause-says
by_shapes-requires-clause-says g c =
    let w : Place = (g.D.Looks.sight (g.D.Terms.rest c.args.derives.now)).basis.place in
    let d : Contents = g.D.Terms.contents c.args.derives.now in
    let a : ℕ = c.args.a in
    let b : ℕ = c.args.b in
    shape_yes w (tree_at d a) (tree_at d b) c.args.enough c.requires.claimed (sym c.same_tree.ensures ∙ c.if-same_tree.false)

pub returns-clause-row : goal.returns-clause-row
returns-clause-row g c =
    let w : Place = (g.D.Looks.sight (g.D.Terms.rest c.args.derives.now)).basis.place in
    let d : Contents = g.D.Terms.contents c.args.derives.now in
    let a : ℕ = c.args.a in
    let b : ℕ = c.args.b in
    let n : Contents = g.D.Terms.contents c.by_shapes.new.derives in
    IfOk-weaker c.by_shapes.result (Rests w n (by_shape (tree_at d a) (tree_at d b)) (equals (tree_at d a) (tree_at d b))) (IsRowOf w n (same (tree_at d a) (tree_at d b)))
    (λ r rests. shape_row w (tree_at d a) (tree_at d b) c.args.enough c.requires.claimed n r (sym c.same_tree.ensures ∙ c.if-same_tree.false) rests)
    c.by_shapes.ensures.rests
