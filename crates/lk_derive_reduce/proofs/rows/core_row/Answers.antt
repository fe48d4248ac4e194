use Rattle.std.proofs.Common.{subst}
use Rattle.lk_tree.specs.Tree.{Tree}
use Rattle.lk_rulebook.specs.Place.{Place}
use Rattle.lk_questions.specs.Query.{core}
use Rattle.lk_store.specs.Contents.{Contents, tree_at}
use Rattle.lk_step.specs.Parts.{IsWhole}
use Rattle.lk_derive_reduce.specs.MajorHeads.{IsFilled}
use Rattle.lk_derive_reduce.proofs.rows.core_row.Goals as goal

pub returns-then-whole-clause-known : goal.returns-then-whole-clause-known
returns-then-whole-clause-known g c =
    let d : Contents = g.D.Terms.contents c.fill_core.new.derives in
    let w : Place = (g.D.Looks.sight (g.D.Terms.rest c.args.derives.now)).basis.place in
    let e : Tree = tree_at (g.D.Terms.contents c.args.derives.now) c.args.e in
    let h : IsWhole w d (core e) c.fill_core.new.row = subst (IsFilled w d e c.fill_core.new.row) c.if-whole.true c.in_ok-whole.ensures.filled in
    h.known

pub returns-then-whole-clause-row : goal.returns-then-whole-clause-row
returns-then-whole-clause-row g c =
    let d : Contents = g.D.Terms.contents c.fill_core.new.derives in
    let w : Place = (g.D.Looks.sight (g.D.Terms.rest c.args.derives.now)).basis.place in
    let e : Tree = tree_at (g.D.Terms.contents c.args.derives.now) c.args.e in
    let h : IsWhole w d (core e) c.fill_core.new.row = subst (IsFilled w d e c.fill_core.new.row) c.if-whole.true c.in_ok-whole.ensures.filled in
    h.row

pub returns-clause-none : goal.returns-clause-none
returns-clause-none g c =
    let d : Contents = g.D.Terms.contents c.fill_core.new.derives in
    let w : Place = (g.D.Looks.sight (g.D.Terms.rest c.args.derives.now)).basis.place in
    let e : Tree = tree_at (g.D.Terms.contents c.args.derives.now) c.args.e in
    λ none. subst (IsFilled w d e c.fill_core.new.row) c.if-whole.false c.in_ok-whole.ensures.filled
