use Rattle.std.proofs.Common.{◌≡◌, sym, ◌∙◌, subst}
use Rattle.lk_tree.specs.Tree.{Tree}
use Rattle.lk_rulebook.specs.Place.{Place}
use Rattle.lk_store.specs.Contents.{Contents, tree_at}
use Rattle.lk_ask.specs.Lines.{lefts, rights}
use Rattle.lk_ask.proofs.Sheets.{pairs_known}
use Rattle.lk_step.specs.Equal.{argument_claims, field_claims}
use Rattle.lk_step.specs.Pairs.{pairs_at, same_asks}
use Rattle.lk_step.specs.Runs.{Runs}
use Rattle.lk_step.specs.Tests.{IsRun}
use Rattle.lk_step.proofs.Moving.{tree_stays, tree_in}
use Rattle.lk_step.proofs.Bases.{basis_made}
use Rattle.lk_derive_eta.specs.Structures.{claim_by}
use Rattle.lk_derive_eta.proofs.StructureLine.{fields_of, field_asks, fields_run, fields_differ, struct_basis}
use Rattle.lk_derive_eta.proofs.FieldPairs.{pair_program, pair_asks, pair_claims, pairs_stay}
use Rattle.lk_derive_eta.proofs.structures.compare_fields.Goals as goal

pub are_all_same-requires-clause-pairs_in : goal.are_all_same-requires-clause-pairs_in
are_all_same-requires-clause-pairs_in g c = c.requires.fields.pairs.pairs_in

pub are_all_same-requires-clause-run : goal.are_all_same-requires-clause-run
are_all_same-requires-clause-run g c =
    let w : Place = (g.D.Looks.sight (g.D.Terms.rest c.args.derives.now)).basis.place in
    let d : Contents = g.D.Terms.contents c.args.derives.now in
    let a : Tree = tree_at d c.args.a in
    let b : Tree = tree_at d c.args.b in
    let h = c.requires.fields in
    let u = c.requires.typed in
    let t = c.args.typed in
    subst (λ q. IsRun w q c.args.enough) (sym (pair_program d h.ctor.ind.name a (fields_of h.ctor b) c.args.pairs.now h.pairs))
    (fields_run w a b h.ctor h.full (tree_at d t.left) u.left (tree_at d t.right) u.right u.same c.args.enough c.requires.run)

pub returns-then-not-branch-clause-tells : goal.returns-then-not-branch-clause-tells
returns-then-not-branch-clause-tells g c =
    let w : Place = (g.D.Looks.sight (g.D.Terms.rest c.args.derives.now)).basis.place in
    let d : Contents = g.D.Terms.contents c.args.derives.now in
    let a : Tree = tree_at d c.args.a in
    let b : Tree = tree_at d c.args.b in
    let h = c.requires.fields in
    let u = c.requires.typed in
    let t = c.args.typed in
    λ says cost r. fields_differ w a b h.ctor h.full (tree_at d t.left) u.left (tree_at d t.right) u.right u.same
    (λ y m q. c.in_ok-are_all_same.ensures.told y m (subst (λ p. Runs w p y m) (sym (pair_program d h.ctor.ind.name a (fields_of h.ctor b) c.args.pairs.now h.pairs)) q) ∙ c.if-not-branch.true) says cost r

pub structure_row-requires-clause-left_in : goal.structure_row-requires-clause-left_in
structure_row-requires-clause-left_in g c = tree_in c.in_ok-are_all_same.ensures.leaves c.args.typed.left c.requires.typed.left_in

pub structure_row-requires-clause-right_in : goal.structure_row-requires-clause-right_in
structure_row-requires-clause-right_in g c = tree_in c.in_ok-are_all_same.ensures.leaves c.args.typed.right c.requires.typed.right_in

pub structure_row-requires-clause-pairs_in : goal.structure_row-requires-clause-pairs_in
structure_row-requires-clause-pairs_in g c = pairs_known c.in_ok-are_all_same.ensures.leaves.keeps c.args.pairs.now c.requires.fields.pairs.pairs_in

pub returns-clause-tells : goal.returns-clause-tells
returns-clause-tells g c =
    let w : Place = (g.D.Looks.sight (g.D.Terms.rest c.args.derives.now)).basis.place in
    let d : Contents = g.D.Terms.contents c.args.derives.now in
    let n : Contents = g.D.Terms.contents c.are_all_same.new.derives in
    let a : Tree = tree_at d c.args.a in
    let b : Tree = tree_at d c.args.b in
    let h = c.requires.fields in
    let u = c.requires.typed in
    let t = c.args.typed in
    let l = c.in_ok-are_all_same.ensures.leaves in
    let ps = c.args.pairs.now in
    let later = pairs_stay d h.ctor.ind.name a (fields_of h.ctor b) ps h.pairs n l.keeps in
    let a_same : tree_at n c.args.a ≡ a = tree_stays l c.args.a c.requires.a_in in
    let b_same : tree_at n c.args.b ≡ b = tree_stays l c.args.b c.requires.b_in in
    let left_same : tree_at n t.left ≡ tree_at d t.left = tree_stays l t.left u.left_in in
    let right_same : tree_at n t.right ≡ tree_at d t.right = tree_stays l t.right u.right_in in
    let asks_same : same_asks (lefts (pairs_at n ps)) (rights (pairs_at n ps)) ≡ field_asks h.ctor.ind.name a 0 (fields_of h.ctor b) = pair_asks n h.ctor.ind.name a (fields_of h.ctor b) ps later in
    let claims_same : argument_claims (lefts (pairs_at n ps)) (rights (pairs_at n ps)) ≡ field_claims h.ctor.ind.name a 0 (fields_of h.ctor b) = pair_claims n h.ctor.ind.name a (fields_of h.ctor b) ps later in
    λ says cost r. basis_made w n (claim_by c.args.way a b) cost _ _ c.in_ok-row.row c.in_ok-row.ensures.row
    (rw (asks_same, claims_same, a_same, b_same, left_same, right_same)
    (struct_basis w a b h.ctor h.full (tree_at d t.left) u.left (tree_at d t.right) u.right u.same c.args.way c.requires.pair
    (λ y m q. c.in_ok-are_all_same.ensures.told y m (subst (λ p. Runs w p y m) (sym (pair_program d h.ctor.ind.name a (fields_of h.ctor b) ps h.pairs)) q) ∙ c.if-not-branch.false) says cost r))
