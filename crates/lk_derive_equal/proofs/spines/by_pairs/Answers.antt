use Rattle.std.proofs.Common.{ℕ, ◌≡◌, sym, ◌∙◌, subst}
use Rattle.std.specs.Prelude.{◌∷◌}
use Rattle.lk_rulebook.specs.Place.{Place}
use Rattle.lk_rulebook.specs.Claims.{equals}
use Rattle.lk_store.specs.Contents.{Contents, tree_at}
use Rattle.lk_tree.specs.Spine.{head, args}
use Rattle.lk_step.specs.Equal.{argument_claims}
use Rattle.lk_step.specs.Runs.{Runs}
use Rattle.lk_ask.specs.Lines.{lefts, rights}
use Rattle.lk_step.specs.Pairs.{pairs_at, same_asks}
use Rattle.lk_step.specs.Tests.{IsRun}
use Rattle.lk_step.proofs.Moving.{tree_stays}
use Rattle.lk_step.proofs.Bases.{basis_made}
use Rattle.lk_derive_equal.proofs.SpineLine.{spines_run, spines_no, spines_basis, pairs_program, pairs_stay, spine_asks, spine_premises}
use Rattle.lk_derive_equal.proofs.spines.by_pairs.Goals as goal

pub are_all_same-requires-clause-run : goal.are_all_same-requires-clause-run
are_all_same-requires-clause-run g c =
    let w : Place = (g.D.Looks.sight (g.D.Terms.rest c.args.derives.now)).basis.place in
    let d : Contents = g.D.Terms.contents c.args.derives.now in
    let a : ℕ = c.args.a in
    let b : ℕ = c.args.b in
    let h = c.requires.pairs_are in
    subst (λ q. IsRun w q c.args.enough) (sym (pairs_program d a b c.args.pairs.now h))
    (spines_run w (tree_at d a) (tree_at d b) c.requires.applied h.as_many c.args.enough c.requires.run)

pub returns-then-not-branch-clause-tells : goal.returns-then-not-branch-clause-tells
returns-then-not-branch-clause-tells g c =
    let w : Place = (g.D.Looks.sight (g.D.Terms.rest c.args.derives.now)).basis.place in
    let d : Contents = g.D.Terms.contents c.args.derives.now in
    let a : ℕ = c.args.a in
    let b : ℕ = c.args.b in
    let h = c.requires.pairs_are in
    λ says cost r. spines_no w (tree_at d a) (tree_at d b) c.requires.applied h.as_many
    (λ y m q. c.in_ok-are_all_same.ensures.told y m (subst (λ p. Runs w p y m) (sym (pairs_program d a b c.args.pairs.now h)) q) ∙ c.if-not-branch.true) says cost r

pub pairs_row-requires-clause-pairs_in : goal.pairs_row-requires-clause-pairs_in
pairs_row-requires-clause-pairs_in g c =
    let w : Place = (g.D.Looks.sight (g.D.Terms.rest c.args.derives.now)).basis.place in
    let d : Contents = g.D.Terms.contents c.args.derives.now in
    let a : ℕ = c.args.a in
    let b : ℕ = c.args.b in
    pairs_stay d (g.D.Terms.contents c.are_all_same.new.derives) c.in_ok-are_all_same.ensures.leaves.keeps c.args.pairs.now c.requires.pairs_are.pairs_in

pub returns-clause-tells : goal.returns-clause-tells
returns-clause-tells g c =
    let w : Place = (g.D.Looks.sight (g.D.Terms.rest c.args.derives.now)).basis.place in
    let d : Contents = g.D.Terms.contents c.args.derives.now in
    let a : ℕ = c.args.a in
    let b : ℕ = c.args.b in
    let h = c.requires.pairs_are in
    let n : Contents = g.D.Terms.contents c.are_all_same.new.derives in
    let x = c.in_ok-are_all_same.ensures.leaves in
    let ps = c.args.pairs.now in
    let a_same : tree_at n a ≡ tree_at d a = tree_stays x a c.requires.a_in in
    let b_same : tree_at n b ≡ tree_at d b = tree_stays x b c.requires.b_in in
    let asks_same : same_asks (lefts (pairs_at n ps)) (rights (pairs_at n ps)) ≡ same_asks (head (tree_at d a) ∷ args (tree_at d a)) (head (tree_at d b) ∷ args (tree_at d b)) = spine_asks d n x.keeps a b ps h in
    let claims_same : argument_claims (lefts (pairs_at n ps)) (rights (pairs_at n ps)) ≡ argument_claims (head (tree_at d a) ∷ args (tree_at d a)) (head (tree_at d b) ∷ args (tree_at d b)) = spine_premises d n x.keeps a b ps h in
    λ says cost r. basis_made w n (equals (tree_at d a) (tree_at d b)) cost _ _ c.in_ok-row.row c.in_ok-row.ensures.row
    (rw (asks_same, claims_same, a_same, b_same)
    (spines_basis w (tree_at d a) (tree_at d b) c.requires.applied h.as_many
    (λ y m q. c.in_ok-are_all_same.ensures.told y m (subst (λ p. Runs w p y m) (sym (pairs_program d a b ps h)) q) ∙ c.if-not-branch.false) c.requires.pair says cost r))
