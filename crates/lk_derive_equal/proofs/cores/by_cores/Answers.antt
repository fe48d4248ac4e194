use Rattle.std.proofs.Common.{ℕ, ◌≡◌, ◌<◌, length, sym, ◌∙◌, subst}
use Rattle.std.specs.Prelude.{IfOk}
use Rattle.lk_rulebook.specs.Place.{Place}
use Rattle.lk_rulebook.specs.Claims.{equals}
use Rattle.lk_store.specs.Contents.{Contents, tree_at}
use Rattle.lk_questions.specs.Query.{core}
use Rattle.lk_questions.specs.Same.{by_reduction, same_reduced}
use Rattle.lk_step.specs.Told.{IsAnsweredWithin, IsCore}
use Rattle.lk_step.specs.Tests.{IsYes, ArePair}
use Rattle.lk_step.specs.Tells.{Rests}
use Rattle.std.proofs.lemmas.Result.{IfOk-weaker}
use Rattle.lk_step.proofs.Moving.{moved1, moved2, back2, leaves_on, tree_stays, tree_in}
use Rattle.lk_step.proofs.Bases.{basis_made}
use Rattle.lk_derive_equal.proofs.CoreRows.{cores_first, cores_second, tests_yes, tests_pair, tests_rest, moved_basis}
use Rattle.lk_derive_equal.proofs.cores.by_cores.Goals as goal

pub core_of-requires-clause-answered : goal.core_of-requires-clause-answered
core_of-requires-clause-answered g c =
    let w : Place = (g.D.Looks.sight (g.D.Terms.rest c.args.derives.now)).basis.place in
    let d : Contents = g.D.Terms.contents c.args.derives.now in
    let a : ℕ = c.args.a in
    let b : ℕ = c.args.b in
    cores_first w (tree_at d a) (tree_at d b) c.args.enough c.requires.says

pub core_of-requires-2-clause-answered : goal.core_of-requires-2-clause-answered
core_of-requires-2-clause-answered g c =
    let w : Place = (g.D.Looks.sight (g.D.Terms.rest c.args.derives.now)).basis.place in
    let d : Contents = g.D.Terms.contents c.args.derives.now in
    let a : ℕ = c.args.a in
    let b : ℕ = c.args.b in
    moved1 c.in_ok-left.ensures.leaves (λ w e. IsAnsweredWithin w (core e) c.args.enough) b c.requires.b_in
    (cores_second w (tree_at d a) (tree_at d b) (tree_at (g.D.Terms.contents c.core_of.new.derives) c.in_ok-left.left) c.args.enough c.requires.says c.in_ok-left.ensures.told)

pub by_tests-requires-clause-pair : goal.by_tests-requires-clause-pair
by_tests-requires-clause-pair g c =
    let w : Place = (g.D.Looks.sight (g.D.Terms.rest c.args.derives.now)).basis.place in
    let d : Contents = g.D.Terms.contents c.args.derives.now in
    let a : ℕ = c.args.a in
    let b : ℕ = c.args.b in
    let l1 = c.in_ok-left.ensures.leaves in
    let l2 = c.in_ok-right.ensures.leaves in
    let all = leaves_on l1 l2 in
    let w2 : Place = (g.D.Looks.sight (g.D.Terms.rest c.core_of-2.new.derives)).basis.place in
    let m : Contents = g.D.Terms.contents c.core_of.new.derives in
    let n : Contents = g.D.Terms.contents c.core_of-2.new.derives in
    let left : ℕ = c.in_ok-left.left in
    let right : ℕ = c.in_ok-right.right in
    let b_in : b < length m.trees = tree_in l1 b c.requires.b_in in
    let left_same : tree_at n left ≡ tree_at m left = tree_stays l2 left c.in_ok-left.ensures.known in
    let ka : IsCore w2 (tree_at n a) (tree_at n left) = moved1 all (λ w e. IsCore w e (tree_at n left)) a c.requires.a_in (subst (λ x. IsCore w (tree_at d a) x) (sym left_same) c.in_ok-left.ensures.told) in
    let kb : IsCore w2 (tree_at n b) (tree_at n right) = moved1 l2 (λ w e. IsCore w e (tree_at n right)) b b_in c.in_ok-right.ensures.told in
    let pair : ArePair w2 (tree_at n a) (tree_at n b) = moved2 all (λ w e f. ArePair w e f) a b c.requires.a_in c.requires.b_in c.requires.pair in
    tests_pair w2 (tree_at n a) (tree_at n b) (tree_at n left) (tree_at n right) ka kb (sym c.both_stay.ensures ∙ c.if-both_stay.true) pair

pub by_tests-requires-clause-says : goal.by_tests-requires-clause-says
by_tests-requires-clause-says g c =
    let w : Place = (g.D.Looks.sight (g.D.Terms.rest c.args.derives.now)).basis.place in
    let d : Contents = g.D.Terms.contents c.args.derives.now in
    let a : ℕ = c.args.a in
    let b : ℕ = c.args.b in
    let l1 = c.in_ok-left.ensures.leaves in
    let l2 = c.in_ok-right.ensures.leaves in
    let all = leaves_on l1 l2 in
    let w2 : Place = (g.D.Looks.sight (g.D.Terms.rest c.core_of-2.new.derives)).basis.place in
    let m : Contents = g.D.Terms.contents c.core_of.new.derives in
    let n : Contents = g.D.Terms.contents c.core_of-2.new.derives in
    let left : ℕ = c.in_ok-left.left in
    let right : ℕ = c.in_ok-right.right in
    let b_in : b < length m.trees = tree_in l1 b c.requires.b_in in
    let left_same : tree_at n left ≡ tree_at m left = tree_stays l2 left c.in_ok-left.ensures.known in
    let ka : IsCore w2 (tree_at n a) (tree_at n left) = moved1 all (λ w e. IsCore w e (tree_at n left)) a c.requires.a_in (subst (λ x. IsCore w (tree_at d a) x) (sym left_same) c.in_ok-left.ensures.told) in
    let kb : IsCore w2 (tree_at n b) (tree_at n right) = moved1 l2 (λ w e. IsCore w e (tree_at n right)) b b_in c.in_ok-right.ensures.told in
    let pair : ArePair w2 (tree_at n a) (tree_at n b) = moved2 all (λ w e f. ArePair w e f) a b c.requires.a_in c.requires.b_in c.requires.pair in
    let says : IsYes w2 (by_reduction (tree_at n a) (tree_at n b)) c.args.enough = moved2 all (λ w e f. IsYes w (by_reduction e f) c.args.enough) a b c.requires.a_in c.requires.b_in c.requires.says in
    tests_yes w2 (tree_at n a) (tree_at n b) (tree_at n left) (tree_at n right) ka kb (sym c.both_stay.ensures ∙ c.if-both_stay.true) c.args.enough says

pub returns-then-both_stay-clause-rests : goal.returns-then-both_stay-clause-rests
returns-then-both_stay-clause-rests g c =
    let w : Place = (g.D.Looks.sight (g.D.Terms.rest c.args.derives.now)).basis.place in
    let d : Contents = g.D.Terms.contents c.args.derives.now in
    let a : ℕ = c.args.a in
    let b : ℕ = c.args.b in
    let l1 = c.in_ok-left.ensures.leaves in
    let l2 = c.in_ok-right.ensures.leaves in
    let all = leaves_on l1 l2 in
    let w2 : Place = (g.D.Looks.sight (g.D.Terms.rest c.core_of-2.new.derives)).basis.place in
    let m : Contents = g.D.Terms.contents c.core_of.new.derives in
    let n : Contents = g.D.Terms.contents c.core_of-2.new.derives in
    let left : ℕ = c.in_ok-left.left in
    let right : ℕ = c.in_ok-right.right in
    let b_in : b < length m.trees = tree_in l1 b c.requires.b_in in
    let left_same : tree_at n left ≡ tree_at m left = tree_stays l2 left c.in_ok-left.ensures.known in
    let ka : IsCore w2 (tree_at n a) (tree_at n left) = moved1 all (λ w e. IsCore w e (tree_at n left)) a c.requires.a_in (subst (λ x. IsCore w (tree_at d a) x) (sym left_same) c.in_ok-left.ensures.told) in
    let kb : IsCore w2 (tree_at n b) (tree_at n right) = moved1 l2 (λ w e. IsCore w e (tree_at n right)) b b_in c.in_ok-right.ensures.told in
    let pair : ArePair w2 (tree_at n a) (tree_at n b) = moved2 all (λ w e f. ArePair w e f) a b c.requires.a_in c.requires.b_in c.requires.pair in
    let o : Contents = g.D.Terms.contents c.by_tests.new.derives in
    back2 all (λ w e f. IfOk c.by_tests.result (Rests w o (by_reduction e f) (equals e f))) a b c.requires.a_in c.requires.b_in
    (IfOk-weaker c.by_tests.result (Rests w2 o (same_reduced (tree_at n a) (tree_at n b)) (equals (tree_at n a) (tree_at n b))) (Rests w2 o (by_reduction (tree_at n a) (tree_at n b)) (equals (tree_at n a) (tree_at n b)))
    (λ r rests. tests_rest w2 (tree_at n a) (tree_at n b) (tree_at n left) (tree_at n right) ka kb (sym c.both_stay.ensures ∙ c.if-both_stay.true) o r rests)
    c.by_tests.ensures.rests)

pub returns-clause-rests : goal.returns-clause-rests
returns-clause-rests g c =
    let w : Place = (g.D.Looks.sight (g.D.Terms.rest c.args.derives.now)).basis.place in
    let d : Contents = g.D.Terms.contents c.args.derives.now in
    let a : ℕ = c.args.a in
    let b : ℕ = c.args.b in
    let l1 = c.in_ok-left.ensures.leaves in
    let l2 = c.in_ok-right.ensures.leaves in
    let all = leaves_on l1 l2 in
    let w2 : Place = (g.D.Looks.sight (g.D.Terms.rest c.core_of-2.new.derives)).basis.place in
    let m : Contents = g.D.Terms.contents c.core_of.new.derives in
    let n : Contents = g.D.Terms.contents c.core_of-2.new.derives in
    let left : ℕ = c.in_ok-left.left in
    let right : ℕ = c.in_ok-right.right in
    let b_in : b < length m.trees = tree_in l1 b c.requires.b_in in
    let left_same : tree_at n left ≡ tree_at m left = tree_stays l2 left c.in_ok-left.ensures.known in
    let ka : IsCore w2 (tree_at n a) (tree_at n left) = moved1 all (λ w e. IsCore w e (tree_at n left)) a c.requires.a_in (subst (λ x. IsCore w (tree_at d a) x) (sym left_same) c.in_ok-left.ensures.told) in
    let kb : IsCore w2 (tree_at n b) (tree_at n right) = moved1 l2 (λ w e. IsCore w e (tree_at n right)) b b_in c.in_ok-right.ensures.told in
    let pair : ArePair w2 (tree_at n a) (tree_at n b) = moved2 all (λ w e f. ArePair w e f) a b c.requires.a_in c.requires.b_in c.requires.pair in
    back2 all (λ w e f. IfOk c.reduced_row.result (Rests w n (by_reduction e f) (equals e f))) a b c.requires.a_in c.requires.b_in
    (IfOk-weaker c.reduced_row.result _ (Rests w2 n (by_reduction (tree_at n a) (tree_at n b)) (equals (tree_at n a) (tree_at n b)))
    (λ r made cost h. basis_made w2 n (equals (tree_at n a) (tree_at n b)) cost _ _ r made (moved_basis w2 (tree_at n a) (tree_at n b) (tree_at n left) (tree_at n right) ka kb (sym c.both_stay.ensures ∙ c.if-both_stay.false) pair cost h))
    c.reduced_row.ensures.row)
