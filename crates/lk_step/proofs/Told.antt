-- What an answer by numbers says.
use Rattle.std.proofs.Common.{ℕ, ◌≡◌, Bool, Ok, subst}
use Rattle.lk_tree.specs.Tree.{Tree}
use Rattle.lk_rulebook.specs.Place.{Place}
use Rattle.lk_questions.specs.Query.{core, whnf, infer, same}
use Rattle.lk_store.specs.Contents.{Contents, tree_at}
use Rattle.lk_ask.specs.declared.query.Answer.TheVariants.{Term, Truth}
use Rattle.lk_step.specs.Rows.{IsAnswered}
use Rattle.lk_step.specs.Told.{IsTold, IsCore, IsForm, IsType, IsSame}

pub told_core : (w : Place) (c : Contents) (e : Tree) (v : ℕ) → IsTold w c (core e) (Ok (Term v)) → IsCore w e (tree_at c v)
told_core w c e v h = let i : h.0 ≡ tree_at c v = cc in record { cost = h.1; answered = subst (λ u. IsAnswered w (core e) u h.1) i h.2 }

pub told_form : (w : Place) (c : Contents) (e : Tree) (v : ℕ) → IsTold w c (whnf e) (Ok (Term v)) → IsForm w e (tree_at c v)
told_form w c e v h = let i : h.0 ≡ tree_at c v = cc in record { cost = h.1; answered = subst (λ u. IsAnswered w (whnf e) u h.1) i h.2 }

pub told_type : (w : Place) (c : Contents) (e : Tree) (v : ℕ) → IsTold w c (infer e) (Ok (Term v)) → IsType w e (tree_at c v)
told_type w c e v h = let i : h.0 ≡ tree_at c v = cc in record { cost = h.1; answered = subst (λ u. IsAnswered w (infer e) u h.1) i h.2 }

pub told_same : (w : Place) (c : Contents) (a b : Tree) (y : Bool) → IsTold w c (same a b) (Ok (Truth y)) → IsSame w a b y
told_same w c a b y h = let i : h.0 ≡ y = cc in record { cost = h.1; answered = subst (λ u. IsAnswered w (same a b) u h.1) i h.2 }
