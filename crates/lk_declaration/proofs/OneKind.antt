-- No question that answers a term is answered by yes or no, and none that answers yes or no by a term.
use Rattle.std.proofs.Common.{◌≡◌, ℕ, Bool, Option}
use Rattle.lk_tree.specs.Tree.{Tree}
use Rattle.lk_rulebook.specs.Place.{Place}
use Rattle.lk_questions.specs.Query.{Query, core, whnf, infer, same}
use Rattle.lk_questions.specs.Program.{Table}
use Rattle.lk_questions.specs.Answer.{Outcome, answered, refused, spent, plain_answer}
use Rattle.lk_questions.specs.Erased.{a_tree, truth, finished, left_of, out_of}
use Rattle.lk_declaration.specs.Asked.{AnswersTerm, AnswersTruth}

term_given : (o : Outcome Tree) (b left : ℕ) (last : Option ℕ) (r : Bool) → left_of a_tree b o ≡ finished (truth r) left last → ⊥
term_given (answered v c t) b left last r h = absurd (cc)
term_given (refused x) b left last r h = absurd (cc)
term_given spent b left last r h = absurd (cc)

truth_given : (o : Outcome Bool) (b left : ℕ) (last : Option ℕ) (e : Tree) → left_of truth b o ≡ finished (a_tree e) left last → ⊥
truth_given (answered v c t) b left last e h = absurd (cc)
truth_given (refused r) b left last e h = absurd (cc)
truth_given spent b left last e h = absurd (cc)

pub no_truth : (table : Table) (w : Place) (q : Query) → AnswersTerm q → (b left : ℕ) (last : Option ℕ) (r : Bool) → out_of table w q b ≡ finished (truth r) left last → ⊥
unfolding out_of
no_truth table w (core e) k b left last r h = term_given (plain_answer table w (core e) b) b left last r h
no_truth table w (whnf e) k b left last r h = term_given (plain_answer table w (whnf e) b) b left last r h
no_truth table w (infer e) k b left last r h = term_given (plain_answer table w (infer e) b) b left last r h
no_truth table w (same x y) k b left last r h = absurd k

pub no_term : (table : Table) (w : Place) (q : Query) → AnswersTruth q → (b left : ℕ) (last : Option ℕ) (e : Tree) → out_of table w q b ≡ finished (a_tree e) left last → ⊥
unfolding out_of
no_term table w (same x y) k b left last e h = truth_given (plain_answer table w (same x y) b) b left last e h
no_term table w (core x) k b left last e h = absurd k
no_term table w (whnf x) k b left last e h = absurd k
no_term table w (infer x) k b left last e h = absurd k
