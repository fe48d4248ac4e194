-- What questions and answers over numbers stand for.
use Rattle.std.specs.Prelude.{ℕ, ◌<◌}
use Rattle.lk_tree.specs.Tree.{Tree}
use Rattle.lk_questions.specs.Query as plain
use Rattle.lk_questions.specs.Erased.{Value, a_tree, truth}
use Rattle.lk_ask.specs.declared.query.Query.{Query}
use Rattle.lk_ask.specs.declared.query.Query.TheVariants.{Core, Whnf, Infer, Same}
use Rattle.lk_ask.specs.declared.query.Answer.{Answer}
use Rattle.lk_ask.specs.declared.query.Answer.TheVariants.{Term, Truth}

abbrev pub query_of : (ℕ → Tree) → Query ℕ → plain.Query
query_of t (Core e) = plain.core (t e)
query_of t (Whnf e) = plain.whnf (t e)
query_of t (Infer e) = plain.infer (t e)
query_of t (Same a b) = plain.same (t a) (t b)

abbrev pub value_at : (ℕ → Tree) → Answer ℕ → Value
value_at t (Term e) = a_tree (t e)
value_at t (Truth b) = truth b

-- its numbers are below n
abbrev pub IsKnownQuery : ℕ → Query ℕ → Type 0
IsKnownQuery n (Core e) = e < n
IsKnownQuery n (Whnf e) = e < n
IsKnownQuery n (Infer e) = e < n
IsKnownQuery n (Same a b) = (a < n) × (b < n)

abbrev pub IsKnownAnswer : ℕ → Answer ℕ → Type 0
IsKnownAnswer n (Term e) = e < n
IsKnownAnswer n (Truth b) = Unit {0}
