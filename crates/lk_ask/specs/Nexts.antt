-- What a question does next, where what is kept of it goes on in this way.
use Rattle.std.specs.Prelude.{ℕ, Option}
use Rattle.lk_tree.specs.Tree.{Tree}
use Rattle.lk_questions.specs.Erased.{Value, Steps, asks, gives, refuses}
use Rattle.lk_ask.specs.declared.next.Next.{Next}
use Rattle.lk_ask.specs.declared.next.Next.TheVariants.{Ask, Done, No}
use Rattle.lk_ask.specs.Questions.{query_of, value_at, IsKnownQuery, IsKnownAnswer}

-- t is what numbers stand for, and last the last unit that was looked at
abbrev pub next_steps : {S : Type 0} → (S → Value → Steps) → (ℕ → Tree) → Option ℕ → Next ℕ S → Steps
next_steps rest t last (Ask q s) = asks last (query_of t q) (rest s)
next_steps rest t last (Done v) = gives last (value_at t v)
next_steps rest t last (No r) = refuses r

-- its numbers are below n
abbrev pub IsKnownNext : {S : Type 0} → (ℕ → S → Type 0) → ℕ → Next ℕ S → Type 0
IsKnownNext known n (Ask q s) = IsKnownQuery n q × known n s
IsKnownNext known n (Done v) = IsKnownAnswer n v
IsKnownNext known n (No r) = Unit {0}
