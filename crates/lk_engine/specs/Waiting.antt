-- Questions that wait for one another, by their outcomes under every budget.
use Rattle.std.specs.Prelude.{◌≡◌, ◌<◌, ◌/◌, ◌&&◌, ◌||◌, ℕ, Bool, false, List, [], ◌∷◌, length, drop, nat_eq}
use Rattle.std.specs.List.{list_any}
use Rattle.lk_questions.specs.Erased.{Out, used_up}
use Rattle.lk_ask.specs.declared.query.Query.{Query}
use Rattle.lk_ask.specs.declared.query.Query.TheVariants.{Core, Whnf, Infer, Same}
use Rattle.lk_engine.specs.declared.answering.Frame.{Frame}

-- f waits for g: a budget is used up for f where each smaller one is used up for g
abbrev pub WaitsFor : (ℕ → Out) → (ℕ → Out) → Type 0
WaitsFor f g = (b : ℕ) → ((less : ℕ) → less < b → g less ≡ used_up) → f b ≡ used_up

-- whether one question is the other
abbrev pub is_same : Query ℕ → Query ℕ → Bool
is_same (Core a) (Core b) = nat_eq a b
is_same (Whnf a) (Whnf b) = nat_eq a b
is_same (Infer a) (Infer b) = nat_eq a b
is_same (Same a x) (Same b y) = nat_eq a b && nat_eq x y
is_same _ _ = false

-- whether a question is among those that wait
abbrev pub is_waiting : List Frame → Query ℕ → Bool
is_waiting stack asked = list_any (λ f. is_same f.asker asked) stack

-- whether the first of these is asked again above it
abbrev pub is_first_again : List Frame → Bool
is_first_again [] = false
is_first_again (f ∷ fs) = is_waiting fs f.asker

-- whether the question that is asked, or the one in the middle of those that wait, waits for itself
abbrev pub is_circle : List Frame → Query ℕ → Bool
is_circle stack asked = is_waiting stack asked || is_first_again (drop (length stack / 2) stack)
