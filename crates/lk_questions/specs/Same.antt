-- Same(a, b): each test is called after what it does, and the first that answers counts.
use Rattle.std.specs.Prelude.{Bool, true, false, max, ◌∷◌, length, nat_eq, ◌&&◌, if◌then◌else◌}
use Rattle.lk_tree.specs.Tree.{name_discrete, Tree, var, sort, const, app, lam, pi, proj, lit, str}
use Rattle.lk_tree.specs.Bind.{bound}
use Rattle.lk_tree.specs.Spine.{head, args}
use Rattle.lk_tree.specs.Level.{is_zero_level}
use Rattle.lk_questions.specs.Query.{whnf, infer, same}
use Rattle.lk_questions.specs.Program.{Program, done, asked, ◌>>=◌}
use Rattle.lk_questions.specs.Steps.{is_same_tree, decided, sort_of}
use Rattle.lk_questions.specs.Levels.{complete_test, levels_equal}
use Rattle.lk_questions.specs.Pairs.{same_bodies, by_core, same_all, Line, answers_yes, ◌or_else◌, goes_on}
use Rattle.lk_questions.specs.LiteralLines.{by_literals, by_string}
use Rattle.lk_questions.specs.Eta.{by_structure_eta, by_unit_eta}
use Rattle.lk_questions.specs.Unfolding.{by_unfolding}

-- two proofs of equal propositions
abbrev pub by_proof_irrelevance : Tree → Tree → Line
by_proof_irrelevance a b = do
  A ← asked (infer a)
  l ← sort_of A
  if is_zero_level l then (do
    B ← asked (infer b)
    answers_yes (asked (same A B)))
      else goes_on

-- constants, applications and projections, part by part
abbrev pub by_parts : Tree → Tree → Line
by_parts (const c ls) (const d ms) = if decided (name_discrete c d) then answers_yes (levels_equal complete_test ls ms) else goes_on
by_parts (app f a) (app g b) =
    if nat_eq (length (args (app f a))) (length (args (app g b)))
    then answers_yes (same_all (head f ∷ args (app f a)) (head g ∷ args (app g b)))
    else goes_on
by_parts (proj S i s) (proj T j t) = if decided (name_discrete S T) && nat_eq i j then answers_yes (asked (same s t)) else goes_on
by_parts _ _ = goes_on

-- o as a lambda over A
abbrev pub eta_long : Tree → Tree → Tree
eta_long A o = lam A (app o (var 0))

abbrev pub is_lam : Tree → Bool
is_lam (lam A b) = true
is_lam _ = false

-- o : T stands first, or second, beside the lambda e
abbrev pub eta_first : Tree → Tree → Tree → Line
eta_first o e (pi A B) = answers_yes (asked (same (eta_long A o) e))
eta_first o e _ = goes_on

abbrev pub eta_second : Tree → Tree → Tree → Line
eta_second o e (pi A B) = answers_yes (asked (same e (eta_long A o)))
eta_second o e _ = goes_on

-- exactly one of the two is a lambda
abbrev pub by_function_eta : Tree → Tree → Line
by_function_eta a b =
    if is_lam a
    then (if is_lam b then goes_on else (do
      T ← asked (infer b)
      P ← asked (whnf T)
      eta_second b a P))
    else (if is_lam b then (do
      T ← asked (infer a)
      P ← asked (whnf T)
      eta_first a b P) else goes_on)

-- trees whose heads take no step, in this order
abbrev pub same_reduced : Tree → Tree → Program Bool
same_reduced a b =
    by_proof_irrelevance a b or_else by_literals a b or_else by_unfolding a b or_else by_parts a b or_else by_function_eta a b or_else by_structure_eta a b or_else by_structure_eta b a or_else by_unit_eta a b or_else
    by_string a b or_else done false

-- by their Core, where that is new
abbrev pub by_reduction : Tree → Tree → Program Bool
by_reduction a b = by_core a b (same_reduced a b)

-- two Sorts, lambdas, Pis or literals, else by their Core
abbrev pub by_shape : Tree → Tree → Program Bool
by_shape (sort l) (sort m) = complete_test l m
by_shape (lam A b) (lam A' b') = same_bodies (max (bound (lam A b)) (bound (lam A' b'))) A b A' b'
by_shape (pi A b) (pi A' b') = same_bodies (max (bound (pi A b)) (bound (pi A' b'))) A b A' b'
by_shape (lit m) (lit n) = done (nat_eq m n)
by_shape (str s) (str t) = done (is_same_tree (str s) (str t))
by_shape a b = by_reduction a b

abbrev pub same_steps : Tree → Tree → Program Bool
same_steps a b = if is_same_tree a b then done true else by_shape a b
