-- Two applications, head by head and argument by argument.
use Rattle.std.proofs.Common.{ℕ, ◌≡◌, ◌+◌, ◌<◌, ◌≤◌, Bool, true, false, nat_eq, eqb-true, List, [], ◌∷◌, length, Option, None, refl, sym, ◌∙◌, ap, subst, if◌then◌else◌, arith}
use Rattle.std.proofs.lemmas.List.{length-append}
use Rattle.lk_tree.specs.Tree.{Tree, app, lam}
use Rattle.lk_tree.specs.Spine.{apply, head, args, IsNeutral, IsHeadNormal}
use Rattle.lk_tree.specs.WellFormed.{IsWellFormed, AllWellFormed}
use Rattle.lk_tree.proofs.Spines.{well_formed_of_apply}
use Rattle.lk_tree.proofs.Within.{apply_head_args}
use Rattle.lk_rulebook.specs.Place.{Place}
use Rattle.lk_rulebook.specs.Claims.{equals}
use Rattle.lk_questions.specs.Query.{same}
use Rattle.lk_questions.specs.Program.{done}
use Rattle.lk_questions.specs.Pairs.{same_all, yes_alone, answers_yes, goes_on}
use Rattle.lk_questions.specs.Same.{by_parts}
use Rattle.lk_same.specs.Spines.{by_spines}
use Rattle.lk_same.proofs.Spines.{parts_of_spines}
use Rattle.lk_lazy.proofs.Walks.{args-app}
use Rattle.std.specs.Prelude.{All}
use Rattle.std.proofs.lemmas.List.Elements.{All-head, All-tail, All-weaker}
use Rattle.lk_store.specs.Contents.{Contents, tree_at, Extends}
use Rattle.lk_ask.specs.declared.sheet.Pair.{Pair}
use Rattle.lk_ask.specs.Lines.{lefts, rights}
use Rattle.lk_ask.specs.Sheets.{IsKnownPair}
use Rattle.lk_written.specs.Line.{apps_rule}
use Rattle.lk_step.specs.Steps.{equality}
use Rattle.lk_step.specs.Equal.{argument_claims}
use Rattle.lk_step.specs.Rows.{IsAnswered, AreClaims, no_claim, a_claim}
use Rattle.lk_step.specs.Runs.{Runs, RunsOn}
use Rattle.lk_step.proofs.Runs.{runs_on}
use Rattle.lk_step.proofs.EqualitySteps.{equality_steps}
use Rattle.lk_step.specs.Pairs.{same_pairs, pairs_at, ArePairs, same_asks, IsApplication}
use Rattle.lk_step.specs.Tests.{IsRun, AreReduced}
use Rattle.lk_step.specs.Tells.{IsBasis}
use Rattle.lk_step.proofs.Following.{run_first}
use Rattle.lk_step.proofs.Bases.{one_step}

-- what was found the same is claimed
record AllClaimed (w : Place) (xs ys : List Tree) (n : ℕ) : Type 0 where
  spent : ℕ
  asked : AreClaims w (same_asks xs ys) (argument_claims xs ys) spent
  within : spent ≤ n

all_claimed : (w : Place) (xs ys : List Tree) (n : ℕ) → AllWellFormed xs → AllWellFormed ys → Runs w (same_all xs ys) true n → AllClaimed w xs ys n
all_claimed w [] [] n fx fy h = record { spent = 0; asked = no_claim; within = omega arith }
all_claimed w [] (y ∷ ys) n fx fy h = absurd (let e : false ≡ true = h.0 in cc)
all_claimed w (x ∷ xs) [] n fx fy h = absurd (let e : false ≡ true = h.0 in cc)
all_claimed w (x ∷ xs) (y ∷ ys) n fx fy h = go h.0 h.1 h.2 h.3 h.4 h.5 (all_claimed w xs ys h.2 fx.1 fy.1)
  where
    go : (u : Bool) (c m : ℕ) → IsAnswered w (same x y) u c → Runs w (if u then same_all xs ys else done false) true m → n ≡ c + m → (Runs w (same_all xs ys) true m → AllClaimed w xs ys m) → AllClaimed w (x ∷ xs) (y ∷ ys) n
    go true c m a r paid more =
        let k : AllClaimed w xs ys m = more r in
        let within : k.spent ≤ m = k.within in
        record { spent = c + k.spent; asked = a_claim (same x y) true c (fx.0, fy.0) a refl k.asked; within = omega (arith, paid, within) }
    go false c m a r paid more = absurd (let e : false ≡ true = r.0 in cc)

neutral_head : (a : Tree) → IsNeutral a → IsNeutral (head a)
unfolding head
neutral_head (app f x) h = neutral_head f h
neutral_head a h = h

-- what has arguments is no lambda
neutral_app : (a : Tree) → 0 < length (args a) → IsHeadNormal a → IsNeutral a
unfolding args
neutral_app (lam A b) some h = absurd (omega arith)
neutral_app a some h = h

module _ (w : Place) (a b : Tree) (k : IsApplication a) where
  spine_is : by_spines a b ≡ by_parts a b
  spine_is = parts_of_spines (λ l. by_spines a b ≡ l) k.0 k.1 a b k.2 refl

  some_args : 0 < length (args a)
  some_args =
      let more : length (args (app k.0 k.1)) ≡ length (args k.0) + 1 = ap length (args-app k.0 k.1) ∙ length-append (args k.0) (k.1 ∷ []) in
      subst (λ a. 0 < length (args a)) k.2 (omega (arith, more))

  pub spines_uneven : nat_eq (length (args a)) (length (args b)) ≡ false → (v : Option Bool) (n : ℕ) → Runs w (by_parts a b) v n → v ≡ None
  spines_uneven e v n h =
      let r : Runs w (by_spines a b) v n = subst (λ l. Runs w l v n) (sym spine_is) h in
      let o : Runs w goes_on v n = subst (λ z. Runs w (if z then answers_yes (same_all (head a ∷ args a) (head b ∷ args b)) else goes_on) v n) e r in
      sym o.0

  module _ (e : nat_eq (length (args a)) (length (args b)) ≡ true) where
    at_all : (v : Option Bool) (n : ℕ) → Runs w (by_parts a b) v n → Runs w (answers_yes (same_all (head a ∷ args a) (head b ∷ args b))) v n
    at_all v n h =
        let r : Runs w (by_spines a b) v n = subst (λ l. Runs w l v n) (sym spine_is) h in
        subst (λ z. Runs w (if z then answers_yes (same_all (head a ∷ args a) (head b ∷ args b)) else goes_on) v n) e r

    pub spines_run : (most : ℕ) → IsRun w (by_parts a b) most → IsRun w (same_all (head a ∷ args a) (head b ∷ args b)) most
    spines_run most r = run_first w (same_all (head a ∷ args a) (head b ∷ args b)) (λ y. done (yes_alone y)) most (record { value = r.value; cost = r.cost; runs = at_all r.value r.cost r.runs; within = r.within })

    on_all : (v : Option Bool) (n : ℕ) → Runs w (by_parts a b) v n → RunsOn w (same_all (head a ∷ args a) (head b ∷ args b)) (λ y. done (yes_alone y)) v n
    on_all v n h = runs_on w (same_all (head a ∷ args a) (head b ∷ args b)) (λ y. done (yes_alone y)) v n (at_all v n h)

    pub spines_no : ((y : Bool) (m : ℕ) → Runs w (same_all (head a ∷ args a) (head b ∷ args b)) y m → y ≡ false) → (v : Option Bool) (n : ℕ) → Runs w (by_parts a b) v n → v ≡ None
    spines_no no_all v n h =
        let on = on_all v n h in
        let value : on.value ≡ false = no_all on.value on.first on.runs in
        sym (subst (λ y. yes_alone y ≡ v) value on.then_runs.0)

    pub spines_basis : ((y : Bool) (m : ℕ) → Runs w (same_all (head a ∷ args a) (head b ∷ args b)) y m → y ≡ true) → AreReduced w a b → (v : Option Bool) (n : ℕ) → Runs w (by_parts a b) v n
        → IsBasis w (equals a b) n (same_asks (head a ∷ args a) (head b ∷ args b)) (equality apps_rule a b (argument_claims (head a ∷ args a) (head b ∷ args b)) ∷ [])
    spines_basis yes_all p v n h =
        let on = on_all v n h in
        let paid : n ≡ on.first + on.second = on.paid in
        let r : Runs w (same_all (head a ∷ args a) (head b ∷ args b)) true on.first = subst (λ y. Runs w (same_all (head a ∷ args a) (head b ∷ args b)) y on.first) (yes_all on.value on.first on.runs) on.runs in
        let ea : apply (head a) (args a) ≡ a = apply_head_args a in
        let eb : apply (head b) (args b) ≡ b = apply_head_args b in
        let wa : IsWellFormed (apply (head a) (args a)) = subst IsWellFormed (sym ea) p.left in
        let wb : IsWellFormed (apply (head b) (args b)) = subst IsWellFormed (sym eb) p.right in
        let fa = well_formed_of_apply (head a) (args a) wa in
        let fb = well_formed_of_apply (head b) (args b) wb in
        let claimed : AllClaimed w (head a ∷ args a) (head b ∷ args b) on.first = all_claimed w (head a ∷ args a) (head b ∷ args b) on.first (fa.0, fa.1) (fb.0, fb.1) r in
        let within : claimed.spent ≤ on.first = claimed.within in
        let count : length (args a) ≡ length (args b) = eqb-true (length (args a)) (length (args b)) e in
        let some_b : 0 < length (args b) = subst (λ n. 0 < n) count some_args in
        subst (λ x. IsBasis w (equals x b) n (same_asks (head a ∷ args a) (head b ∷ args b)) (equality apps_rule x b (argument_claims (head a ∷ args a) (head b ∷ args b)) ∷ [])) ea
        (subst (λ y. IsBasis w (equals (apply (head a) (args a)) y) n (same_asks (head a ∷ args a) (head b ∷ args b)) (equality apps_rule (apply (head a) (args a)) y (argument_claims (head a ∷ args a) (head b ∷ args b)) ∷ [])) eb
        (one_step w (equality apps_rule (apply (head a) (args a)) (apply (head b) (args b)) (argument_claims (head a ∷ args a) (head b ∷ args b))) (same_asks (head a ∷ args a) (head b ∷ args b)) (argument_claims (head a ∷ args a) (head b ∷ args b)) claimed.spent n claimed.asked (omega (arith, paid, within))
        ((equality_steps w).apps (head a) (head b) (args a) (args b) (neutral_head a (neutral_app a some_args p.left_normal)) (neutral_head b (neutral_app b some_b p.right_normal)) some_args count wa wb) refl))

pub pairs_program : (c : Contents) (a b : ℕ) (ps : List (Pair ℕ)) → ArePairs c a b ps → same_pairs (pairs_at c ps) ≡ same_all (head (tree_at c a) ∷ args (tree_at c a)) (head (tree_at c b) ∷ args (tree_at c b))
pairs_program c a b ps h = ap (λ xs. same_all xs (rights (pairs_at c ps))) h.lefts_are ∙ ap (λ ys. same_all (head (tree_at c a) ∷ args (tree_at c a)) ys) h.rights_are

abbrev pair_of : Tree → Tree → Pair Tree
pair_of x y = record { left = x; right = y }

pairs_same : (d n : Contents) → Extends d n → (ps : List (Pair ℕ)) → All (IsKnownPair (length d.trees)) ps → pairs_at n ps ≡ pairs_at d ps
pairs_same d n x [] h = refl
pairs_same d n x (p ∷ ps) h =
    let k : IsKnownPair (length d.trees) p = All-head (IsKnownPair (length d.trees)) p ps h in
    ap (λ l. pair_of l (tree_at n p.right) ∷ pairs_at n ps) (x.trees.same p.left k.left_in)
    ∙ (ap (λ r. pair_of (tree_at d p.left) r ∷ pairs_at n ps) (x.trees.same p.right k.right_in)
    ∙ ap (λ qs. pair_of (tree_at d p.left) (tree_at d p.right) ∷ qs) (pairs_same d n x ps (All-tail (IsKnownPair (length d.trees)) p ps h)))

pub pairs_stay : (d n : Contents) → Extends d n → (ps : List (Pair ℕ)) → All (IsKnownPair (length d.trees)) ps → All (IsKnownPair (length n.trees)) ps
pairs_stay d n x ps h =
    let longer : length d.trees ≤ length n.trees = x.trees.longer in
    All-weaker (IsKnownPair (length d.trees)) (IsKnownPair (length n.trees)) (λ p k. let l : p.left < length d.trees = k.left_in in let r : p.right < length d.trees = k.right_in in record { left_in = omega (arith, longer, l); right_in = omega (arith, longer, r) }) ps h

module _ (d n : Contents) (x : Extends d n) (a b : ℕ) (ps : List (Pair ℕ)) (h : ArePairs d a b ps) where
  pub spine_asks : same_asks (lefts (pairs_at n ps)) (rights (pairs_at n ps)) ≡ same_asks (head (tree_at d a) ∷ args (tree_at d a)) (head (tree_at d b) ∷ args (tree_at d b))
  spine_asks = ap (λ qs. same_asks (lefts qs) (rights qs)) (pairs_same d n x ps h.pairs_in)
      ∙ (ap (λ xs. same_asks xs (rights (pairs_at d ps))) h.lefts_are ∙ ap (λ ys. same_asks (head (tree_at d a) ∷ args (tree_at d a)) ys) h.rights_are)

  pub spine_premises : argument_claims (lefts (pairs_at n ps)) (rights (pairs_at n ps)) ≡ argument_claims (head (tree_at d a) ∷ args (tree_at d a)) (head (tree_at d b) ∷ args (tree_at d b))
  spine_premises = ap (λ qs. argument_claims (lefts qs) (rights qs)) (pairs_same d n x ps h.pairs_in)
      ∙ (ap (λ xs. argument_claims xs (rights (pairs_at d ps))) h.lefts_are ∙ ap (λ ys. argument_claims (head (tree_at d a) ∷ args (tree_at d a)) ys) h.rights_are)
