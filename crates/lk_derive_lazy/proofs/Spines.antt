-- Two applications of one constant, whose arguments are the same.
use Rattle.std.proofs.Common.{ℕ, ◌≡◌, ◌+◌, ◌<◌, ◌≤◌, Bool, true, false, nat_eq, eqb-true, List, [], ◌∷◌, length, map, refl, sym, subst, ap, ◌∙◌, if◌then◌else◌, arith}
use Rattle.std.specs.Prelude.{All}
use Rattle.std.proofs.lemmas.List.{length-map}
use Rattle.std.proofs.lemmas.List.Elements.{All-nil}
use Rattle.lk_tree.specs.Tree.{Tree, const}
use Rattle.lk_tree.specs.Spine.{apply, head, args, IsNeutral}
use Rattle.lk_tree.specs.WellFormed.{IsWellFormed, AllWellFormed}
use Rattle.lk_tree.proofs.Spines.{well_formed_of_apply}
use Rattle.lk_tree.proofs.Within.{apply_head_args}
use Rattle.lk_rulebook.specs.Place.{Place}
use Rattle.lk_rulebook.specs.Claims.{equals}
use Rattle.lk_questions.specs.Query.{same}
use Rattle.lk_questions.specs.Program.{done}
use Rattle.lk_questions.specs.Pairs.{same_all}
use Rattle.lk_written.specs.Line.{consts_rule, apps_rule}
use Rattle.lk_store.specs.Contents.{Contents, tree_at, Extends}
use Rattle.lk_ask.specs.declared.sheet.Pair.{Pair}
use Rattle.lk_ask.specs.Lines.{lefts, rights}
use Rattle.lk_ask.specs.Questions.{query_of}
use Rattle.lk_ask.proofs.Sheets.{grown, pairs_steady, pairs_known}
use Rattle.lk_lazy.specs.declared.spines.Paired.{Paired}
use Rattle.lk_lazy.specs.Spines.{IsPaired}
use Rattle.lk_premises.specs.declared.claims.Claim.{Claim as StoredClaim}
use Rattle.lk_premises.specs.Claims.{claim_at, claims_at}
use Rattle.lk_step.specs.declared.step.Row.{Row}
use Rattle.lk_step.specs.Steps.{equality, StepHolds}
use Rattle.lk_step.specs.Equal.{argument_claims, spine_claims}
use Rattle.lk_step.specs.Rows.{IsAnswered, AreClaims, no_claim, a_claim, IsThere}
use Rattle.lk_step.specs.Runs.{Runs}
use Rattle.lk_step.specs.Pairs.{same_pairs, pairs_at, same_asks, AreAsked}
use Rattle.lk_step.specs.Meaning.{step_at, IsStepIn}
use Rattle.lk_step.specs.Parts.{IsPart, IsPartIn, States}
use Rattle.lk_step.specs.Tests.{ArePair}
use Rattle.lk_step.proofs.EqualitySteps.{equality_steps}
use Rattle.lk_step.proofs.Comparing.{nothing_left}
use Rattle.lk_step.proofs.Parts.{all_of}
use Rattle.lk_step.proofs.PartsIn.{part_states_there}
use Rattle.lk_derive_lazy.specs.Alike.{AreOneConstant, AreAlike, AreApplied}
use Rattle.lk_derive_lazy.proofs.Levels.{levels_same}

-- two heads
pub heads_hold : (w : Place) (f g : Tree) → AreOneConstant f g → StepHolds w (equality consts_rule f g [])
heads_hold w f g k =
    subst (λ f. StepHolds w (equality consts_rule f g [])) (sym k.left_is)
    (subst (λ g. StepHolds w (equality consts_rule (const k.name k.left) g [])) (sym k.right_is)
    ((equality_steps w).consts k.name k.left k.right (levels_same k.left k.right k.equal)))

neutral_left : (f g : Tree) → AreOneConstant f g → IsNeutral f
neutral_left f g k = subst IsNeutral (sym k.left_is) tt

neutral_right : (f g : Tree) → AreOneConstant f g → IsNeutral g
neutral_right f g k = subst IsNeutral (sym k.right_is) tt

-- what was found the same is claimed
pub record AllClaimed (w : Place) (xs ys : List Tree) (n : ℕ) : Type 0 where
  pub spent : ℕ
  pub asked : AreClaims w (same_asks xs ys) (argument_claims xs ys) spent
  pub within : spent ≤ n

pub all_claimed : (w : Place) (xs ys : List Tree) (n : ℕ) → AllWellFormed xs → AllWellFormed ys → Runs w (same_all xs ys) true n → AllClaimed w xs ys n
all_claimed w [] [] n fx fy h = record { spent = 0; asked = no_claim; within = omega arith }
all_claimed w [] (y ∷ ys) n fx fy h = absurd (let e : false ≡ true = h.0 in cc)
all_claimed w (x ∷ xs) [] n fx fy h = absurd (let e : false ≡ true = h.0 in cc)
all_claimed w (x ∷ xs) (y ∷ ys) n fx fy h = go h.0 h.1 h.2 h.3 h.4 h.5 (all_claimed w xs ys h.2 fx.1 fy.1)
  where
    go : (u : Bool) (c m : ℕ) → IsAnswered w (same x y) u c → Runs w (if u then same_all xs ys else done false) true m → n ≡ c + m → (Runs w (same_all xs ys) true m → AllClaimed w xs ys m) → AllClaimed w (x ∷ xs) (y ∷ ys) n
    go true c m a r paid more =
        let k : AllClaimed w xs ys m = more r in
        let within : k.spent ≤ m = k.within in
        record { spent = c + k.spent; asked = a_claim (same x y) true c (fx.0, fy.0) a refl k.asked; within = omega (arith, paid, within) }
    go false c m a r paid more = absurd (let e : false ≡ true = r.0 in cc)

fine_args : (a : Tree) → IsWellFormed a → AllWellFormed (args a)
fine_args a h = (well_formed_of_apply (head a) (args a) (subst IsWellFormed (sym (apply_head_args a)) h)).1

-- a row that asks for all arguments, with no step yet
pub arguments_part : (w : Place) (c : Contents) (a b : Tree) (r : Row) (ps : List (Pair ℕ)) (n : ℕ) → IsWellFormed a → IsWellFormed b → lefts (pairs_at c ps) ≡ args a → rights (pairs_at c ps) ≡ args b → (premises : List StoredClaim) → AreAsked c ps r.asks.items premises → r.steps.items ≡ [] →
    Runs w (same_all (args a) (args b)) true n → IsPartIn w c r (claims_at c premises) n
arguments_part w c a b r ps n fa fb left right premises asked none h =
    let k : AllClaimed w (args a) (args b) n = all_claimed w (args a) (args b) n (fine_args a fa) (fine_args b fb) h in
    let asks_are : map (query_of (tree_at c)) r.asks.items ≡ same_asks (args a) (args b) = asked.asks_are ∙ ap (λ xs. same_asks xs (rights (pairs_at c ps))) left ∙ ap (λ ys. same_asks (args a) ys) right in
    let claims_are : claims_at c premises ≡ argument_claims (args a) (args b) = asked.claims_are ∙ ap (λ xs. argument_claims xs (rights (pairs_at c ps))) left ∙ ap (λ ys. argument_claims (args a) ys) right in
    let one : IsPart w (same_asks (args a) (args b)) [] (argument_claims (args a) (args b)) n = record { claims = argument_claims (args a) (args b); cost = k.spent; asked = k.asked; within = k.within; steps_hold = tt; there = all_of (argument_claims (args a) (args b)) } in
    let two : IsPart w (map (query_of (tree_at c)) r.asks.items) [] (claims_at c premises) n = subst (λ qs. IsPart w qs [] (claims_at c premises) n) (sym asks_are) (subst (λ cs. IsPart w (same_asks (args a) (args b)) [] cs n) (sym claims_are) one) in
    record {
      known = record { asks_in = asked.asks_in; steps_in = subst (λ ss. All (IsStepIn c) ss) (sym none) (All-nil (IsStepIn c)) };
      part = subst (λ ss. IsPart w (map (query_of (tree_at c)) r.asks.items) (map (step_at c) ss) (claims_at c premises) n) (sym none) two;
    }

module _ (c : Contents) (a b : ℕ) (p : Paired) (h : AreAlike c a b p) (ps : List StoredClaim) (applied : AreApplied c a b ps) where
  count : length (args (tree_at c a)) ≡ length (args (tree_at c b))
  count = eqb-true (length (args (tree_at c a))) (length (args (tree_at c b))) h.paired.as_many

  left_is : apply (tree_at c p.left) (args (tree_at c a)) ≡ tree_at c a
  left_is = subst (λ f. apply f (args (tree_at c a)) ≡ tree_at c a) h.paired.left_head (apply_head_args (tree_at c a))

  right_is : apply (tree_at c p.right) (args (tree_at c b)) ≡ tree_at c b
  right_is = subst (λ f. apply f (args (tree_at c b)) ≡ tree_at c b) h.paired.right_head (apply_head_args (tree_at c b))

  -- without arguments they are their heads
  pub bare_stated : length ps ≡ 0 → (w : Place) (r : Row) → States w c r r (equals (tree_at c p.left) (tree_at c p.right) ∷ claims_at c ps) (equals (tree_at c a) (tree_at c b))
  bare_stated none w r =
      let empty : argument_claims (args (tree_at c a)) (args (tree_at c b)) ≡ [] = sym applied ∙ ap (claims_at c) (nothing_left ps none) in
      let bare = none_of (args (tree_at c a)) (args (tree_at c b)) count empty in
      let left : tree_at c p.left ≡ tree_at c a = ap (λ xs. apply (tree_at c p.left) xs) (sym bare.0) ∙ left_is in
      let right : tree_at c p.right ≡ tree_at c b = ap (λ xs. apply (tree_at c p.right) xs) (sym bare.1) ∙ right_is in
      part_states_there w c r (equals (tree_at c p.left) (tree_at c p.right) ∷ claims_at c ps) (equals (tree_at c a) (tree_at c b))
      (λ xs there. subst (λ x. IsThere xs (equals x (tree_at c b))) left (subst (λ y. IsThere xs (equals (tree_at c p.left) y)) right there.0))
    where
      none_of : (xs ys : List Tree) → length xs ≡ length ys → argument_claims xs ys ≡ [] → (xs ≡ []) × (ys ≡ [])
      none_of [] [] e i = (refl, refl)
      none_of [] (y ∷ ys) e i = absurd (omega arith)
      none_of (x ∷ xs) [] e i = absurd (omega arith)
      none_of (x ∷ xs) (y ∷ ys) e i = absurd cc

  pub applied_holds : (0 < length ps) → (w : Place) → ArePair w (tree_at c a) (tree_at c b) →
      StepHolds w (equality apps_rule (tree_at c a) (tree_at c b) (equals (tree_at c p.left) (tree_at c p.right) ∷ claims_at c ps))
  applied_holds some w two =
      let f : Tree = tree_at c p.left in
      let g : Tree = tree_at c p.right in
      let xs : List Tree = args (tree_at c a) in
      let ys : List Tree = args (tree_at c b) in
      let many : 0 < length xs = more xs ys (subst (λ cs. 0 < length cs) applied (subst (λ n. 0 < n) (sym (length-map ps (claim_at c))) some)) in
      subst (λ cs. StepHolds w (equality apps_rule (tree_at c a) (tree_at c b) (equals f g ∷ cs))) (sym applied)
      (subst (λ x. StepHolds w (equality apps_rule x (tree_at c b) (spine_claims f g xs ys))) left_is
      (subst (λ y. StepHolds w (equality apps_rule (apply f xs) y (spine_claims f g xs ys))) right_is
      ((equality_steps w).apps f g xs ys (neutral_left f g h.heads) (neutral_right f g h.heads) many count (subst IsWellFormed (sym left_is) two.left) (subst IsWellFormed (sym right_is) two.right))))
    where
      more : (xs ys : List Tree) → 0 < length (argument_claims xs ys) → 0 < length xs
      more [] ys h = absurd (omega arith)
      more (x ∷ xs) ys h = omega arith

-- they stay while the store grows
pub alike_stays : (c d : Contents) → Extends c d → (a b : ℕ) (p : Paired) → a < length c.trees → b < length c.trees → AreAlike c a b p → AreAlike d a b p
alike_stays c d x a b p la lb h =
    let a_same : tree_at d a ≡ tree_at c a = x.trees.same a la in
    let b_same : tree_at d b ≡ tree_at c b = x.trees.same b lb in
    let left_same : tree_at d p.left ≡ tree_at c p.left = x.trees.same p.left h.paired.left_in in
    let right_same : tree_at d p.right ≡ tree_at c p.right = x.trees.same p.right h.paired.right_in in
    let pairs : pairs_at d p.pairs.items ≡ pairs_at c p.pairs.items = pairs_steady x p.pairs.items h.paired.pairs_in in
    record {
      paired = record {
        left_in = grown x p.left h.paired.left_in;
        right_in = grown x p.right h.paired.right_in;
        pairs_in = pairs_known x p.pairs.items h.paired.pairs_in;
        left_head = ap head a_same ∙ h.paired.left_head ∙ sym left_same;
        right_head = ap head b_same ∙ h.paired.right_head ∙ sym right_same;
        left_args = ap args a_same ∙ h.paired.left_args ∙ ap lefts (sym pairs);
        right_args = ap args b_same ∙ h.paired.right_args ∙ ap rights (sym pairs);
        as_many = ap (λ t. nat_eq (length (args t)) (length (args (tree_at d b)))) a_same ∙ ap (λ t. nat_eq (length (args (tree_at c a))) (length (args t))) b_same ∙ h.paired.as_many;
      };
      heads = subst (λ f. AreOneConstant f (tree_at d p.right)) (sym left_same) (subst (λ g. AreOneConstant (tree_at c p.left) g) (sym right_same) h.heads);
    }

-- the heads of the two, and what is asked of the pairs
pub heads_of : (c : Contents) (a b : ℕ) (p : Paired) → AreAlike c a b p → AreOneConstant (head (tree_at c a)) (head (tree_at c b))
heads_of c a b p h = subst (λ f. AreOneConstant f (head (tree_at c b))) (sym h.paired.left_head) (subst (λ g. AreOneConstant (tree_at c p.left) g) (sym h.paired.right_head) h.heads)

pub pairs_program : (c : Contents) (a b : ℕ) (p : Paired) → IsPaired c a b p → same_pairs (pairs_at c p.pairs.items) ≡ same_all (args (tree_at c a)) (args (tree_at c b))
pairs_program c a b p h = ap (λ xs. same_all xs (rights (pairs_at c p.pairs.items))) (sym h.left_args) ∙ ap (λ ys. same_all (args (tree_at c a)) ys) (sym h.right_args)
