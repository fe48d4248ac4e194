-- Rows under way by numbers.
use Rattle.std.proofs.Common.{ℕ, suc, ◌≡◌, ◌≢◌, ◌<◌, ◌≤◌, ◌+◌, inl, Bool, true, false, if◌then◌else◌, List, [], ◌∷◌, ◌++◌, length, map, refl, sym, subst, ap, ◌∙◌, arith}
use Rattle.std.specs.Prelude.{All}
use Rattle.std.proofs.lemmas.List.Elements.{All-weaker, All-nil, All-push, All-same}
use Rattle.lk_tree.specs.Tree.{Tree}
use Rattle.lk_tree.specs.WellFormed.{IsWellFormed}
use Rattle.lk_rulebook.specs.Place.{Place}
use Rattle.lk_rulebook.specs.Claims.{Claim, reduces, equals}
use Rattle.lk_questions.specs.Query as plain
use Rattle.lk_questions.specs.Query.{AnswerTo, core, whnf, infer, same}
use Rattle.lk_questions.specs.Sound.{IsAskable}
use Rattle.lk_questions.specs.Steps.{is_same_tree}
use Rattle.lk_claims.proofs.Facts.{same_self}
use Rattle.lk_claims.proofs.Pieces.{same_tree}
use Rattle.lk_written.specs.Line.{ReductionRule, chain_rule}
use Rattle.lk_store.specs.Contents.{Contents, tree_at, Extends}
use Rattle.lk_store.proofs.Made.{Extends-self}
use Rattle.lk_ask.specs.declared.query.Query.{Query}
use Rattle.lk_ask.specs.declared.query.Query.TheVariants.{Core, Whnf, Infer, Same}
use Rattle.lk_ask.specs.Questions.{query_of, IsKnownQuery}
use Rattle.lk_trace.specs.declared.rules.ReductionRule as trace
use Rattle.lk_trace.specs.declared.rules.Rule.TheVariants.{Reduction}
use Rattle.lk_trace.specs.Meaning.{reduction_rule_of, IsRuleIn}
use Rattle.lk_premises.specs.Claims.{claims_at, AreClaimsIn}
use Rattle.lk_step.specs.declared.step.Step.{Step}
use Rattle.lk_step.specs.declared.step.Row.{Row}
use Rattle.lk_step.specs.Steps as steps
use Rattle.lk_step.specs.Steps.{claim_of, premises_of, is_of_one, StepHolds}
use Rattle.lk_step.specs.Rows.{IsAnswered, IsClaimed, claim_by, IsThere, IsClaim}
use Rattle.lk_step.specs.Meaning.{step_by, step_at, IsStepIn, IsRowIn}
use Rattle.lk_step.specs.Runs.{AreOne}
use Rattle.lk_step.specs.Shaped.{IsShapedAnswer}
use Rattle.lk_step.specs.Told.{IsCore, IsForm, IsType}
use Rattle.lk_step.proofs.Runs.{one_answer}
use Rattle.lk_step.proofs.Shapes.{shaped_answer}
use Rattle.lk_step.proofs.ReductionSteps.{reduction_steps}
use Rattle.lk_step.specs.Parts.{AreThere, IsPart, IsPartIn, Asks, States, IsWhole, IsEmpty, AsksCore, AsksForm, AsksType, AsksSame, are_linked, Chains, FollowsCore, FollowsForm, StepGoes}
use Rattle.lk_step.proofs.Parts.{none, asks_more, states_more, states_these, row_of_part, all_of, first, behind}
use Rattle.lk_step.proofs.Steady.{map_same, step_same, step_known, query_same, query_known}

map_push : {X Y : Type 0} (f : X → Y) (xs : List X) (x : X) → map f (xs ++ x ∷ []) ≡ map f xs ++ f x ∷ []
map_push f [] x = refl
map_push f (y ∷ ys) x = ap (λ zs. f y ∷ zs) (map_push f ys x)

-- a row stays while the store grows
pub row_known : (c d : Contents) → Extends c d → (r : Row) → IsRowIn c r → IsRowIn d r
row_known c d x r h = record {
  asks_in = All-weaker (IsKnownQuery (length c.trees)) (IsKnownQuery (length d.trees)) (query_known c d x) r.asks.items h.asks_in;
  steps_in = All-weaker (IsStepIn c) (IsStepIn d) (step_known c d x) r.steps.items h.steps_in;
}

pub part_stays : (w : Place) (c d : Contents) → Extends c d → (r : Row) (xs : List Claim) (n : ℕ) → IsPartIn w c r xs n → IsPartIn w d r xs n
part_stays w c d x r xs n h =
    let asks : map (query_of (tree_at d)) r.asks.items ≡ map (query_of (tree_at c)) r.asks.items =
    map_same (query_of (tree_at d)) (query_of (tree_at c)) (IsKnownQuery (length c.trees)) (query_same c d x) r.asks.items h.known.asks_in in
    let ss : map (step_at d) r.steps.items ≡ map (step_at c) r.steps.items =
    map_same (step_at d) (step_at c) (IsStepIn c) (step_same c d x) r.steps.items h.known.steps_in in
    let one : IsPart w (map (query_of (tree_at d)) r.asks.items) (map (step_at c) r.steps.items) xs n =
    subst (λ qs. IsPart w qs (map (step_at c) r.steps.items) xs n) (sym asks) h.part in
    record { known = row_known c d x r h.known; part = subst (λ zs. IsPart w (map (query_of (tree_at d)) r.asks.items) zs xs n) (sym ss) one }

-- an empty row
pub part_none : (w : Place) (c : Contents) (r : Row) → IsEmpty r → IsPartIn w c r [] 0
part_none w c r e =
    let asks : map (query_of (tree_at c)) r.asks.items ≡ [] = ap (map (query_of (tree_at c))) e.asks in
    let ss : map (step_at c) r.steps.items ≡ [] = ap (map (step_at c)) e.steps in
    let one : IsPart w (map (query_of (tree_at c)) r.asks.items) [] [] 0 = subst (λ qs. IsPart w qs [] [] 0) (sym asks) (none w) in
    record {
      known = record {
        asks_in = All-same (IsKnownQuery (length c.trees)) r.asks.items [] e.asks (All-nil (IsKnownQuery (length c.trees)));
        steps_in = All-same (IsStepIn c) r.steps.items [] e.steps (All-nil (IsStepIn c));
      };
      part = subst (λ zs. IsPart w (map (query_of (tree_at c)) r.asks.items) zs [] 0) (sym ss) one;
    }

-- one more question
pub part_asks : (w : Place) (c d : Contents) → Extends c d → (old new : Row) (query : Query ℕ) (q : plain.Query) (v : AnswerTo q) (k : ℕ) → IsKnownQuery (length c.trees) query → query_of (tree_at c) query ≡ q →
    IsAskable q → IsAnswered w q v k → IsClaimed q v → new.asks.items ≡ old.asks.items ++ query ∷ [] → new.steps ≡ old.steps → Asks w c d old new (claim_by q v) k
part_asks w c d x old new query q v k known is f h i asks ss = λ xs n p.
    let p' : IsPartIn w d old xs n = part_stays w c d x old xs n p in
    let is' : query_of (tree_at d) query ≡ q = query_same c d x query known ∙ is in
    let asked : map (query_of (tree_at d)) new.asks.items ≡ map (query_of (tree_at d)) old.asks.items ++ q ∷ [] =
    ap (map (query_of (tree_at d))) asks ∙ map_push (query_of (tree_at d)) old.asks.items query ∙ ap (λ z. map (query_of (tree_at d)) old.asks.items ++ z ∷ []) is' in
    let more : IsPart w (map (query_of (tree_at d)) old.asks.items ++ q ∷ []) (map (step_at d) old.steps.items) (claim_by q v ∷ xs) (n + k) =
    asks_more w (map (query_of (tree_at d)) old.asks.items) (map (step_at d) old.steps.items) xs n q v k f h i p'.part in
    let one : IsPart w (map (query_of (tree_at d)) new.asks.items) (map (step_at d) old.steps.items) (claim_by q v ∷ xs) (n + k) =
    subst (λ qs. IsPart w qs (map (step_at d) old.steps.items) (claim_by q v ∷ xs) (n + k)) (sym asked) more in
    record {
      known = record {
        asks_in = All-same (IsKnownQuery (length d.trees)) new.asks.items (old.asks.items ++ query ∷ []) asks (All-push (IsKnownQuery (length d.trees)) old.asks.items query p'.known.asks_in (query_known c d x query known));
        steps_in = subst (λ z. All (IsStepIn d) z.items) (sym ss) p'.known.steps_in;
      };
      part = subst (λ z. IsPart w (map (query_of (tree_at d)) new.asks.items) (map (step_at d) z.items) (claim_by q v ∷ xs) (n + k)) (sym ss) one;
    }

-- one more step
pub part_states : (w : Place) (c : Contents) (old new : Row) (step : Step) (s : steps.Step) → IsStepIn c step → step_at c step ≡ s → StepHolds w s → new.asks ≡ old.asks → new.steps.items ≡ old.steps.items ++ step ∷ [] →
    States w c old new (premises_of s) (claim_of s)
part_states w c old new step s known is holds asks ss = λ xs n there p.
    let made : map (step_at c) new.steps.items ≡ map (step_at c) old.steps.items ++ s ∷ [] =
    ap (map (step_at c)) ss ∙ map_push (step_at c) old.steps.items step ∙ ap (λ z. map (step_at c) old.steps.items ++ z ∷ []) is in
    let more : IsPart w (map (query_of (tree_at c)) old.asks.items) (map (step_at c) old.steps.items ++ s ∷ []) (claim_of s ∷ xs) n =
    states_more w (map (query_of (tree_at c)) old.asks.items) (map (step_at c) old.steps.items) xs n s holds there p.part in
    let one : IsPart w (map (query_of (tree_at c)) old.asks.items) (map (step_at c) new.steps.items) (claim_of s ∷ xs) n =
    subst (λ zs. IsPart w (map (query_of (tree_at c)) old.asks.items) zs (claim_of s ∷ xs) n) (sym made) more in
    record {
      known = record {
        asks_in = subst (λ z. All (IsKnownQuery (length c.trees)) z.items) (sym asks) p.known.asks_in;
        steps_in = All-same (IsStepIn c) new.steps.items (old.steps.items ++ step ∷ []) ss (All-push (IsStepIn c) old.steps.items step p.known.steps_in known);
      };
      part = subst (λ z. IsPart w (map (query_of (tree_at c)) z.items) (map (step_at c) new.steps.items) (claim_of s ∷ xs) n) (sym asks) one;
    }

-- what is there, among others, is stated, for no less
pub part_these : (w : Place) (c : Contents) (r : Row) (xs ys : List Claim) (n m : ℕ) → AreThere xs ys → n ≤ m → IsPartIn w c r xs n → IsPartIn w c r ys m
part_these w c r xs ys n m h lt p = record { known = p.known; part = states_these w (map (query_of (tree_at c)) r.asks.items) (map (step_at c) r.steps.items) xs ys n m h lt p.part }

-- what is there is stated, with nothing added
pub part_states_there : (w : Place) (c : Contents) (r : Row) (premises : List Claim) (claim : Claim) → ((xs : List Claim) → AreThere xs premises → IsThere xs claim) → States w c r r premises claim
part_states_there w c r premises claim f = λ xs n there p. part_these w c r xs (claim ∷ xs) n n (f xs there, all_of xs) (omega arith) p

-- a question whose answer is the tree itself claims what no line states
pub part_asks_none : (w : Place) (c d : Contents) → Extends c d → (r : Row) (claim : Claim) (k : ℕ) → is_of_one claim ≡ true → Asks w c d r r claim k
part_asks_none w c d x r claim k e = λ xs n p. part_these w d r xs (claim ∷ xs) n (n + k) (inl e, all_of xs) (omega arith) (part_stays w c d x r xs n p)

-- trees that the test tells apart
pub apart : (x y : Tree) → is_same_tree x y ≡ false → x ≢ y
apart x y t e =
    let one : is_same_tree x y ≡ true = subst (λ z. is_same_tree x z ≡ true) e (same_self x) in
    absurd cc

-- it is whole
pub part_whole : (w : Place) (c : Contents) (r : Row) (q : plain.Query) (v : AnswerTo q) (k n : ℕ) (xs : List Claim) → IsAnswered w q v k → IsClaimed q v → n < k → IsPartIn w c r (claim_by q v ∷ xs) n → IsWhole w c q r
part_whole w c r q v k n xs h i lt p = record {
  known = p.known;
  row = record {
    answer = v;
    cost = k;
    answered = h;
    claimed = i;
    row = row_of_part w (map (query_of (tree_at c)) r.asks.items) (map (step_at c) r.steps.items) xs n q v k lt p.part;
  };
}

-- asking for a weak head form
pub asks_core_itself : (w : Place) (c d : Contents) → Extends c d → (r : Row) (n v : ℕ) → n < length c.trees → IsCore w (tree_at c n) (tree_at d v) → is_same_tree (tree_at d n) (tree_at d v) ≡ true →
    AsksCore w c d r r (tree_at c n) (tree_at d v)
asks_core_itself w c d x r n v lt told t =
    let same : is_same_tree (tree_at c n) (tree_at d v) ≡ true = subst (λ e. is_same_tree e (tree_at d v) ≡ true) (x.trees.same n lt) t in
    record { cost = told.cost; answered = told.answered; asks = λ f. part_asks_none w c d x r (reduces (tree_at c n) (tree_at d v)) told.cost same }

pub asks_core_more : (w : Place) (c d : Contents) → Extends c d → (old new : Row) (n v : ℕ) → n < length c.trees → IsCore w (tree_at c n) (tree_at d v) → new.asks.items ≡ old.asks.items ++ Core n ∷ [] → new.steps ≡ old.steps →
    AsksCore w c d old new (tree_at c n) (tree_at d v)
asks_core_more w c d x old new n v lt told asks ss =
    record { cost = told.cost; answered = told.answered; asks = λ f. part_asks w c d x old new (Core n) (core (tree_at c n)) (tree_at d v) told.cost lt refl f told.answered tt asks ss }

pub asks_form_itself : (w : Place) (c d : Contents) → Extends c d → (r : Row) (n v : ℕ) → n < length c.trees → IsForm w (tree_at c n) (tree_at d v) → is_same_tree (tree_at d n) (tree_at d v) ≡ true →
    AsksForm w c d r r (tree_at c n) (tree_at d v)
asks_form_itself w c d x r n v lt told t =
    let same : is_same_tree (tree_at c n) (tree_at d v) ≡ true = subst (λ e. is_same_tree e (tree_at d v) ≡ true) (x.trees.same n lt) t in
    record { cost = told.cost; answered = told.answered; asks = λ f. part_asks_none w c d x r (reduces (tree_at c n) (tree_at d v)) told.cost same }

pub asks_form_more : (w : Place) (c d : Contents) → Extends c d → (old new : Row) (n v : ℕ) → n < length c.trees → IsForm w (tree_at c n) (tree_at d v) → new.asks.items ≡ old.asks.items ++ Whnf n ∷ [] → new.steps ≡ old.steps →
    AsksForm w c d old new (tree_at c n) (tree_at d v)
asks_form_more w c d x old new n v lt told asks ss =
    record { cost = told.cost; answered = told.answered; asks = λ f. part_asks w c d x old new (Whnf n) (whnf (tree_at c n)) (tree_at d v) told.cost lt refl f told.answered tt asks ss }

-- asking for a type
pub asks_type_more : (w : Place) (c d : Contents) → Extends c d → (old new : Row) (n v : ℕ) → n < length c.trees → IsType w (tree_at c n) (tree_at d v) → new.asks.items ≡ old.asks.items ++ Infer n ∷ [] → new.steps ≡ old.steps →
    AsksType w c d old new (tree_at c n) (tree_at d v)
asks_type_more w c d x old new n v lt told asks ss =
    record { cost = told.cost; answered = told.answered; asks = λ f. part_asks w c d x old new (Infer n) (infer (tree_at c n)) (tree_at d v) told.cost lt refl f told.answered tt asks ss }

-- asking whether two trees are the same, which they are
pub asks_same_one : (c : Contents) (r : Row) (a b : Tree) → is_same_tree a b ≡ true → AsksSame c r r a b
asks_same_one c r a b t = record { asks = λ w cost fa fb h. part_asks_none w c c (Extends-self c) r (equals a b) cost t }

pub asks_same_more : (c : Contents) (old new : Row) (a b : ℕ) → a < length c.trees → b < length c.trees → new.asks.items ≡ old.asks.items ++ Same a b ∷ [] → new.steps ≡ old.steps → AsksSame c old new (tree_at c a) (tree_at c b)
asks_same_more c old new a b la lb asks ss =
    record { asks = λ w cost fa fb h. part_asks w c c (Extends-self c) old new (Same a b) (same (tree_at c a) (tree_at c b)) true cost (la, lb) refl (fa, fb) h refl asks ss }

-- one reduction after another
linked_there : (xs : List Claim) (x y z : Tree) → are_linked x y z ≡ true → AreThere xs (reduces x y ∷ reduces y z ∷ []) → IsThere xs (reduces x z)
linked_there xs x y z t h = go (is_same_tree x y) (is_same_tree y z) refl refl t
  where
    go : (a b : Bool) → is_same_tree x y ≡ a → is_same_tree y z ≡ b → (if a then true else (if b then true else is_same_tree x z)) ≡ true → IsThere xs (reduces x z)
    go true b e f u = subst (λ q. IsThere xs (reduces q z)) (sym (same_tree x y e)) h.1.0
    go false true e f u = subst (λ q. IsThere xs (reduces x q)) (same_tree y z f) h.0
    go false false e f u = inl u

pub chains_linked : (c : Contents) (r : Row) (x y z : Tree) → are_linked x y z ≡ true → Chains c r r x y z
chains_linked c r x y z t = record { states = λ w fx fz. part_states_there w c r (reduces x y ∷ reduces y z ∷ []) (reduces x z) (λ xs h. linked_there xs x y z t h) }

both_apart : (x y z : Tree) → are_linked x y z ≡ false → (is_same_tree x y ≡ false) × (is_same_tree y z ≡ false)
both_apart x y z t = go (is_same_tree x y) (is_same_tree y z) refl refl t
  where
    go : (a b : Bool) → is_same_tree x y ≡ a → is_same_tree y z ≡ b → (if a then true else (if b then true else is_same_tree x z)) ≡ false → (is_same_tree x y ≡ false) × (is_same_tree y z ≡ false)
    go true b e f u = absurd cc
    go false true e f u = absurd cc
    go false false e f u = (e, f)

pub chains_stated : (c : Contents) (old new : Row) (x y z : Tree) → are_linked x y z ≡ false →
    ((w : Place) → StepHolds w (steps.reduction chain_rule x z (reduces x y ∷ reduces y z ∷ [])) → States w c old new (reduces x y ∷ reduces y z ∷ []) (reduces x z)) → Chains c old new x y z
chains_stated c old new x y z t f = record {
  states = λ w fx fz. f w ((reduction_steps w).chain x y z (apart x y (both_apart x y z t).0) (apart y z (both_apart x y z t).1) fx fz);
}

-- and then a weak head form
pub follows_core : (w : Place) (c d : Contents) → Extends c d → (old mid new : Row) (n m v : ℕ) → n < length c.trees → m < length c.trees → AsksCore w c d old mid (tree_at c m) (tree_at d v) →
    Chains d mid new (tree_at d n) (tree_at d m) (tree_at d v) → FollowsCore w c d old new (tree_at c n) (tree_at c m)
follows_core w c d x old mid new n m v ln lm a h =
    let e : Tree = tree_at c n in
    let r : Tree = tree_at c m in
    let u : Tree = tree_at d v in
    let one : Chains d mid new e (tree_at d m) u = subst (λ z. Chains d mid new z (tree_at d m) u) (x.trees.same n ln) h in
    let k : Chains d mid new e r u = subst (λ z. Chains d mid new e z u) (x.trees.same m lm) one in
    record {
      value = u;
      cost = a.cost;
      answered = a.answered;
      goes = λ fe fr fu xs s there p.
          part_these w d new (reduces e u ∷ reduces r u ∷ xs) (reduces e u ∷ []) (s + a.cost) (s + a.cost) (first (reduces e u) (reduces r u ∷ xs), tt) (omega arith)
          (k.states w fe fu (reduces r u ∷ xs) (s + a.cost) (behind (reduces r u) xs (reduces e r) there, (first (reduces r u) xs, tt)) (a.asks fr xs s p));
    }

pub follows_form : (w : Place) (c d : Contents) → Extends c d → (old mid new : Row) (n m v : ℕ) → n < length c.trees → m < length c.trees → AsksForm w c d old mid (tree_at c m) (tree_at d v) →
    Chains d mid new (tree_at d n) (tree_at d m) (tree_at d v) → FollowsForm w c d old new (tree_at c n) (tree_at c m)
follows_form w c d x old mid new n m v ln lm a h =
    let e : Tree = tree_at c n in
    let r : Tree = tree_at c m in
    let u : Tree = tree_at d v in
    let one : Chains d mid new e (tree_at d m) u = subst (λ z. Chains d mid new z (tree_at d m) u) (x.trees.same n ln) h in
    let k : Chains d mid new e r u = subst (λ z. Chains d mid new e z u) (x.trees.same m lm) one in
    record {
      value = u;
      cost = a.cost;
      answered = a.answered;
      goes = λ fe fr fu xs s there p.
          part_these w d new (reduces e u ∷ reduces r u ∷ xs) (reduces e u ∷ []) (s + a.cost) (s + a.cost) (first (reduces e u) (reduces r u ∷ xs), tt) (omega arith)
          (k.states w fe fu (reduces r u ∷ xs) (s + a.cost) (behind (reduces r u) xs (reduces e r) there, (first (reduces r u) xs, tt)) (a.asks fr xs s p));
    }

-- a step that rests on nothing, and then Core
pub step_goes : (w : Place) (c d : Contents) (old mid new : Row) (rule : ReductionRule) (e r : Tree) → (StepHolds w (steps.reduction rule e r []) → States w c old mid [] (reduces e r)) → FollowsCore w c d mid new e r →
    StepGoes w d old new rule e r
step_goes w c d old mid new rule e r s f = record {
  whole = λ empty ok fe fr holds n.
      let one : AreOne f.value n.value f.cost n.cost = one_answer w (core r) f.value n.value f.cost n.cost f.answered n.next in
      let same : f.value ≡ n.value = one.answer in
      let paid : f.cost ≡ n.cost = one.cost in
      let less : n.cost < n.more = n.less in
      let shaped : IsShapedAnswer (core e) n.value = shaped_answer w ok (core e) n.value n.more fe n.answered in
      let fv : IsWellFormed f.value = subst IsWellFormed (sym same) shaped.0.1 in
      let p : IsPartIn w d new (reduces e f.value ∷ []) (0 + f.cost) = f.goes fe fr fv (reduces e r ∷ []) 0 (first (reduces e r) []) (s holds [] 0 tt (part_none w c old empty)) in
      part_whole w d new (core e) f.value n.more (0 + f.cost) [] (subst (λ u. IsAnswered w (core e) u n.more) (sym same) n.answered) tt (omega arith) p;
}

-- one more step by its parts
pub part_adds : (w : Place) (c : Contents) (old new : Row) (step : Step) (rule : trace.ReductionRule) (a b : Tree) (cs : List Claim) → step.rule ≡ Reduction rule → step.left < length c.trees → step.right < length c.trees → AreClaimsIn c step.premises.items →
    tree_at c step.left ≡ a → tree_at c step.right ≡ b → claims_at c step.premises.items ≡ cs → StepHolds w (steps.reduction (reduction_rule_of rule) a b cs) → new.asks ≡ old.asks →
    new.steps.items ≡ old.steps.items ++ step ∷ [] → States w c old new cs (reduces a b)
part_adds w c old new step rule a b cs is l r ps ea eb ecs holds asks ss =
    part_states w c old new step (steps.reduction (reduction_rule_of rule) a b cs) (record { rule_in = subst (IsRuleIn c) (sym is) tt; left_in = l; right_in = r; premises_in = ps })
    (ap (λ z. step_by c z step) is
    ∙ ap (λ z. steps.reduction (reduction_rule_of rule) z (tree_at c step.right) (claims_at c step.premises.items)) ea
    ∙ ap (λ z. steps.reduction (reduction_rule_of rule) a z (claims_at c step.premises.items)) eb ∙ ap (steps.reduction (reduction_rule_of rule) a b) ecs) holds asks ss

-- a tree that is its own Core: nothing has to be said
pub itself_whole : (w : Place) (most : ℕ) (c : Contents) (r : Row) (e : Tree) → IsEmpty r → (k : IsClaim w (core e) most) → k.answer ≡ e → (n : ℕ) → k.cost ≡ suc n → IsWhole w c (core e) r
itself_whole w most c r e empty k is n paid =
    part_whole w c r (core e) e k.cost 0 [] (subst (λ u. IsAnswered w (core e) u k.cost) is k.answered) tt (omega arith)
    (part_these w c r [] (reduces e e ∷ []) 0 0 (inl (same_self e), tt) (omega arith) (part_none w c r empty))
