-- A number above the budget is never used up: the check of a block does not depend on it.
use Rattle.std.proofs.Common.{ℕ, zero, suc, ◌≡◌, ◌≤◌, ◌<◌, ◌+◌, ◌-◌, Bool, true, false, List, [], ◌∷◌, length, None, refl, ap, ◌∙◌, if◌then◌else◌, arith}
use Rattle.lk_tree.specs.Tree.{Name, Tree, pi, local}
use Rattle.lk_tree.specs.Bind.{opened}
use Rattle.lk_tree.specs.declared.rule.Rule.{Rule}
use Rattle.lk_tree.specs.declared.rule.Rule.TheVariants.{BlockShape, NotPositive, FieldUniverse}
use Rattle.lk_rulebook.specs.Place.{Place, Block, BlockType, Ctor}
use Rattle.lk_tree.specs.Mentions.{mentions}
use Rattle.lk_questions.specs.Query.{Query, AnswerTo, whnf}
use Rattle.lk_questions.specs.Program.{Table, Program, done, refuse, ask, look, asked, ◌>>=◌}
use Rattle.lk_questions.specs.Answer.{Outcome, answered, refused, spent, after, and_then, IfAnswered, outcome_of, answer_to_depth, plain_answer}
use Rattle.lk_questions.specs.Steps.{given, as_pi}
use Rattle.lk_questions.proofs.Outcomes.{if_after, if_map, and_then_same, found_same}
use Rattle.lk_questions.proofs.Budgets.{ans_steady}
use Rattle.lk_inductive.specs.Block.{Frame, frame_of, FieldKind, plain, under}
use Rattle.lk_inductive.specs.BlockSteps.{over, walk_on, walk, fits_in, fields_steps, ctor_steps, ctors_steps, shapes_steps, TypeParts, shape_steps}
use Rattle.lk_inductive.proofs.Tasks.{and_then_then, then_found, after_none}

-- run of one program after another
abbrev Asker : Type 0
Asker = (q : Query) → ℕ → Outcome (AnswerTo q)

pub run_bind : {A B : Type 0} (w : Place) (f : (q : Query) → ℕ → Outcome (AnswerTo q)) (left : ℕ) (p : Program A) (k : A → Program B) →
    outcome_of w f left (p >>= k) ≡ and_then (outcome_of w f left p) (λ v c. outcome_of w f (left - c) (k v))
run_bind w f left (done v) k = let e : after 0 None (outcome_of w f (left - 0) (k v)) ≡ outcome_of w f left (k v) = after_none (outcome_of w f (left - 0) (k v)) ∙ ap (λ n. outcome_of w f n (k v)) (omega arith) in cc
run_bind w f left (refuse r) k = refl
run_bind w f left (ask q g) k =
    and_then_same (f q left) (λ v c. outcome_of w f (left - c) (g v >>= k)) _
    (λ v c. run_bind w f (left - c) (g v) k
    ∙ and_then_same (outcome_of w f (left - c) (g v)) (λ u d. outcome_of w f (left - c - d) (k u)) (λ u d. outcome_of w f (left - (c + d)) (k u)) (λ u d. ap (λ n. outcome_of w f n (k u)) (omega arith)))
    ∙ and_then_then (f q left) (λ v c. outcome_of w f (left - c) (g v)) (λ v c. outcome_of w f (left - c) (k v))
run_bind w f left (look r c g) k =
    found_same r (w.means c) (w.origin c) (w.flaw c) (λ e. outcome_of w f left (g e >>= k)) _ (λ e. run_bind w f left (g e) k)
    ∙ then_found r (w.means c) (w.origin c) (w.flaw c) (λ e. outcome_of w f left (g e)) (λ v c. outcome_of w f (left - c) (k v))

-- one outcome under each budget up to most
abbrev pub Same : {A : Type 0} → Place → ((q : Query) → ℕ → Outcome (AnswerTo q)) → ℕ → Program A → Program A → Type 0
Same w f most p q = (left : ℕ) → left ≤ most → outcome_of w f left p ≡ outcome_of w f left q

pub same_bind : {A B : Type 0} (w : Place) (f : (q : Query) → ℕ → Outcome (AnswerTo q)) (most : ℕ) (p q : Program A) (k l : A → Program B) →
    Same w f most p q → ((v : A) → Same w f most (k v) (l v)) → Same w f most (p >>= k) (q >>= l)
same_bind w f most p q k l h i left small =
    let a : outcome_of w f left (p >>= k) ≡ and_then (outcome_of w f left p) (λ v c. outcome_of w f (left - c) (k v)) = run_bind w f left p k in
    let b : outcome_of w f left (q >>= l) ≡ and_then (outcome_of w f left q) (λ v c. outcome_of w f (left - c) (l v)) = run_bind w f left q l in
    let c : and_then (outcome_of w f left p) (λ v c. outcome_of w f (left - c) (k v)) ≡ and_then (outcome_of w f left q) (λ v c. outcome_of w f (left - c) (k v)) = ap (λ o. and_then o (λ v c. outcome_of w f (left - c) (k v))) (h left small) in
    let d : and_then (outcome_of w f left q) (λ v c. outcome_of w f (left - c) (k v)) ≡ and_then (outcome_of w f left q) (λ v c. outcome_of w f (left - c) (l v)) =
    and_then_same (outcome_of w f left q) (λ v c. outcome_of w f (left - c) (k v)) (λ v c. outcome_of w f (left - c) (l v)) (λ v c. i v (left - c) (omega arith)) in cc

same_refl : {A : Type 0} (w : Place) (f : (q : Query) → ℕ → Outcome (AnswerTo q)) (most : ℕ) (p : Program A) → Same w f most p p
same_refl w f most p left small = refl

same_given : {A : Type 0} (w : Place) (f : (q : Query) → ℕ → Outcome (AnswerTo q)) (most : ℕ) (b : Bool) (r : Rule) (p q : Program A) → Same w f most p q → Same w f most (given b r p) (given b r q)
same_given w f most true r p q h = h
same_given w f most false r p q h = λ left small. refl

-- each answer_to_depth costs at least one step and at most what is left
abbrev pub Costs : ((q : Query) → ℕ → Outcome (AnswerTo q)) → Type 0
Costs f = (q : Query) (b : ℕ) → IfAnswered (f q b) (λ v c t. (1 ≤ c) × (c ≤ b))

and_then_if : {A B : Type 0} (o : Outcome A) (f g : A → ℕ → Outcome B) → IfAnswered o (λ v c t. f v c ≡ g v c) → and_then o f ≡ and_then o g
and_then_if (answered v c t) f g h = ap (after c t) h
and_then_if (refused r) f g h = refl
and_then_if spent f g h = refl

same_walk_on : (w : Place) (f : (q : Query) → ℕ → Outcome (AnswerTo q)) (most : ℕ) (F : Frame) (j : ℕ) (A : Tree) (x y : ℕ → Tree → Program FieldKind) →
    ((i : ℕ) (e : Tree) → Same w f most (x i e) (y i e)) → Same w f most (walk_on x F j A) (walk_on y F j A)
same_walk_on w f most F j (pi D E) x y h = go (mentions F.names D)
  where
    go : (b : Bool) → Same w f most (if b then refuse NotPositive else (x (suc j) (opened E (local j D)) >>= λ k. done (under (local j D) k)))
        (if b then refuse NotPositive else (y (suc j) (opened E (local j D)) >>= λ k. done (under (local j D) k)))
    go true = λ left small. refl
    go false = same_bind w f most (x (suc j) (opened E (local j D))) (y (suc j) (opened E (local j D))) (λ k. done (under (local j D) k)) (λ k. done (under (local j D) k)) (h (suc j) (opened E (local j D))) (λ k. same_refl w f most (done (under (local j D) k)))
same_walk_on w f most F j A x y h = λ left small. refl

same_if : {A : Type 0} (w : Place) (f : (q : Query) → ℕ → Outcome (AnswerTo q)) (most : ℕ) (b : Bool) (p p' q q' : Program A) → Same w f most p p' → Same w f most q q' → Same w f most (if b then p else q) (if b then p' else q')
same_if w f most true p p' q q' h i = h
same_if w f most false p p' q q' h i = i

pub same_walk : (w : Place) (f : (q : Query) → ℕ → Outcome (AnswerTo q)) → Costs f → (most m n : ℕ) → most < m → most < n → (F : Frame) (j : ℕ) (A : Tree) → Same w f most (walk m F j A) (walk n F j A)
same_walk w f cost most zero n lm ln F j A = absurd (omega arith)
same_walk w f cost most (suc m) zero lm ln F j A = absurd (omega arith)
same_walk w f cost most (suc m) (suc n) lm ln F j A = λ left small.
    and_then_if (f (whnf A) left) (λ v c. outcome_of w f (left - c) (if mentions F.names v then walk_on (walk m F) F j v else done plain)) (λ v c. outcome_of w f (left - c) (if mentions F.names v then walk_on (walk n F) F j v else done plain))
    (if_map (λ v c t. (1 ≤ c) × (c ≤ left)) _ (f (whnf A) left)
    (λ v c t h. same_if w f (left - c) (mentions F.names v) (walk_on (walk m F) F j v) (walk_on (walk n F) F j v) (done plain) (done plain)
    (same_walk_on w f (left - c) F j v (walk m F) (walk n F) (λ i e. same_walk w f cost (left - c) m n (omega (arith, h.0, h.1)) (omega (arith, h.0, h.1)) F i e))
    (same_refl w f (left - c) (done plain)) (left - c) (omega arith))
    (cost (whnf A) left))

same_fields : (w : Place) (f : (q : Query) → ℕ → Outcome (AnswerTo q)) → Costs f → (most m n : ℕ) → most < m → most < n → (F : Frame) (j k : ℕ) (r : Tree) → Same w f most (fields_steps m F j k r) (fields_steps n F j k r)
same_fields w f cost most m n lm ln F j zero r = λ left small. refl
same_fields w f cost most m n lm ln F j (suc k) r =
    same_bind w f most (asked (whnf r)) (asked (whnf r)) _ _ (same_refl w f most (asked (whnf r)))
    (λ R. same_bind w f most (as_pi BlockShape R) (as_pi BlockShape R) _ _ (same_refl w f most (as_pi BlockShape R))
    (λ p. same_bind w f most (fits_in F.sort p.0) (fits_in F.sort p.0) _ _ (same_refl w f most (fits_in F.sort p.0))
    (λ a. same_bind w f most (given a FieldUniverse (walk m F (suc j) p.0)) (given a FieldUniverse (walk n F (suc j) p.0)) _ _
    (same_given w f most a FieldUniverse (walk m F (suc j) p.0) (walk n F (suc j) p.0) (same_walk w f cost most m n lm ln F (suc j) p.0))
    (λ x. same_bind w f most (fields_steps m F (suc j) k (opened p.1 (local j p.0))) (fields_steps n F (suc j) k (opened p.1 (local j p.0))) _ _
    (same_fields w f cost most m n lm ln F (suc j) k (opened p.1 (local j p.0)))
    (λ fs left small. refl)))))

same_ctor : (w : Place) (f : (q : Query) → ℕ → Outcome (AnswerTo q)) → Costs f → (most m n : ℕ) → most < m → most < n → (F : Frame) (T : Name) (c : Ctor) → Same w f most (ctor_steps m F T c) (ctor_steps n F T c)
same_ctor w f cost most m n lm ln F T c =
    same_bind w f most (over F.params c.type) (over F.params c.type) _ _ (same_refl w f most (over F.params c.type))
    (λ r. same_bind w f most (fields_steps m F (length F.params) c.fields r) (fields_steps n F (length F.params) c.fields r) _ _ (same_fields w f cost most m n lm ln F (length F.params) c.fields r)
    (λ fs left small. refl))

same_ctors : (w : Place) (f : (q : Query) → ℕ → Outcome (AnswerTo q)) → Costs f → (most m n : ℕ) → most < m → most < n → (F : Frame) (T : Name) (cs : List Ctor) → Same w f most (ctors_steps m F T cs) (ctors_steps n F T cs)
same_ctors w f cost most m n lm ln F T [] = λ left small. refl
same_ctors w f cost most m n lm ln F T (c ∷ cs) =
    same_bind w f most (ctor_steps m F T c) (ctor_steps n F T c) _ _ (same_ctor w f cost most m n lm ln F T c)
    (λ s. same_bind w f most (ctors_steps m F T cs) (ctors_steps n F T cs) _ _ (same_ctors w f cost most m n lm ln F T cs) (λ ss left small. refl))

same_shapes : (w : Place) (f : (q : Query) → ℕ → Outcome (AnswerTo q)) → Costs f → (most m n : ℕ) → most < m → most < n → (F : Frame) (ts : List BlockType) (xs : List (List Tree)) → Same w f most (shapes_steps m F ts xs) (shapes_steps n F ts xs)
same_shapes w f cost most m n lm ln F [] xs = λ left small. refl
same_shapes w f cost most m n lm ln F (t ∷ ts) [] = λ left small. refl
same_shapes w f cost most m n lm ln F (t ∷ ts) (x ∷ xs) =
    same_bind w f most (ctors_steps m F t.name t.ctors) (ctors_steps n F t.name t.ctors) _ _ (same_ctors w f cost most m n lm ln F t.name t.ctors)
    (λ c. same_bind w f most (shapes_steps m F ts xs) (shapes_steps n F ts xs) _ _ (same_shapes w f cost most m n lm ln F ts xs) (λ ss left small. refl))

-- the checks of constructors and of large elimination under a budget do not depend on fuel above it
pub same_shape : (w : Place) (f : (q : Query) → ℕ → Outcome (AnswerTo q)) → Costs f → (most m n : ℕ) → most < m → most < n → (b : Block) (v : TypeParts) → Same w f most (shape_steps m b v) (shape_steps n b v)
same_shape w f cost most m n lm ln b v =
    same_bind w f most (shapes_steps m (frame_of b v.params v.sort) b.types v.indices) (shapes_steps n (frame_of b v.params v.sort) b.types v.indices) _ _
    (same_shapes w f cost most m n lm ln (frame_of b v.params v.sort) b.types v.indices) (λ ss left small. refl)

-- plain answers cost at least one step
plain_costs_at : (table : Table) (w : Place) (depth : ℕ) (q : Query) (b : ℕ) → IfAnswered (answer_to_depth table w depth q b) (λ v c t. 1 ≤ c)
unfolding answer_to_depth
plain_costs_at table w zero q b = tt
plain_costs_at table w (suc depth) q zero = tt
plain_costs_at table w (suc depth) q (suc b) = if_after (λ v c t. 1 ≤ c) 1 None (outcome_of w (answer_to_depth table w depth) b (table q)) (any (outcome_of w (answer_to_depth table w depth) b (table q)))
  where
    any : (o : Outcome (AnswerTo q)) → IfAnswered o (λ v d u. 1 ≤ 1 + d)
    any (answered v c t) = omega arith
    any (refused r) = tt
    any spent = tt

pub plain_costs : (table : Table) (w : Place) → Costs (plain_answer table w)
plain_costs table w q b = both (plain_answer table w q b) (plain_costs_at table w b q b) (if_map _ (λ v c t. c ≤ b) (plain_answer table w q b) (λ v c t h. h.paid) (ans_steady table w q b))
  where
    both : (o : Outcome (AnswerTo q)) → IfAnswered o (λ v c t. 1 ≤ c) → IfAnswered o (λ v c t. c ≤ b) → IfAnswered o (λ v c t. (1 ≤ c) × (c ≤ b))
    both (answered v c t) h i = (h, i)
    both (refused r) h i = tt
    both spent h i = tt
