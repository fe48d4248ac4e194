-- There are at most 1,024 auxiliary types, so a number above that is never used up.
use Rattle.std.proofs.Common.{ℕ, zero, suc, ◌≡◌, ◌≤◌, ◌<◌, ◌+◌, ◌-◌, ◌||◌, Bool, true, false, nat_eq, nat_le, List, [], ◌∷◌, ◌++◌, length, Option, Some, None, refl, ap, ◌∙◌, if◌then◌else◌, arith}
use Rattle.std.proofs.lemmas.Bool.Decides.{nat_tests}
use Rattle.lk_tree.specs.Tree.{Name, Level, Tree, var, sort, const, app, lam, pi, let_in, proj, lit, wide, str, local}
use Rattle.lk_tree.specs.Bind.{opened}
use Rattle.lk_tree.specs.Spine.{head, args}
use Rattle.lk_tree.specs.declared.rule.Rule.TheVariants.{UnknownConstant, BlockShape, NestedForm}
use Rattle.lk_rulebook.specs.Place.{Place, Kind, Block, BlockType, Ctor, a_type}
use Rattle.lk_tree.specs.Mentions.{same_name, is_one_of}
use Rattle.lk_questions.specs.Query.{Query, AnswerTo}
use Rattle.lk_questions.specs.Program.{Program, done, refuse, ask, look, ◌>>=◌}
use Rattle.lk_questions.specs.Answer.{Outcome, answered, refused, spent, and_then, IfAnswered, outcome_of}
use Rattle.lk_questions.proofs.Outcomes.{if_and_then, if_found}
use Rattle.lk_inductive.specs.BlockSteps.{mention_none}
use Rattle.lk_inductive.specs.Nested.{Aux, Setting, may_nest, aux_at, has_pis, aux_of, others_of, family_of, other_count, aux_applied, met, replaced, at_kind, at_head, nest, holds_nested, nest_past, held_ctor, own_ctor, own_ctors, own_types, aux_ctors, aux_from, next_aux, aux_types, Larger, enlarge}
use Rattle.lk_inductive.proofs.Always.{Always, always_any, always_bind, always_given, always_if}
use Rattle.lk_inductive.proofs.Fuel.{run_bind, Same, same_bind}

run_always : {A : Type 0} (w : Place) (f : (q : Query) → ℕ → Outcome (AnswerTo q)) (b : ℕ) (p : Program A) (P : A → Type 0) → Always p P → IfAnswered (outcome_of w f b p) (λ v c t. P v)
run_always w f b (done v) P h = h
run_always w f b (refuse r) P h = tt
run_always w f b (ask q k) P h = if_and_then (λ v c t. Unit {0}) (λ v c t. P v) (f q b) (λ v c. outcome_of w f (b - c) (k v)) (any (f q b)) (λ v c t u. run_always w f (b - c) (k v) P (h v))
  where
    any : (o : Outcome (AnswerTo q)) → IfAnswered o (λ v c t. Unit {0})
    any (answered v c t) = tt
    any (refused r) = tt
    any spent = tt
run_always w f b (look r c k) P h = if_found (λ v d t. P v) r (w.means c) (w.origin c) (w.flaw c) (λ e. outcome_of w f b (k e)) (λ e m. run_always w f b (k e) P (h e))

then_if : {A B : Type 0} (o : Outcome A) (P : A → Type 0) (f g : A → ℕ → Outcome B) → IfAnswered o (λ v c t. P v) → ((v : A) (c : ℕ) → P v → f v c ≡ g v c) → and_then o f ≡ and_then o g
then_if (answered v c t) P f g p h = ap (λ x. and_then (answered v c t) (λ u d. x)) (h v c p)
then_if (refused r) P f g p h = refl
then_if spent P f g p h = refl

-- after one program two others, which agree on what it is done with
same_after : {A B : Type 0} (w : Place) (f : (q : Query) → ℕ → Outcome (AnswerTo q)) (most : ℕ) (p : Program A) (P : A → Type 0) (k l : A → Program B) →
    Always p P → ((v : A) → P v → Same w f most (k v) (l v)) → Same w f most (p >>= k) (p >>= l)
same_after w f most p P k l a h left small =
    run_bind w f left p k
    ∙ (then_if (outcome_of w f left p) P (λ v c. outcome_of w f (left - c) (k v)) (λ v c. outcome_of w f (left - c) (l v)) (run_always w f left p P a) (λ v c x. h v x (left - c) (omega arith))
    ∙ restore (run_bind w f left p l))
  where
    restore : {C : Type 0} {x y : C} → x ≡ y → y ≡ x
    restore e = cc

-- more auxiliary types, and not too many
abbrev Grows : {A : Type 0} → List Aux → A × List Aux → Type 0
Grows as_ v = (length as_ ≤ length v.1) × (length v.1 ≤ 1024)

length_append : (xs ys : List Aux) → length (xs ++ ys) ≡ length xs + length ys
length_append [] ys = omega arith
length_append (x ∷ xs) ys = omega (arith, length_append xs ys)

others_count : (s : Setting) (ls : List Level) (bs : List Tree) (J : Name) (us : List BlockType) → Always (others_of s ls bs J us) (λ as_. length as_ ≡ other_count J us)
others_count s ls bs J [] = refl
others_count s ls bs J (u ∷ us) = go (others_count s ls bs J us) (same_name J u.name)
  where
    go : Always (others_of s ls bs J us) (λ as_. length as_ ≡ other_count J us) → (b : Bool) → Always (if b then others_of s ls bs J us else (aux_of s ls bs u.name u >>= λ a. others_of s ls bs J us >>= λ as_. done (a ∷ as_)))
        (λ as_. length as_ ≡ (if b then other_count J us else suc (other_count J us)))
    go r true = r
    go r false = always_bind (aux_of s ls bs u.name u) _ (λ a. Unit {0}) _ (always_any (aux_of s ls bs u.name u))
        (λ a x. always_bind (others_of s ls bs J us) (λ as_. done (a ∷ as_)) (λ as_. length as_ ≡ other_count J us) _ r (λ as_ e. ap suc e))

family_count : (s : Setting) (ls : List Level) (bs : List Tree) (J : Name) (b : Block) (t : BlockType) → Always (family_of s ls bs J b t) (λ as_. length as_ ≡ suc (other_count J b.types))
family_count s ls bs J b t =
    always_bind (aux_of s ls bs J t) _ (λ a. Unit {0}) _ (always_any (aux_of s ls bs J t))
    (λ a x. always_bind (others_of s ls bs J b.types) (λ as_. done (a ∷ as_)) (λ as_. length as_ ≡ other_count J b.types) _ (others_count s ls bs J b.types) (λ as_ e. ap suc e))

met_grows : (s : Setting) (as_ : List Aux) (J : Name) (ls : List Level) (bs : List Tree) (b : Block) (t : BlockType) → length as_ ≤ 1024 → (o : Option ℕ) → Always (met s as_ J ls bs b t o) (Grows as_)
met_grows s as_ J ls bs b t l (Some i) = (omega arith, l)
met_grows s as_ J ls bs b t l None =
    always_given (nat_le (length as_ + suc (other_count J b.types)) 1024) NestedForm (family_of s ls bs J b t >>= λ ms. done (aux_applied s (length as_), as_ ++ ms)) (Grows as_)
    (λ y. always_bind (family_of s ls bs J b t) (λ ms. done (aux_applied s (length as_), as_ ++ ms)) (λ ms. length ms ≡ suc (other_count J b.types)) (Grows as_) (family_count s ls bs J b t)
    (λ ms e.
    let small : length as_ + suc (other_count J b.types) ≤ 1024 = grind (arith, nat_tests, y) in
    let sum : length (as_ ++ ms) ≡ length as_ + length ms = length_append as_ ms in (omega (arith, sum), omega (arith, sum, e, small))))

head_grows : (s : Setting) (as_ : List Aux) (h : Tree) (xs : List Tree) (next : Program (Tree × List Aux)) → length as_ ≤ 1024 → Always next (Grows as_) → Always (at_head s as_ h xs next) (Grows as_)
head_grows s as_ (const J ls) xs next l a =
    always_if (is_one_of s.names J || mention_none s.names xs) next (look UnknownConstant J λ g. at_kind s as_ J ls xs g.kind next) (Grows as_) a (λ g. kind g.kind)
  where
    kind : (k : Kind) → Always (at_kind s as_ J ls xs k next) (Grows as_)
    kind (a_type b t) = always_if (nat_eq (length xs) t.parameters) (replaced s as_ J ls xs b t) next (Grows as_)
        (always_given (may_nest s.params xs) NestedForm (met s as_ J ls xs b t (aux_at 0 as_ J ls xs)) (Grows as_) (λ y. met_grows s as_ J ls xs b t l (aux_at 0 as_ J ls xs))) a
    kind _ = a
head_grows s as_ _ xs next l a = a

two_grow : (s : Setting) (f a : Tree) (as_ : List Aux) (mk : Tree → Tree → Tree) → Always (nest s f as_) (Grows as_) → ((bs : List Aux) → length bs ≤ 1024 → Always (nest s a bs) (Grows bs)) →
    Always (nest s f as_ >>= λ g. nest s a g.1 >>= λ b. done (mk g.0 b.0, b.1)) (Grows as_)
two_grow s f a as_ mk hf ha =
    always_bind (nest s f as_) _ (Grows as_) (Grows as_) hf
    (λ g hg. always_bind (nest s a g.1) (λ b. done (mk g.0 b.0, b.1)) (Grows g.1) (Grows as_) (ha g.1 hg.1) (λ b hb. (omega (arith, hg.0, hb.0), hb.1)))

nest_grows : (s : Setting) (e : Tree) (as_ : List Aux) → length as_ ≤ 1024 → Always (nest s e as_) (Grows as_)
nest_grows s (app f a) as_ l =
    head_grows s as_ (head (app f a)) (args (app f a)) (nest s f as_ >>= λ g. nest s a g.1 >>= λ b. done (app g.0 b.0, b.1)) l (two_grow s f a as_ app (nest_grows s f as_ l) (λ bs m. nest_grows s a bs m))
nest_grows s (lam A b) as_ l = two_grow s A b as_ lam (nest_grows s A as_ l) (λ bs m. nest_grows s b bs m)
nest_grows s (pi A b) as_ l = two_grow s A b as_ pi (nest_grows s A as_ l) (λ bs m. nest_grows s b bs m)
nest_grows s (let_in A v b) as_ l =
    always_bind (nest s A as_) _ (Grows as_) (Grows as_) (nest_grows s A as_ l)
    (λ D hD. always_bind (nest s v D.1) _ (Grows D.1) (Grows as_) (nest_grows s v D.1 hD.1)
    (λ u hu. always_bind (nest s b u.1) (λ c. done (let_in D.0 u.0 c.0, c.1)) (Grows u.1) (Grows as_) (nest_grows s b u.1 hu.1)
    (λ c hc. (omega (arith, hD.0, hu.0, hc.0), hc.1))))
nest_grows s (proj S i e) as_ l = always_bind (nest s e as_) (λ f. done (proj S i f.0, f.1)) (Grows as_) (Grows as_) (nest_grows s e as_ l) (λ f hf. hf)
nest_grows s (const c ls) as_ l = (omega arith, l)
nest_grows s (var i) as_ l = (omega arith, l)
nest_grows s (sort u) as_ l = (omega arith, l)
nest_grows s (lit k) as_ l = (omega arith, l)
nest_grows s wide as_ l = (omega arith, l)
nest_grows s (str k) as_ l = (omega arith, l)
nest_grows s (local k T) as_ l = (omega arith, l)

ctors_grow : (s : Setting) (i : ℕ) (cs : List Ctor) (rs : List Tree) (as_ : List Aux) → length as_ ≤ 1024 → Always (aux_ctors s i cs rs as_) (Grows as_)
ctors_grow s i [] rs as_ l = (omega arith, l)
ctors_grow s i (c ∷ cs) [] as_ l = (omega arith, l)
ctors_grow s i (c ∷ cs) (r ∷ rs) as_ l =
    always_bind (nest s r as_) _ (Grows as_) (Grows as_) (nest_grows s r as_ l)
    (λ e he. always_bind (aux_ctors s i cs rs e.1) _ (Grows e.1) (Grows as_) (ctors_grow s i cs rs e.1 he.1) (λ ds hds. (omega (arith, he.0, hds.0), hds.1)))

below_length : (as_ : List Aux) (i : ℕ) (a : Aux) → aux_from as_ i ≡ Some a → i < length as_
below_length [] i a e = absurd cc
below_length (x ∷ as_) zero a e = omega arith
below_length (x ∷ as_) (suc i) a e = omega (arith, below_length as_ i a e)

-- any two numbers that reach above 1,024 give one outcome
pub same_auxs : (w : Place) (f : (q : Query) → ℕ → Outcome (AnswerTo q)) (most : ℕ) (s : Setting) (m n i : ℕ) (as_ : List Aux) → i ≤ length as_ → length as_ ≤ 1024 → 1025 ≤ m + i → 1025 ≤ n + i →
    Same w f most (aux_types m s i as_) (aux_types n s i as_)
same_auxs w f most s zero n i as_ l b x y = absurd (omega arith)
same_auxs w f most s (suc m) zero i as_ l b x y = absurd (omega arith)
same_auxs w f most s (suc m) (suc n) i as_ l b x y =
    go (λ bs h k j. same_auxs w f most s m n (suc i) bs (omega (arith, h, j)) k (omega arith) (omega arith)) (aux_from as_ i) refl
  where
    go : ((bs : List Aux) → length as_ ≤ length bs → length bs ≤ 1024 → i < length as_ → Same w f most (aux_types m s (suc i) bs) (aux_types n s (suc i) bs)) →
        (o : Option Aux) → aux_from as_ i ≡ o → Same w f most (next_aux (aux_types m s) s i as_ o) (next_aux (aux_types n s) s i as_ o)
    go rest None e = λ left small. refl
    go rest (Some a) e =
        same_after w f most (aux_ctors s i a.own.ctors a.ctors as_) (λ v. (length as_ ≤ length v.1) × (length v.1 ≤ 1024)) _ _ (ctors_grow s i a.own.ctors a.ctors as_ b)
        (λ cs h. same_bind w f most (aux_types m s (suc i) cs.1) (aux_types n s (suc i) cs.1) _ _ (rest cs.1 h.0 h.1 (below_length as_ i a e)) (λ ts left small. refl))

past_grows : (s : Setting) (ps : List Tree) (e : Tree) (as_ : List Aux) → length as_ ≤ 1024 → Always (nest_past s ps e as_) (Grows as_)
past_grows s [] e as_ l = nest_grows s e as_ l
past_grows s (P ∷ ps) (pi A B) as_ l = always_bind (nest_past s ps (opened B P) as_) _ (Grows as_) (Grows as_) (past_grows s ps (opened B P) as_ l) (λ e h. h)
past_grows s (P ∷ ps) _ as_ l = tt

held_grows : (s : Setting) (c : Ctor) (as_ : List Aux) → length as_ ≤ 1024 → (h : Bool) → Always (held_ctor s c as_ h) (Grows as_)
held_grows s c as_ l false = (omega arith, l)
held_grows s c as_ l true =
    always_given (has_pis (length s.params) c.type) BlockShape (nest_past s s.params c.type as_ >>= λ e. done (record c { type = e.0 }, e.1)) (Grows as_)
    (λ y. always_bind (nest_past s s.params c.type as_) (λ e. done (record c { type = e.0 }, e.1)) (Grows as_) (Grows as_) (past_grows s s.params c.type as_ l) (λ e h. h))

own_ctors_grow : (s : Setting) (cs : List Ctor) (as_ : List Aux) → length as_ ≤ 1024 → Always (own_ctors s cs as_) (Grows as_)
own_ctors_grow s [] as_ l = (omega arith, l)
own_ctors_grow s (c ∷ cs) as_ l =
    always_bind (own_ctor s c as_) _ (Grows as_) (Grows as_)
    (always_bind (holds_nested s.names c.type) (λ h. held_ctor s c as_ h) (λ h. Unit {0}) (Grows as_) (always_any (holds_nested s.names c.type)) (λ h x. held_grows s c as_ l h))
    (λ d hd. always_bind (own_ctors s cs d.1) (λ ds. done (d.0 ∷ ds.0, ds.1)) (Grows d.1) (Grows as_) (own_ctors_grow s cs d.1 hd.1) (λ ds h. (omega (arith, hd.0, h.0), h.1)))

own_types_grow : (s : Setting) (ts : List BlockType) (as_ : List Aux) → length as_ ≤ 1024 → Always (own_types s ts as_) (Grows as_)
own_types_grow s [] as_ l = (omega arith, l)
own_types_grow s (t ∷ ts) as_ l =
    always_bind (own_ctors s t.ctors as_) _ (Grows as_) (Grows as_) (own_ctors_grow s t.ctors as_ l)
    (λ cs hc. always_bind (own_types s ts cs.1) (λ us. done (record t { ctors = cs.0 } ∷ us.0, us.1)) (Grows cs.1) (Grows as_) (own_types_grow s ts cs.1 hc.1) (λ us h. (omega (arith, hc.0, h.0), h.1)))

abbrev pub enlarge_by : ℕ → Setting → List BlockType → Program Larger
enlarge_by n s ts = own_types s ts [] >>= λ own. aux_types n s 0 own.1 >>= λ aux. done (record { own = own.0; aux = aux.0; auxs = aux.1 })

-- what is asked of nested occurrences under a budget does not depend on a number above 1,024
pub same_enlarge : (w : Place) (f : (q : Query) → ℕ → Outcome (AnswerTo q)) (most n : ℕ) (s : Setting) (ts : List BlockType) → 1025 ≤ n → Same w f most (enlarge s ts) (enlarge_by n s ts)
same_enlarge w f most n s ts h =
    same_after w f most (own_types s ts []) (Grows []) _ _ (own_types_grow s ts [] (omega arith))
    (λ own g. same_bind w f most (aux_types 1025 s 0 own.1) (aux_types n s 0 own.1) _ _ (same_auxs w f most s 1025 n 0 own.1 (omega arith) g.1 (omega arith) (omega arith)) (λ aux left small. refl))
