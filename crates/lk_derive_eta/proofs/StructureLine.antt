-- A tree, and a structure's constructor with all its arguments.
use Rattle.std.proofs.Common.{ℕ, suc, ◌≡◌, ◌+◌, ◌≤◌, Bool, true, false, ◌&&◌, nat_eq, List, [], ◌∷◌, ◌++◌, length, take, drop, Option, Some, None, refl, sym, ◌∙◌, ap, subst, if◌then◌else◌, arith, take-append-drop, length-drop}
use Rattle.lk_tree.specs.Tree.{Name, Level, Tree, const, proj}
use Rattle.lk_tree.specs.Spine.{apply, head, args, IsHeadNormal}
use Rattle.lk_tree.specs.WellFormed.{IsWellFormed, AllWellFormed}
use Rattle.lk_tree.proofs.Spines.{well_formed_of_apply}
use Rattle.lk_tree.proofs.Lists.{fine_drop, length_taken}
use Rattle.lk_tree.proofs.Within.{apply_head_args}
use Rattle.lk_rulebook.specs.Place.{Place, Entry, Kind, a_ctor}
use Rattle.lk_rulebook.specs.Structures.{StructureAt, structure_value, is_structure_like}
use Rattle.lk_rulebook.specs.Claims.{Claim, types, equals}
use Rattle.lk_claims.proofs.Facts.{the_ctor, listed_of}
use Rattle.lk_claims.proofs.Pieces.{Some_inj, halves, equal_numbers}
use Rattle.lk_questions.specs.Query.{Query, infer, same}
use Rattle.lk_questions.specs.Program.{done, ask, ◌>>=◌}
use Rattle.lk_questions.specs.Iota.{CtorApp, ctor_app_by, ctor_app_of, has_one_ctor}
use Rattle.lk_questions.specs.Pairs.{Line, yes_alone, answers_yes, goes_on}
use Rattle.lk_questions.specs.Eta.{same_fields, eta_struct, by_structure_eta}
use Rattle.lk_constructor.specs.Looking.{app_at}
use Rattle.lk_eta.specs.declared.sheet.Way.{Way}
use Rattle.lk_eta.specs.declared.sheet.Way.TheVariants.{Given, Turned}
use Rattle.lk_eta.specs.Structures.{is_full}
use Rattle.lk_step.specs.Steps.{claim_of, premises_of, StepHolds}
use Rattle.lk_step.specs.Equal.{field_claims, struct_claims}
use Rattle.lk_step.specs.Rows.{IsAnswered, AreClaims, no_claim, a_claim}
use Rattle.lk_step.specs.Runs.{Runs, RunsOn}
use Rattle.lk_step.specs.Told.{IsAnsweredWithin, IsType, IsSame}
use Rattle.lk_step.specs.Tests.{IsRun, AreReduced}
use Rattle.lk_step.specs.Tells.{IsBasis}
use Rattle.lk_step.proofs.Runs.{runs_on}
use Rattle.lk_step.proofs.EqualitySteps.{equality_steps}
use Rattle.lk_step.proofs.Shapes.{shaped_answer}
use Rattle.lk_step.proofs.Following.{Followed, follow, asks_within, run_on, run_first, run_followed}
use Rattle.lk_step.proofs.Bases.{one_step}
use Rattle.lk_derive_eta.specs.Structures.{claim_by, step_by, IsFull}

-- h is the constructor k, applied to xs
record IsBuilt (w : Place) (h : Tree) (xs : List Tree) (k : CtorApp) : Type 0 where
  head_is : h ≡ const k.name k.levels
  args_are : k.args ≡ xs
  given : w.means k.name ≡ Some k.entry
  kind : k.entry.kind ≡ a_ctor k.block k.ind k.ctor

built_by : (w : Place) (c : Name) (ks : List Level) (xs : List Tree) (g : Entry) → w.means c ≡ Some g → (kind : Kind) → g.kind ≡ kind → (k : CtorApp) → ctor_app_by c ks xs g kind ≡ Some k → IsBuilt w (const c ks) xs k
built_by w c ks xs g m (a_ctor b i t) e k h = subst (λ z. IsBuilt w (const c ks) xs z) (Some_inj h) (record { head_is = refl; args_are = refl; given = m; kind = e })
built_by w c ks xs g m _ e k h = absurd cc

-- what a name means, as a constructor
abbrev meant_by : Name → List Level → List Tree → Option Entry → Option CtorApp
meant_by c ks xs o = elim o [ Some g ↦ ctor_app_by c ks xs g g.kind | None ↦ None ]

built_at : (w : Place) (h : Tree) (xs : List Tree) (k : CtorApp) → app_at w h xs ≡ Some k → IsBuilt w h xs k
built_at w (const c ks) xs k e = go (w.means c) refl e
  where
    go : (o : Option Entry) → w.means c ≡ o → meant_by c ks xs o ≡ Some k → IsBuilt w (const c ks) xs k
    go (Some g) m i = built_by w c ks xs g m g.kind refl k i
    go None m i = absurd cc
built_at w _ xs k e = absurd cc

at_ctor : (w : Place) (a b h : Tree) (xs : List Tree) (v : Option Bool) (n : ℕ) (o : Option CtorApp) → app_at w h xs ≡ o → Runs w (ctor_app_of h xs >>= λ k. eta_struct a b k) v n → Runs w (eta_struct a b o) v n
at_ctor w a b (const c ks) xs v n o e r =
    let here : ctor_app_by c ks xs r.0 r.0.kind ≡ o = subst (λ m. meant_by c ks xs m ≡ o) r.1 e in
    subst (λ z. Runs w (eta_struct a b z) v n) here r.2
at_ctor w a b _ xs v n o e r = subst (λ z. Runs w (eta_struct a b z) v n) e r

-- the head is no constructor
pub struct_none : (w : Place) (a b : Tree) → app_at w (head b) (args b) ≡ None → (v : Option Bool) (n : ℕ) → Runs w (by_structure_eta a b) v n → v ≡ None
struct_none w a b e v n h = let r : Runs w goes_on v n = at_ctor w a b (head b) (args b) v n None e h in sym r.0

-- the test, by the name of the structure and the fields
abbrev then_fields : Name → Tree → List Tree → Bool → Line
then_fields J a xs e = if e then answers_yes (same_fields J a 0 xs) else goes_on

abbrev same_line : Name → Tree → List Tree → Tree → Tree → Line
same_line J a xs A B = ask (same A B) (λ e. then_fields J a xs e)

abbrev right_line : Name → Tree → Tree → List Tree → Tree → Line
right_line J a b xs A = ask (infer b) (λ B. same_line J a xs A B)

abbrev whole_line : Name → Tree → Tree → List Tree → Line
whole_line J a b xs = ask (infer a) (λ A. right_line J a b xs A)

abbrev if_full : Name → Tree → Tree → List Tree → Bool → Line
if_full J a b xs z = if z then whole_line J a b xs else goes_on

at_full : (w : Place) (a b : Tree) (k : CtorApp) → app_at w (head b) (args b) ≡ Some k → (v : Option Bool) (n : ℕ) → Runs w (by_structure_eta a b) v n →
    Runs w (if_full k.ind.name a b (drop k.ctor.parameters (args b)) (is_full (a_ctor k.block k.ind k.ctor) (args b))) v n
at_full w a b k e v n h =
    let built : IsBuilt w (head b) (args b) k = built_at w (head b) (args b) k e in
    let r : Runs w (eta_struct a b (Some k)) v n = at_ctor w a b (head b) (args b) v n (Some k) e h in
    subst (λ xs. Runs w (if_full k.ind.name a b (drop k.ctor.parameters xs) (is_full (a_ctor k.block k.ind k.ctor) xs)) v n) built.args_are r

-- it has too few arguments or too many, or its type is no structure
pub struct_other : (w : Place) (a b : Tree) (k : CtorApp) → app_at w (head b) (args b) ≡ Some k → is_full (a_ctor k.block k.ind k.ctor) (args b) ≡ false → (v : Option Bool) (n : ℕ) → Runs w (by_structure_eta a b) v n → v ≡ None
struct_other w a b k e other v n h =
    let r : Runs w goes_on v n = subst (λ z. Runs w (if_full k.ind.name a b (drop k.ctor.parameters (args b)) z) v n) other (at_full w a b k e v n h) in
    sym r.0

-- the fields of b
abbrev pub fields_of : CtorApp → Tree → List Tree
fields_of k b = drop k.ctor.parameters (args b)

-- what is asked of the fields
abbrev pub field_asks : Name → Tree → ℕ → List Tree → List Query
field_asks J a j [] = []
field_asks J a j (x ∷ xs) = same (proj J j a) x ∷ field_asks J a (suc j) xs

record EachClaimed (w : Place) (J : Name) (a : Tree) (j : ℕ) (xs : List Tree) (n : ℕ) : Type 0 where
  spent : ℕ
  asked : AreClaims w (field_asks J a j xs) (field_claims J a j xs) spent
  within : spent ≤ n

each_claimed : (w : Place) (J : Name) (a : Tree) (j : ℕ) (xs : List Tree) (n : ℕ) → IsWellFormed a → AllWellFormed xs → Runs w (same_fields J a j xs) true n → EachClaimed w J a j xs n
each_claimed w J a j [] n fa fx h = record { spent = 0; asked = no_claim; within = omega arith }
each_claimed w J a j (x ∷ xs) n fa fx h = go h.0 h.1 h.2 h.3 h.4 h.5 (each_claimed w J a (suc j) xs h.2 fa fx.1)
  where
    go : (u : Bool) (c m : ℕ) → IsAnswered w (same (proj J j a) x) u c → Runs w (if u then same_fields J a (suc j) xs else done false) true m → n ≡ c + m → (Runs w (same_fields J a (suc j) xs) true m → EachClaimed w J a (suc j) xs m) → EachClaimed w J a j (x ∷ xs) n
    go true c m r run paid more =
        let k : EachClaimed w J a (suc j) xs m = more run in
        let within : k.spent ≤ m = k.within in
        record { spent = c + k.spent; asked = a_claim (same (proj J j a) x) true c (fa, fx.0) r refl k.asked; within = omega (arith, paid, within) }
    go false c m r run paid more = absurd (let e : false ≡ true = run.0 in cc)

-- b at this structure
record IsValue (w : Place) (b : Tree) (k : CtorApp) : Type 0 where
  at : StructureAt w
  name_is : at.structure.ind.name ≡ k.ind.name
  count : length (fields_of k b) ≡ at.structure.ctor.fields
  is : b ≡ structure_value at (fields_of k b)

value_of : (w : Place) (a b : Tree) (k : CtorApp) → IsFull w b k → AreReduced w a b → IsValue w b k
value_of w a b k f r =
    let built : IsBuilt w (head b) (args b) k = built_at w (head b) (args b) k f.is in
    let p : ℕ = k.ctor.parameters in
    let xs : List Tree = args b in
    let tests : (nat_eq (length xs) (p + k.ctor.fields) ≡ true) × ((has_one_ctor k.ind.ctors && is_structure_like k.block k.ind k.ctor) ≡ true) =
    halves (nat_eq (length xs) (p + k.ctor.fields)) (has_one_ctor k.ind.ctors && is_structure_like k.block k.ind k.ctor) f.full in
    let more : (has_one_ctor k.ind.ctors ≡ true) × (is_structure_like k.block k.ind k.ctor ≡ true) = halves (has_one_ctor k.ind.ctors) (is_structure_like k.block k.ind k.ctor) tests.1 in
    let count : length xs ≡ p + k.ctor.fields = equal_numbers (length xs) (p + k.ctor.fields) tests.0 in
    let taken : length (take p xs) ≡ p = length_taken p xs (omega (arith, count)) in
    let left : length (drop p xs) ≡ k.ctor.fields = length-drop p xs ∙ omega (arith, count) in
    let parts : take p xs ++ drop p xs ≡ xs = take-append-drop p xs in
    let whole : b ≡ apply (const k.name k.levels) xs = sym (apply_head_args b) ∙ ap (λ h. apply h xs) built.head_is in
    record {
      at = record {
        structure = record {
          ctor_name = k.name;
          block = k.block;
          ind = k.ind;
          ctor = k.ctor;
          one_ctor = the_ctor k.ctor k.ind.ctors more.0 (listed_of k.entry k.block k.ind k.ctor built.kind (r.stated k.name k.entry built.given).1);
          like = more.1;
          entry = k.entry;
          given = built.given;
          kind = built.kind;
        };
        levels = k.levels;
        params = take p xs;
        params_are = taken;
      };
      name_is = refl;
      count = left;
      is = whole ∙ ap (λ ys. apply (const k.name k.levels) ys) (sym parts);
    }

claim_is : (way : Way) (a b : Tree) (cs : List Claim) → claim_of (step_by way a b cs) ≡ claim_by way a b
claim_is Given a b cs = refl
claim_is Turned a b cs = refl

premises_are : (way : Way) (a b : Tree) (cs : List Claim) → premises_of (step_by way a b cs) ≡ cs
premises_are Given a b cs = refl
premises_are Turned a b cs = refl

struct_step : (w : Place) (way : Way) (S : StructureAt w) (xs : List Tree) (a b A B : Tree) → b ≡ structure_value S xs → IsHeadNormal a → length xs ≡ S.structure.ctor.fields → IsWellFormed a → IsWellFormed b →
    StepHolds w (step_by way a b (struct_claims a b A B (field_claims S.structure.ind.name a 0 xs)))
struct_step w Given S xs a b A B e na count fa fb = subst (λ z. StepHolds w (step_by Given a z (struct_claims a z A B (field_claims S.structure.ind.name a 0 xs)))) (sym e) ((equality_steps w).struct_left S xs a A B na count fa (subst IsWellFormed e fb))
struct_step w Turned S xs a b A B e na count fa fb = subst (λ z. StepHolds w (step_by Turned a z (struct_claims a z A B (field_claims S.structure.ind.name a 0 xs)))) (sym e) ((equality_steps w).struct_right S xs a A B na count fa (subst IsWellFormed e fb))

-- the claim rests on a step by what is asked
stated_by : (w : Place) (way : Way) (a b : Tree) (asks : List Query) (cs : List Claim) (spent most : ℕ) → AreClaims w asks cs spent → spent ≤ most → StepHolds w (step_by way a b cs) → IsBasis w (claim_by way a b) most asks (step_by way a b cs ∷ [])
stated_by w way a b asks cs spent most asked within holds =
    subst (λ z. IsBasis w z most asks (step_by way a b cs ∷ [])) (claim_is way a b cs)
    (one_step w (step_by way a b cs) asks cs spent most asked within holds (premises_are way a b cs))

module _ (w : Place) (a b : Tree) (k : CtorApp) (f : IsFull w b k) where
  at_whole : (v : Option Bool) (n : ℕ) → Runs w (by_structure_eta a b) v n → Runs w (whole_line k.ind.name a b (fields_of k b)) v n
  at_whole v n h = subst (λ z. Runs w (if_full k.ind.name a b (fields_of k b) z) v n) f.full (at_full w a b k f.is v n h)

  whole_run : (most : ℕ) → IsRun w (by_structure_eta a b) most → IsRun w (whole_line k.ind.name a b (fields_of k b)) most
  whole_run most r = record { value = r.value; cost = r.cost; runs = at_whole r.value r.cost r.runs; within = r.within }

  pub struct_type : (most : ℕ) → IsRun w (by_structure_eta a b) most → IsAnsweredWithin w (infer a) most
  struct_type most r = asks_within w (infer a) (λ A. right_line k.ind.name a b (fields_of k b) A) most (whole_run most r)

  module _ (A : Tree) (t : IsType w a A) where
    right_run : (most : ℕ) → IsRun w (by_structure_eta a b) most → IsRun w (right_line k.ind.name a b (fields_of k b) A) most
    right_run most r = run_on w (infer a) (λ A. right_line k.ind.name a b (fields_of k b) A) most A t.cost (whole_run most r) t.answered

    pub struct_right : (most : ℕ) → IsRun w (by_structure_eta a b) most → IsAnsweredWithin w (infer b) most
    struct_right most r = asks_within w (infer b) (λ B. same_line k.ind.name a (fields_of k b) A B) most (right_run most r)

    module _ (B : Tree) (u : IsType w b B) where
      pub struct_same : (most : ℕ) → IsRun w (by_structure_eta a b) most → IsAnsweredWithin w (same A B) most
      struct_same most r =
          asks_within w (same A B) (λ e. then_fields k.ind.name a (fields_of k b) e) most
          (run_on w (infer b) (λ B. same_line k.ind.name a (fields_of k b) A B) most B u.cost (right_run most r) u.answered)

      at_then : (y : Bool) (s : IsSame w A B y) (v : Option Bool) (n : ℕ) → Runs w (by_structure_eta a b) v n → Followed w (then_fields k.ind.name a (fields_of k b) y) v n (t.cost + (u.cost + s.cost))
      at_then y s v n h =
          let one : Followed w (right_line k.ind.name a b (fields_of k b) A) v n t.cost = follow w (infer a) (λ A. right_line k.ind.name a b (fields_of k b) A) v n A t.cost (at_whole v n h) t.answered in
          let two : Followed w (same_line k.ind.name a (fields_of k b) A B) v one.left u.cost = follow w (infer b) (λ B. same_line k.ind.name a (fields_of k b) A B) v one.left B u.cost one.runs u.answered in
          let three : Followed w (then_fields k.ind.name a (fields_of k b) y) v two.left s.cost = follow w (same A B) (λ e. then_fields k.ind.name a (fields_of k b) e) v two.left y s.cost two.runs s.answered in
          let first : n ≡ t.cost + one.left = one.paid in
          let second : one.left ≡ u.cost + two.left = two.paid in
          let third : two.left ≡ s.cost + three.left = three.paid in
          record { left = three.left; runs = three.runs; paid = omega (arith, first, second, third) }

      pub types_differ : IsSame w A B false → (v : Option Bool) (n : ℕ) → Runs w (by_structure_eta a b) v n → v ≡ None
      types_differ s v n h = sym (at_then false s v n h).runs.0

      module _ (s : IsSame w A B true) where
        fields_on : (v : Option Bool) (n : ℕ) → Runs w (by_structure_eta a b) v n → Followed w (answers_yes (same_fields k.ind.name a 0 (fields_of k b))) v n (t.cost + (u.cost + s.cost))
        fields_on v n h = at_then true s v n h

        pub fields_run : (most : ℕ) → IsRun w (by_structure_eta a b) most → IsRun w (same_fields k.ind.name a 0 (fields_of k b)) most
        fields_run most r = run_first w (same_fields k.ind.name a 0 (fields_of k b)) (λ y. done (yes_alone y)) most (run_followed r (fields_on r.value r.cost r.runs))

        pub fields_differ : ((y : Bool) (m : ℕ) → Runs w (same_fields k.ind.name a 0 (fields_of k b)) y m → y ≡ false) → (v : Option Bool) (n : ℕ) → Runs w (by_structure_eta a b) v n → v ≡ None
        fields_differ none v n h =
            let g = fields_on v n h in
            let on : RunsOn w (same_fields k.ind.name a 0 (fields_of k b)) (λ y. done (yes_alone y)) v g.left = runs_on w (same_fields k.ind.name a 0 (fields_of k b)) (λ y. done (yes_alone y)) v g.left g.runs in
            let value : on.value ≡ false = none on.value on.first on.runs in
            sym (subst (λ y. yes_alone y ≡ v) value on.then_runs.0)

        pub struct_basis : (way : Way) → AreReduced w a b → ((y : Bool) (m : ℕ) → Runs w (same_fields k.ind.name a 0 (fields_of k b)) y m → y ≡ true) → (v : Option Bool) (n : ℕ) → Runs w (by_structure_eta a b) v n →
            IsBasis w (claim_by way a b) n (infer a ∷ infer b ∷ same A B ∷ field_asks k.ind.name a 0 (fields_of k b))
            (step_by way a b (types a A ∷ types b B ∷ equals A B ∷ field_claims k.ind.name a 0 (fields_of k b)) ∷ [])
        struct_basis way p every v n h =
            let g = fields_on v n h in
            let on : RunsOn w (same_fields k.ind.name a 0 (fields_of k b)) (λ y. done (yes_alone y)) v g.left = runs_on w (same_fields k.ind.name a 0 (fields_of k b)) (λ y. done (yes_alone y)) v g.left g.runs in
            let run : Runs w (same_fields k.ind.name a 0 (fields_of k b)) true on.first = subst (λ y. Runs w (same_fields k.ind.name a 0 (fields_of k b)) y on.first) (every on.value on.first on.runs) on.runs in
            let ff : IsWellFormed (apply (head b) (args b)) = subst IsWellFormed (sym (apply_head_args b)) p.right in
            let fx : AllWellFormed (fields_of k b) = fine_drop k.ctor.parameters (args b) (well_formed_of_apply (head b) (args b) ff).1 in
            let claimed : EachClaimed w k.ind.name a 0 (fields_of k b) on.first = each_claimed w k.ind.name a 0 (fields_of k b) on.first p.left fx run in
            let fA = (shaped_answer w p.stated (infer a) A t.cost p.left t.answered).0.1 in
            let fB = (shaped_answer w p.stated (infer b) B u.cost p.right u.answered).0.1 in
            let value : IsValue w b k = value_of w a b k f p in
            let first : n ≡ (t.cost + (u.cost + s.cost)) + g.left = g.paid in
            let second : g.left ≡ on.first + on.second = on.paid in
            let third : claimed.spent ≤ on.first = claimed.within in
            stated_by w way a b (infer a ∷ infer b ∷ same A B ∷ field_asks k.ind.name a 0 (fields_of k b)) (types a A ∷ types b B ∷ equals A B ∷ field_claims k.ind.name a 0 (fields_of k b))
            (t.cost + (u.cost + (s.cost + claimed.spent))) n
            (a_claim (infer a) A t.cost p.left t.answered tt
            (a_claim (infer b) B u.cost p.right u.answered tt
            (a_claim (same A B) true s.cost (fA, fB) s.answered refl claimed.asked)))
            (omega (arith, first, second, third))
            (subst (λ J. StepHolds w (step_by way a b (struct_claims a b A B (field_claims J a 0 (fields_of k b))))) value.name_is
            (struct_step w way value.at (fields_of k b) a b A B value.is p.left_normal value.count p.left p.right))
