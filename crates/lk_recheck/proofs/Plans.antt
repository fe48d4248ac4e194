-- Verdicts that are kept, and verdicts that are put at their numbers.
use Rattle.std.proofs.Common.{◌≡◌, ℕ, zero, suc, ◌+◌, ◌<◌, ◌^◌, ◌⊎◌, inl, inr, Bool, true, false, List, [], ◌∷◌, ◌++◌, length, Some, Ok, Err, refl, ap, sym, subst, ◌∙◌, arith}
use Rattle.std.specs.Prelude.{All, slice_get, slice_set, slice_index}
use Rattle.std.specs.List.{Contains}
use Rattle.std.specs.List.Sorted.{IsStrictlyIncreasing}
use Rattle.std.proofs.lemmas.Bool.{cases_eq}
use Rattle.std.proofs.lemmas.List.{length_push, length-set, get_or_append_left}
use Rattle.std.proofs.lemmas.List.Elements.{All-weaker, Contains-get_or, Contains-append_left, Contains-push, Contains-push_cases, All-contains_itself}
use Rattle.std.proofs.lemmas.List.Kept.{AllPairs-from_increasing}
use Rattle.std.proofs.lemmas.Option.{slice_get_within, slice_get-get_or, get_or_from_slice_get}
use Rattle.lk_rulebook.specs.Units.{Library}
use Rattle.lk_rulebook.specs.Spelled.{library_spelled}
use Rattle.lk_uses.specs.Closure.{IsUnchanged, own_unit}
use Rattle.lk_verdict.specs.Told.{Verdict, told, accepted, rejected, out_of_steps, out_of_memory, IsPlainVerdict}
use Rattle.lk_verdict.specs.Checked.{Answer, AreChecked}
use Rattle.lk_recheck.specs.Stale.{MarksStale}
use Rattle.lk_recheck.specs.Rounds.{ArePlain, IsCounted, KeepVerdicts, GivesVerdicts, AreHandedOn}
use Rattle.lk_recheck.specs.Plans.{kept_verdict, IsUnitMore, IsPlanTo, IsPlan, IsAnswer, ArePut, ArePutTo, IsPut, IsAnswered, KeepOthers}
use Rattle.lk_recheck.proofs.Chained.{get_back, get_last}
use Rattle.lk_recheck.proofs.Undecided.{same_verdict}

-- a number above all of a rising list
rises_on : (ks : List ℕ) (n : ℕ) → IsStrictlyIncreasing ks → ((k : ℕ) → Contains ks k → k < n) → IsStrictlyIncreasing (ks ++ n ∷ [])
rises_on ks n h below k l = go (cases_eq (k + 1) (length ks))
  where
    count : length (ks ++ n ∷ []) ≡ length ks + 1
    count = length_push ks n

    here : k < length ks
    here = omega (arith, l, count)

    first : slice_index (ks ++ n ∷ []) k ≡ slice_index ks k
    first = get_or_append_left ks (n ∷ []) 0 k here

    go : (k + 1 ≡ length ks) ⊎ (k + 1 ≡ length ks → ⊥) → slice_index (ks ++ n ∷ []) k < slice_index (ks ++ n ∷ []) (k + 1)
    go (inl e) =
        let low = below (slice_index ks k) (Contains-get_or ks k 0 here) in
        let last = get_or_from_slice_get (ks ++ n ∷ []) (k + 1) n 0 (get_last ks n (k + 1) e) in
        omega (arith, low, first, last)
    go (inr f) =
        let more : k + 1 < length ks = omega (arith, here, f) in
        let next = get_or_append_left ks (n ∷ []) 0 (k + 1) more in
        let rise = h k more in
        omega (arith, first, next, rise)

-- what stands at a number of a list with one more at its end
one_of : {X : Type 0} (xs : List X) (x y : X) (n : ℕ) → slice_get (xs ++ x ∷ []) n ≡ Some y → (slice_get xs n ≡ Some y) ⊎ ((n ≡ length xs) × (x ≡ y))
one_of xs x y n e = go (cases_eq n (length xs))
  where
    go : (n ≡ length xs) ⊎ (n ≡ length xs → ⊥) → (slice_get xs n ≡ Some y) ⊎ ((n ≡ length xs) × (x ≡ y))
    go (inl is) =
        let both : Some x ≡ Some y = sym (get_last xs x n is) ∙ e in
        let same : x ≡ y = cc in
        inr (is, same)
    go (inr f) =
        let within = slice_get_within (xs ++ x ∷ []) n y e in
        let count = length_push xs x in
        let lower : n < length xs = omega (arith, within, count, f) in
        inl (sym (get_back xs (x ∷ []) n lower) ∙ e)

still : {X : Type 0} (xs : List X) (x y : X) (n : ℕ) → slice_get xs n ≡ Some y → slice_get (xs ++ x ∷ []) n ≡ Some y
still xs x y n e = get_back xs (x ∷ []) n (slice_get_within xs n y e) ∙ e

-- The numbers of memory verdicts.
abbrev IsMemory : List Verdict → ℕ → Type 0
IsMemory vs n = slice_get vs n ≡ Some out_of_memory

module _ (stale : List Bool) (before : List Verdict) where
  pub none_planned : IsPlanTo stale before 0 [] []
  none_planned = record {
    as_many = refl;
    kept = λ n m l e. absurd (omega (arith, l));
    numbers_are = record { rising = λ k l. absurd (omega (arith, l)); each = λ k c. absurd (omega (arith, c.1)); all = λ k e. absurd cc };
    few = omega arith;
  }

  -- One unit more.
  module _ (i : ℕ) (numbers : List ℕ) (verdicts : List Verdict) (p : IsPlanTo stale before i numbers verdicts) (m : Bool) (at : slice_get stale i ≡ Some m) (v : Verdict) (is : v ≡ kept_verdict before i m) where
    kept_on : (n : ℕ) (k : Bool) → n < i + 1 → slice_get stale n ≡ Some k → slice_get (verdicts ++ v ∷ []) n ≡ Some (kept_verdict before n k)
    kept_on n k l e = go (cases_eq n i)
      where
        go : (n ≡ i) ⊎ (n ≡ i → ⊥) → slice_get (verdicts ++ v ∷ []) n ≡ Some (kept_verdict before n k)
        go (inl s) =
            let marks : Some m ≡ Some k = sym at ∙ ap (slice_get stale) (sym s) ∙ e in
            let mark : m ≡ k = cc in
            get_last verdicts v n (s ∙ sym p.as_many) ∙ ap Some (is ∙ ap (kept_verdict before i) mark ∙ ap (λ j. kept_verdict before j k) (sym s))
        go (inr f) =
            let lower : n < i = omega (arith, l, f) in
            let within : n < length verdicts = omega (arith, lower, p.as_many) in
            get_back verdicts (v ∷ []) n within ∙ p.kept n k lower e

    count : length (verdicts ++ v ∷ []) ≡ i + 1
    count = length_push verdicts v ∙ ap (λ k. k + 1) p.as_many

    low : (k : ℕ) → Contains numbers k → k < i
    low k c = let within = slice_get_within verdicts k out_of_memory (p.numbers_are.each k c) in omega (arith, within, p.as_many)

    -- its verdict is memory
    one_stale : v ≡ out_of_memory → IsPlanTo stale before (i + 1) (numbers ++ i ∷ []) (verdicts ++ v ∷ [])
    one_stale e = record {
      as_many = count;
      kept = kept_on;
      numbers_are = record {
        rising = rises_on numbers i p.numbers_are.rising low;
        each = λ k c. elim (Contains-push_cases numbers i k c) [
          | inl b ↦ still verdicts v out_of_memory k (p.numbers_are.each k b)
          | inr s ↦ get_last verdicts v k (sym s ∙ sym p.as_many) ∙ ap Some e
        ];
        all = λ k h. elim (one_of verdicts v out_of_memory k h) [
          | inl b ↦ Contains-append_left numbers (i ∷ []) k (p.numbers_are.all k b)
          | inr s ↦ subst (Contains (numbers ++ i ∷ [])) (sym (s.0 ∙ p.as_many)) (Contains-push numbers i)
        ];
      };
      few = let more = length_push numbers i in omega (arith, more, p.few);
    }

    -- its verdict is another one
    one_kept : (v ≡ out_of_memory → ⊥) → IsPlanTo stale before (i + 1) numbers (verdicts ++ v ∷ [])
    one_kept f = record {
      as_many = count;
      kept = kept_on;
      numbers_are = record {
        rising = p.numbers_are.rising;
        each = λ k c. still verdicts v out_of_memory k (p.numbers_are.each k c);
        all = λ k h. elim (one_of verdicts v out_of_memory k h) [
          | inl b ↦ p.numbers_are.all k b
          | inr s ↦ absurd (f s.1)
        ];
      };
      few = omega (arith, p.few);
    }

-- what stands at a place within a list
there : {X : Type 0} (xs : List X) (n : ℕ) → n < length xs → (x : X) × (slice_get xs n ≡ Some x)
there [] n l = absurd (omega (arith, l))
there (x ∷ xs) zero l = (x, refl)
there (x ∷ xs) (suc n) l = there xs n (omega (arith, l))

memory_or_not : (v : Verdict) → (v ≡ out_of_memory) ⊎ (v ≡ out_of_memory → ⊥)
memory_or_not accepted = inr (λ e. cc)
memory_or_not (rejected r) = inr (λ e. cc)
memory_or_not out_of_steps = inr (λ e. cc)
memory_or_not out_of_memory = inl refl

pub one_planned : (stale : List Bool) (before : List Verdict) (i : ℕ) (old new : List ℕ) (first next : List Verdict) (m : Bool) (v : Verdict) → slice_get stale i ≡ Some m
    → v ≡ kept_verdict before i m → IsUnitMore v i old new first next → IsPlanTo stale before i old first → IsPlanTo stale before (i + 1) new next
one_planned stale before i old new first next m v at is u p = go (memory_or_not v)
  where
    go : (v ≡ out_of_memory) ⊎ (v ≡ out_of_memory → ⊥) → IsPlanTo stale before (i + 1) new next
    go (inl e) = rw (u.verdicts, u.none_kept e) (one_stale stale before i old first p m at v is e)
    go (inr f) = rw (u.verdicts, u.one_kept f) (one_kept stale before i old first p m at v is f)

-- By the marks of what is stale.
module _ (us vs : Library) (stale : List Bool) (marks : MarksStale us vs stale) (before : List Verdict) (as_many : length before ≡ length us) where
  -- an unchanged unit stands in both lists, and has a verdict
  stood : (n : ℕ) → n < length vs → IsUnchanged us vs n → n < length before
  stood n l h =
      let at = there vs n l in
      let within = slice_get_within us n at.0 (h.before n own_unit ∙ at.1) in
      omega (arith, within, as_many)

  stands : (n : ℕ) → n < length before → IsUnchanged us vs n → n < length vs
  stands n l h =
      let at = there us n (omega (arith, l, as_many)) in
      slice_get_within vs n at.0 (sym (h.before n own_unit) ∙ at.1)

  module _ (numbers : List ℕ) (verdicts : List Verdict) (p : IsPlanTo stale before (length stale) numbers verdicts) where
    -- A unit of which nothing changed keeps its verdict.
    keeps : (n : ℕ) → n < length vs → slice_get stale n ≡ Some false → slice_get verdicts n ≡ slice_get before n
    keeps n l e =
        let within : n < length stale = omega (arith, l, marks.as_many) in
        let had : n < length before = stood n l (marks.fresh n e) in
        p.kept n false within e ∙ sym (slice_get-get_or before n out_of_memory had)

    loses : (n : ℕ) → n < length vs → slice_get stale n ≡ Some true → slice_get verdicts n ≡ Some out_of_memory
    loses n l e = p.kept n true (omega (arith, l, marks.as_many)) e

    marked : (n : ℕ) → n < length vs → (slice_get stale n ≡ Some true) ⊎ (slice_get stale n ≡ Some false)
    marked n l = go (there stale n (omega (arith, l, marks.as_many)))
      where
        go : (m : Bool) × (slice_get stale n ≡ Some m) → (slice_get stale n ≡ Some true) ⊎ (slice_get stale n ≡ Some false)
        go (true, e) = inl e
        go (false, e) = inr e

    within_all : (n : ℕ) (v : Verdict) → slice_get verdicts n ≡ Some v → n < length vs
    within_all n v e = let within = slice_get_within verdicts n v e in omega (arith, within, p.as_many, marks.as_many)

    kept : (n : ℕ) (v : Verdict) → slice_get verdicts n ≡ Some v → (v ≡ out_of_memory) ⊎ (IsUnchanged us vs n × (slice_get before n ≡ Some v))
    kept n v e =
        let l = within_all n v e in
        elim (marked n l) [
          | inl m ↦ let both : Some v ≡ Some out_of_memory = sym e ∙ loses n l m in let same : v ≡ out_of_memory = cc in inl same
          | inr m ↦ inr (marks.fresh n m, sym (keeps n l m) ∙ e)
        ]

    stays : (n : ℕ) (v : Verdict) → IsUnchanged us vs n → slice_get before n ≡ Some v → slice_get verdicts n ≡ Some v
    stays n v h e =
        let l = stands n (slice_get_within before n v e) h in
        elim (marked n l) [ inl m ↦ absurd (marks.stale n m h) | inr m ↦ keeps n l m ∙ e ]

    counted : (n : ℕ) → IsMemory verdicts n → IsCounted us vs before n
    counted n e =
        let l = within_all n out_of_memory e in
        (l, elim (marked n l) [ inl m ↦ inl (marks.stale n m) | inr m ↦ inr (sym (keeps n l m) ∙ e) ])

    counts : (n : ℕ) → IsCounted us vs before n → IsMemory verdicts n
    counts n c = elim (marked n c.0) [
      | inl m ↦ loses n c.0 m
      | inr m ↦ keeps n c.0 m ∙ elim c.1 [ inl f ↦ absurd (f (marks.fresh n m)) | inr e ↦ e ]
    ]

    pub planned : length stale < 2 ^ 32 → IsPlan us vs before numbers verdicts
    planned few = record {
      as_many = p.as_many ∙ marks.as_many;
      kept = kept;
      stays = stays;
      counted = record {
        rising = p.numbers_are.rising;
        each = λ k c. counted k (p.numbers_are.each k c);
        all = λ k c. p.numbers_are.all k (counts k c);
      };
      few = omega (arith, few, p.few);
    }

-- a plan is made by the marks, from what is held
pub plan_made : (us vs : Library) (before : List Verdict) (old new : Library) (held : List Verdict) (stale given : List Bool) (numbers : List ℕ) (verdicts : List Verdict) → old ≡ us → new ≡ vs → held ≡ before
    → given ≡ stale → length before ≡ length us → MarksStale old new stale → length given < 2 ^ 32 → IsPlanTo given held (length given) numbers verdicts → IsPlan us vs before numbers verdicts
plan_made us vs before old new held stale given numbers verdicts eu ev eh eg as_many marks few p =
    planned us vs given (subst (λ s. MarksStale us vs s) (sym eg) (subst (λ y. MarksStale us y stale) ev (subst (λ x. MarksStale x new stale) eu marks))) before as_many numbers verdicts
    (subst (λ h. IsPlanTo given h (length given) numbers verdicts) eh p) few

-- the numbers of a plan are those of units
pub numbers_in : (us vs : Library) (before : List Verdict) (numbers : List ℕ) (verdicts : List Verdict) → IsPlan us vs before numbers verdicts → All (λ n. n < length vs) numbers
numbers_in us vs before numbers verdicts p = All-weaker (Contains numbers) (λ n. n < length vs) (λ n c. (p.counted.each n c).0) numbers (All-contains_itself numbers)

-- what a plan keeps is plain
pub plain_next : (us vs : Library) (budget : ℕ) (before : List Verdict) (numbers : List ℕ) (verdicts : List Verdict) → library_spelled us ≡ true → library_spelled vs ≡ true
    → ArePlain us budget before → IsPlan us vs before numbers verdicts → ArePlain vs budget verdicts
plain_next us vs budget before numbers verdicts s t a p = record { as_many = p.as_many; each = each }
  where
    still_plain : (n : ℕ) (v : Verdict) → IsUnchanged us vs n → IsPlainVerdict us budget n v → IsPlainVerdict vs budget n v
    still_plain n v h (inl e) = inl (e ∙ ap told (sym (same_verdict us vs n budget s t h)))
    still_plain n v h (inr m) = inr m

    each : (n : ℕ) (v : Verdict) → slice_get verdicts n ≡ Some v → IsPlainVerdict vs budget n v
    each n v e = elim (p.kept n v e) [ inl m ↦ inr m | inr k ↦ still_plain n v k.0 (a.each n v k.1) ]

-- Answers are put at their numbers.
pub none_put : (numbers : List ℕ) (answers verdicts : List Verdict) → ArePutTo numbers answers 0 verdicts verdicts
none_put numbers answers verdicts = record { as_many = refl; each = λ n v e. inl e; put = λ j n v l. absurd (omega (arith, l)); others = λ n f. refl }

set_there : {X : Type 0} (xs : List X) (i : ℕ) (x : X) → i < length xs → slice_get (slice_set xs i x) i ≡ Some x
set_there [] i x l = absurd (omega (arith, l))
set_there (z ∷ xs) zero x l = refl
set_there (z ∷ xs) (suc i) x l = set_there xs i x (omega (arith, l))

set_here : {X : Type 0} (xs : List X) (i : ℕ) (x y : X) → slice_get (slice_set xs i x) i ≡ Some y → x ≡ y
set_here [] i x y e = absurd cc
set_here (z ∷ xs) zero x y e = cc
set_here (z ∷ xs) (suc i) x y e = set_here xs i x y e

set_elsewhere : {X : Type 0} (xs : List X) (i n : ℕ) (x : X) → (n ≡ i → ⊥) → slice_get (slice_set xs i x) n ≡ slice_get xs n
set_elsewhere [] i n x f = refl
set_elsewhere (z ∷ xs) zero zero x f = absurd (f refl)
set_elsewhere (z ∷ xs) zero (suc n) x f = refl
set_elsewhere (z ∷ xs) (suc i) zero x f = refl
set_elsewhere (z ∷ xs) (suc i) (suc n) x f = set_elsewhere xs i n x (λ e. f (ap suc e))

-- numbers at two places of a rising list are two
apart : (numbers : List ℕ) → IsStrictlyIncreasing numbers → (j i n k : ℕ) → j < i → slice_get numbers j ≡ Some n → slice_get numbers i ≡ Some k → n ≡ k → ⊥
apart numbers rising j i n k lt at_n at_k same =
    let less = AllPairs-from_increasing numbers rising j i 0 lt (slice_get_within numbers i k at_k) in
    let first = get_or_from_slice_get numbers j n 0 at_n in
    let second = get_or_from_slice_get numbers i k 0 at_k in
    omega (arith, less, first, second, same)

pub one_put : (numbers : List ℕ) (answers first old : List Verdict) (i k : ℕ) (v : Verdict) → IsStrictlyIncreasing numbers → k < length first → slice_get numbers i ≡ Some k → slice_get answers i ≡ Some v
    → ArePutTo numbers answers i first old → ArePutTo numbers answers (i + 1) first (slice_set old k v)
one_put numbers answers first old i k v rising within at_number at_answer a = record {
  as_many = length-set old k v ∙ a.as_many;
  each = λ n w e. each n w e (cases_eq n k);
  put = λ j n w l at_n at_w. put j n w l at_n at_w (cases_eq j i);
  others = λ n f. set_elsewhere old k n v (λ s. f (subst (Contains numbers) (sym s) (contained k at_number))) ∙ a.others n f;
}
  where
    contained : (n : ℕ) → slice_get numbers i ≡ Some n → Contains numbers n
    contained n e = (i, slice_get_within numbers i n e, get_or_from_slice_get numbers i n n e)

    each : (n : ℕ) (w : Verdict) → slice_get (slice_set old k v) n ≡ Some w → (n ≡ k) ⊎ (n ≡ k → ⊥) → (slice_get first n ≡ Some w) ⊎ IsAnswer numbers answers n w
    each n w e (inl s) =
        let same : v ≡ w = set_here old k v w (ap (slice_get (slice_set old k v)) (sym s) ∙ e) in
        inr (record { place = i; number = at_number ∙ ap Some (sym s); answer = at_answer ∙ ap Some same })
    each n w e (inr f) = a.each n w (sym (set_elsewhere old k n v f) ∙ e)

    put : (j n : ℕ) (w : Verdict) → j < i + 1 → slice_get numbers j ≡ Some n → slice_get answers j ≡ Some w → (j ≡ i) ⊎ (j ≡ i → ⊥) → slice_get (slice_set old k v) n ≡ Some w
    put j n w l at_n at_w (inl s) =
        let numbers_are : Some n ≡ Some k = sym at_n ∙ ap (slice_get numbers) s ∙ at_number in
        let answers_are : Some v ≡ Some w = sym at_answer ∙ ap (slice_get answers) (sym s) ∙ at_w in
        let number : n ≡ k = cc in
        ap (slice_get (slice_set old k v)) number ∙ set_there old k v (omega (arith, within, a.as_many)) ∙ answers_are
    put j n w l at_n at_w (inr f) =
        let before : j < i = omega (arith, l, f) in
        set_elsewhere old k n v (apart numbers rising j i n k before at_n at_number) ∙ a.put j n w before at_n at_w

-- verdicts stay plain where plain ones are put among them
pub plain_put : (vs : Library) (budget : ℕ) (numbers : List ℕ) (answers old new : List Verdict) → ArePlain vs budget old → AreChecked vs budget numbers answers
    → ArePut numbers answers old new → ArePlain vs budget new
plain_put vs budget numbers answers old new a checked p = record {
  as_many = p.as_many ∙ a.as_many;
  each = λ n v e. elim (p.each n v e) [ inl b ↦ a.each n v b | inr k ↦ checked.each k.place n v k.number k.answer ];
}

-- By a plan, of which the numbers were answered.
module _ (us vs : Library) (before : List Verdict) (numbers : List ℕ) (planned new : List Verdict) (p : IsPlan us vs before numbers planned) where
  planned_memory : (n : ℕ) → Contains numbers n → slice_get planned n ≡ Some out_of_memory
  planned_memory n c = go (p.kept n at.0 at.1)
    where
      counted : IsCounted us vs before n
      counted = p.counted.each n c

      at : (v : Verdict) × (slice_get planned n ≡ Some v)
      at = there planned n (omega (arith, counted.0, p.as_many))

      go : (at.0 ≡ out_of_memory) ⊎ (IsUnchanged us vs n × (slice_get before n ≡ Some at.0)) → slice_get planned n ≡ Some out_of_memory
      go (inl m) = at.1 ∙ ap Some m
      go (inr k) = elim counted.1 [ inl f ↦ absurd (f k.0) | inr e ↦ at.1 ∙ sym k.1 ∙ e ]

  -- what is planned and then put at its numbers leaves the other verdicts as they were
  kept_others : KeepOthers numbers planned new → KeepVerdicts us vs before new
  kept_others others n v unchanged at held = others n beside ∙ p.stays n v unchanged at
    where
      why : (IsUnchanged us vs n → ⊥) ⊎ (slice_get before n ≡ Some out_of_memory) → ⊥
      why (inl f) = f unchanged
      why (inr e) = let both : Some v ≡ Some out_of_memory = sym at ∙ e in held cc

      beside : Contains numbers n → ⊥
      beside c = why (p.counted.each n c).1

  put_others : (a : Answer) → IsPut numbers a planned new → KeepOthers numbers planned new
  put_others (Ok vs) put = put.others
  put_others (Err e) put = λ n f. ap (λ xs. slice_get xs n) put

  put_given : (a : Answer) → IsPut numbers a planned new → GivesVerdicts numbers a new
  put_given (Ok vs) put = λ i n v at said. put.put i n v (slice_get_within numbers i n at) at said
  put_given (Err e) put = λ n c. ap (λ xs. slice_get xs n) put ∙ planned_memory n c

  module _ (MayAnswer : List ℕ → Answer → Type 0) (a : IsAnswered MayAnswer numbers planned new) where
    pub verdicts_kept : KeepVerdicts us vs before new
    verdicts_kept = kept_others (put_others a.answer a.put)

    pub handed_on : AreHandedOn MayAnswer us vs before new
    handed_on = record { numbers = numbers; counted = p.counted; answer = a.answer; may_come = a.may_come; given = put_given a.answer a.put }
