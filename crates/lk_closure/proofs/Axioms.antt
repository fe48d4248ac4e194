-- What a unit reaches is the same among the kept units, renumbered.
use Rattle.std.proofs.Common.{ℕ, suc, ◌≡◌, ◌+◌, ◌≤◌, [], ◌∷◌, take, Some, None, Option, refl, ap, sym, subst, ◌∙◌, arith, Bool, true, false, inl, if◌then◌else◌}
use Rattle.std.specs.Prelude.{slice_get}
use Rattle.lk_tree.specs.Tree.{Name}
use Rattle.lk_rulebook.specs.Place.{Entry}
use Rattle.lk_rulebook.specs.Units.{trees_of, LibraryUnit, Library, members_of, Found, given_by, first_of_two, at_unit, flaw_of, first_giving}
use Rattle.lk_questions.proofs.Places.{prefix_gives}
use Rattle.lk_closure.proofs.Over.{SameFound}
use Rattle.lk_uses.specs.Closure.{IsClosure, kept, renumbered}
use Rattle.lk_reach.specs.Reach.{TreesMention, Mentions, Reaches, itself, through}
use Rattle.lk_reach.specs.Axioms.{IsAxiomUnit, IsAxiomOf}
use Rattle.lk_reach.proofs.Reached.{mentioned_below}
use Rattle.lk_closure.proofs.Kept.{kept_gives, kept_take, kept_stands}

-- what a name finds among the kept units, where it finds a kept one among all
record IsKept (i j : ℕ) (keep : ℕ → Bool) (us : Library) (c : Name) (f : Found) : Type 0 where
  number : ℕ
  is_at : f.unit ≡ i + number
  found : Found
  given : first_giving j (kept i keep us) c ≡ Some found
  new : found.unit ≡ j + renumbered i keep number

found_kept : (i j : ℕ) (keep : ℕ → Bool) (us : Library) (c : Name) (f : Found) → first_giving i us c ≡ Some f → keep f.unit ≡ true → IsKept i j keep us c f
found_kept i j keep [] c f e h = absurd cc
found_kept i j keep (u ∷ us) c f e h = go (given_by (members_of u) c) refl (keep i) refl (λ k x. found_kept (suc i) k keep us c f x h) e
  where
    go : (g : Option Entry) → given_by (members_of u) c ≡ g → (b : Bool) → keep i ≡ b → ((k : ℕ) → first_giving (suc i) us c ≡ Some f → IsKept (suc i) k keep us c f) →
        first_of_two (at_unit i u g) (first_giving (suc i) us c) ≡ Some f → IsKept i j keep (u ∷ us) c f
    go (Some x) y true z r q =
        let s : record { unit = i; flaw = flaw_of u; entry = x } ≡ f = cc in
        let at : i ≡ f.unit = ap (λ t. t.unit) s in
        record { number = 0; is_at = omega (arith, at); found = record { unit = j; flaw = flaw_of u; entry = x }; given = rw (z, y) refl; new = omega arith }
    go (Some x) y false z r q =
        let s : record { unit = i; flaw = flaw_of u; entry = x } ≡ f = cc in
        let at : i ≡ f.unit = ap (λ t. t.unit) s in
        let bad : keep i ≡ true = subst (λ t. keep t ≡ true) (sym at) h in
        absurd cc
    go None y true z r q =
        let t : IsKept (suc i) (suc j) keep us c f = r (suc j) q in
        record { number = suc t.number; is_at = omega (arith, t.is_at); found = t.found; given = rw (z, y) t.given; new = rw z (omega (arith, t.new)) }
    go None y false z r q =
        let t : IsKept (suc i) j keep us c f = r j q in
        record { number = suc t.number; is_at = omega (arith, t.is_at); found = t.found; given = rw z t.given; new = rw z t.new }

-- each unit that gives before n a name that a kept unit's trees mention is kept
abbrev pub KeepsMentioned : Library → ℕ → (ℕ → Bool) → Type 0
KeepsMentioned us n keep = (k : ℕ) (u : LibraryUnit) (c : Name) (f : Found) → keep k ≡ true → slice_get us k ≡ Some u → TreesMention c (trees_of u) → first_giving 0 (take n us) c ≡ Some f → keep f.unit ≡ true

pub keeps_mentioned : (us : Library) (n : ℕ) (keep : ℕ → Bool) → IsClosure us n keep → KeepsMentioned us n keep
keeps_mentioned us n keep h k u c f y s t e = h.used k u c f y s (inl t) e

keeps_below : (us : Library) (n m : ℕ) (keep : ℕ → Bool) → m ≤ n → KeepsMentioned us n keep → KeepsMentioned us m keep
keeps_below us n m keep l h k u c f y e t g = h k u c f y e t (prefix_gives 0 m n us c f l g)

stands_at : (us : Library) (n : ℕ) (keep : ℕ → Bool) → keep n ≡ true → slice_get (kept 0 keep us) (renumbered 0 keep n) ≡ slice_get us n
stands_at us n keep h = kept_stands 0 n keep us (let z : n ≡ 0 + n = omega arith in subst (λ x. keep x ≡ true) z h)

-- one step, and where it ends is kept
mentions_kept : (us : Library) (n m : ℕ) (keep : ℕ → Bool) → keep n ≡ true → KeepsMentioned us n keep → Mentions us n m → (keep m ≡ true) × Mentions (kept 0 keep us) (renumbered 0 keep n) (renumbered 0 keep m)
mentions_kept us n m keep y h s =
    let yes_ : keep s.found.unit ≡ true = h n s.unit s.name s.found y s.stands s.has s.given in
    let t : IsKept 0 0 keep (take n us) s.name s.found = found_kept 0 0 keep (take n us) s.name s.found s.given yes_ in
    let at : t.number ≡ m = omega (arith, t.is_at, s.is_from) in (
      subst (λ x. keep x ≡ true) s.is_from yes_,
      record {
        unit = s.unit;
        stands = stands_at us n keep y ∙ s.stands;
        name = s.name;
        has = s.has;
        found = t.found;
        given = ap (λ vs. first_giving 0 vs s.name) (kept_take 0 n keep us) ∙ t.given;
        is_from = (let z : t.found.unit ≡ renumbered 0 keep t.number = omega (arith, t.new) in z ∙ ap (renumbered 0 keep) at);
      },
    )

below : (us : Library) (n m : ℕ) → Mentions us n m → m ≤ n
below us n m s = omega (arith, mentioned_below us n m s)

pub reaches_kept : (us : Library) (n k : ℕ) (keep : ℕ → Bool) → keep n ≡ true → KeepsMentioned us n keep → Reaches us n k → (keep k ≡ true) × Reaches (kept 0 keep us) (renumbered 0 keep n) (renumbered 0 keep k)
reaches_kept us n k keep y h itself = (y, itself)
reaches_kept us n k keep y h (through {m = m} s r) =
    let t : (keep m ≡ true) × Mentions (kept 0 keep us) (renumbered 0 keep n) (renumbered 0 keep m) = mentions_kept us n m keep y h s in
    let q : (keep k ≡ true) × Reaches (kept 0 keep us) (renumbered 0 keep m) (renumbered 0 keep k) = reaches_kept us m k keep t.0 (keeps_below us n m keep (below us n m s) h) r in
    (q.0, through t.1 q.1)

-- a step among the kept units is one among all
record IsStep (us : Library) (n m : ℕ) (keep : ℕ → Bool) : Type 0 where
  number : ℕ
  is_kept : keep number ≡ true
  is_new : m ≡ renumbered 0 keep number
  step : Mentions us n number

back_step : (us : Library) (n m : ℕ) (keep : ℕ → Bool) → keep n ≡ true → KeepsMentioned us n keep → Mentions (kept 0 keep us) (renumbered 0 keep n) m → IsStep us n m keep
back_step us n m keep y h s =
    go (first_giving 0 (take n us) s.name) refl (kept_gives 0 0 keep (take n us) s.name (λ f e. h n s.unit s.name f y stands s.has e))
  where
    stands : slice_get us n ≡ Some s.unit
    stands = sym (stands_at us n keep y) ∙ s.stands

    there : first_giving 0 (kept 0 keep (take n us)) s.name ≡ Some s.found
    there = sym (ap (λ vs. first_giving 0 vs s.name) (kept_take 0 n keep us)) ∙ s.given

    go : (o : Option Found) → first_giving 0 (take n us) s.name ≡ o → SameFound o (first_giving 0 (kept 0 keep (take n us)) s.name) → IsStep us n m keep
    go None e q = let z : SameFound None (Some s.found) = rw there at q in absurd z
    go (Some f) e q =
        let yes_ : keep f.unit ≡ true = h n s.unit s.name f y stands s.has e in
        let t : IsKept 0 0 keep (take n us) s.name f = found_kept 0 0 keep (take n us) s.name f e yes_ in
        let x : t.found ≡ s.found = (let w : Some t.found ≡ Some s.found = sym t.given ∙ there in cc) in
        let v : t.found.unit ≡ s.found.unit = ap (λ z. z.unit) x in
        let at : t.number ≡ f.unit = omega (arith, t.is_at) in
        let new : t.found.unit ≡ renumbered 0 keep t.number = omega (arith, t.new) in
        record {
          number = f.unit;
          is_kept = yes_;
          is_new = sym s.is_from ∙ (sym v ∙ (new ∙ ap (renumbered 0 keep) at));
          step = record { unit = s.unit; stands = stands; name = s.name; has = s.has; found = f; given = e; is_from = refl };
        }

reaches_back : (us : Library) (keep : ℕ → Bool) (p j n : ℕ) → p ≡ renumbered 0 keep n → keep n ≡ true → KeepsMentioned us n keep → Reaches (kept 0 keep us) p j → (k : ℕ) × (keep k ≡ true) × (j ≡ renumbered 0 keep k) × Reaches us n k
reaches_back us keep p j n e y h itself = (n, y, e, itself)
reaches_back us keep p j n e y h (through {m = m} s r) =
    let t : IsStep us n m keep = back_step us n m keep y h (subst (λ x. Mentions (kept 0 keep us) x m) e s) in
    let q : (k : ℕ) × (keep k ≡ true) × (j ≡ renumbered 0 keep k) × Reaches us t.number k =
    reaches_back us keep m j t.number t.is_new t.is_kept (keeps_below us n t.number keep (below us n t.number t.step) h) r in
    (q.0, q.1, q.2, through t.step q.3)

pub reaches_from_kept : (us : Library) (n j : ℕ) (keep : ℕ → Bool) → keep n ≡ true → KeepsMentioned us n keep → Reaches (kept 0 keep us) (renumbered 0 keep n) j → (k : ℕ) × (keep k ≡ true) × (j ≡ renumbered 0 keep k) × Reaches us n k
reaches_from_kept us n j keep y h r = reaches_back us keep (renumbered 0 keep n) j n refl y h r

pub unit_stands : (us : Library) (n : ℕ) (keep : ℕ → Bool) → keep n ≡ true → slice_get (kept 0 keep us) (renumbered 0 keep n) ≡ slice_get us n
unit_stands us n keep h = stands_at us n keep h

abbrev rest_of : Library → Library
rest_of [] = []
rest_of (u ∷ us) = us

next_of : (us : Library) (k : ℕ) → slice_get us (suc k) ≡ slice_get (rest_of us) k
next_of [] k = refl
next_of (u ∷ us) k = refl

next_number : (i : ℕ) (keep : ℕ → Bool) (us vs : Library) → ((k : ℕ) → keep (i + k) ≡ true → slice_get us k ≡ slice_get vs k) → (k : ℕ) → keep (suc i + k) ≡ true → slice_get (rest_of us) k ≡ slice_get (rest_of vs) k
next_number i keep us vs h k y = sym (next_of us k) ∙ (h (suc k) (let e : suc i + k ≡ i + suc k = omega arith in subst (λ x. keep x ≡ true) e y) ∙ next_of vs k)

-- the kept units of two libraries that state the same under each kept number
pub kept_same : (i : ℕ) (keep : ℕ → Bool) (us vs : Library) → ((k : ℕ) → keep (i + k) ≡ true → slice_get us k ≡ slice_get vs k) → kept i keep us ≡ kept i keep vs
kept_same i keep [] [] h = refl
kept_same i keep [] (v ∷ vs) h = go (keep i) refl (kept_same (suc i) keep [] vs (λ k y. next_number i keep [] (v ∷ vs) h k y))
  where
    go : (b : Bool) → keep i ≡ b → kept (suc i) keep [] ≡ kept (suc i) keep vs → [] ≡ (if b then v ∷ kept (suc i) keep vs else kept (suc i) keep vs)
    go true y r = let z : None ≡ Some v = h 0 (let e : i ≡ i + 0 = omega arith in subst (λ x. keep x ≡ true) e y) in absurd cc
    go false y r = r
kept_same i keep (u ∷ us) [] h = go (keep i) refl (kept_same (suc i) keep us [] (λ k y. next_number i keep (u ∷ us) [] h k y))
  where
    go : (b : Bool) → keep i ≡ b → kept (suc i) keep us ≡ kept (suc i) keep [] → (if b then u ∷ kept (suc i) keep us else kept (suc i) keep us) ≡ []
    go true y r = let z : Some u ≡ None = h 0 (let e : i ≡ i + 0 = omega arith in subst (λ x. keep x ≡ true) e y) in absurd cc
    go false y r = r
kept_same i keep (u ∷ us) (v ∷ vs) h = go (keep i) refl (kept_same (suc i) keep us vs (λ k y. next_number i keep (u ∷ us) (v ∷ vs) h k y))
  where
    go : (b : Bool) → keep i ≡ b → kept (suc i) keep us ≡ kept (suc i) keep vs → (if b then u ∷ kept (suc i) keep us else kept (suc i) keep us) ≡ (if b then v ∷ kept (suc i) keep vs else kept (suc i) keep vs)
    go true y r =
        let z : Some u ≡ Some v = h 0 (let e : i ≡ i + 0 = omega arith in subst (λ x. keep x ≡ true) e y) in
        let w : u ≡ v = cc in
        rw (w, r) refl
    go false y r = r

-- axioms stay axioms
axiom_kept : (us : Library) (k : ℕ) (keep : ℕ → Bool) → keep k ≡ true → IsAxiomUnit us k → IsAxiomUnit (kept 0 keep us) (renumbered 0 keep k)
axiom_kept us k keep y h = record { unit = h.unit; stands = stands_at us k keep y ∙ h.stands; is_one = h.is_one }

pub axioms_kept : (us : Library) (n k : ℕ) (keep : ℕ → Bool) → IsClosure us n keep → IsAxiomOf us n k → (keep k ≡ true) × IsAxiomOf (kept 0 keep us) (renumbered 0 keep n) (renumbered 0 keep k)
axioms_kept us n k keep h a =
    let r : (keep k ≡ true) × Reaches (kept 0 keep us) (renumbered 0 keep n) (renumbered 0 keep k) = reaches_kept us n k keep h.own (keeps_mentioned us n keep h) a.reached in
    (r.0, record { axiom_unit = axiom_kept us k keep r.0 a.axiom_unit; reached = r.1 })

pub axioms_back : (us : Library) (n j : ℕ) (keep : ℕ → Bool) → IsClosure us n keep → IsAxiomOf (kept 0 keep us) (renumbered 0 keep n) j → (k : ℕ) × (keep k ≡ true) × (j ≡ renumbered 0 keep k) × IsAxiomOf us n k
axioms_back us n j keep h a =
    let r : (k : ℕ) × (keep k ≡ true) × (j ≡ renumbered 0 keep k) × Reaches us n k = reaches_from_kept us n j keep h.own (keeps_mentioned us n keep h) a.reached in
    let u : IsAxiomUnit (kept 0 keep us) j = a.axiom_unit in
    (r.0, r.1, r.2, record { axiom_unit = record { unit = u.unit; stands = sym (stands_at us r.0 keep r.1) ∙ (ap (slice_get (kept 0 keep us)) (sym r.2) ∙ u.stands); is_one = u.is_one }; reached = r.3 })
