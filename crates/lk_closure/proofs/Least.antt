-- The least closed set, and when two libraries have the same one.
use Rattle.std.proofs.Common.{ℕ, zero, suc, ◌≡◌, ◌<◌, ◌≤◌, ◌+◌, inl, [], ◌∷◌, take, Some, None, Option, Bool, true, refl, sym, subst, ◌∙◌, ap, arith}
use Rattle.std.specs.Prelude.{slice_get}
use Rattle.lk_tree.specs.Tree.{Name}
use Rattle.lk_rulebook.specs.Units.{LibraryUnit, Library, members_of, Found, given_by, flaw_of, first_giving}
use Rattle.lk_rulebook.specs.Place.{Entry}
use Rattle.lk_questions.specs.Table.{steps}
use Rattle.lk_verdict.specs.GoodUnit.{IsClearLibrary}
use Rattle.lk_verdict.specs.Verdict.{plain_verdict}
use Rattle.lk_reach.specs.Reach.{Mentions, Reaches, itself, through}
use Rattle.lk_reach.specs.Axioms.{IsAxiomUnit, IsAxiomOf}
use Rattle.lk_reach.proofs.Found.{IsFrom, found_from, taken, taken_below, still_taken, found_below}
use Rattle.lk_uses.specs.Closure.{IsClosure, IsInClosure, own_unit, of_builtin, of_used, KeepsClosure, IsUnchanged}
use Rattle.lk_closure.proofs.Units.{unit_moved}
use Rattle.lk_closure.proofs.Axioms.{kept_same}
use Rattle.lk_questions.proofs.Places.{prefix_gives}
use Rattle.lk_reach.proofs.Reached.{mentioned_below}

pub least_closed : (us : Library) (n : ℕ) (keep : ℕ → Bool) → KeepsClosure us n keep → IsClosure us n keep
least_closed us n keep h = record {
  own = h.each n own_unit;
  builtin = λ c f i e. h.each f.unit (of_builtin c f i e);
  used = λ k u c f y s x e. h.each f.unit (of_used k u c f (h.only k y) s x e);
}

pub within_closed : (us : Library) (n k : ℕ) (keep : ℕ → Bool) → IsClosure us n keep → IsInClosure us n k → keep k ≡ true
within_closed us n k keep h own_unit = h.own
within_closed us n _ keep h (of_builtin c f i e) = h.builtin c f i e
within_closed us n _ keep h (of_used k u c f m s x e) = h.used k u c f (within_closed us n k keep h m) s x e

-- a name that a unit gives is found in it or before it
record IsFoundBy (i : ℕ) (us : Library) (c : Name) (k : ℕ) : Type 0 where
  found : Found
  given : first_giving i us c ≡ Some found
  by : found.unit ≤ i + k

found_by : (i k : ℕ) (us : Library) (c : Name) (u : LibraryUnit) (e : Entry) → slice_get us k ≡ Some u → given_by (members_of u) c ≡ Some e → IsFoundBy i us c k
found_by i k [] c u e s g = absurd cc
found_by i zero (v ∷ us) c u e s g =
    let same : v ≡ u = cc in
    record { found = record { unit = i; flaw = flaw_of v; entry = e }; given = rw (same, g) refl; by = omega arith }
found_by i (suc k) (v ∷ us) c u e s g = go (given_by (members_of v) c) refl (found_by (suc i) k us c u e s g)
  where
    go : (x : Option Entry) → given_by (members_of v) c ≡ x → IsFoundBy (suc i) us c k → IsFoundBy i (v ∷ us) c (suc k)
    go (Some x) j r = record { found = record { unit = i; flaw = flaw_of v; entry = x }; given = rw j refl; by = omega arith }
    go None j r = record { found = r.found; given = rw j r.given; by = omega (arith, r.by) }

-- what a name finds in the one library, a unit that stands in both, it finds there or before it in the other
found_there : (us vs : Library) (n : ℕ) (c : Name) (f : Found) → first_giving 0 (take n us) c ≡ Some f → slice_get us f.unit ≡ slice_get vs f.unit → IsFoundBy 0 (take n vs) c f.unit
found_there us vs n c f e same =
    let t : IsFrom 0 (take n us) c f = found_from 0 (take n us) c f e in
    let at : f.unit ≡ t.number = omega (arith, t.is_at) in
    let below : f.unit < n = omega (arith, at, taken_below n t.number us t.unit t.stands) in
    let stands : slice_get us f.unit ≡ Some t.unit = ap (slice_get us) at ∙ taken n t.number us t.unit t.stands in
    found_by 0 f.unit (take n vs) c t.unit f.entry (still_taken n f.unit vs below ∙ (sym same ∙ stands)) t.gives

-- where what it finds in the other stands in both too, it is the same unit
record IsSameUnit (vs : Library) (n : ℕ) (c : Name) (k : ℕ) : Type 0 where
  found : Found
  given : first_giving 0 (take n vs) c ≡ Some found
  same : found.unit ≡ k

same_unit : (us vs : Library) (n : ℕ) (c : Name) (f : Found) → first_giving 0 (take n us) c ≡ Some f → slice_get us f.unit ≡ slice_get vs f.unit → ((g : Found) → first_giving 0 (take n vs) c ≡ Some g → slice_get us g.unit ≡ slice_get vs g.unit) → IsSameUnit vs n c f.unit
same_unit us vs n c f e same other =
    let t : IsFoundBy 0 (take n vs) c f.unit = found_there us vs n c f e same in
    let g : Found = t.found in
    let u : IsFoundBy 0 (take n us) c g.unit = found_there vs us n c g t.given (sym (other g t.given)) in
    let i : u.found ≡ f = (let x : Some u.found ≡ Some f = sym u.given ∙ e in cc) in
    let a : u.found.unit ≡ f.unit = ap (λ z. z.unit) i in
    record { found = g; given = t.given; same = omega (arith, t.by, u.by, a) }

pub same_closure : (us vs : Library) (n k : ℕ) → IsUnchanged us vs n → IsInClosure us n k → IsInClosure vs n k
same_closure us vs n k h own_unit = own_unit
same_closure us vs n _ h (of_builtin c f i e) =
    let t : IsSameUnit vs n c f.unit = same_unit us vs n c f e (h.before f.unit (of_builtin c f i e)) (λ g j. h.after g.unit (of_builtin c g i j)) in
    subst (IsInClosure vs n) t.same (of_builtin c t.found i t.given)
same_closure us vs n _ h (of_used k u c f m s x e) =
    let r : IsInClosure vs n k = same_closure us vs n k h m in
    let there : slice_get vs k ≡ Some u = sym (h.before k m) ∙ s in
    let t : IsSameUnit vs n c f.unit = same_unit us vs n c f e (h.before f.unit (of_used k u c f m s x e)) (λ g j. h.after g.unit (of_used k u c g r there x j)) in
    subst (IsInClosure vs n) t.same (of_used k u c t.found r there x t.given)

-- and back
other_way : (us vs : Library) (n : ℕ) → IsUnchanged us vs n → IsUnchanged vs us n
other_way us vs n h = record { before = λ k m. sym (h.after k m); after = λ k m. sym (h.before k m) }

keeps_there : (us vs : Library) (n : ℕ) (keep : ℕ → Bool) → IsUnchanged us vs n → KeepsClosure us n keep → KeepsClosure vs n keep
keeps_there us vs n keep h k = record { each = λ j m. k.each j (same_closure vs us n j (other_way us vs n h) m); only = λ j y. same_closure us vs n j h (k.only j y) }

pub unchanged : (us vs : Library) (n : ℕ) (keep : ℕ → Bool) (budget : ℕ) → IsClearLibrary us → IsClearLibrary vs → IsClosure us n keep → IsClosure vs n keep →
    ((k : ℕ) → keep k ≡ true → slice_get us k ≡ slice_get vs k) → plain_verdict steps vs n budget ≡ plain_verdict steps us n budget
unchanged us vs n keep budget c d h k same =
    unit_moved us vs n n keep keep budget c d h k (kept_same 0 keep us vs (λ i y. same i (let e : 0 + i ≡ i = omega arith in subst (λ x. keep x ≡ true) e y))) refl

pub verdict_unchanged : (us vs : Library) (n : ℕ) (keep : ℕ → Bool) (budget : ℕ) → IsClearLibrary us → IsClearLibrary vs → KeepsClosure us n keep → IsUnchanged us vs n →
    plain_verdict steps vs n budget ≡ plain_verdict steps us n budget
verdict_unchanged us vs n keep budget c d k h =
    unchanged us vs n keep budget c d (least_closed us n keep k) (least_closed vs n keep (keeps_there us vs n keep h k)) (λ j y. h.before j (k.only j y))

-- the closure of an earlier unit of the closure lies in it
closure_below : (us : Library) (n m k : ℕ) → m ≤ n → IsInClosure us n m → IsInClosure us m k → IsInClosure us n k
closure_below us n m k l h own_unit = h
closure_below us n m _ l h (of_builtin c f i e) = of_builtin c f i (prefix_gives 0 m n us c f l e)
closure_below us n m _ l h (of_used j u c f r s x e) = of_used j u c f (closure_below us n m j l h r) s x (prefix_gives 0 m n us c f l e)

mentioned_in : (us : Library) (n m : ℕ) → Mentions us n m → IsInClosure us n m
mentioned_in us n m s = subst (IsInClosure us n) s.is_from (of_used n s.unit s.name s.found own_unit s.stands (inl s.has) s.given)

unchanged_below : (us vs : Library) (n m : ℕ) → m ≤ n → IsInClosure us n m → IsUnchanged us vs n → IsUnchanged us vs m
unchanged_below us vs n m l i h = record { before = λ k j. h.before k (closure_below us n m k l i j); after = λ k j. h.after k (closure_below vs n m k l (same_closure us vs n m h i) j) }

mentions_there : (us vs : Library) (n m : ℕ) → IsUnchanged us vs n → Mentions us n m → Mentions vs n m
mentions_there us vs n m h s =
    let at : slice_get vs n ≡ Some s.unit = sym (h.before n own_unit) ∙ s.stands in
    let t : IsSameUnit vs n s.name s.found.unit = same_unit us vs n s.name s.found s.given (h.before s.found.unit (of_used n s.unit s.name s.found own_unit s.stands (inl s.has) s.given)) (λ g j. h.after g.unit (of_used n s.unit s.name g own_unit at (inl s.has) j)) in
    record { unit = s.unit; stands = at; name = s.name; has = s.has; found = t.found; given = t.given; is_from = t.same ∙ s.is_from }

reaches_there : (us vs : Library) (n k : ℕ) → IsUnchanged us vs n → Reaches us n k → Reaches vs n k
reaches_there us vs n k h itself = itself
reaches_there us vs n k h (through {m = m} s r) =
    let l : m < n = mentioned_below us n m s in
    through (mentions_there us vs n m h s) (reaches_there us vs m k (unchanged_below us vs n m (omega (arith, l)) (mentioned_in us n m s) h) r)

-- what is reached is in the closure
reached_in : (us : Library) (n k : ℕ) → Reaches us n k → IsInClosure us n k
reached_in us n k itself = own_unit
reached_in us n k (through {m = m} s r) = let l : m < n = mentioned_below us n m s in closure_below us n m k (omega (arith, l)) (mentioned_in us n m s) (reached_in us m k r)

pub axioms_unchanged : (us vs : Library) (n k : ℕ) → IsUnchanged us vs n → IsAxiomOf us n k → IsAxiomOf vs n k
axioms_unchanged us vs n k h a =
    let u : IsAxiomUnit us k = a.axiom_unit in
    record { axiom_unit = record { unit = u.unit; stands = sym (h.before k (reached_in us n k a.reached)) ∙ u.stands; is_one = u.is_one }; reached = reaches_there us vs n k h a.reached }

-- the units of the closure stand up to n
pub closure_earlier : (us : Library) (n k : ℕ) → IsInClosure us n k → k ≤ n
closure_earlier us n k own_unit = omega arith
closure_earlier us n _ (of_builtin c f i e) = omega (arith, found_below n us c f e)
closure_earlier us n _ (of_used k u c f m s x e) = omega (arith, found_below n us c f e)
