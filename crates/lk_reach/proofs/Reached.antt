-- What is reached, step by step.
use Rattle.std.proofs.Common.{ℕ, zero, suc, ◌≡◌, ◌<◌, ◌≤◌, ◌⊎◌, inl, inr, [], ◌∷◌, take, refl, sym, ap, ◌∙◌, arith}
use Rattle.std.specs.Prelude.{slice_get}
use Rattle.lk_rulebook.specs.Units.{Library, first_giving}
use Rattle.lk_reach.specs.Reach.{Mentions, Reaches, itself, through}
use Rattle.lk_reach.specs.Axioms.{IsAxiomUnit, IsAxiomOf}
use Rattle.lk_reach.proofs.Found.{found_below, still_taken}

pub mentioned_below : (us : Library) (n m : ℕ) → Mentions us n m → m < n
mentioned_below us n m s = omega (arith, found_below n us s.name s.found s.given, s.is_from)

pub reached_below : (us : Library) (n k : ℕ) → Reaches us n k → k ≤ n
reached_below us n k itself = omega arith
reached_below us n k (through {m = m} s r) = omega (arith, mentioned_below us n m s, reached_below us m k r)

pub own_axiom : (us : Library) (n : ℕ) → IsAxiomUnit us n → IsAxiomOf us n n
own_axiom us n h = record { axiom_unit = h; reached = itself }

pub mentioned_axiom : (us : Library) (n m k : ℕ) → Mentions us n m → IsAxiomOf us m k → IsAxiomOf us n k
mentioned_axiom us n m k s h = record { axiom_unit = h.axiom_unit; reached = through s h.reached }

only_so : (us : Library) (n k : ℕ) → IsAxiomUnit us k → Reaches us n k → ((n ≡ k) × IsAxiomUnit us n) ⊎ ((m : ℕ) × Mentions us n m × IsAxiomOf us m k)
only_so us n k h itself = inl (refl, h)
only_so us n k h (through {m = m} s r) = inr (m, s, record { axiom_unit = h; reached = r })

pub only_axioms : (us : Library) (n k : ℕ) → IsAxiomOf us n k → ((n ≡ k) × IsAxiomUnit us n) ⊎ ((m : ℕ) × Mentions us n m × IsAxiomOf us m k)
only_axioms us n k h = only_so us n k h.axiom_unit h.reached

-- the units before n are those of the other library
take_less : (us : Library) (n m : ℕ) → m ≤ n → take m us ≡ take m (take n us)
take_less us n zero h = refl
take_less us zero (suc m) h = absurd (omega arith)
take_less [] (suc n) (suc m) h = refl
take_less (u ∷ us) (suc n) (suc m) h = ap (λ vs. u ∷ vs) (take_less us n m (omega (arith, h)))

pub mentions_alike : (us vs : Library) (n m : ℕ) → take n us ≡ take n vs → slice_get us n ≡ slice_get vs n → Mentions us n m → Mentions vs n m
mentions_alike us vs n m e i s = record {
  unit = s.unit;
  stands = sym i ∙ s.stands;
  name = s.name;
  has = s.has;
  found = s.found;
  given = ap (λ ws. first_giving 0 ws s.name) (sym e) ∙ s.given;
  is_from = s.is_from;
}

pub reaches_alike : (us vs : Library) (n k : ℕ) → take n us ≡ take n vs → slice_get us n ≡ slice_get vs n → Reaches us n k → Reaches vs n k
reaches_alike us vs n k e i itself = itself
reaches_alike us vs n k e i (through {m = m} s r) =
    let l : m < n = mentioned_below us n m s in
    let t : take m us ≡ take m vs = take_less us n m (omega (arith, l)) ∙ (ap (take m) e ∙ sym (take_less vs n m (omega (arith, l)))) in
    let u : slice_get us m ≡ slice_get vs m = sym (still_taken n m us l) ∙ (ap (λ ws. slice_get ws m) e ∙ still_taken n m vs l) in
    through (mentions_alike us vs n m e i s) (reaches_alike us vs m k t u r)
