-- What a walk looks for.
use Rattle.std.specs.Prelude.{◌≡◌, ℕ, Bool, true, false, Result, Ok, Err, ◌||◌}

-- what may be found, of which Found may tell more than whether it is; then: one after the other; stops: what a walk that
-- ends without an answer says of it
pub record Findings (E : Type 0) : Type 1 where
  pub Found : Type 0
  pub found : Bool → Found
  pub then : Found → Found → Found
  pub stops : Found → E → Type 0

-- the first that is found decides
pub record AreFindings {E : Type 0} (f : Findings E) : Type 0 where
  pub first : (a : f.Found) → f.then (f.found true) a ≡ f.found true
  pub next : (a : f.Found) → f.then (f.found false) a ≡ a
  pub last : (a : f.Found) → f.then a (f.found false) ≡ a
  pub assoc : (a b c : f.Found) → f.then (f.then a b) c ≡ f.then a (f.then b c)
  pub stops : (a b : f.Found) (e : E) → f.stops a e → f.stops (f.then a b) e

-- whether it is found, of which a walk without an answer says nothing
abbrev pub truth : {E : Type 0} → Findings E
truth = record { Found = Bool; found = λ b. b; then = λ a b. a || b; stops = λ a e. Unit {0} }

-- what is found in each part; is_in: whether it is a part of the store; cost: a bound on the turns that its own parts take
pub record Sought (P E : Type 0) : Type 1 where
  pub findings : Findings E
  pub found_in : P → findings.Found
  pub is_in : P → Type 0
  pub cost : P → ℕ

-- what a walk over a part says
abbrev pub Finds : {P E : Type 0} → Sought P E → P → Result Bool E → Type 0
Finds s p (Ok b) = s.found_in p ≡ s.findings.found b
Finds s p (Err e) = s.findings.stops (s.found_in p) e
