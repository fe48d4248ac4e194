-- Stages of the check of a block, told by who answers at the time.
use Rattle.std.proofs.Common.{◌≡◌, ℕ, Bool, true, false, List, None, Ok, Err, Result, refl, ap, subst}
use Rattle.lk_rulebook.specs.Place.{BlockType}
use Rattle.lk_questions.specs.Program.{Program, Table, done}
use Rattle.lk_questions.specs.Erased.{Out, out_of}
use Rattle.lk_questions.specs.Declarations.{Yes, checked}
use Rattle.lk_env.specs.declared.entry.Partial.{Partial}
use Rattle.lk_ask.specs.declared.stop.Stop.{Stop}
use Rattle.lk_ask.specs.declared.stop.Stop.TheVariants.{No}
use Rattle.lk_tree.specs.declared.rule.Rule.{Rule}
use Rattle.lk_ask.specs.Asking.{Standing}
use Rattle.lk_questions.specs.Steps.{given}
use Rattle.lk_declaration.specs.Courses.{run_then, Goes, Halts, ComesTo}
use Rattle.lk_declaration.specs.Checked.{IsCheckOutcome}
use Rattle.lk_rulebook.specs.Units.{Members}
use Rattle.lk_block.specs.Stages.{Places, stage, ends}
use Rattle.lk_inductive.specs.BlockSteps.{all_ctor_sorts}
use Rattle.lk_declaration.proofs.Running.{run_bind}
use Rattle.lk_block.specs.Sorts.{sorts_form}
use Rattle.lk_declaration.proofs.Settled.{checked_on, checked_stop}

-- what stands on the same has the same of each kind
pub same_table : {Base : Type 0} {s u : Standing Base} → u ≡ s → u.table ≡ s.table
same_table e = ap (λ x. x.table) e

pub same_place : {Base : Type 0} {s u : Standing Base} → u ≡ s → u.place ≡ s.place
same_place e = ap (λ x. x.place) e

pub same_basis : {Base : Type 0} {s u : Standing Base} → u ≡ s → u.basis ≡ s.basis
same_basis e = ap (λ x. x.basis) e

module _ {A Base : Type 0} (t : Table) (u : Standing Base) (places : Places) (partial : Partial) (aux : Members) (p q : Program A) (b c : ℕ) (table : u.table ≡ t) (place : u.place ≡ places partial aux) (program : q ≡ p) (left : c ≡ b) where
  -- what its program comes to, run as questions are answered at the time
  stage_moved : (k : A → ℕ → Out) (r : Result (Unit {0}) Stop) → IsCheckOutcome (run_then (out_of u.table u.place) u.place q c k) r → IsCheckOutcome (stage t places partial aux p b k) r
  stage_moved k r h =
      subst (λ x. IsCheckOutcome (run_then (out_of x (places partial aux)) (places partial aux) p b k) r) table
      (subst (λ y. IsCheckOutcome (run_then (out_of u.table y) y p b k) r) place
      (subst (λ x. IsCheckOutcome (run_then (out_of u.table u.place) u.place x b k) r) program
      (subst (λ n. IsCheckOutcome (run_then (out_of u.table u.place) u.place q n k) r) left h)))

  pub stage_stop : (k : A → ℕ → Out) (stop : Stop) → Halts u q c stop → IsCheckOutcome (stage t places partial aux p b k) (Err stop)
  stage_stop k stop halts = stage_moved k (Err stop) (checked_stop u q c k stop halts)

  pub stage_on : (k : A → ℕ → Out) (v : A) (rest : ℕ) (r : Result (Unit {0}) Stop) → Goes u q c v rest → IsCheckOutcome (k v rest) r → IsCheckOutcome (stage t places partial aux p b k) r
  stage_on k v rest r goes h = stage_moved k r (checked_on u q c v rest k r goes h)

-- the last stage
pub stage_last : {Base : Type 0} (t : Table) (u : Standing Base) (places : Places) (partial : Partial) (aux : Members) (p q : Program Yes) (b c rest : ℕ) (r : Result (Unit {0}) Stop) → u.table ≡ t → u.place ≡ places partial aux → q ≡ p → c ≡ b
    → ComesTo u q c (λ (n : Unit {0}). checked) rest r → IsCheckOutcome (stage t places partial aux p b ends) r
stage_last t u places partial aux p q b c rest (Ok n) table place program left goes =
    stage_on t u places partial aux p q b c table place program left ends checked rest (Ok n) goes (rest, None, refl)
stage_last t u places partial aux p q b c rest (Err stop) table place program left halts =
    stage_stop t u places partial aux p q b c table place program left ends stop halts

-- the same of other things
pub moved_thrice : {A B C : Type 0} (P : A → B → C → Type 0) {a a' : A} {b b' : B} {c c' : C} → a' ≡ a → b' ≡ b → c' ≡ c → P a' b' c' → P a b c
moved_thrice P {a} {a'} {b} {b'} {c} {c'} f g h p = subst (λ z. P a b z) h (subst (λ y. P a y c') g (subst (λ x. P x b' c') f p))

pub moved_five : {A B C D E : Type 0} (P : A → B → C → D → E → Type 0) {a a' : A} {b b' : B} {c c' : C} {d d' : D} {e e' : E} → a' ≡ a → b' ≡ b → c' ≡ c → d' ≡ d → e' ≡ e → P a' b' c' d' e' → P a b c d e
moved_five P {a} {a'} {b} {b'} {c} {c'} {d} {d'} {e} {e'} f g h i j p =
    subst (λ z. P a b c d z) j (subst (λ y. P a b c y e') i (subst (λ z. P a b z d' e') h (subst (λ y. P a y c' d' e') g (subst (λ x. P x b' c' d' e') f p))))

-- levels that nobody looks at
pub levels_forgotten : (table : Table) (places : Places) (partial : Partial) (aux : Members) (ts : List BlockType) (b : ℕ) (next : ℕ → Out) (r : Result (Unit {0}) Stop)
    → IsCheckOutcome (stage table places partial aux (sorts_form ts) b (λ y rest. next rest)) r → IsCheckOutcome (stage table places partial aux (all_ctor_sorts ts) b (λ ls rest. next rest)) r
levels_forgotten table places partial aux ts b next r h =
    subst (λ o. IsCheckOutcome o r) (run_bind (out_of table (places partial aux)) (places partial aux) (all_ctor_sorts ts) (λ ls. done checked) b (λ y rest. next rest)) h

pub moved_four : {A B C D : Type 0} (P : A → B → C → D → Type 0) {a a' : A} {b b' : B} {c c' : C} {d d' : D} → a' ≡ a → b' ≡ b → c' ≡ c → d' ≡ d → P a' b' c' d' → P a b c d
moved_four P {a} {a'} {b} {b'} {c} {c'} {d} {d'} f g h i p = subst (λ y. P a b c y) i (subst (λ z. P a b z d') h (subst (λ y. P a y c' d') g (subst (λ x. P x b' c' d') f p)))

-- a test that holds, and one that does not
pub test_passes : (table : Table) (places : Places) (partial : Partial) (aux : Members) (rule : Rule) (tested : Bool) (b : ℕ) (k : Yes → ℕ → Out) (r : Result (Unit {0}) Stop) → tested ≡ true
    → IsCheckOutcome (k checked b) r → IsCheckOutcome (stage table places partial aux (given tested rule (done checked)) b k) r
test_passes table places partial aux rule tested b k r holds h = rw holds h

pub test_fails : (table : Table) (places : Places) (partial : Partial) (aux : Members) (rule : Rule) (tested : Bool) (b : ℕ) (k : Yes → ℕ → Out) → tested ≡ false
    → IsCheckOutcome (stage table places partial aux (given tested rule (done checked)) b k) (Err (No rule))
test_fails table places partial aux rule tested b k fails = rw fails refl
