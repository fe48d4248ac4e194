-- Of a declaration that is answered yes each question is answered yes, for no more than all cost together.
use Rattle.std.proofs.Common.{ℕ, ◌≡◌, ◌≤◌, ◌+◌, Bool, true, false, nat_eq, length, List, [], ◌∷◌, Option, Some, None, refl, ap, subst, arith, if◌then◌else◌}
use Rattle.lk_tree.specs.Tree.{Name, Level, Tree, sort}
use Rattle.lk_tree.specs.Level.{is_zero_level}
use Rattle.lk_tree.specs.Operations.{Op}
use Rattle.lk_tree.specs.declared.rule.Rule.{Rule}
use Rattle.lk_tree.specs.declared.rule.Rule.TheVariants.{ValueType, NatLaw, TheoremNotProp}
use Rattle.lk_rulebook.specs.Place.{Place}
use Rattle.lk_rulebook.specs.Units.{Body, as_axiom, as_def, as_thm, as_opaque, as_quot, Decl}
use Rattle.lk_rulebook.specs.NumberLaws.{Law, laws_of, stated_by}
use Rattle.lk_questions.specs.Query.{whnf, same}
use Rattle.lk_questions.specs.Program.{Program, done, refuse, asked, ◌>>=◌}
use Rattle.lk_questions.specs.Steps.{given, as_sort, sort_of}
use Rattle.lk_questions.specs.Declarations.{Yes, checked, value_steps, body_steps, unit_steps}
use Rattle.lk_questions.specs.Shapes.{nat_shape}
use Rattle.lk_questions.specs.QuotientUnits.{quot_steps}
use Rattle.lk_questions.specs.NumberLaws.{lawful_op, def_given, held_given, laws_hold, law_steps}
use Rattle.lk_step.specs.Rows.{IsAnswered}
use Rattle.lk_step.specs.Runs.{Runs, RunsOn}
use Rattle.lk_step.proofs.Runs.{runs_on}
use Rattle.lk_derive.specs.Units.{HasSort, HasType, AreMet, IsLawful, HasBody, HasParts}
use Rattle.lk_derive.proofs.QuietUnits.{quiet_found, quiet_nat, quiet_def_given, quiet_held_given, quiet_quot}

given_runs : {A : Type 0} (w : Place) (b : Bool) (r : Rule) (p : Program A) (v : A) (n : ℕ) → Runs w (given b r p) v n → (b ≡ true) × Runs w p v n
given_runs w true r p v n h = (refl, h)
given_runs w false r p v n h = absurd h

if_runs : {A : Type 0} (w : Place) (b : Bool) (r : Rule) (p : Program A) (v : A) (n : ℕ) → Runs w (if b then p else refuse r) v n → (b ≡ true) × Runs w p v n
if_runs w true r p v n h = (refl, h)
if_runs w false r p v n h = absurd h

sort_is : (w : Place) (S : Tree) (l : Level) (n : ℕ) → Runs w (as_sort S) l n → S ≡ sort l
sort_is w (sort k) l n h = ap (λ x. sort x) h.0
sort_is w _ l n h = absurd h

module _ (w : Place) (most : ℕ) where
  sort_runs : (A : Tree) (l : Level) (n : ℕ) → n ≤ most → Runs w (sort_of A) l n → HasSort w most A l
  sort_runs A l n less h =
      let T : Tree = h.0 in
      let more : Runs w (asked (whnf T) >>= as_sort) l h.2 = h.4 in
      let S : Tree = more.0 in
      let all : n ≡ h.1 + h.2 = h.5 in
      let rest : h.2 ≡ more.1 + more.2 = more.5 in
      record {
        between = T;
        typed = record { cost = h.1; answered = h.3; within = omega (arith, less, all) };
        reduced = record { cost = more.1; answered = subst (λ x. IsAnswered w (whnf T) x more.1) (sort_is w S l more.2 more.4) more.3; within = omega (arith, less, all, rest) };
      }

  value_runs : (type value : Tree) (y : Yes) (n : ℕ) → n ≤ most → Runs w (value_steps type value) y n → HasType w most value type
  value_runs type value y n less h =
      let V : Tree = h.0 in
      let more : Runs w (asked (same V type) >>= λ equal. given equal ValueType (done checked)) y h.2 = h.4 in
      let test : (more.0 ≡ true) × Runs w (done checked) y more.2 = given_runs w more.0 ValueType (done checked) y more.2 more.4 in
      let all : n ≡ h.1 + h.2 = h.5 in
      let rest : h.2 ≡ more.1 + more.2 = more.5 in
      record {
        inferred = V;
        typed = record { cost = h.1; answered = h.3; within = omega (arith, less, all) };
        equal = record { cost = more.1; answered = subst (λ x. IsAnswered w (same V type) x more.1) test.0 more.3; within = omega (arith, less, all, rest) };
      }

  laws_run : (laws : List Law) (n : ℕ) → n ≤ most → Runs w (laws_hold laws) tt n → AreMet w most laws
  laws_run [] n less h = tt
  laws_run (law ∷ laws) n less h =
      let k : Unit {0} → Program (Unit {0}) = λ u. asked (same law.left law.right) >>= λ equal. given equal NatLaw (laws_hold laws) in
      let r : RunsOn w (held_given law.holds) k tt n = runs_on w (held_given law.holds) k tt n h in
      let more : Runs w (k r.value) tt r.second = r.then_runs in
      let test : (more.0 ≡ true) × Runs w (laws_hold laws) tt more.2 = given_runs w more.0 NatLaw (laws_hold laws) tt more.2 more.4 in
      let all : n ≡ r.first + r.second = r.paid in
      let rest : r.second ≡ more.1 + more.2 = more.5 in (
        (
          quiet_found w (held_given law.holds) r.value r.first (quiet_held_given law.holds) r.runs,
          record { cost = more.1; answered = subst (λ x. IsAnswered w (same law.left law.right) x more.1) test.0 more.3; within = omega (arith, less, all, rest) },
        ),
        laws_run laws more.2 (omega (arith, less, all, rest)) test.1,
      )

  lawful_runs : (o : Option Op) (ls : List Name) (value : Tree) (u : Unit {0}) (n : ℕ) → n ≤ most → Runs w (law_steps o ls value) u n → IsLawful w most o ls value
  lawful_runs None ls value u n less h = tt
  lawful_runs (Some op) ls value u n less h =
      let behind : Unit {0} → Program (Unit {0}) = λ y. laws_hold (laws_of op value) in
      let counted : Program (Unit {0}) = def_given (stated_by op) >>= behind in
      let k : Unit {0} → Program (Unit {0}) = λ y. given (nat_eq (length ls) 0) NatLaw counted in
      let r : RunsOn w nat_shape k tt n = runs_on w nat_shape k tt n h in
      let test : (nat_eq (length ls) 0 ≡ true) × Runs w counted tt r.second = given_runs w (nat_eq (length ls) 0) NatLaw counted tt r.second r.then_runs in
      let s : RunsOn w (def_given (stated_by op)) behind tt r.second = runs_on w (def_given (stated_by op)) behind tt r.second test.1 in
      let all : n ≡ r.first + r.second = r.paid in
      let rest : r.second ≡ s.first + s.second = s.paid in (
        quiet_found w nat_shape r.value r.first quiet_nat r.runs,
        test.0,
        quiet_found w (def_given (stated_by op)) s.value s.first (quiet_def_given (stated_by op)) s.runs,
        laws_run (laws_of op value) s.second (omega (arith, less, all, rest)) s.then_runs,
      )

  module _ (d : Decl) where
    -- the sort of the type, and then what k makes of it
    record Sorted (k : Level → Program Yes) (y : Yes) : Type 0 where
      level : Level
      sorted : HasSort w most d.type level
      second : ℕ
      less : second ≤ most
      then_runs : Runs w (k level) y second

    sorted_first : (k : Level → Program Yes) (y : Yes) (n : ℕ) → n ≤ most → Runs w (sort_of d.type >>= k) y n → Sorted k y
    sorted_first k y n less h =
        let r : RunsOn w (sort_of d.type) k y n = runs_on w (sort_of d.type) k y n h in
        let all : n ≡ r.first + r.second = r.paid in
        record { level = r.value; sorted = sort_runs d.type r.value r.first (omega (arith, less, all)) r.runs; second = r.second; less = omega (arith, less, all); then_runs = r.then_runs }

    definition_runs : (l : Level) (value : Tree) (y : Yes) (n : ℕ) → n ≤ most → Runs w (value_steps d.type value >>= λ z. law_steps (lawful_op d.name) d.levels value >>= λ u. done checked) y n →
        HasType w most value d.type × IsLawful w most (lawful_op d.name) d.levels value
    definition_runs l value y n less h =
        let laws : Program (Unit {0}) = law_steps (lawful_op d.name) d.levels value in
        let k : Yes → Program Yes = λ z. laws >>= λ u. done checked in
        let r : RunsOn w (value_steps d.type value) k y n = runs_on w (value_steps d.type value) k y n h in
        let s : RunsOn w laws (λ u. done checked) y r.second = runs_on w laws (λ u. done checked) y r.second r.then_runs in
        let all : n ≡ r.first + r.second = r.paid in
        let rest : r.second ≡ s.first + s.second = s.paid in (
          value_runs d.type value r.value r.first (omega (arith, less, all)) r.runs,
          lawful_runs (lawful_op d.name) d.levels value s.value s.first (omega (arith, less, all, rest)) s.runs,
        )

    body_runs : (b : Body) (y : Yes) (n : ℕ) → n ≤ most → Runs w (body_steps d b) y n → (l : Level) × HasSort w most d.type l × HasBody w most d l b
    body_runs as_axiom y n less h =
        let s = sorted_first (λ l. done checked) y n less h in
        (s.level, s.sorted, tt)
    body_runs (as_def i value) y n less h =
        let s = sorted_first (λ l. value_steps d.type value >>= λ z. law_steps (lawful_op d.name) d.levels value >>= λ u. done checked) y n less h in
        (s.level, s.sorted, definition_runs s.level value y s.second s.less s.then_runs)
    body_runs (as_opaque value) y n less h =
        let s = sorted_first (λ l. value_steps d.type value) y n less h in
        (s.level, s.sorted, value_runs d.type value y s.second s.less s.then_runs)
    body_runs (as_thm value) y n less h =
        let s = sorted_first (λ l. if is_zero_level l then value_steps d.type value else refuse TheoremNotProp) y n less h in
        let test : (is_zero_level s.level ≡ true) × Runs w (value_steps d.type value) y s.second = if_runs w (is_zero_level s.level) TheoremNotProp (value_steps d.type value) y s.second s.then_runs in
        (s.level, s.sorted, (value_runs d.type value y s.second s.less test.1, test.0))
    body_runs as_quot y n less h =
        let k : Unit {0} → Program Yes = λ u. sort_of d.type >>= λ l. done checked in
        let r : RunsOn w (quot_steps d.name d.levels d.type) k y n = runs_on w (quot_steps d.name d.levels d.type) k y n h in
        let all : n ≡ r.first + r.second = r.paid in
        let s = sorted_first (λ l. done checked) y r.second (omega (arith, less, all)) r.then_runs in
        (s.level, s.sorted, quiet_found w (quot_steps d.name d.levels d.type) r.value r.first (quiet_quot d.name d.levels d.type) r.runs)

    pub unit_runs : (y : Yes) (n : ℕ) → n ≤ most → Runs w (unit_steps d) y n → HasParts w most d
    unit_runs y n less h =
        let r : (l : Level) × HasSort w most d.type l × HasBody w most d l d.body = body_runs d.body y n less h in
        record { level = r.0; sorted = r.1; body = r.2 }
