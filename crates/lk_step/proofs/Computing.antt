-- What a run of the literal step says.
use Rattle.std.proofs.Common.{ℕ, ◌≡◌, ◌+◌, Bool, true, false, ◌&&◌, nat_eq, List, [], ◌∷◌, length, Option, Some, None, refl, sym, ◌∙◌, subst, ap, arith, if◌then◌else◌}
use Rattle.std.specs.Prelude.{option_map}
use Rattle.lk_tree.specs.Tree.{Name, Tree, const}
use Rattle.lk_tree.specs.Bind.{bound}
use Rattle.lk_tree.specs.Operations.{Op, arity, Value, number, truth, op_value}
use Rattle.lk_tree.specs.Spine.{apply, head, args}
use Rattle.lk_tree.specs.Mentions.{same_name}
use Rattle.lk_tree.specs.WellFormed.{IsWellFormed}
use Rattle.lk_tree.specs.declared.rule.Rule.TheVariants.{BuiltinShape}
use Rattle.lk_tree.proofs.Spines.{well_formed_of_apply}
use Rattle.lk_tree.proofs.Within.{apply_head_args}
use Rattle.lk_rulebook.specs.Place.{Place, Entry, Kind, a_type}
use Rattle.lk_rulebook.specs.Names.{named, op_name}
use Rattle.lk_rulebook.specs.Literals.{may_give}
use Rattle.lk_rulebook.specs.Claims.{Claim, reduces}
use Rattle.lk_rulebook.proofs.Texts.{result_fine}
use Rattle.lk_questions.specs.Query.{whnf}
use Rattle.lk_questions.specs.Program.{Program, done, refuse, ask, look, ◌>>=◌}
use Rattle.lk_questions.specs.Literals.{numeral_of, with_first, numerals, result_of, computed, ops, op_named, op_step, literal_step}
use Rattle.lk_questions.specs.LiteralLines.{step_of}
use Rattle.lk_questions.specs.Steps.{given}
use Rattle.lk_questions.specs.Shapes.{is_sort_one, are_nat_ctors, nat_shape_by, nat_shape}
use Rattle.lk_questions.specs.Tests.{found}
use Rattle.lk_claims.proofs.Facts.{found_holds}
use Rattle.lk_claims.proofs.Numerals.{IfResult, sound_result}
use Rattle.lk_claims.proofs.Pieces.{Some_inj, halves, same_name_right}
use Rattle.lk_table_sound.proofs.Soundness.{IsQuiet, quiet_bind, quiet_given}
use Rattle.lk_written.specs.Line.{operation_rule}
use Rattle.lk_step.specs.Steps.{reduction, StepHolds}
use Rattle.lk_step.specs.Rows.{IsAnswered}
use Rattle.lk_step.specs.Runs.{Runs, RunsOn, AreOne}
use Rattle.lk_step.specs.MajorSteps.{AreNumerals, no_numeral, a_numeral, Agrees, AllAgree, IsAny}
use Rattle.lk_step.specs.Computed.{AreRead, none_read, one_read, Computation}
use Rattle.lk_step.proofs.Runs.{one_answer, runs_on}
use Rattle.lk_step.proofs.MajorSteps.{major_steps}
use Rattle.lk_step.proofs.Quiet.{quiet_sort_one}

-- what a program that asks nothing gives is found
record IsFound {A : Type 0} (w : Place) (p : Program A) (v : A) (n : ℕ) : Type 0 where
  is : found w p ≡ Some v
  free : n ≡ 0

found_run : {A : Type 0} (w : Place) (p : Program A) (v : A) (n : ℕ) → IsQuiet p → Runs w p v n → IsFound w p v n
found_run w (done u) v n q h = record { is = ap Some h.0; free = h.1 }
found_run w (refuse r) v n q h = absurd h
found_run w (ask x k) v n q h = absurd q
found_run w (look r c k) v n q h =
    let i : IsFound w (k h.0) v n = found_run w (k h.0) v n (q h.0) h.2 in
    record { is = rw h.1 i.is; free = i.free }

quiet_nat_by : (g : Entry) (k : Kind) → IsQuiet (nat_shape_by g k)
quiet_nat_by g (a_type block t) =
    quiet_given ((nat_eq (length block.types) 1 && nat_eq t.parameters 0) && (nat_eq t.indices 0 && nat_eq (length g.levels) 0)) BuiltinShape (is_sort_one g.type >>= λ one. given (one && are_nat_ctors t.ctors) BuiltinShape (done tt))
    (quiet_bind (is_sort_one g.type) (λ one. given (one && are_nat_ctors t.ctors) BuiltinShape (done tt)) (quiet_sort_one g.type) (λ one. quiet_given (one && are_nat_ctors t.ctors) BuiltinShape (done tt) tt))
quiet_nat_by g _ = tt

quiet_result : (o : Option Value) → IsQuiet (result_of o)
quiet_result (Some (number n)) = tt
quiet_result (Some (truth b)) = λ g. tt
quiet_result None = tt

pub quiet_computed : (op : Op) (o : Option (List ℕ)) → IsQuiet (computed op o)
quiet_computed op None = tt
quiet_computed op (Some ns) = quiet_bind nat_shape (λ u. result_of (op_value op ns)) (λ g. quiet_nat_by g g.kind) (λ u. quiet_result (op_value op ns))

-- the arguments were read
record Numbers (w : Place) (es : List Tree) (ns : List ℕ) (n : ℕ) : Type 0 where
  claims : List Claim
  read : AreRead w es ns claims n

numbers_run : (w : Place) (es : List Tree) (ns : List ℕ) (n : ℕ) → Runs w (numerals es) (Some ns) n → Numbers w es ns n
numbers_run w [] ns n h =
    let none : [] ≡ ns = Some_inj h.0 in
    record { claims = []; read = subst (λ k. AreRead w [] ns [] k) (sym h.1) (subst (λ ks. AreRead w [] ks [] 0) none none_read) }
numbers_run w (e ∷ es) ns n h = first (numeral_of h.0) refl h.4 (λ ks m. numbers_run w es ks m)
  where
    rest : (k : ℕ) → numeral_of h.0 ≡ Some k → (o : Option (List ℕ)) (a b : ℕ) → Runs w (numerals es) o a → Runs w (done (option_map (λ ks. k ∷ ks) o)) (Some ns) b → h.2 ≡ a + b → ((ks : List ℕ) (m : ℕ) → Runs w (numerals es) (Some ks) m → Numbers w es ks m) →
        Numbers w (e ∷ es) ns n
    rest k i None a b r s paid more = absurd (let none : None ≡ Some ns = s.0 in cc)
    rest k i (Some ks) a b r s paid more =
        let all : Numbers w es ks a = more ks a r in
        let same : k ∷ ks ≡ ns = Some_inj s.0 in
        let free : b ≡ 0 = s.1 in
        let spent : n ≡ h.1 + h.2 = h.5 in
        let cost : n ≡ h.1 + a = omega (arith, paid, free, spent) in
        record { claims = reduces e h.0 ∷ all.claims; read = subst (λ z. AreRead w (e ∷ es) ns (reduces e h.0 ∷ all.claims) z) (sym cost) (subst (λ zs. AreRead w (e ∷ es) zs (reduces e h.0 ∷ all.claims) (h.1 + a)) same (one_read h.3 i all.read)) }

    first : (o : Option ℕ) → numeral_of h.0 ≡ o → Runs w (with_first o (numerals es)) (Some ns) h.2 → ((ks : List ℕ) (m : ℕ) → Runs w (numerals es) (Some ks) m → Numbers w es ks m) → Numbers w (e ∷ es) ns n
    first None i r more = absurd (let none : None ≡ Some ns = r.0 in cc)
    first (Some k) i r more =
        let on : RunsOn w (numerals es) (λ ks. done (option_map (λ rest. k ∷ rest) ks)) (Some ns) h.2 = runs_on w (numerals es) (λ ks. done (option_map (λ rest. k ∷ rest) ks)) (Some ns) h.2 r in
        rest k i on.value on.first on.second on.runs on.then_runs on.paid more

-- the operation that was computed
record OpRun (w : Place) (o : Option Op) (k : Kind) (xs : List Tree) (v : Tree) (n : ℕ) : Type 0 where
  op : Op
  is : o ≡ Some op
  may : may_give op k ≡ true
  count : nat_eq (length xs) (arity op) ≡ true
  numbers : List ℕ
  claims : List Claim
  read : AreRead w xs numbers claims n
  shaped : found w nat_shape ≡ Some tt
  result : found w (result_of (op_value op numbers)) ≡ Some (Some v)

op_computed : (w : Place) (op : Op) (k : Kind) (xs : List Tree) (v : Tree) (n a b : ℕ) (ns : List ℕ) → (may_give op k && nat_eq (length xs) (arity op)) ≡ true → Runs w (numerals xs) (Some ns) a → Runs w (computed op (Some ns)) (Some v) b → n ≡ a + b →
    OpRun w (Some op) k xs v n
op_computed w op k xs v n a b ns t r s paid =
    let on : RunsOn w nat_shape (λ u. result_of (op_value op ns)) (Some v) b = runs_on w nat_shape (λ u. result_of (op_value op ns)) (Some v) b s in
    let shape : IsFound w nat_shape on.value on.first = found_run w nat_shape on.value on.first (λ g. quiet_nat_by g g.kind) on.runs in
    let there : IsFound w (result_of (op_value op ns)) (Some v) on.second = found_run w (result_of (op_value op ns)) (Some v) on.second (quiet_result (op_value op ns)) on.then_runs in
    let free : on.first ≡ 0 = shape.free in
    let free' : on.second ≡ 0 = there.free in
    let more : b ≡ on.first + on.second = on.paid in
    let all : Numbers w xs ns a = numbers_run w xs ns a r in
    record {
      op = op;
      is = refl;
      may = (halves (may_give op k) (nat_eq (length xs) (arity op)) t).0;
      count = (halves (may_give op k) (nat_eq (length xs) (arity op)) t).1;
      numbers = ns;
      claims = all.claims;
      read = subst (λ z. AreRead w xs ns all.claims z) (omega (arith, free, free', more, paid)) all.read;
      shaped = shape.is;
      result = there.is;
    }

op_run : (w : Place) (o : Option Op) (k : Kind) (xs : List Tree) (v : Tree) (n : ℕ) → Runs w (op_step o k xs) (Some v) n → OpRun w o k xs v n
op_run w None k xs v n h = absurd (let none : None ≡ Some v = h.0 in cc)
op_run w (Some op) k xs v n h = go (may_give op k && nat_eq (length xs) (arity op)) refl h
  where
    read : (o : Option (List ℕ)) (a b : ℕ) → Runs w (numerals xs) o a → Runs w (computed op o) (Some v) b → n ≡ a + b → (may_give op k && nat_eq (length xs) (arity op)) ≡ true → OpRun w (Some op) k xs v n
    read None a b r s paid t = absurd (let none : None ≡ Some v = s.0 in cc)
    read (Some ns) a b r s paid t = op_computed w op k xs v n a b ns t r s paid

    go : (y : Bool) → (may_give op k && nat_eq (length xs) (arity op)) ≡ y → Runs w (if y then (numerals xs >>= λ ns. computed op ns) else done None) (Some v) n → OpRun w (Some op) k xs v n
    go false t r = absurd (let none : None ≡ Some v = r.0 in cc)
    go true t r =
        let on : RunsOn w (numerals xs) (λ ns. computed op ns) (Some v) n = runs_on w (numerals xs) (λ ns. computed op ns) (Some v) n r in
        read on.value on.first on.second on.runs on.then_runs on.paid t

op_named_at : (op : Op) (rest : List Op) (f : Name) (o : Op) → (op_named rest f ≡ Some o → op_name o ≡ f) → (b : Bool) → same_name (op_name op) f ≡ b → (if b then Some op else op_named rest f) ≡ Some o → op_name o ≡ f
op_named_at op rest f o h true e i = let j : op ≡ o = Some_inj i in rw (← j) (same_name_right (op_name op) f e)
op_named_at op rest f o h false e i = h i

op_named_right : (os : List Op) (f : Name) (o : Op) → op_named os f ≡ Some o → op_name o ≡ f
op_named_right [] f o e = absurd cc
op_named_right (op ∷ rest) f o e = op_named_at op rest f o (op_named_right rest f o) (same_name (op_name op) f) refl e

literal_run : (w : Place) (e : Tree) (f : Name) (g : Entry) (v : Tree) (n : ℕ) → w.means f ≡ Some g → head e ≡ const f [] → Runs w (literal_step e f [] g) (Some v) n → Computation w e v n
literal_run w e f g v n m i h = go (nat_eq (bound e) 0) h
  where
    go : (y : Bool) → Runs w (if y then op_step (op_named ops f) g.kind (args e) else done None) (Some v) n → Computation w e v n
    go false r = absurd (let none : None ≡ Some v = r.0 in cc)
    go true r =
        let o : OpRun w (op_named ops f) g.kind (args e) v n = op_run w (op_named ops f) g.kind (args e) v n r in
        let is : op_name o.op ≡ f = op_named_right ops f o.op o.is in
        record {
          op = o.op;
          numbers = o.numbers;
          claims = o.claims;
          head_is = i ∙ ap named (sym is);
          operation = record { entry = g; given = ap (λ z. w.means z) is ∙ m; kind = o.may };
          count = o.count;
          read = o.read;
          shaped = o.shaped;
          result = o.result;
        }

pub computation : (w : Place) (e v : Tree) (n : ℕ) → Runs w (step_of e (head e)) (Some v) n → Computation w e v n
computation w e v n h = go (head e) refl h
  where
    go : (t : Tree) → head e ≡ t → Runs w (step_of e t) (Some v) n → Computation w e v n
    go (const f []) i r = literal_run w e f r.0 v n r.1 i r.2
    go (const f (l ∷ ls)) i r = absurd (let none : None ≡ Some v = r.2.0 in cc)
    go _ i r = absurd (let none : None ≡ Some v = r.0 in cc)

-- the line of the operation
read_numerals : (w : Place) {es : List Tree} {ns : List ℕ} {cs : List Claim} {n : ℕ} → AreRead w es ns cs n → AreNumerals IsAny es ns cs
read_numerals w none_read = no_numeral
read_numerals w (one_read a i k) = a_numeral tt i (read_numerals w k)

one_form : (w : Place) (a b x y : Tree) (c d : ℕ) → IsAnswered w (whnf a) b c → IsAnswered w (whnf x) y d → x ≡ a → y ≡ b
one_form w a b x y c d h k e = (one_answer w (whnf a) y b d c (subst (λ z. IsAnswered w (whnf z) y d) e k) h).answer

read_agrees : (w : Place) (a b : Tree) (c : ℕ) → IsAnswered w (whnf a) b c → {es : List Tree} {ns : List ℕ} {cs : List Claim} {n : ℕ} → AreRead w es ns cs n → Agrees a b cs
read_agrees w a b c h none_read = tt
read_agrees w a b c h (one_read {e = e} {v = v} {c = d} k i more) = (one_form w a b e v c d h k, read_agrees w a b c h more)

read_agree : (w : Place) {es : List Tree} {ns : List ℕ} {cs : List Claim} {n : ℕ} → AreRead w es ns cs n → AllAgree cs
read_agree w none_read = tt
read_agree w (one_read {e = e} {v = v} {c = c} h i k) = (read_agrees w e v c h k, read_agree w k)

module _ (w : Place) (e v : Tree) (n : ℕ) (k : Computation w e v n) where
  pub value_fine : IsWellFormed v
  value_fine =
      let r : IfResult w (op_value k.op k.numbers) (Some v) = found_holds w (result_of (op_value k.op k.numbers)) (IfResult w (op_value k.op k.numbers)) (Some v) (sound_result w (op_value k.op k.numbers)) k.result in
      result_fine r

  pub operation_holds : IsWellFormed e → StepHolds w (reduction operation_rule e v k.claims)
  operation_holds f =
      let is : apply (head e) (args e) ≡ e = apply_head_args e in
      let is' : apply (named (op_name k.op)) (args e) ≡ e = subst (λ z. apply z (args e) ≡ e) k.head_is is in
      let fine : IsWellFormed (apply (named (op_name k.op)) (args e)) = subst IsWellFormed (sym is') f in
      subst (λ z. StepHolds w (reduction operation_rule z v k.claims)) is'
      ((major_steps w).operation_agreed k.op (args e) k.numbers v k.claims k.operation k.shaped (read_numerals w k.read) (read_agree w k.read) k.result (well_formed_of_apply (named (op_name k.op)) (args e) fine).1 value_fine)

-- one argument, or two
pub record OneRead (w : Place) (x u : Tree) (d : ℕ) (cs : List Claim) (n : ℕ) : Type 0 where
  pub claims_are : cs ≡ reduces x u ∷ []
  pub cost_is : n ≡ d

pub one_argument : (w : Place) (x u : Tree) (d : ℕ) (ns : List ℕ) (cs : List Claim) (n : ℕ) → IsAnswered w (whnf x) u d → AreRead w (x ∷ []) ns cs n → OneRead w x u d cs n
one_argument w x u d _ _ _ h (one_read {v = v} {c = c} k i none_read) =
    let one : AreOne v u c d = one_answer w (whnf x) v u c d k h in
    let cost : c ≡ d = one.cost in
    record { claims_are = ap (λ z. reduces x z ∷ []) one.answer; cost_is = omega (arith, cost) }

pub record TwoRead (w : Place) (x u y v : Tree) (d k : ℕ) (cs : List Claim) (n : ℕ) : Type 0 where
  pub claims_are : cs ≡ reduces x u ∷ reduces y v ∷ []
  pub cost_is : n ≡ d + k

pub two_arguments : (w : Place) (x u y v : Tree) (d k : ℕ) (ns : List ℕ) (cs : List Claim) (n : ℕ) → IsAnswered w (whnf x) u d → IsAnswered w (whnf y) v k → AreRead w (x ∷ y ∷ []) ns cs n → TwoRead w x u y v d k cs n
two_arguments w x u y v d k _ _ _ h g (one_read {v = a} {c = c} {m = m} {ns = ns} {cs = cs} r i more) =
    let one : AreOne a u c d = one_answer w (whnf x) a u c d r h in
    let rest : OneRead w y v k cs m = one_argument w y v k ns cs m g more in
    let cost : c ≡ d = one.cost in
    let cost' : m ≡ k = rest.cost_is in
    record { claims_are = ap (λ z. reduces x z ∷ cs) one.answer ∙ ap (λ zs. reduces x u ∷ zs) rest.claims_are; cost_is = omega (arith, cost, cost') }
