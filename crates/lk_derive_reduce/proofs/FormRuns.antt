-- What a run of Whnf says.
use Rattle.std.proofs.Common.{ℕ, suc, ◌≡◌, ◌<◌, ◌≤◌, ◌+◌, List, [], ◌∷◌, Option, Some, None, refl, sym, subst, ◌∙◌, arith}
use Rattle.lk_tree.specs.Tree.{Name, Level, Tree, const}
use Rattle.lk_tree.specs.Spine.{head}
use Rattle.lk_tree.specs.WellFormed.{IsWellFormed}
use Rattle.lk_rulebook.specs.Place.{Place, Entry}
use Rattle.lk_rulebook.specs.WellStated.{WellStated}
use Rattle.lk_rulebook.specs.Claims.{reduces}
use Rattle.lk_questions.specs.Query.{core, whnf}
use Rattle.lk_questions.specs.Program.{Program, done}
use Rattle.lk_questions.specs.Steps.{value_of}
use Rattle.lk_questions.specs.Core.{unfolded, stepped, whnf_headed}
use Rattle.lk_questions.specs.Literals.{literal_step}
use Rattle.lk_questions.specs.LiteralLines.{step_of}
use Rattle.lk_store.specs.Contents.{Contents, Extends}
use Rattle.lk_env.specs.declared.entry.Entry.{Entry as StoredEntry}
use Rattle.lk_ask.specs.Looks.{Basis, entry_at}
use Rattle.lk_step.specs.declared.step.Row.{Row}
use Rattle.lk_step.specs.Rows.{IsAnswered, IsClaim}
use Rattle.lk_step.specs.Runs.{Runs, RunsOn, IsOpened, AreOne}
use Rattle.lk_step.specs.Shaped.{IsShapedAnswer}
use Rattle.lk_step.specs.Told.{IsAnsweredWithin}
use Rattle.lk_step.proofs.Runs.{opened_so, one_answer, runs_on}
use Rattle.lk_step.proofs.Shapes.{shaped_answer}
use Rattle.lk_step.specs.Tests.{IsRun}
use Rattle.lk_step.specs.Computed.{AddsNothing, AddsValue}
use Rattle.lk_step.specs.Parts.{IsEmpty, AsksCore, IsPartIn, Chains, IsWhole}
use Rattle.lk_derive_reduce.specs.Forms.{AtCore, UnfoldsBy, ComputesNothing}
use Rattle.lk_step.proofs.Parts.{first, behind}
use Rattle.lk_step.proofs.PartsIn.{part_none, part_stays, part_whole}

-- Core is asked for first
record FirstRun (w : Place) (most : ℕ) (e : Tree) (v : Tree) (n : ℕ) : Type 0 where
  form : Tree
  first : ℕ
  second : ℕ
  headed : IsAnswered w (core e) form first
  runs : Runs w (whnf_headed form (head form)) v second
  paid : first + second < n

first_run : (w : Place) (most : ℕ) (e : Tree) (k : IsClaim w (whnf e) most) → FirstRun w most e k.answer k.cost
first_run w most e k =
    let o : IsOpened w (whnf e) k.answer k.cost = opened_so w (whnf e) k.answer k.cost k.answered in
    let run = o.2 in
    let paid : k.cost ≡ suc o.0 = o.1 in
    let spent : o.0 ≡ run.1 + run.2 = run.5 in
    record { form = run.0; first = run.1; second = run.2; headed = run.3; runs = run.4; paid = omega arith }

pub core_within : (w : Place) (most : ℕ) (e : Tree) → IsClaim w (whnf e) most → IsAnsweredWithin w (core e) most
core_within w most e k =
    let r : FirstRun w most e k.answer k.cost = first_run w most e k in
    let paid : r.first + r.second < k.cost = r.paid in
    let within : k.cost ≤ most = k.within in
    (r.form, r.first, r.headed, omega arith)

pub at_core : (w : Place) (most : ℕ) (c d : Contents) (old new : Row) (e v : Tree) → WellStated w → IsEmpty old → IsClaim w (whnf e) most → AsksCore w c d old new e v → AtCore w d new most e v
at_core w most c d old new e v ok empty k a =
    let r : FirstRun w most e k.answer k.cost = first_run w most e k in
    let one : AreOne r.form v r.first a.cost = one_answer w (core e) r.form v r.first a.cost r.headed a.answered in
    let same : r.form ≡ v = one.answer in
    let cost : r.first ≡ a.cost = one.cost in
    let paid : r.first + r.second < k.cost = r.paid in
    let shape : IsShapedAnswer (core e) v = shaped_answer w ok (core e) v a.cost k.askable a.answered in
    record {
      value = k.answer;
      cost = k.cost;
      answered = k.answered;
      within = k.within;
      fine = k.askable;
      core_fine = shape.0.1;
      first = 0 + a.cost;
      second = r.second;
      paid = omega arith;
      part = a.asks k.askable [] 0 (part_none w c old empty);
      runs = subst (λ z. Runs w (whnf_headed z (head z)) k.answer r.second) same r.runs;
    }

-- the head is a constant
record ConstantRun (w : Place) (c : Tree) (f : Name) (ls : List Level) (v : Tree) (n : ℕ) : Type 0 where
  plain : Entry
  given : w.means f ≡ Some plain
  result : Option Tree
  first : ℕ
  second : ℕ
  computed : Runs w (literal_step c f ls plain) result first
  after : Runs w (stepped result (unfolded plain (const f ls) c (value_of plain.kind))) v second
  paid : n ≡ first + second

constant_run : (w : Place) (c : Tree) (f : Name) (ls : List Level) (v : Tree) (n : ℕ) → Runs w (whnf_headed c (const f ls)) v n → ConstantRun w c f ls v n
constant_run w c f ls v n h =
    let r : RunsOn w (literal_step c f ls h.0) (λ r. stepped r (unfolded h.0 (const f ls) c (value_of h.0.kind))) v n =
    runs_on w (literal_step c f ls h.0) (λ r. stepped r (unfolded h.0 (const f ls) c (value_of h.0.kind))) v n h.2 in
    record { plain = h.0; given = h.1; result = r.value; first = r.first; second = r.second; computed = r.runs; after = r.then_runs; paid = r.paid }

run_at : (w : Place) (d : Contents) (r : Row) (most : ℕ) (e c : Tree) (f : Name) (ls : List Level) (a : AtCore w d r most e c) → const f ls ≡ head c → ConstantRun w c f ls a.value a.second
run_at w d r most e c f ls a h = constant_run w c f ls a.value a.second (subst (λ z. Runs w (whnf_headed c z) a.value a.second) (sym h) a.runs)

pub is_given : (w : Place) (d : Contents) (r : Row) (most : ℕ) (e c : Tree) (f : Name) (ls : List Level) → AtCore w d r most e c → const f ls ≡ head c → w.means f ≡ None → ⊥
is_given w d r most e c f ls a h none =
    let k : ConstantRun w c f ls a.value a.second = run_at w d r most e c f ls a h in
    let some : w.means f ≡ Some k.plain = k.given in
    absurd cc

pub unfolds_by : {B : Type 0} (b : Basis B) (entry : StoredEntry) (d : Contents) (r : Row) (most : ℕ) (e c : Tree) (f : Name) (ls : List Level) → AtCore b.place d r most e c → const f ls ≡ head c → b.place.means f ≡ entry_at b entry → ComputesNothing b.place c →
    UnfoldsBy b d r most e c entry ls
unfolds_by b entry d r most e c f ls a h m nothing =
    let k : ConstantRun b.place c f ls a.value a.second = run_at b.place d r most e c f ls a h in
    let none : k.result ≡ None = nothing.nothing k.result k.first (subst (λ z. Runs b.place (step_of c z) k.result k.first) h (k.plain, k.given, k.computed)) in
    let spent : a.second ≡ k.first + k.second = k.paid in
    let paid : a.first + a.second < a.cost = a.paid in
    record {
      plain = k.plain;
      is = sym m ∙ k.given;
      unfolds = record {
        value = a.value;
        cost = a.cost;
        answered = a.answered;
        within = a.within;
        fine = a.fine;
        core_fine = a.core_fine;
        first = a.first;
        second = k.second;
        paid = omega (arith, spent, paid);
        part = a.part;
        name = f;
        head_is = sym h;
        given = k.given;
        runs = subst (λ o. Runs b.place (stepped o (unfolded k.plain (const f ls) c (value_of k.plain.kind))) a.value k.second) none k.after;
      };
    }

-- the literal step comes first
record StepRun (w : Place) (c h v : Tree) (n : ℕ) : Type 0 where
  result : Option Tree
  first : ℕ
  runs : Runs w (step_of c h) result first
  paid : first ≤ n
  value : (u : Tree) → result ≡ Some u → v ≡ u

step_run : (w : Place) (c h v : Tree) (n : ℕ) → Runs w (whnf_headed c h) v n → StepRun w c h v n
step_run w c (const f ls) v n r =
    let k : ConstantRun w c f ls v n = constant_run w c f ls v n r in
    let paid : n ≡ k.first + k.second = k.paid in
    record {
      result = k.result;
      first = k.first;
      runs = (k.plain, k.given, k.computed);
      paid = omega (arith, paid);
      value = λ u e. let after : Runs w (done u) v k.second = subst (λ o. Runs w (stepped o (unfolded k.plain (const f ls) c (value_of k.plain.kind))) v k.second) e k.after in sym after.0;
    }
step_run w c _ v n r = record { result = None; first = 0; runs = (refl, refl); paid = omega arith; value = λ u e. absurd cc }

pub step_within : (w : Place) (d : Contents) (r : Row) (most : ℕ) (e c : Tree) → AtCore w d r most e c → IsRun w (step_of c (head c)) most
step_within w d r most e c a =
    let s : StepRun w c (head c) a.value a.second = step_run w c (head c) a.value a.second a.runs in
    let less : s.first ≤ a.second = s.paid in
    let paid : a.first + a.second < a.cost = a.paid in
    let within : a.cost ≤ most = a.within in
    record { value = s.result; cost = s.first; runs = s.runs; within = omega (arith, less, paid, within) }

pub operation_whole : (w : Place) (most : ℕ) (c d : Contents) (old mid new : Row) (e k v : Tree) → WellStated w → AtCore w c old most e k → AddsValue w c d old mid k v → Chains d mid new e k v → IsWhole w d (whnf e) new
operation_whole w most c d old mid new e k v ok a adds chained =
    let s : StepRun w k (head k) a.value a.second = step_run w k (head k) a.value a.second a.runs in
    let is : a.value ≡ v = s.value v (adds.gives s.result s.first s.runs) in
    let less : s.first ≤ a.second = s.paid in
    let paid : a.first + a.second < a.cost = a.paid in
    let shape : IsShapedAnswer (whnf e) a.value = shaped_answer w ok (whnf e) a.value a.cost a.fine a.answered in
    let fine : IsWellFormed v = subst IsWellFormed is shape.0.1 in
    let p : IsPartIn w d mid (reduces k v ∷ reduces e k ∷ []) (a.first + s.first) = adds.asks s.result s.first s.runs (reduces e k ∷ []) a.first a.part in
    let q : IsPartIn w d new (reduces e v ∷ reduces k v ∷ reduces e k ∷ []) (a.first + s.first) =
    chained.states w a.fine fine (reduces k v ∷ reduces e k ∷ []) (a.first + s.first) (behind (reduces k v) (reduces e k ∷ []) (reduces e k) (first (reduces e k) []), (first (reduces k v) (reduces e k ∷ []), tt)) p in
    part_whole w d new (whnf e) v a.cost (a.first + s.first) (reduces k v ∷ reduces e k ∷ []) (subst (λ z. IsAnswered w (whnf e) z a.cost) is a.answered) tt (omega (arith, less, paid)) q

pub nothing_at : (w w' : Place) (c c' : Tree) (old new : Row) → w' ≡ w → c' ≡ c → AddsNothing w old new c → ComputesNothing w' c'
nothing_at w w' c c' old new ew ec h = subst (λ z. ComputesNothing z c') (sym ew) (subst (λ z. ComputesNothing w z) (sym ec) (record { nothing = h.nothing }))

pub at_grown : (w w' : Place) (c d : Contents) (r r' : Row) (most : ℕ) (e e' k k' : Tree) → w' ≡ w → e' ≡ e → k' ≡ k → r' ≡ r → Extends c d → AtCore w c r most e k → AtCore w' d r' most e' k'
at_grown w w' c d r r' most e e' k k' ew ee ek er x a =
    let grown : AtCore w d r most e k = record {
      value = a.value;
      cost = a.cost;
      answered = a.answered;
      within = a.within;
      fine = a.fine;
      core_fine = a.core_fine;
      first = a.first;
      second = a.second;
      paid = a.paid;
      part = part_stays w c d x r (reduces e k ∷ []) a.first a.part;
      runs = a.runs;
    } in
    subst (λ z. AtCore z d r' most e' k') (sym ew)
    (subst (λ z. AtCore w d z most e' k') (sym er)
    (subst (λ z. AtCore w d r most z k') (sym ee)
    (subst (λ z. AtCore w d r most e z) (sym ek) grown)))

-- the same at another store
pub core_at : (w w' : Place) (d : Contents) (r : Row) (most : ℕ) (e e' c : Tree) → w' ≡ w → e' ≡ e → AtCore w d r most e c → AtCore w' d r most e' c
core_at w w' d r most e e' c ew ee a = subst (λ z. AtCore z d r most e' c) (sym ew) (subst (λ z. AtCore w d r most z c) (sym ee) a)

-- no constant is at the head
pub headless_whole : (w : Place) (d : Contents) (r : Row) (most : ℕ) (e c h : Tree) → h ≡ head c → whnf_headed c h ≡ done c → AtCore w d r most e c → IsWhole w d (whnf e) r
headless_whole w d r most e c h eh is a =
    let runs : Runs w (done c) a.value a.second = subst (λ (p : Program Tree). Runs w p a.value a.second) (subst (λ z. whnf_headed c z ≡ done c) eh is) a.runs in
    let paid : a.first + a.second < a.cost = a.paid in
    part_whole w d r (whnf e) c a.cost a.first [] (subst (λ z. IsAnswered w (whnf e) z a.cost) (sym runs.0) a.answered) tt (omega arith) a.part
