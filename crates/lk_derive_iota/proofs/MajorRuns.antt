-- The major premise, by its weak head form.
use Rattle.std.proofs.Common.{ℕ, ◌≡◌, ◌<◌, ◌+◌, [], ◌∷◌, Option, Some, sym, subst, ap, arith}
use Rattle.lk_tree.specs.Tree.{Tree, const}
use Rattle.lk_tree.specs.Spine.{apply}
use Rattle.lk_tree.specs.declared.rule.Rule.{Rule}
use Rattle.lk_tree.specs.WellFormed.{IsWellFormed}
use Rattle.lk_rulebook.specs.Place.{Place, Entry}
use Rattle.lk_rulebook.specs.WellStated.{WellStated}
use Rattle.lk_rulebook.specs.Structures.{RecApp, on_major}
use Rattle.lk_rulebook.specs.Claims.{Claim, reduces}
use Rattle.lk_rulebook.proofs.Texts.{read_fine}
use Rattle.lk_questions.specs.Query.{whnf}
use Rattle.lk_questions.specs.Program.{Program, done, refuse, ask, look, ◌>>=◌}
use Rattle.lk_questions.specs.Settled.{Settled, comes, fails, settle, settle_look}
use Rattle.lk_questions.specs.Strings.{literal_to_ctor}
use Rattle.lk_questions.specs.Answer.{later}
use Rattle.lk_questions.specs.Iota.{iota_of}
use Rattle.lk_questions.specs.Tests.{found}
use Rattle.lk_written.specs.Line.{major_rule}
use Rattle.lk_rulebook.specs.Literals.{Reads}
use Rattle.lk_store.specs.Contents.{Contents, Extends, IsTree}
use Rattle.lk_env.specs.StoredLibrary.{StoredLibrary}
use Rattle.lk_step.specs.declared.step.Row.{Row}
use Rattle.lk_step.specs.Steps.{reduction, StepHolds}
use Rattle.lk_step.specs.Rows.{IsAnswered}
use Rattle.lk_step.specs.Runs.{Runs, AreOne}
use Rattle.lk_step.specs.Shaped.{IsShapedAnswer}
use Rattle.lk_step.specs.Told.{IsAnsweredWithin}
use Rattle.lk_step.specs.Parts.{IsPartIn, States, AsksForm}
use Rattle.lk_step.proofs.Runs.{one_answer}
use Rattle.lk_step.proofs.Shapes.{shaped_answer}
use Rattle.lk_step.proofs.ReductionSteps.{reduction_steps}
use Rattle.lk_step.proofs.Parts.{first, behind}
use Rattle.lk_step.proofs.PartsIn.{part_these, part_stays}
use Rattle.lk_tree.proofs.Spines.{well_formed_of_apply}
use Rattle.lk_derive_iota.specs.declared.redexes.Redex.{Redex}
use Rattle.lk_derive_iota.specs.Stages.{Stage, at_major, at_subject, IsUnderWay, HasRead}
use Rattle.lk_derive_iota.proofs.Growing.{redex_grows}
use Rattle.lk_derive_iota.proofs.Reading.{reads_found, reading_passes}

-- what a program comes to that was settled
settled_on : {A : Type 0} (w : Place) (p : Program A) (t u : Option ℕ) (a : A) (k : A → Program Tree) (v : Tree) (n : ℕ) → settle w t p ≡ comes u a → Runs w (p >>= k) v n → (found w p ≡ Some a) × Runs w (k a) v n
settled_on w (done x) t u a k v n e h = let i : x ≡ a = cc in (ap (λ z. Some z) i, subst (λ z. Runs w (k z) v n) i h)
settled_on w (refuse r) t u a k v n e h = absurd h
settled_on w (ask q f) t u a k v n e h = absurd cc
settled_on {A} w (look r c f) t u a k v n e h =
    let next : Option ℕ → Entry → Settled A = λ u e. settle w u (f e) in
    let there : settle w (later t (Some (w.origin c))) (f h.0) ≡ comes u a = subst (λ o. settle_look r t o (w.origin c) (w.flaw c) next ≡ comes u a) h.1 e in
    let i : (found w (f h.0) ≡ Some a) × Runs w (k a) v n = settled_on w (f h.0) (later t (Some (w.origin c))) u a k v n there h.2 in
    (rw h.1 i.0, i.1)

-- a run is not refused
settled_not : {A : Type 0} (w : Place) (p : Program A) (t : Option ℕ) (x : Rule) (k : A → Program Tree) (v : Tree) (n : ℕ) → settle w t p ≡ fails x → Runs w (p >>= k) v n → ⊥
settled_not w (done y) t x k v n e h = absurd cc
settled_not w (refuse r) t x k v n e h = h
settled_not w (ask q f) t x k v n e h = absurd cc
settled_not {A} w (look r c f) t x k v n e h =
    let next : Option ℕ → Entry → Settled A = λ u e. settle w u (f e) in
    let there : settle w (later t (Some (w.origin c))) (f h.0) ≡ fails x = subst (λ o. settle_look r t o (w.origin c) (w.flaw c) next ≡ fails x) h.1 e in
    settled_not w (f h.0) (later t (Some (w.origin c))) x k v n there h.2

-- it may be asked for
pub major_within : {w : Place} {l : StoredLibrary} {c : Contents} {r : Row} {most : ℕ} {u : Redex} {m : Tree} (h : IsUnderWay w l c r most u m at_major 0) → IsAnsweredWithin w (whnf h.first) most
major_within h =
    let paid : h.spent + 0 + h.second < h.cost = h.paid in
    let within = h.within in
    let one : h.second ≡ h.runs.1 + h.runs.2 = h.runs.5 in
    (h.runs.0, h.runs.1, h.runs.3, omega arith)

pub first_fine : {w : Place} {l : StoredLibrary} {c : Contents} {r : Row} {most : ℕ} {u : Redex} {m : Tree} {s : Stage} {b : ℕ} (h : IsUnderWay w l c r most u m s b) → IsWellFormed h.first
first_fine h = (well_formed_of_apply (on_major h.R h.first) h.rest (subst IsWellFormed (sym h.e_is) h.fine)).0.1

-- its weak head form is stated, and what is read of it
pub has_read : {w : Place} {l : StoredLibrary} {c : Contents} {old : Row} {most : ℕ} {u : Redex} {m : Tree} (d : Contents) (new : Row) (h : IsUnderWay w l c old most u m at_major 0) → WellStated w → (d₀ : Contents) → Extends c d → Extends d₀ d →
    (W n : Tree) → AsksForm w c d₀ old new h.first W → (t v : Option ℕ) → settle w t (literal_to_ctor W) ≡ comes v n → HasRead w l d new most u W n
has_read {w = w} {l = l} {old = old} {most = most} {u = u} {m = m} d new h ok d₀ x y W n a t v e =
    let go : Tree → Program Tree = λ k. iota_of h.e h.R.entry h.R.levels h.R.recursor h.R.front h.rest k in
    let one : AreOne h.runs.0 W h.runs.1 a.cost = one_answer w (whnf h.first) h.runs.0 W h.runs.1 a.cost h.runs.3 a.answered in
    let run : Runs w (literal_to_ctor W >>= go) h.value h.runs.2 = subst (λ z. Runs w (literal_to_ctor z >>= go) h.value h.runs.2) one.answer h.runs.4 in
    let i : (found w (literal_to_ctor W) ≡ Some n) × Runs w (go n) h.value h.runs.2 = settled_on w (literal_to_ctor W) t v n go h.value h.runs.2 e run in
    let rd : Reads w W n = reads_found w W n i.0 in
    let ff : IsWellFormed h.first = first_fine h in
    let shape : IsShapedAnswer (whnf h.first) W = shaped_answer w ok (whnf h.first) W a.cost ff a.answered in
    let fn : IsWellFormed n = read_fine rd shape.0.1 in
    let cost : h.runs.1 ≡ a.cost = one.cost in
    let whole : h.second ≡ h.runs.1 + h.runs.2 = h.runs.5 in
    let paid : h.spent + 0 + h.second < h.cost = h.paid in
    let reached : Claim = reduces (on_major h.R h.first) (on_major h.R m) in
    let both : IsPartIn w d new (reduces h.first W ∷ reached ∷ []) (h.spent + a.cost) = part_stays w d₀ d y new (reduces h.first W ∷ reached ∷ []) (h.spent + a.cost) (a.asks ff (reached ∷ []) h.spent h.part) in
    record {
      m = m;
      under = record {
        R = h.R;
        e = h.e;
        first = h.first;
        rest = h.rest;
        redex = redex_grows x l u h.R h.e h.first h.rest h.redex;
        e_is = h.e_is;
        value = h.value;
        cost = h.cost;
        answered = h.answered;
        within = h.within;
        fine = h.fine;
        fine_at = h.fine_at;
        spent = h.spent + a.cost;
        second = h.runs.2;
        paid = omega arith;
        part = part_these w d new (reduces h.first W ∷ reached ∷ []) (reached ∷ []) (h.spent + a.cost) (h.spent + a.cost) (behind (reduces h.first W) (reached ∷ []) reached (first reached []), tt) (omega arith) both;
        facts = tt;
        runs = i.1;
      };
      stated = part_these w d new (reduces h.first W ∷ reached ∷ []) (reduces h.first W ∷ []) (h.spent + a.cost) (h.spent + a.cost) (first (reduces h.first W) (reached ∷ []), tt) (omega arith) both;
      fine_read = fn;
      holds = (reduction_steps w).major h.R h.first W n (reading_passes w W n i.0) ff fn;
    }

-- a literal is read, in a run
pub read_not : {w : Place} {l : StoredLibrary} {c : Contents} {r : Row} {most : ℕ} {u : Redex} {m : Tree} (h : IsUnderWay w l c r most u m at_major 0) → (W : Tree) (k : ℕ) → IsAnswered w (whnf h.first) W k → (t : Option ℕ) (x : Rule) →
    settle w t (literal_to_ctor W) ≡ fails x → ⊥
read_not {w = w} h W k a t x e =
    let go : Tree → Program Tree = λ k. iota_of h.e h.R.entry h.R.levels h.R.recursor h.R.front h.rest k in
    let one : AreOne h.runs.0 W h.runs.1 k = one_answer w (whnf h.first) h.runs.0 W h.runs.1 k h.runs.3 a in
    settled_not w (literal_to_ctor W) t x go h.value h.runs.2 e (subst (λ z. Runs w (literal_to_ctor z >>= go) h.value h.runs.2) one.answer h.runs.4)

-- the step by it is stated
pub major_stated : {w : Place} {l : StoredLibrary} {c : Contents} {old : Row} {most : ℕ} {u : Redex} {W n : Tree} (d : Contents) (new : Row) (h : HasRead w l c old most u W n) → Extends c d →
    ((R : RecApp w) (f : Tree) → IsTree c u.reached (on_major R f) → IsTree c u.front (apply (const R.name R.levels) R.front) → IsTree c u.major f →
    StepHolds w (reduction major_rule (on_major R f) (on_major R n) (reduces f W ∷ [])) → States w d old new (reduces f W ∷ []) (reduces (on_major R f) (on_major R n))) →
    IsUnderWay w l d new most u n (at_subject n) 0
major_stated {w = w} {l = l} {c = c} {old = old} {u = u} {W = W} {n = n} d new h x states =
    let k = h.under in
    let claim : Claim = reduces (on_major k.R k.first) (on_major k.R n) in
    let s : States w d old new (reduces k.first W ∷ []) claim = states k.R k.first k.redex.reached_is k.redex.front_is k.redex.major_is h.holds in
    let p : IsPartIn w d new (claim ∷ reduces k.first W ∷ []) k.spent = s (reduces k.first W ∷ []) k.spent (first (reduces k.first W) [], tt) (part_stays w c d x old (reduces k.first W ∷ []) k.spent h.stated) in
    record {
      R = k.R;
      e = k.e;
      first = k.first;
      rest = k.rest;
      redex = redex_grows x l u k.R k.e k.first k.rest k.redex;
      e_is = k.e_is;
      value = k.value;
      cost = k.cost;
      answered = k.answered;
      within = k.within;
      fine = k.fine;
      fine_at = h.fine_read;
      spent = k.spent;
      second = k.second;
      paid = k.paid;
      part = part_these w d new (claim ∷ reduces k.first W ∷ []) (claim ∷ []) k.spent k.spent (first claim (reduces k.first W ∷ []), tt) (omega arith) p;
      facts = tt;
      runs = k.runs;
    }
