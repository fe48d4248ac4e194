-- Rows of Core at a constant of quotients, by numbers.
use Rattle.std.proofs.Common.{ℕ, suc, ◌≡◌, ◌<◌, ◌≤◌, ◌+◌, [], ◌∷◌, length, take, drop, Option, Some, None, sym, subst, ap, ◌∙◌, arith, inl}
use Rattle.std.proofs.Common.{take-append-drop}
use Rattle.std.specs.Prelude.{Result, OnOk}
use Rattle.lk_tree.specs.Tree.{Name, Tree, const, app}
use Rattle.lk_tree.specs.Mentions.{same_name}
use Rattle.lk_tree.specs.Spine.{apply, head, args}
use Rattle.lk_tree.specs.WellFormed.{IsWellFormed, AllWellFormed}
use Rattle.lk_tree.proofs.Spines.{fine_apply, well_formed_of_apply, apply_append}
use Rattle.lk_tree.proofs.Within.{apply_head_args}
use Rattle.lk_rulebook.specs.Place.{Place}
use Rattle.lk_rulebook.specs.WellStated.{WellStated}
use Rattle.lk_rulebook.specs.Names.{quot_mk, quot_lift}
use Rattle.lk_rulebook.specs.Claims.{reduces}
use Rattle.lk_questions.specs.Query.{core, whnf}
use Rattle.lk_claims.proofs.Facts.{same_self}
use Rattle.lk_written.specs.Line.{ReductionRule}
use Rattle.lk_store.specs.Contents.{Contents, Extends}
use Rattle.lk_quot.specs.Redexes.{PlainRedex, form_rest}
use Rattle.lk_step.specs.declared.step.Row.{Row}
use Rattle.lk_step.specs.Heads.{IsQuotientHead}
use Rattle.lk_step.specs.Steps.{reduction, StepHolds}
use Rattle.lk_step.specs.Rows.{IsAnswered, IsClaim}
use Rattle.lk_step.specs.Runs.{Runs, AreOne}
use Rattle.lk_step.specs.Shaped.{IsShapedAnswer}
use Rattle.lk_step.specs.Told.{IsAnsweredWithin}
use Rattle.lk_step.specs.Parts.{IsPartIn, States, IsWhole, IsEmpty, AsksForm, FollowsCore}
use Rattle.lk_step.proofs.Runs.{one_answer}
use Rattle.lk_step.proofs.Shapes.{shaped_answer}
use Rattle.lk_step.proofs.Parts.{first}
use Rattle.lk_step.proofs.PartsIn.{part_none, part_stays, part_these, part_whole, itself_whole}
use Rattle.lk_derive_quot.specs.declared.eliminators.Eliminator.{Eliminator}
use Rattle.lk_derive_quot.specs.Eliminators.{eliminator_if, reach, eliminator_rule}
use Rattle.lk_derive_quot.specs.Quotients.{major_at, reduct_at, AtMajor, OnElement, AtForm, AreBefore, StatesBehind, AtStep, IsApplied, AreEnds}
use Rattle.lk_derive_quot.proofs.Redexes.{Reaches, reaches, IsFineRedex, redex_fine}
use Rattle.lk_derive_quot.proofs.QuotientRuns.{major_is, no_major, no_major_stays, at_major, takes_next}

args_fine : (e : Tree) → IsWellFormed e → AllWellFormed (args e)
args_fine e f = (well_formed_of_apply (head e) (args e) (subst IsWellFormed (sym (apply_head_args e)) f)).1

-- no major premise
pub stays_whole : (w : Place) (most : ℕ) (d : Contents) (r : Row) (e : Tree) (last : Option ℕ) (h : IsQuotientHead w e) → IsEmpty r → IsClaim w (core e) most → major_at w last h.name e ≡ None → IsWhole w d (core e) r
stays_whole w most d r e last h empty k none =
    let s : (n : ℕ) × (k.cost ≡ suc n) × (k.answer ≡ e) = no_major_stays w most e h k (no_major w last h.name e none) in
    itself_whole w most d r e empty k s.2 s.0 s.1

-- the major premise
pub major_there : (w : Place) (most : ℕ) (e m : Tree) (last : Option ℕ) (h : IsQuotientHead w e) → IsClaim w (core e) most → major_at w last h.name e ≡ Some m → AtMajor w most h.name e m
major_there w most e m last h k there =
    let i : (p : PlainRedex) × _ × _ = major_is w last h.name e m there in
    at_major w most e m h k i.0 i.1 i.2

pub major_within : (w : Place) (most : ℕ) (c : Name) (e m : Tree) → AtMajor w most c e m → IsAnsweredWithin w (whnf m) most
major_within w most c e m a =
    let paid : a.first + a.second < a.cost = a.paid in
    let within : a.cost ≤ most = a.within in
    (a.form, a.first, a.formed, omega arith)

-- and its weak head form
pub at_form : (w : Place) (most : ℕ) (c : Name) (k m' d : Contents) (old new : Row) (e m W : Tree) (last : Option ℕ) → WellStated w → IsEmpty old → AtMajor w most c e m → AsksForm w k m' old new m W → Extends m' d → AtForm w d new most c e m W (reduct_at w last e W)
at_form w most c k m' d old new e m W last ok empty a s x =
    let one : AreOne a.form W a.first s.cost = one_answer w (whnf m) a.form W a.first s.cost a.formed s.answered in
    let cost : a.first ≡ s.cost = one.cost in
    let paid : a.first + a.second < a.cost = a.paid in
    let fine : IsFineRedex a.at.redex = redex_fine c (args e) a.at.redex (args_fine e a.fine) a.at.redex_is in
    let fm : IsWellFormed m = subst IsWellFormed a.at.major_is fine.major_fine in
    let shape : IsShapedAnswer (whnf m) W = shaped_answer w ok (whnf m) W s.cost fm s.answered in
    let run : Runs w (form_rest e (Some a.at.redex) W) a.value a.second = subst (λ z. Runs w (form_rest e (Some a.at.redex) z) a.value a.second) one.answer a.runs in
    record {
      at = a.at;
      value = a.value;
      cost = a.cost;
      answered = a.answered;
      within = a.within;
      fine = a.fine;
      form_fine = shape.0.1;
      first = 0 + s.cost;
      second = a.second;
      paid = omega arith;
      part = part_stays w m' d x new (reduces m W ∷ []) (0 + s.cost) (s.asks fm [] 0 (part_none w k old empty));
      takes = takes_next w last c e m W a.value a.second a.at run;
    }

-- that is no element
pub form_stays : (w : Place) (d : Contents) (r : Row) (most : ℕ) (c : Name) (e m W : Tree) → AtForm w d r most c e m W None → IsWhole w d (core e) r
form_stays w d r most c e m W a =
    let paid : a.first + a.second < a.cost = a.paid in
    part_whole w d r (core e) e a.cost a.first [] (subst (λ u. IsAnswered w (core e) u a.cost) a.takes a.answered) tt (omega arith)
    (part_these w d r (reduces m W ∷ []) (reduces e e ∷ []) a.first a.first (inl (same_self e), tt) (omega arith) a.part)

-- it is an element
pub element_applied : (w : Place) (d : Contents) (r : Row) (most : ℕ) (c : Name) (e m W x : Tree) → AtForm w d r most c e m W (Some x) → IsApplied W
element_applied w d r most c e m W x a = subst IsApplied (sym a.takes.form_is) tt

reaches_at : (w : Place) (d : Contents) (r : Row) (most : ℕ) (c : Name) (e m W : Tree) (o : Option Tree) (a : AtForm w d r most c e m W o) → Reaches w (eliminator_if (same_name c quot_lift)) (const c a.at.levels) (args e) a.at.redex
reaches_at w d r most c e m W o a = reaches w c a.at.levels (args e) a.at.redex a.at.given a.at.redex_is

pub element_enough : (w : Place) (d : Contents) (r : Row) (most : ℕ) (c : Name) (e m W : Tree) (o : Option Tree) (x : Eliminator) → x ≡ eliminator_if (same_name c quot_lift) → AtForm w d r most c e m W o → reach x ≤ length (args e)
element_enough w d r most c e m W o x i a = subst (λ z. reach z ≤ length (args e)) (sym i) (reaches_at w d r most c e m W o a).enough

module _ (w : Place) (d : Contents) (r : Row) (most : ℕ) (c : Name) (e m W x front short : Tree) (behind : ℕ) (a : AtForm w d r most c e m W (Some x)) where
  abbrev the : Eliminator
  the = eliminator_if (same_name c quot_lift)

  before : (R : Reaches w the (const c a.at.levels) (args e) a.at.redex) → AreEnds (reach the) e W front short behind → short ≡ app a.at.redex.function a.takes.element → AreBefore front short e x behind
  before R z s =
      let n : ℕ = reach the in
      let back : apply front (drop n (args e)) ≡ e =
      ap (λ y. apply y (drop n (args e))) z.front_is ∙ sym (apply_append (head e) (take n (args e)) (drop n (args e))) ∙ ap (apply (head e)) (take-append-drop n (args e)) ∙ apply_head_args e in
      record {
        arguments = a.at.redex.rest;
        many = sym (z.behind_is ∙ ap length R.rest_is);
        left = sym (ap (apply front) (sym R.rest_is) ∙ back);
        right = a.takes.next_is ∙ ap (λ y. apply y a.at.redex.rest) (sym s);
      }

  pub at_step : (el : Eliminator) → el ≡ the → (d2 : Contents) → Extends d d2 → AreEnds (reach el) e W front short behind → AtStep w d2 r most (eliminator_rule el) e m W x front short behind
  at_step el i d2 grown z' =
      let z : AreEnds (reach the) e W front short behind = subst (λ y. AreEnds (reach y) e W front short behind) i z' in
      let R : Reaches w the (const c a.at.levels) (args e) a.at.redex = reaches_at w d r most c e m W (Some x) a in
      let t : OnElement w a.at.redex W x a.value a.second = a.takes in
      let p : PlainRedex = a.at.redex in
      let fs : AllWellFormed (args e) = args_fine e a.fine in
      let fine : IsFineRedex p = redex_fine c (args e) p fs a.at.redex_is in
      let parts : IsWellFormed (const quot_mk t.levels) × AllWellFormed (t.domain ∷ t.relation ∷ t.element ∷ []) =
      well_formed_of_apply (const quot_mk t.levels) (t.domain ∷ t.relation ∷ t.element ∷ []) (subst IsWellFormed t.form_is a.form_fine) in
      let fa : IsWellFormed t.element = parts.1.1.1.0 in
      let s : short ≡ app p.function t.element = z.short_is p.function t.element (app (app (const quot_mk t.levels) t.domain) t.relation) R.function_is t.form_is in
      let at_front : front ≡ apply (const c a.at.levels) (take (reach the) (args e)) = z.front_is ∙ ap (λ y. apply y (take (reach the) (args e))) a.at.head_is in
      let holds : StepHolds w (reduction (eliminator_rule the) (apply (const c a.at.levels) (take (reach the) (args e))) (app p.function t.element) (reduces p.major (apply (const quot_mk t.levels) (t.domain ∷ t.relation ∷ t.element ∷ [])) ∷ [])) =
      R.holds t.levels t.domain t.relation t.element t.given fs fa in
      let one : StepHolds w (reduction (eliminator_rule the) front (app p.function t.element) (reduces p.major (apply (const quot_mk t.levels) (t.domain ∷ t.relation ∷ t.element ∷ [])) ∷ [])) =
      subst (λ y. StepHolds w (reduction (eliminator_rule the) y (app p.function t.element) (reduces p.major (apply (const quot_mk t.levels) (t.domain ∷ t.relation ∷ t.element ∷ [])) ∷ []))) (sym at_front) holds in
      let two : StepHolds w (reduction (eliminator_rule the) front short (reduces p.major (apply (const quot_mk t.levels) (t.domain ∷ t.relation ∷ t.element ∷ [])) ∷ [])) =
      subst (λ y. StepHolds w (reduction (eliminator_rule the) front y (reduces p.major (apply (const quot_mk t.levels) (t.domain ∷ t.relation ∷ t.element ∷ [])) ∷ []))) (sym s) one in
      let three : StepHolds w (reduction (eliminator_rule the) front short (reduces m (apply (const quot_mk t.levels) (t.domain ∷ t.relation ∷ t.element ∷ [])) ∷ [])) =
      subst (λ y. StepHolds w (reduction (eliminator_rule the) front short (reduces y (apply (const quot_mk t.levels) (t.domain ∷ t.relation ∷ t.element ∷ [])) ∷ []))) a.at.major_is two in
      let four : StepHolds w (reduction (eliminator_rule the) front short (reduces m W ∷ [])) = subst (λ y. StepHolds w (reduction (eliminator_rule the) front short (reduces m y ∷ []))) (sym t.form_is) three in
      record {
        value = a.value;
        cost = a.cost;
        answered = a.answered;
        within = a.within;
        fine = a.fine;
        next_fine = subst IsWellFormed (sym t.next_is) (fine_apply (app p.function t.element) p.rest (fine.function_fine, fa) fine.rest_fine);
        first = a.first;
        second = a.second;
        paid = a.paid;
        part = part_stays w d d2 grown r (reduces m W ∷ []) a.first a.part;
        next = t.answered;
        holds = subst (λ y. StepHolds w (reduction (eliminator_rule y) front short (reduces m W ∷ []))) (sym i) four;
        before = before R z s;
      }

pub step_within : (w : Place) (d : Contents) (r : Row) (most : ℕ) (rule : ReductionRule) (e m W x front short : Tree) (behind : ℕ) → AtStep w d r most rule e m W x front short behind → IsAnsweredWithin w (core x) most
step_within w d r most rule e m W x front short behind a =
    let paid : a.first + a.second < a.cost = a.paid in
    let within : a.cost ≤ most = a.within in
    (a.value, a.second, a.next, omega arith)

-- the step, what is behind, and Core
pub step_whole : (w : Place) (most : ℕ) (c d : Contents) (old mid over new : Row) (rule : ReductionRule) (e m W x front short : Tree) (behind : ℕ) → WellStated w → AtStep w c old most rule e m W x front short behind →
    (StepHolds w (reduction rule front short (reduces m W ∷ [])) → States w c old mid (reduces m W ∷ []) (reduces front short)) → StatesBehind c mid over front short e x behind → FollowsCore w c d over new e x → IsWhole w d (core e) new
step_whole w most c d old mid over new rule e m W x front short behind ok a states behind_it g =
    let one : AreOne g.value a.value g.cost a.second = one_answer w (core x) g.value a.value g.cost a.second g.answered a.next in
    let cost : g.cost ≡ a.second = one.cost in
    let paid : a.first + a.second < a.cost = a.paid in
    let shape : IsShapedAnswer (core x) g.value = shaped_answer w ok (core x) g.value g.cost a.next_fine g.answered in
    let p : IsPartIn w c mid (reduces front short ∷ reduces m W ∷ []) a.first = states a.holds (reduces m W ∷ []) a.first (first (reduces m W) [], tt) a.part in
    let q : IsPartIn w c over (reduces e x ∷ reduces front short ∷ reduces m W ∷ []) a.first =
    behind_it.states w a.before a.fine a.next_fine (reduces front short ∷ reduces m W ∷ []) a.first (first (reduces front short) (reduces m W ∷ []), tt) p in
    let s : IsPartIn w d new (reduces e g.value ∷ []) (a.first + g.cost) =
    g.goes a.fine a.next_fine shape.0.1 (reduces e x ∷ reduces front short ∷ reduces m W ∷ []) a.first (first (reduces e x) (reduces front short ∷ reduces m W ∷ [])) q in
    part_whole w d new (core e) g.value a.cost (a.first + g.cost) [] (subst (λ u. IsAnswered w (core e) u a.cost) (sym one.answer) a.answered) tt (omega arith) s

-- the same at another store
pub major_moved : (w w' : Place) (most : ℕ) (c c' : Name) (e e' m m' : Tree) → w' ≡ w → c' ≡ c → e' ≡ e → m' ≡ m → AtMajor w most c e m → AtMajor w' most c' e' m'
major_moved w w' most c c' e e' m m' ew ec ee em a =
    subst (λ z. AtMajor z most c' e' m') (sym ew)
    (subst (λ z. AtMajor w most z e' m') (sym ec)
    (subst (λ z. AtMajor w most c z m') (sym ee)
    (subst (λ z. AtMajor w most c e z) (sym em) a)))

pub form_moved : (w w' : Place) (d : Contents) (r : Row) (most : ℕ) (c c' : Name) (e e' m m' W W' : Tree) (o o' : Option Tree) → w' ≡ w → c' ≡ c → e' ≡ e → m' ≡ m → W' ≡ W → o' ≡ o → AtForm w d r most c e m W o → AtForm w' d r most c' e' m' W' o'
form_moved w w' d r most c c' e e' m m' W W' o o' ew ec ee em eW eo a =
    subst (λ z. AtForm z d r most c' e' m' W' o') (sym ew)
    (subst (λ z. AtForm w d r most z e' m' W' o') (sym ec)
    (subst (λ z. AtForm w d r most c z m' W' o') (sym ee)
    (subst (λ z. AtForm w d r most c e z W' o') (sym em)
    (subst (λ z. AtForm w d r most c e m z o') (sym eW)
    (subst (λ z. AtForm w d r most c e m W z) (sym eo) a)))))

pub step_moved : (w w' : Place) (d : Contents) (r : Row) (most : ℕ) (rule rule' : ReductionRule) (e e' m m' W W' x x' front short : Tree) (behind : ℕ) → w' ≡ w → rule' ≡ rule → e' ≡ e → m' ≡ m → W' ≡ W → x' ≡ x →
    AtStep w d r most rule e m W x front short behind → AtStep w' d r most rule' e' m' W' x' front short behind
step_moved w w' d r most rule rule' e e' m m' W W' x x' front short behind ew er ee em eW ex a =
    subst (λ z. AtStep z d r most rule' e' m' W' x' front short behind) (sym ew)
    (subst (λ z. AtStep w d r most z e' m' W' x' front short behind) (sym er)
    (subst (λ z. AtStep w d r most rule z m' W' x' front short behind) (sym ee)
    (subst (λ z. AtStep w d r most rule e z W' x' front short behind) (sym em)
    (subst (λ z. AtStep w d r most rule e m z x' front short behind) (sym eW)
    (subst (λ z. AtStep w d r most rule e m W z front short behind) (sym ex) a)))))

pub whole_moved : {T E : Type 0} (w w' : Place) (d : Contents) (r : Row) (result : Result T E) (e e' : Tree) → w' ≡ w → e' ≡ e → OnOk result (IsWhole w' d (core e') r) → OnOk result (IsWhole w d (core e) r)
whole_moved w w' d r result e e' ew ee h = subst (λ z. OnOk result (IsWhole w d (core z) r)) ee (subst (λ z. OnOk result (IsWhole z d (core e') r)) ew h)
