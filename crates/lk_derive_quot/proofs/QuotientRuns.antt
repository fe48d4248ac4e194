-- Runs of Core at a constant of quotients.
use Rattle.std.proofs.Common.{ℕ, suc, ◌≡◌, ◌+◌, Bool, true, false, List, [], ◌∷◌, Option, Some, None, refl, sym, subst, ap, ◌∙◌, arith, if◌then◌else◌}
use Rattle.lk_tree.specs.Tree.{Name, Level, Tree, const, app}
use Rattle.lk_tree.specs.Mentions.{same_name}
use Rattle.lk_tree.specs.Spine.{apply, head, args}
use Rattle.lk_tree.specs.declared.rule.Rule.TheVariants.{UnknownConstant}
use Rattle.lk_tree.proofs.Within.{apply_head_args}
use Rattle.lk_rulebook.specs.Place.{Place, Entry, Kind, a_quot}
use Rattle.lk_rulebook.specs.Names.{quot_mk, quot_lift, quot_ind}
use Rattle.lk_questions.specs.Answer.{later}
use Rattle.lk_questions.specs.Query.{core, whnf}
use Rattle.lk_questions.specs.Program.{Program, done, look, asked}
use Rattle.lk_questions.specs.Erased.{a_tree, erased}
use Rattle.lk_questions.specs.Core.{core_applied, core_steps}
use Rattle.lk_questions.specs.Iota.{core_constant}
use Rattle.lk_questions.specs.Quotients.{by_quot, at_mk, core_quot}
use Rattle.lk_claims.proofs.Pieces.{same_name_right}
use Rattle.lk_quot.specs.Redexes.{PlainRedex, redex_of, redex_by, redex_in, core_redex, form_rest}
use Rattle.lk_step.specs.Heads.{IsQuotientHead}
use Rattle.lk_step.specs.Nexts.{core_asked, form_asked}
use Rattle.lk_step.specs.Rows.{IsAnswered, IsClaim}
use Rattle.lk_step.specs.Runs.{Runs, IsOpened}
use Rattle.lk_step.proofs.Runs.{opened_so, runs_asked}
use Rattle.lk_step.proofs.Quiet.{found_next}
use Rattle.lk_derive_quot.specs.Quotients.{major_at, reduct_at, IsRedexAt, AtMajor, Takes}
use Rattle.lk_derive_quot.proofs.Redexes.{quot_program}

-- a constant of quotients without arguments is its own Core
alone : (e : Tree) (c : Name) → core_quot e c [] ≡ done e
alone e c = go (same_name c quot_lift) (same_name c quot_ind)
  where
    go : (a b : Bool) → (if a then done e else (if b then done e else done e)) ≡ done e
    go true b = refl
    go false true = refl
    go false false = refl

-- Core looks the constant up, and goes by what it is
constant_runs : (w : Place) (e : Tree) (c : Name) (xs : List Tree) (v : Tree) (n : ℕ) (g : Entry) → w.means c ≡ Some g → g.kind ≡ a_quot → (ls : List Level) → Runs w (look UnknownConstant c (λ g. core_constant e c ls xs g g.kind)) v n → Runs w (core_quot e c xs) v n
constant_runs w e c xs v n g m k ls h =
    let one : Some h.0 ≡ Some g = sym h.1 ∙ m in
    let same : h.0 ≡ g = cc in
    let run : Runs w (core_constant e c ls xs g g.kind) v n = subst (λ (z : Entry). Runs w (core_constant e c ls xs z z.kind) v n) same h.2 in
    subst (λ z. Runs w (core_constant e c ls xs g z) v n) k run

quot_runs : (w : Place) (e : Tree) (c : Name) (ls : List Level) (v : Tree) (n : ℕ) (g : Entry) → head e ≡ const c ls → w.means c ≡ Some g → g.kind ≡ a_quot → Runs w (core_steps e) v n → Runs w (core_quot e c (args e)) v n
unfolding head args
quot_runs w (app f a) c ls v n g h m k run =
    let e : Tree = app f a in
    constant_runs w e c (args e) v n g m k ls (subst (λ z. Runs w (core_applied e z (args e)) v n) h run)
quot_runs w (const d ms) c ls v n g h m k run = subst (λ (p : Program Tree). Runs w p v n) (sym (alone (const d ms) c)) run
quot_runs w e c ls v n g h m k run = absurd cc

-- what Core of e does
record QuotRun (w : Place) (e : Tree) (c : Name) (v : Tree) (n : ℕ) : Type 0 where
  left : ℕ
  paid : n ≡ suc left
  runs : Runs w (core_redex e (redex_of c (args e))) v left

quot_run : (w : Place) (e : Tree) (h : IsQuotientHead w e) (v : Tree) (n : ℕ) → IsAnswered w (core e) v n → QuotRun w e h.name v n
quot_run w e h v n a =
    let o : IsOpened w (core e) v n = opened_so w (core e) v n a in
    let run : Runs w (core_quot e h.name (args e)) v o.0 = quot_runs w e h.name h.levels v o.0 h.entry h.head_is h.means h.kind_is o.2 in
    record { left = o.0; paid = o.1; runs = subst (λ (p : Program Tree). Runs w p v o.0) (quot_program e h.name (args e)) run }

-- the major premise is asked for, or nothing is
pub major_is : (w : Place) (last : Option ℕ) (c : Name) (e m : Tree) → major_at w last c e ≡ Some m → (p : PlainRedex) × (redex_of c (args e) ≡ Some p) × (p.major ≡ m)
major_is w last c e m h = go (redex_of c (args e)) refl (ap (λ (p : Program Tree). form_asked (erased w a_tree last p)) (sym (quot_program e c (args e))) ∙ h)
  where
    go : (o : Option PlainRedex) → redex_of c (args e) ≡ o → form_asked (erased w a_tree last (core_redex e o)) ≡ Some m → (p : PlainRedex) × (redex_of c (args e) ≡ Some p) × (p.major ≡ m)
    go (Some p) i t = (p, i, cc)
    go None i t = absurd cc

pub no_major : (w : Place) (last : Option ℕ) (c : Name) (e : Tree) → major_at w last c e ≡ None → redex_of c (args e) ≡ None
no_major w last c e h = go (redex_of c (args e)) refl (ap (λ (p : Program Tree). form_asked (erased w a_tree last p)) (sym (quot_program e c (args e))) ∙ h)
  where
    go : (o : Option PlainRedex) → redex_of c (args e) ≡ o → form_asked (erased w a_tree last (core_redex e o)) ≡ None → redex_of c (args e) ≡ None
    go (Some p) i t = absurd cc
    go None i t = i

-- without a major premise e is its own Core
pub no_major_stays : (w : Place) (most : ℕ) (e : Tree) (h : IsQuotientHead w e) (k : IsClaim w (core e) most) → redex_of h.name (args e) ≡ None → (n : ℕ) × (k.cost ≡ suc n) × (k.answer ≡ e)
no_major_stays w most e h k none =
    let r : QuotRun w e h.name k.answer k.cost = quot_run w e h k.answer k.cost k.answered in
    let run : Runs w (core_redex e None) k.answer r.left = subst (λ o. Runs w (core_redex e o) k.answer r.left) none r.runs in
    (r.left, r.paid, sym run.0)

pub at_major : (w : Place) (most : ℕ) (e m : Tree) (h : IsQuotientHead w e) → IsClaim w (core e) most → (p : PlainRedex) → redex_of h.name (args e) ≡ Some p → p.major ≡ m → AtMajor w most h.name e m
at_major w most e m h k p i j =
    let r : QuotRun w e h.name k.answer k.cost = quot_run w e h k.answer k.cost k.answered in
    let run = subst (λ o. Runs w (core_redex e o) k.answer r.left) i r.runs in
    let paid : k.cost ≡ suc r.left = r.paid in
    let spent : r.left ≡ run.1 + run.2 = run.5 in
    record {
      at = record { levels = h.levels; head_is = h.head_is; given = record { entry = h.entry; given = h.means; kind = h.kind_is }; redex = p; redex_is = i; major_is = j };
      value = k.answer;
      cost = k.cost;
      answered = k.answered;
      within = k.within;
      fine = k.askable;
      form = run.0;
      first = run.1;
      second = run.2;
      formed = subst (λ z. IsAnswered w (whnf z) run.0 run.1) j run.3;
      runs = run.4;
      paid = omega arith;
    }

quot_kind : (k : Kind) → by_quot k ≡ true → k ≡ a_quot
quot_kind a_quot h = refl
quot_kind _ h = absurd cc

-- what the program does next is what Core of e goes on with
record Goes (w : Place) (p : PlainRedex) (e W v : Tree) (n : ℕ) (last : Option ℕ) (q : Program Tree) : Type 0 where
  takes : Takes w p e W v n (core_asked (erased w a_tree last q))

-- the constructor's unit is looked at
mk_goes : (w : Place) (p : PlainRedex) (e W v : Tree) (n : ℕ) (last : Option ℕ) (ks : List Level) (A r a : Tree) → apply (const quot_mk ks) (A ∷ r ∷ a ∷ []) ≡ W → (g : Entry) → w.means quot_mk ≡ Some g → (b : Bool) → by_quot g.kind ≡ b →
    Runs w (if b then asked (core (apply (app p.function a) p.rest)) else done e) v n → Goes w p e W v n last (if b then asked (core (apply (app p.function a) p.rest)) else done e)
mk_goes w p e W v n last ks A r a t g m true i run = record {
  takes = record {
    levels = ks;
    domain = A;
    relation = r;
    element = a;
    form_is = sym t;
    given = record { entry = g; given = m; kind = quot_kind g.kind i };
    next_is = refl;
    answered = runs_asked w (core (apply (app p.function a) p.rest)) v n run;
  };
}
mk_goes w p e W v n last ks A r a t g m false i run = record { takes = sym run.0 }

looked_goes : (w : Place) (p : PlainRedex) (e W v : Tree) (n : ℕ) (last : Option ℕ) (ks : List Level) (A r a : Tree) → apply (const quot_mk ks) (A ∷ r ∷ a ∷ []) ≡ W →
    Runs w (look UnknownConstant quot_mk (λ g. if by_quot g.kind then asked (core (apply (app p.function a) p.rest)) else done e)) v n →
    Goes w p e W v n last (look UnknownConstant quot_mk (λ g. if by_quot g.kind then asked (core (apply (app p.function a) p.rest)) else done e))
looked_goes w p e W v n last ks A r a t run =
    let k : Entry → Program Tree = λ g. if by_quot g.kind then asked (core (apply (app p.function a) p.rest)) else done e in
    let next : Option ℕ = later last (Some (w.origin quot_mk)) in
    let goes : Goes w p e W v n next (k run.0) = mk_goes w p e W v n next ks A r a t run.0 run.1 (by_quot run.0.kind) refl run.2 in
    let same : erased w a_tree last (look UnknownConstant quot_mk k) ≡ erased w a_tree next (k run.0) =
    found_next w UnknownConstant last quot_mk (w.means quot_mk) run.0 (λ u g. erased w a_tree u (k g)) run.1 in
    record { takes = subst (λ z. Takes w p e W v n (core_asked z)) (sym same) goes.takes }

form_goes : (w : Place) (p : PlainRedex) (e W v : Tree) (n : ℕ) (last : Option ℕ) (h : Tree) (xs : List Tree) → apply h xs ≡ W → Runs w (at_mk e p.function p.rest h xs) v n → Goes w p e W v n last (at_mk e p.function p.rest h xs)
form_goes w p e W v n last (const c ks) (A ∷ r ∷ a ∷ []) t run = go (same_name c quot_mk) refl run
  where
    go : (b : Bool) → same_name c quot_mk ≡ b →
        Runs w (if b then (look UnknownConstant quot_mk (λ g. if by_quot g.kind then asked (core (apply (app p.function a) p.rest)) else done e)) else done e) v n →
        Goes w p e W v n last (if b then (look UnknownConstant quot_mk (λ g. if by_quot g.kind then asked (core (apply (app p.function a) p.rest)) else done e)) else done e)
    go true i run = looked_goes w p e W v n last ks A r a (subst (λ z. apply (const z ks) (A ∷ r ∷ a ∷ []) ≡ W) (same_name_right c quot_mk i) t) run
    go false i run = record { takes = sym run.0 }
form_goes w p e W v n last h xs t run = record { takes = sym run.0 }

-- what Core asks for next behind the weak head form of the major premise
pub takes_next : (w : Place) (last : Option ℕ) (c : Name) (e m W v : Tree) (n : ℕ) (i : IsRedexAt w c e m) → Runs w (form_rest e (Some i.redex) W) v n → Takes w i.redex e W v n (reduct_at w last e W)
takes_next w last c e m W v n i run =
    let g : Goes w i.redex e W v n last (form_rest e (Some i.redex) W) = form_goes w i.redex e W v n last (head W) (args W) (apply_head_args W) run in
    let at : redex_in e ≡ Some i.redex = ap (λ z. redex_by z (args e)) i.head_is ∙ i.redex_is in
    subst (λ o. Takes w i.redex e W v n (core_asked (erased w a_tree last (form_rest e o W)))) (sym at) g.takes
