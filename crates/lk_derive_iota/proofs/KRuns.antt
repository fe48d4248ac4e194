-- K, case by case.
use Rattle.std.proofs.Common.{ℕ, ◌≡◌, ◌<◌, ◌≤◌, ◌+◌, Bool, true, false, List, [], ◌++◌, length, take, drop, take-append-drop, nat_le, Option, Some, None, refl, sym, subst, ap, ◌∙◌, arith, if◌then◌else◌}
use Rattle.std.specs.Prelude.{Result, IfOk}
use Rattle.std.proofs.lemmas.Bool.Decides.{nat_tests}
use Rattle.lk_tree.specs.Tree.{Level, Tree, const}
use Rattle.lk_tree.specs.Spine.{apply, head, args}
use Rattle.lk_tree.proofs.Lists.{length_taken}
use Rattle.lk_tree.proofs.Within.{apply_head_args}
use Rattle.lk_rulebook.specs.Place.{Place}
use Rattle.lk_rulebook.specs.Structures.{RecApp}
use Rattle.lk_claims.proofs.Facts.{same_name_levels}
use Rattle.lk_questions.specs.Query.{infer, same}
use Rattle.lk_questions.specs.Program.{Program, done, ask, ◌>>=◌}
use Rattle.lk_questions.specs.Iota.{CtorApp, levels_at, iota_after_k}
use Rattle.lk_store.specs.Contents.{Contents, Extends, name_at}
use Rattle.lk_env.specs.StoredLibrary.{StoredLibrary}
use Rattle.lk_constructor.specs.declared.constructor.AppliedConstructor.{AppliedConstructor}
use Rattle.lk_constructor.specs.Applied.{IsAppliedIf, IsKnownConstructor}
use Rattle.lk_step.specs.declared.step.Row.{Row}
use Rattle.lk_step.specs.Rows.{IsAnswered}
use Rattle.lk_step.specs.Runs.{Runs, AreOne}
use Rattle.lk_step.proofs.Runs.{one_answer}
use Rattle.lk_derive_iota.specs.declared.redexes.Redex.{Redex}
use Rattle.lk_derive_iota.specs.Only.{only_at, IsOnly}
use Rattle.lk_derive_iota.specs.Stages.{starts, by_only, by_type, at_major, at_subject, program_of, IsUnderWay}
use Rattle.lk_derive_iota.specs.Taken.{HasForm, IsTypedWithin, IsTaken, IsTakenIf, IsAtOnly, IsAtType, IsAtCandidate, IsCompared, IsComparedWithin}
use Rattle.lk_step.specs.Told.{IsAnsweredWithin, IsType, IsSame}
use Rattle.lk_derive_iota.proofs.Growing.{move, move_on, under_way_grows}
use Rattle.lk_derive_iota.proofs.Fitting.{some_applied}
use Rattle.lk_derive_iota.proofs.Running.{without_k, k_looks, k_typed, only_found, FormRun, form_within, form_run_at}

-- the candidate, and what comes behind it
abbrev candidate : CtorApp → Tree → List Level → Tree
candidate b T ks = apply (const b.name ks) (take b.ctor.parameters (args T))

abbrev after : {w : Place} (R : RecApp w) (e f : Tree) (rest : List Tree) → Option Tree → Program Tree
after R e f rest d = iota_after_k e R.entry R.levels R.recursor R.front f rest d

abbrev comparing : Tree → Tree → Program (Option Tree)
comparing d T = ask (infer d) (λ D. ask (same T D) (λ y. if y then done (Some d) else done None))

by_count : {w : Place} (b : CtorApp) (T : Tree) (ks : List Level) (R : RecApp w) (e f : Tree) (rest : List Tree) (v : Tree) (n : ℕ) (x : Bool) → nat_le b.ctor.parameters (length (args T)) ≡ x → Runs w (program_of R e f rest (by_type b T (Some ks))) v n →
    Runs w ((if x then comparing (candidate b T ks) T else done None) >>= after R e f rest) v n
by_count {w = w} b T ks R e f rest v n x is h = subst (λ (z : Bool). Runs w ((if z then comparing (candidate b T ks) T else done None) >>= after R e f rest) v n) is h

record CompareRun {w : Place} (R : RecApp w) (e f : Tree) (rest : List Tree) (d T v : Tree) (n : ℕ) : Type 0 where
  y : Bool
  is : IsCompared w d T y
  second : ℕ
  runs : Runs w ((if y then done (Some d) else done None) >>= after R e f rest) v second
  paid : n ≡ is.third + (is.fourth + second)

record CompareAt {w : Place} (R : RecApp w) (e f : Tree) (rest : List Tree) (d T : Tree) (y : Bool) (k : IsCompared w d T y) (v : Tree) (n : ℕ) : Type 0 where
  second : ℕ
  runs : Runs w ((if y then done (Some d) else done None) >>= after R e f rest) v second
  paid : n ≡ k.third + (k.fourth + second)

compare_at : {w : Place} (R : RecApp w) (e f : Tree) (rest : List Tree) (d T : Tree) (y : Bool) (k : IsCompared w d T y) (v : Tree) (n : ℕ) → CompareRun R e f rest d T v n → CompareAt R e f rest d T y k v n
compare_at {w = w} R e f rest d T y k v n h =
    let one : AreOne h.is.own k.own h.is.third k.third = one_answer w (infer d) h.is.own k.own h.is.third k.third h.is.owned k.owned in
    let two : AreOne h.y y h.is.fourth k.fourth = one_answer w (same T k.own) h.y y h.is.fourth k.fourth (subst (λ z. IsAnswered w (same T z) h.y h.is.fourth) one.answer h.is.compared) k.compared in
    let third : h.is.third ≡ k.third = one.cost in
    let fourth : h.is.fourth ≡ k.fourth = two.cost in
    let paid : n ≡ h.is.third + (h.is.fourth + h.second) = h.paid in
    record { second = h.second; runs = subst (λ (z : Bool). Runs w ((if z then done (Some d) else done None) >>= after R e f rest) v h.second) two.answer h.runs; paid = omega arith }

module _ {w : Place} {l : StoredLibrary} {c : Contents} {r : Row} {most : ℕ} {u : Redex} {m : Tree} where
  pub k_off : IsUnderWay w l c r most u m starts 0 → u.k ≡ false → IsUnderWay w l c r most u m at_major 0
  k_off h k = move_on h at_major tt (without_k h.R h.e h.first h.rest h.value h.second (sym h.redex.k_is ∙ k) h.runs)

  pub k_none : (h : IsUnderWay w l c r most u m starts 0) → u.k ≡ true → only_at w h.R.recursor.rules ≡ None → IsUnderWay w l c r most u m at_major 0
  k_none h k none = move_on h at_major tt (subst (λ o. Runs w (program_of h.R h.e h.first h.rest (by_only o)) h.value h.second) none
      (k_looks h.R h.e h.first h.rest h.value h.second (sym h.redex.k_is ∙ k) h.runs))

  pub k_only : (h : IsUnderWay w l c r most u m starts 0) → u.k ≡ true → (k : AppliedConstructor) → IsAppliedIf c l [] (Some k) (only_at w h.R.recursor.rules) → IsAtOnly w l c r most u m k
  k_only h on k a =
      let s = some_applied c l [] k (only_at w h.R.recursor.rules) a in
      let kk : h.R.recursor.k ≡ true = sym h.redex.k_is ∙ on in
      record {
        b = s.0;
        is = s.2;
        under = move_on h (by_only (Some s.0)) (kk, only_found w h.R.recursor s.0 s.1) (subst (λ o. Runs w (program_of h.R h.e h.first h.rest (by_only o)) h.value h.second) s.1
            (k_looks h.R h.e h.first h.rest h.value h.second kk h.runs));
      }

  typed_run : (k : AppliedConstructor) (h : IsAtOnly w l c r most u m k) → FormRun w h.under.first (λ T. program_of h.under.R h.under.e h.under.first h.under.rest (by_type h.b T (levels_at h.b.ind.name (head T)))) h.under.value h.under.second
  typed_run k h = k_typed h.under.R h.under.e h.under.first h.under.rest h.under.value h.under.second h.b h.under.runs

  pub k_within : (k : AppliedConstructor) (h : IsAtOnly w l c r most u m k) → IsTypedWithin w h.under.first most
  k_within k h =
      let paid : h.under.spent + 0 + h.under.second < h.under.cost = h.under.paid in
      let within = h.under.within in
      form_within w h.under.first _ h.under.value h.under.second most (omega arith) (typed_run k h)

  pub k_untyped : (k : AppliedConstructor) (h : IsAtOnly w l c r most u m k) (T : Tree) → HasForm w h.under.first T → levels_at h.b.ind.name (head T) ≡ None → IsUnderWay w l c r most u m at_major 0
  k_untyped k h T has none =
      let run = form_run_at w h.under.first T has _ h.under.value h.under.second (typed_run k h) in
      let paid : h.under.spent + 0 + h.under.second < h.under.cost = h.under.paid in
      let spent : h.under.second ≡ has.first + (has.second + run.second) = run.paid in
      move h.under at_major 0 run.second (omega arith) tt (subst (λ o. Runs w (program_of h.under.R h.under.e h.under.first h.under.rest (by_type h.b T o)) h.under.value run.second) none run.runs)

  pub k_of_type : (k : AppliedConstructor) (h : IsAtOnly w l c r most u m k) (T : Tree) (has : HasForm w h.under.first T) (ks : List Level) → levels_at h.b.ind.name (head T) ≡ Some ks → IsAtType w l c r most u m k T ks
  k_of_type k h T has ks some =
      let run = form_run_at w h.under.first T has _ h.under.value h.under.second (typed_run k h) in
      let paid : h.under.spent + 0 + h.under.second < h.under.cost = h.under.paid in
      let spent : h.under.second ≡ has.first + (has.second + run.second) = run.paid in
      record {
        b = h.b;
        beside = has.first + has.second;
        is = h.is;
        under = move h.under (by_type h.b T (Some ks)) (has.first + has.second) run.second (omega arith) (h.under.facts.0, h.under.facts.1, some)
            (subst (λ o. Runs w (program_of h.under.R h.under.e h.under.first h.under.rest (by_type h.b T o)) h.under.value run.second) some run.runs);
        has = has;
        beside_is = refl;
      }

  pub k_few : (k : AppliedConstructor) (T : Tree) (ks : List Level) (h : IsAtType w l c r most u m k T ks) → length (args T) < h.b.ctor.parameters → IsUnderWay w l c r most u m at_major 0
  k_few k T ks h few =
      let paid : h.under.spent + h.beside + h.under.second < h.under.cost = h.under.paid in
      let no : nat_le h.b.ctor.parameters (length (args T)) ≡ false = grind (arith, nat_tests) in
      move h.under at_major 0 h.under.second (omega arith) tt (by_count h.b T ks h.under.R h.under.e h.under.first h.under.rest h.under.value h.under.second false no h.under.runs)

  compare_run : (T d : Tree) (h : IsAtCandidate w l c r most u m T d) → CompareRun h.under.R h.under.e h.under.first h.under.rest d T h.under.value h.under.second
  compare_run T d h =
      let k = h.under in
      let enough = h.enough in
      let yes : nat_le h.b.ctor.parameters (length (args T)) ≡ true = grind (arith, nat_tests) in
      let run : Runs w (comparing (candidate h.b T h.ks) T >>= after k.R k.e k.first k.rest) k.value k.second = by_count h.b T h.ks k.R k.e k.first k.rest k.value k.second true yes k.runs in
      let there : Runs w (comparing d T >>= after k.R k.e k.first k.rest) k.value k.second = subst (λ z. Runs w (comparing z T >>= after k.R k.e k.first k.rest) k.value k.second) (sym h.is) run in
      let one : k.second ≡ there.1 + there.2 = there.5 in
      let two : there.2 ≡ there.4.1 + there.4.2 = there.4.5 in
      record {
        y = there.4.0;
        is = record { own = there.0; third = there.1; fourth = there.4.1; owned = there.3; compared = there.4.3 };
        second = there.4.2;
        runs = there.4.4;
        paid = omega arith;
      }

  pub compare_within : (T d : Tree) → IsAtCandidate w l c r most u m T d → IsComparedWithin w d T most
  compare_within T d h =
      let run = compare_run T d h in
      let paid : h.under.spent + h.beside + h.under.second < h.under.cost = h.under.paid in
      let within = h.under.within in
      let spent : h.under.second ≡ run.is.third + (run.is.fourth + run.second) = run.paid in
      record { y = run.y; is = run.is; third_within = omega arith; fourth_within = omega arith }

  pub k_other : (T d : Tree) → IsAtCandidate w l c r most u m T d → IsCompared w d T false → IsUnderWay w l c r most u m at_major 0
  k_other T d h k =
      let x = h.under in
      let run = compare_at x.R x.e x.first x.rest d T false k x.value x.second (compare_run T d h) in
      let paid : x.spent + h.beside + x.second < x.cost = x.paid in
      let spent : x.second ≡ k.third + (k.fourth + run.second) = run.paid in
      move x at_major 0 run.second (omega arith) tt run.runs

  pub k_taken : (T d : Tree) → IsAtCandidate w l c r most u m T d → IsCompared w d T true → IsTaken w l c r most u m d
  k_taken T d h k =
      let x = h.under in
      let b : CtorApp = h.b in
      let j : IsOnly w x.R.recursor b = x.facts.1 in
      let p : ℕ = b.ctor.parameters in
      let run = compare_at x.R x.e x.first x.rest d T true k x.value x.second (compare_run T d h) in
      let paid : x.spent + h.beside + x.second < x.cost = x.paid in
      let spent : x.second ≡ k.third + (k.fourth + run.second) = run.paid in
      let first : h.beside ≡ h.has.first + h.has.second = h.beside_is in
      let e : head T ≡ const b.ind.name h.ks = same_name_levels b.ind.name T h.ks (head T) refl x.facts.2 in
      let t : apply (const b.ind.name h.ks) (args T) ≡ T = rw e at (apply_head_args T) in
      let at : apply (const b.ind.name h.ks) (take p (args T) ++ drop p (args T)) ≡ T = rw take-append-drop t in
      record {
        type = T;
        own = k.own;
        beside = h.has.first + (h.has.second + (k.third + k.fourth));
        third = k.third;
        fourth = k.fourth;
        under = move x (at_subject d) (h.has.first + (h.has.second + (k.third + k.fourth))) run.second (omega arith) tt run.runs;
        has = h.has;
        owned = k.owned;
        compared = k.compared;
        beside_is = refl;
        major = record {
          ctor = record { name = b.name; levels = h.ks; args = take p (args T); entry = b.entry; block = b.block; ind = b.ind; ctor = b.ctor; given = j.given; kind = j.kind };
          rest = drop p (args T);
          k_is = x.facts.0;
          only = record { rule = j.rule; one_rule = j.one; for_ctor = j.named };
          params_are = length_taken p (args T) h.enough;
        };
        type_is = at;
        ctor_is = sym h.is;
      }

-- whether T is the type of d
pub own_within : {w : Place} {d T : Tree} {most : ℕ} → IsComparedWithin w d T most → IsAnsweredWithin w (infer d) most
own_within h = (h.is.own, h.is.third, h.is.owned, h.third_within)

pub same_within : {w : Place} {d T : Tree} {most : ℕ} (h : IsComparedWithin w d T most) (O : Tree) (n : ℕ) → IsAnswered w (infer d) O n → IsAnsweredWithin w (same T O) most
same_within {w = w} {d = d} {T = T} h O n a =
    let one : AreOne h.is.own O h.is.third n = one_answer w (infer d) h.is.own O h.is.third n h.is.owned a in
    (h.y, h.is.fourth, subst (λ z. IsAnswered w (same T z) h.y h.is.fourth) one.answer h.is.compared, h.fourth_within)

pub compared_of : {w w' : Place} {d T T' O : Tree} {y : Bool} → w' ≡ w → T' ≡ T → IsType w d O → IsSame w' T' O y → IsCompared w d T y
compared_of {w = w} {T = T} {T' = T'} {O = O} {y = y} ew et t k =
    record { own = O; third = t.cost; fourth = k.cost; owned = t.answered; compared = subst (λ z. IsAnswered w (same z O) y k.cost) et (subst (λ z. IsAnswered z (same T' O) y k.cost) ew k.answered) }

-- while the store grows
pub taken_on : {w : Place} {l : StoredLibrary} {c d : Contents} {r : Row} {most : ℕ} {u : Redex} {m m' t t' : Tree} → Extends c d → m' ≡ m → t' ≡ t → IsTaken w l c r most u m t → IsTaken w l d r most u m' t'
taken_on {w = w} {l = l} {d = d} {r = r} {most = most} {u = u} {m = m} {m' = m'} {t = t} {t' = t'} x em et h =
    let grown : IsTaken w l d r most u m t = record {
      type = h.type;
      own = h.own;
      beside = h.beside;
      third = h.third;
      fourth = h.fourth;
      under = under_way_grows x h.under;
      has = h.has;
      owned = h.owned;
      compared = h.compared;
      beside_is = h.beside_is;
      major = h.major;
      type_is = h.type_is;
      ctor_is = h.ctor_is;
    } in
    subst (λ z. IsTaken w l d r most u z t') (sym em) (subst (λ z. IsTaken w l d r most u m z) (sym et) grown)

-- at the candidate that was made
pub candidate_on : {w w' : Place} {l l' : StoredLibrary} {c d : Contents} {r : Row} {most : ℕ} {u : Redex} {m m' T T' t : Tree} {k : AppliedConstructor} {ks : List Level} → w' ≡ w → l' ≡ l → Extends c d → m' ≡ m → T' ≡ T → (h : IsAtType w l c r most u m k T ks) →
    k.parameters ≤ length (args T) → t ≡ apply (const (name_at c k.name) ks) (take k.parameters (args T)) → IsAtCandidate w' l' d r most u m' T' t
candidate_on {w = w} {w' = w'} {l = l} {l' = l'} {d = d} {r = r} {most = most} {u = u} {m = m} {m' = m'} {T = T} {T' = T'} {t = t} {k = k} {ks = ks} ew el x em et h many is =
    let parameters : k.parameters ≡ h.b.ctor.parameters = h.is.parameters_are in
    let there : IsAtCandidate w l d r most u m T t = record {
      b = h.b;
      ks = ks;
      beside = h.beside;
      under = under_way_grows x h.under;
      has = h.has;
      beside_is = h.beside_is;
      enough = omega arith;
      is = is ∙ ap (λ n. apply (const n ks) (take k.parameters (args T))) h.is.name_is ∙ ap (λ n. apply (const h.b.name ks) (take n (args T))) parameters;
    } in
    subst (λ z. IsAtCandidate z l' d r most u m' T' t) (sym ew) (subst (λ z. IsAtCandidate w z d r most u m' T' t) (sym el)
    (subst (λ z. IsAtCandidate w l d r most u z T' t) (sym em) (subst (λ z. IsAtCandidate w l d r most u m z t) (sym et) there)))

pub type_on : {w w' : Place} {l l' : StoredLibrary} {c d : Contents} {r : Row} {most : ℕ} {u : Redex} {m m' T : Tree} {k : AppliedConstructor} {ks : List Level} → w' ≡ w → l' ≡ l → Extends c d → m' ≡ m → IsKnownConstructor c k → IsAtType w l c r most u m k T ks → IsAtType w' l' d r most u m' k T ks
type_on {w = w} {w' = w'} {l = l} {l' = l'} {d = d} {r = r} {most = most} {u = u} {m = m} {m' = m'} {T = T} {k = k} {ks = ks} ew el x em known h =
    let there : IsAtType w l d r most u m k T ks = record {
      b = h.b;
      beside = h.beside;
      is = record {
        args_are = h.is.args_are;
        name_is = x.names.same k.name known.name_in ∙ h.is.name_is;
        inductive_is = x.names.same k.inductive known.inductive_in ∙ h.is.inductive_is;
        parameters_are = h.is.parameters_are;
        fields_are = h.is.fields_are;
        entry_is = h.is.entry_is;
        kind_is = h.is.kind_is;
      };
      under = under_way_grows x h.under;
      has = h.has;
      beside_is = h.beside_is;
    } in
    subst (λ z. IsAtType z l' d r most u m' k T ks) (sym ew) (subst (λ z. IsAtType w z d r most u m' k T ks) (sym el) (subst (λ z. IsAtType w l d r most u z k T ks) (sym em) there))

pub constructor_on : {c d : Contents} {k : AppliedConstructor} → Extends c d → IsKnownConstructor c k → IsKnownConstructor d k
constructor_on x h = let names = x.names.longer in let name = h.name_in in let inductive = h.inductive_in in record { name_in = omega arith; inductive_in = omega arith }

pub taken_at : {E : Type 0} {w w' : Place} {l l' : StoredLibrary} (c : Contents) (r : Row) (most : ℕ) (u : Redex) (m : Tree) (t : ℕ → Tree) (o : Result (Option ℕ) E) → w' ≡ w → l' ≡ l → IfOk o (IsTakenIf w' l' c r most u m t) → IfOk o (IsTakenIf w l c r most u m t)
taken_at {w = w} {w' = w'} {l = l} {l' = l'} c r most u m t o ew el h =
    subst (λ z. IfOk o (IsTakenIf z l c r most u m t)) ew (subst (λ z. IfOk o (IsTakenIf w' z c r most u m t)) el h)
