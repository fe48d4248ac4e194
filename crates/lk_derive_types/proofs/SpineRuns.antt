-- Runs of an application, along its spine.
use Rattle.std.proofs.Common.{ℕ, suc, ◌≡◌, ◌≤◌, ◌<◌, ◌+◌, true, List, [], ◌∷◌, ◌++◌, refl, subst, sym, ap, arith}
use Rattle.lk_tree.specs.Tree.{Tree, app, pi}
use Rattle.lk_tree.specs.Bind.{opened}
use Rattle.lk_tree.specs.Spine.{apply}
use Rattle.lk_tree.specs.WellFormed.{IsWellFormed}
use Rattle.lk_tree.specs.declared.rule.Rule.TheVariants.{NotAFunction, ArgumentType}
use Rattle.lk_tree.proofs.Binding.{open_fine}
use Rattle.lk_tree.proofs.Spines.{well_formed_of_apply}
use Rattle.lk_rulebook.specs.Place.{Place}
use Rattle.lk_rulebook.specs.WellStated.{WellStated}
use Rattle.lk_rulebook.specs.Claims.{Claim, types, reduces, equals}
use Rattle.lk_questions.specs.Query.{Query, infer, whnf, same}
use Rattle.lk_questions.specs.Program.{Program, ask}
use Rattle.lk_questions.specs.Steps.{given}
use Rattle.lk_written.specs.Line.{app_rule}
use Rattle.lk_step.specs.Rows.{IsAnswered, AreClaims, a_claim}
use Rattle.lk_step.specs.Runs.{Runs, IsOpened, AreOne}
use Rattle.lk_step.specs.Shaped.{IsShapedAnswer}
use Rattle.lk_step.specs.Told.{IsType, IsForm}
use Rattle.lk_step.specs.Typing.{ArgumentPremises, argument}
use Rattle.lk_step.proofs.Runs.{opened_so, one_answer}
use Rattle.lk_step.proofs.Shapes.{shaped_answer}
use Rattle.lk_step.proofs.TypingSteps.{typing_steps}
use Rattle.lk_derive_types.specs.Spines.{applied, IsArgumentWithin}
use Rattle.lk_derive_types.specs.TypeRows.{IsTypedRow}
use Rattle.lk_derive_types.proofs.RunParts.{PiRun, pi_run, given_run}

-- what comes behind the Pi
abbrev argument_rest : Tree → List Tree → Tree × Tree → Program Tree
argument_rest x xs p = ask (infer x) (λ X. ask (same X p.0) (λ equal. given equal ArgumentType (applied (opened p.1 x) xs)))

-- what a run says of the first argument
pub record ArgumentRun (w : Place) (F x : Tree) (xs : List Tree) (T : Tree) (n : ℕ) : Type 0 where
  pub domain : Tree
  pub body : Tree
  pub own : Tree
  pub first : ℕ
  pub second : ℕ
  pub third : ℕ
  pub left : ℕ
  pub reduced : IsAnswered w (whnf F) (pi domain body) first
  pub typed : IsAnswered w (infer x) own second
  pub equal : IsAnswered w (same own domain) true third
  pub then_runs : Runs w (applied (opened body x) xs) T left
  pub paid : n ≡ first + (second + (third + left))

pub argument_run : (w : Place) (F x : Tree) (xs : List Tree) (T : Tree) (n : ℕ) → Runs w (applied F (x ∷ xs)) T n → ArgumentRun w F x xs T n
argument_run w F x xs T n h =
    let p : PiRun w F (λ p. argument_rest x xs p) T n = pi_run w NotAFunction F (λ p. argument_rest x xs p) T n h in
    let q : Runs w (argument_rest x xs (p.domain, p.body)) T p.more = p.then_runs in
    let g : (q.4.0 ≡ true) × Runs w (applied (opened p.body x) xs) T q.4.2 = given_run w q.4.0 ArgumentType (applied (opened p.body x) xs) T q.4.2 q.4.4 in
    let e : n ≡ p.first + p.more = p.paid in
    let i : p.more ≡ q.1 + q.2 = q.5 in
    let j : q.2 ≡ q.4.1 + q.4.2 = q.4.5 in
    record {
      domain = p.domain;
      body = p.body;
      own = q.0;
      first = p.first;
      second = q.1;
      third = q.4.1;
      left = q.4.2;
      reduced = p.reduced;
      typed = q.3;
      equal = subst (λ y. IsAnswered w (same q.0 p.domain) y q.4.1) g.0 q.4.3;
      then_runs = g.1;
      paid = omega (arith, e, i, j);
    }

-- one argument, and then the others
join : (w : Place) (F x : Tree) (xs : List Tree) (G T : Tree) (m k : ℕ) → Runs w (applied F (x ∷ [])) G m → Runs w (applied G xs) T k → Runs w (applied F (x ∷ xs)) T (m + k)
join w F x xs G T m k h i =
    let r : ArgumentRun w F x [] G m = argument_run w F x [] G m h in
    let same_tree : opened r.body x ≡ G = r.then_runs.0 in
    let z : r.left ≡ 0 = r.then_runs.1 in
    let p : m ≡ r.first + (r.second + (r.third + r.left)) = r.paid in (
      pi r.domain r.body,
      r.first,
      r.second + (r.third + k),
      r.reduced,
      (r.own, r.second, r.third + k, r.typed, (true, r.third, k, r.equal, subst (λ v. Runs w (applied v xs) T k) (sym same_tree) i, refl), refl),
      omega (arith, p, z),
    )

-- what a run of the rows along the spine says
pub record SpineRun (w : Place) (h : Tree) (xs : List Tree) (T : Tree) (c : ℕ) : Type 0 where
  pub type : Tree
  pub first : ℕ
  pub more : ℕ
  pub typed : IsAnswered w (infer h) type first
  pub then_runs : Runs w (applied type xs) T more
  pub paid : first + more < c

one_run : (w : Place) (h x T : Tree) (c : ℕ) → IsAnswered w (infer (app h x)) T c → SpineRun w h (x ∷ []) T c
one_run w h x T c a =
    let o : IsOpened w (infer (app h x)) T c = opened_so w (infer (app h x)) T c a in
    let r : Runs w (ask (infer h) (λ F. applied F (x ∷ []))) T o.0 = o.2 in
    let p : c ≡ suc o.0 = o.1 in
    let q : o.0 ≡ r.1 + r.2 = r.5 in
    record { type = r.0; first = r.1; more = r.2; typed = r.3; then_runs = r.4; paid = omega (arith, p, q) }

pub spine_run : (w : Place) (h x : Tree) (xs : List Tree) (T : Tree) (c : ℕ) → IsAnswered w (infer (apply h (x ∷ xs))) T c → SpineRun w h (x ∷ xs) T c
spine_run w h x [] T c a = one_run w h x T c a
spine_run w h x (y ∷ ys) T c a =
    let r : SpineRun w (app h x) (y ∷ ys) T c = spine_run w (app h x) y ys T c a in
    let s : SpineRun w h (x ∷ []) r.type r.first = one_run w h x r.type r.first r.typed in
    let p : r.first + r.more < c = r.paid in
    let q : s.first + s.more < r.first = s.paid in
    record { type = s.type; first = s.first; more = s.more + r.more; typed = s.typed; then_runs = join w s.type x (y ∷ ys) r.type T s.more r.more s.then_runs r.then_runs; paid = omega (arith, p, q) }

pub argument_within : (w : Place) (F x : Tree) (xs : List Tree) (T : Tree) (n most : ℕ) → Runs w (applied F (x ∷ xs)) T n → n ≤ most → IsArgumentWithin w F x most
argument_within w F x xs T n most h l =
    let r : ArgumentRun w F x xs T n = argument_run w F x xs T n h in
    let p : n ≡ r.first + (r.second + (r.third + r.left)) = r.paid in
    record {
      function = record { domain = r.domain; body = r.body; cost = r.first; reduced = r.reduced; within = omega (arith, p, l) };
      own = (r.own, r.second, r.typed, omega (arith, p, l));
    }

-- whatever is noted of the rest
abbrev pub Finishes : Place → Tree → Tree → List Tree → Tree → ℕ → List Query → List Claim → Type 0
Finishes w tree F xs T left queries claims =
    (qs : List Query) (ks : List Claim) (n : ℕ) → ArgumentPremises F xs ks T → AreClaims w qs ks n → n ≤ left → IsTypedRow w app_rule tree T (queries ++ qs) (claims ++ ks)

-- the first argument is behind
pub record SpineNext (w : Place) (tree : Tree) (xs : List Tree) (T : Tree) (n : ℕ) (F x A B X : Tree) (qs : List Query) (ks : List Claim) : Type 0 where
  pub left : ℕ
  pub less : left ≤ n
  pub fine : IsWellFormed (opened B x)
  pub runs : Runs w (applied (opened B x) xs) T left
  pub finish : Finishes w tree (opened B x) xs T left (((qs ++ (whnf F ∷ [])) ++ (infer x ∷ [])) ++ (same X A ∷ [])) (((ks ++ (reduces F (pi A B) ∷ [])) ++ (types x X ∷ [])) ++ (equals X A ∷ []))

three_more : {Y : Type 0} (ys : List Y) (a b c : Y) (zs : List Y) → ys ++ (a ∷ b ∷ c ∷ zs) ≡ (((ys ++ (a ∷ [])) ++ (b ∷ [])) ++ (c ∷ [])) ++ zs
three_more [] a b c zs = refl
three_more (y ∷ ys) a b c zs = ap (λ l. y ∷ l) (three_more ys a b c zs)

pub pi_left : (A B C D : Tree) → pi A B ≡ pi C D → A ≡ C
pi_left A B C D e = cc

pub pi_right : (A B C D : Tree) → pi A B ≡ pi C D → B ≡ D
pi_right A B C D e = cc

pub spine_next : (w : Place) → WellStated w → (tree F x : Tree) (xs : List Tree) (T A B X : Tree) (n : ℕ) (qs : List Query) (ks : List Claim) → IsWellFormed F → IsWellFormed x → Runs w (applied F (x ∷ xs)) T n →
    IsForm w F (pi A B) → IsType w x X → Finishes w tree F (x ∷ xs) T n qs ks → SpineNext w tree xs T n F x A B X qs ks
spine_next w ok tree F x xs T A B X n qs ks fF fx h s t f =
    let r : ArgumentRun w F x xs T n = argument_run w F x xs T n h in
    let p : n ≡ r.first + (r.second + (r.third + r.left)) = r.paid in
    let o₁ : AreOne (pi A B) (pi r.domain r.body) s.cost r.first = one_answer w (whnf F) (pi A B) (pi r.domain r.body) s.cost r.first s.answered r.reduced in
    let o₂ : AreOne X r.own t.cost r.second = one_answer w (infer x) X r.own t.cost r.second t.answered r.typed in
    let dA : A ≡ r.domain = pi_left A B r.domain r.body o₁.answer in
    let dB : B ≡ r.body = pi_right A B r.domain r.body o₁.answer in
    let equal : IsAnswered w (same X A) true r.third = subst (λ z. IsAnswered w (same z A) true r.third) (sym o₂.answer) (subst (λ z. IsAnswered w (same r.own z) true r.third) (sym dA) r.equal) in
    let sP : IsShapedAnswer (whnf F) (pi A B) = shaped_answer w ok (whnf F) (pi A B) s.cost fF s.answered in
    let sX : IsShapedAnswer (infer x) X = shaped_answer w ok (infer x) X t.cost fx t.answered in
    let e₁ : s.cost ≡ r.first = o₁.cost in
    let e₂ : t.cost ≡ r.second = o₂.cost in
    record {
      left = r.left;
      less = omega (arith, p);
      fine = open_fine 0 x B sP.0.1.1 fx;
      runs = subst (λ z. Runs w (applied (opened z x) xs) T r.left) (sym dB) r.then_runs;
      finish = λ us js m a c l.
          subst (λ z. IsTypedRow w app_rule tree T z ((((ks ++ (reduces F (pi A B) ∷ [])) ++ (types x X ∷ [])) ++ (equals X A ∷ [])) ++ js)) (three_more qs (whnf F) (infer x) (same X A) us)
          (subst (λ z. IsTypedRow w app_rule tree T (qs ++ (whnf F ∷ infer x ∷ same X A ∷ us)) z) (three_more ks (reduces F (pi A B)) (types x X) (equals X A) js)
          (f (whnf F ∷ infer x ∷ same X A ∷ us) (reduces F (pi A B) ∷ types x X ∷ equals X A ∷ js) (s.cost + (t.cost + (r.third + m))) (argument a)
          (a_claim (whnf F) (pi A B) s.cost fF s.answered tt (a_claim (infer x) X t.cost fx t.answered tt (a_claim (same X A) true r.third (sX.0.1, sP.0.1.0) equal refl c))) (omega (arith, p, e₁, e₂, l))));
    }

-- before the first argument
pub spine_start : (w : Place) → WellStated w → (h x : Tree) (xs : List Tree) (F T : Tree) (c : ℕ) → IsWellFormed (apply h (x ∷ xs)) → IsAnswered w (infer (apply h (x ∷ xs))) T c → IsType w h F →
    (n : ℕ) × (n ≤ c) × Runs w (applied F (x ∷ xs)) T n × Finishes w (apply h (x ∷ xs)) F (x ∷ xs) T n (infer h ∷ []) (types h F ∷ [])
spine_start w ok h x xs F T c f a t =
    let r : SpineRun w h (x ∷ xs) T c = spine_run w h x xs T c a in
    let o : AreOne F r.type t.cost r.first = one_answer w (infer h) F r.type t.cost r.first t.answered r.typed in
    let p : r.first + r.more < c = r.paid in
    let e : t.cost ≡ r.first = o.cost in
    let fh : IsWellFormed h = (well_formed_of_apply h (x ∷ xs) f).0 in
    let sT : IsShapedAnswer (infer (apply h (x ∷ xs))) T = shaped_answer w ok (infer (apply h (x ∷ xs))) T c f a in (
      r.more,
      omega (arith, p),
      subst (λ z. Runs w (applied z (x ∷ xs)) T r.more) (sym o.answer) r.then_runs,
      λ qs ks n i j l. record {
        cost = c;
        answered = a;
        spent = t.cost + n;
        asked = a_claim (infer h) F t.cost fh t.answered tt j;
        less = omega (arith, p, e, l);
        holds = (typing_steps w).apps h F T x xs ks i f sT.0.1;
      },
    )
