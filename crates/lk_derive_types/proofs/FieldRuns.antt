-- Runs of a projection, along the fields of its structure: that the domain of one is a proposition, where that is due.
use Rattle.std.proofs.Common.{ℕ, ◌≡◌, ◌≤◌, ◌+◌, Bool, true, false, List, [], ◌∷◌, ◌++◌, refl, subst, sym, ap, ◌∙◌, arith}
use Rattle.lk_tree.specs.Tree.{Tree, Level, sort}
use Rattle.lk_tree.specs.Level.{is_zero_level}
use Rattle.lk_tree.specs.WellFormed.{IsWellFormed}
use Rattle.lk_tree.specs.declared.rule.Rule.TheVariants.{PropProjection}
use Rattle.lk_rulebook.specs.Place.{Place}
use Rattle.lk_rulebook.specs.WellStated.{WellStated}
use Rattle.lk_rulebook.specs.Claims.{Claim, types, reduces}
use Rattle.lk_questions.specs.Query.{Query, infer, whnf}
use Rattle.lk_questions.specs.Program.{Program, done, ◌>>=◌}
use Rattle.lk_questions.specs.Steps.{given, as_sort}
use Rattle.lk_questions.specs.Projections.{is_prop_if}
use Rattle.lk_store.specs.Contents.{Contents, IsTree}
use Rattle.lk_step.specs.Rows.{IsAnswered, AreClaims, a_claim}
use Rattle.lk_step.specs.Runs.{Runs, AreOne}
use Rattle.lk_step.specs.Shaped.{IsShapedAnswer, AllShaped}
use Rattle.lk_step.specs.Typing.{PropPremises, not_due, due}
use Rattle.lk_step.proofs.Runs.{one_answer}
use Rattle.lk_step.proofs.Shapes.{shaped_answer}
use Rattle.lk_derive_types.specs.declared.asked.Asked.{Asked}
use Rattle.lk_derive_types.specs.Asked.{AreAsked}
use Rattle.lk_derive_types.specs.Parts.{IsSortedWithin}
use Rattle.lk_derive_types.specs.Projections.{NotesProp}
use Rattle.lk_derive_types.proofs.RunParts.{given_run}
use Rattle.lk_derive_types.proofs.AskedSoFar.{type_asked, form_asked}
use Rattle.lk_derive_types.proofs.ParameterRuns.{one_more}

-- A is a proposition, where that is due, and then the rest
abbrev pub prop_then : Bool → Tree → Program Tree → Program Tree
prop_then d A K = is_prop_if d A >>= (λ allowed. given allowed PropProjection K)

-- what a run says where it is due
pub record DueRun (w : Place) (A : Tree) (K : Program Tree) (v : Tree) (n : ℕ) : Type 0 where
  pub between : Tree
  pub level : Level
  pub first : ℕ
  pub second : ℕ
  pub more : ℕ
  pub typed : IsAnswered w (infer A) between first
  pub reduced : IsAnswered w (whnf between) (sort level) second
  pub zero : is_zero_level level ≡ true
  pub then_runs : Runs w K v more
  pub paid : n ≡ first + (second + more)

pub due_run : (w : Place) (A : Tree) (K : Program Tree) (v : Tree) (n : ℕ) → Runs w (prop_then true A K) v n → DueRun w A K v n
due_run w A K v n h =
    let paid : n ≡ h.1 + h.2 = h.5 in
    let more : h.2 ≡ h.4.1 + h.4.2 = h.4.5 in
    go h.4.0 h.4.3 h.4.4 (omega (arith, paid, more))
  where
    go : (u : Tree) → IsAnswered w (whnf h.0) u h.4.1 → Runs w ((as_sort u >>= (λ l. done (is_zero_level l))) >>= (λ allowed. given allowed PropProjection K)) v h.4.2 → n ≡ h.1 + (h.4.1 + h.4.2) → DueRun w A K v n
    go (sort l) a r p =
        let g : (is_zero_level l ≡ true) × Runs w K v h.4.2 = given_run w (is_zero_level l) PropProjection K v h.4.2 r in
        record { between = h.0; level = l; first = h.1; second = h.4.1; more = h.4.2; typed = h.3; reduced = a; zero = g.0; then_runs = g.1; paid = p }
    go _ a r p = absurd r

pub prop_within : (w : Place) (d : Bool) (A : Tree) (K : Program Tree) (v : Tree) (n most : ℕ) → Runs w (prop_then d A K) v n → n ≤ most → d ≡ true → IsSortedWithin w A most
prop_within w true A K v n most h l e =
    let r : DueRun w A K v n = due_run w A K v n h in
    let p : n ≡ r.first + (r.second + r.more) = r.paid in
    record { between = r.between; level = r.level; first = r.first; second = r.second; typed = r.typed; reduced = r.reduced; first_within = omega (arith, p, l); second_within = omega (arith, p, l) }
prop_within w false A K v n most h l e = absurd cc

-- these questions are asked for it, and claim this
pub record PropNext (w : Place) (d : Bool) (A : Tree) (K : Program Tree) (v : Tree) (n : ℕ) (us : List Query) (js : List Claim) : Type 0 where
  pub left : ℕ
  pub less : left ≤ n
  pub runs : Runs w K v left
  pub premises : (ds : List Claim) → PropPremises d A (js ++ ds) ds
  pub shaped : (ds : List Claim) → AllShaped ds → AllShaped (js ++ ds)
  pub claims : (qs : List Query) (ds : List Claim) (m : ℕ) → AreClaims w qs ds m → m ≤ left → (k : ℕ) × AreClaims w (us ++ qs) (js ++ ds) k × (k ≤ n)

-- the same by numbers, behind what was noted before
pub record PropNoted (w : Place) (c : Contents) (d : Bool) (A : Tree) (K : Program Tree) (v : Tree) (n : ℕ) (b : Asked) (qs : List Query) (ks : List Claim) : Type 0 where
  pub queries : List Query
  pub claims : List Claim
  pub asked_are : AreAsked c b (qs ++ queries) (ks ++ claims)
  pub next : PropNext w d A K v n queries claims

append_none : {Y : Type 0} (ys : List Y) → ys ≡ ys ++ []
append_none [] = refl
append_none (y ∷ ys) = ap (λ l. y ∷ l) (append_none ys)

pub level_is : (l m : Level) → sort l ≡ sort m → l ≡ m
level_is l m e = cc

pub prop_noted : (w : Place) → WellStated w → (c : Contents) (d : Bool) (A : Tree) (K : Program Tree) (v : Tree) (n : ℕ) (a b : Asked) (domain : ℕ) (qs : List Query) (ks : List Claim) → IsWellFormed A → Runs w (prop_then d A K) v n →
    NotesProp w c d A a b domain → IsTree c domain A → AreAsked c a qs ks → PropNoted w c d A K v n b qs ks
prop_noted w ok c false A K v n a b domain qs ks f h e t i = record {
  queries = [];
  claims = [];
  asked_are = subst (λ z. AreAsked c z (qs ++ []) (ks ++ [])) (sym e) (subst (λ z. AreAsked c a z (ks ++ [])) (append_none qs) (subst (λ z. AreAsked c a qs z) (append_none ks) i));
  next = record { left = n; less = omega arith; runs = h; premises = λ ds. not_due; shaped = λ ds s. s; claims = λ us ds m k l. (m, k, l) };
}
prop_noted w ok c true A K v n a b domain qs ks f h e t i =
    let r : DueRun w A K v n = due_run w A K v n h in
    let p : n ≡ r.first + (r.second + r.more) = r.paid in
    let T : Tree = e.read.between in
    let l : Level = e.read.level in
    let x : ℕ = e.read.typed.cost in
    let y : ℕ = e.read.reduced.cost in
    let o : AreOne T r.between x r.first = one_answer w (infer A) T r.between x r.first e.read.typed.answered r.typed in
    let reduced : IsAnswered w (whnf T) (sort r.level) r.second = subst (λ z. IsAnswered w (whnf z) (sort r.level) r.second) (sym o.answer) r.reduced in
    let u : AreOne (sort l) (sort r.level) y r.second = one_answer w (whnf T) (sort l) (sort r.level) y r.second e.read.reduced.answered reduced in
    let z : is_zero_level l ≡ true = ap is_zero_level (level_is l r.level u.answer) ∙ r.zero in
    let sT : IsShapedAnswer (infer A) T = shaped_answer w ok (infer A) T x f e.read.typed.answered in
    let sS : IsShapedAnswer (whnf T) (sort l) = shaped_answer w ok (whnf T) (sort l) y sT.0.1 e.read.reduced.answered in
    let ex : x ≡ r.first = o.cost in
    let ey : y ≡ r.second = u.cost in
    let i₁ : AreAsked c e.first (qs ++ (infer A ∷ [])) (ks ++ (types A T ∷ [])) = type_asked c a e.first qs ks domain e.sorted.ty A T e.typed t e.read.ty_is i in
    let i₂ : AreAsked c b ((qs ++ (infer A ∷ [])) ++ (whnf T ∷ [])) ((ks ++ (types A T ∷ [])) ++ (reduces T (sort l) ∷ [])) =
    form_asked c e.first b (qs ++ (infer A ∷ [])) (ks ++ (types A T ∷ [])) e.sorted.ty e.sorted.sort T (sort l) e.form e.read.ty_is e.read.sort_is i₁ in
    record {
      queries = infer A ∷ whnf T ∷ [];
      claims = types A T ∷ reduces T (sort l) ∷ [];
      asked_are = subst (λ zs. AreAsked c b zs (ks ++ (types A T ∷ reduces T (sort l) ∷ []))) (sym (one_more qs (infer A) (whnf T ∷ [])))
          (subst (λ zs. AreAsked c b ((qs ++ (infer A ∷ [])) ++ (whnf T ∷ [])) zs) (sym (one_more ks (types A T) (reduces T (sort l) ∷ []))) i₂);
      next = record {
        left = r.more;
        less = omega (arith, p);
        runs = r.then_runs;
        premises = λ ds. due z;
        shaped = λ ds s. (sT.0, (sS.0, s));
        claims = λ us ds m k g. (x + (y + m), a_claim (infer A) T x f e.read.typed.answered tt (a_claim (whnf T) (sort l) y sT.0.1 e.read.reduced.answered tt k), omega (arith, p, ex, ey, g));
      };
    }
