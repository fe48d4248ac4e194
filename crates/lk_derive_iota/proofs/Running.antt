-- What the runs of a recursor's programs say.
use Rattle.std.proofs.Common.{ℕ, ◌≡◌, ◌≤◌, ◌+◌, Bool, true, false, List, [], ◌∷◌, Option, Some, None, refl, sym, subst, arith, if◌then◌else◌}
use Rattle.lk_tree.specs.Tree.{Tree, const}
use Rattle.lk_tree.specs.Spine.{head, args}
use Rattle.lk_rulebook.specs.Place.{Place, Entry, Kind, Recursor, RecRule, a_ctor}
use Rattle.lk_rulebook.specs.Structures.{RecApp}
use Rattle.lk_questions.specs.Query.{Query, AnswerTo, whnf, infer}
use Rattle.lk_questions.specs.Program.{Program, ask, asked, ◌>>=◌}
use Rattle.lk_questions.specs.Iota.{CtorApp, ctor_app_by, ctor_app_of, only_ctor, levels_at, to_ctor_when_k, to_ctor_when_structure, as_ctor_app, iota_at_ctor, iota_after_k}
use Rattle.lk_constructor.specs.Looking.{app_at}
use Rattle.lk_step.specs.Rows.{IsAnswered}
use Rattle.lk_step.specs.Runs.{Runs, AreOne}
use Rattle.lk_step.proofs.Runs.{one_answer}
use Rattle.lk_derive_iota.specs.Only.{only_at, IsOnly, IfOnly}
use Rattle.lk_derive_iota.specs.Stages.{starts, by_only, by_type, at_major, at_subject, by_structure, at_ctor, program_of}
use Rattle.lk_derive_iota.specs.Taken.{HasForm, IsTypedWithin}

pub runs_asked : (w : Place) (q : Query) (v : AnswerTo q) (n : ℕ) → Runs w (asked q) v n → IsAnswered w q v n
runs_asked w q v n h =
    let value : h.0 ≡ v = h.4.0 in
    let rest : h.2 ≡ 0 = h.4.1 in
    let paid : n ≡ h.1 + h.2 = h.5 in
    let same : h.1 ≡ n = omega arith in
    subst (λ m. IsAnswered w q v m) same (subst (λ u. IsAnswered w q u h.1) value h.3)

-- what a name means is found
pub runs_only : (w : Place) (rs : List RecRule) (k : Option CtorApp → Program Tree) (v : Tree) (n : ℕ) → Runs w (only_ctor rs >>= k) v n → Runs w (k (only_at w rs)) v n
runs_only w [] k v n h = h
runs_only w (rule ∷ []) k v n h =
    subst (λ (o : Option Entry). Runs w (k (elim o [ Some g ↦ ctor_app_by rule.ctor [] [] g g.kind | None ↦ None ])) v n) (sym h.1) h.2
runs_only w (r ∷ s ∷ rs) k v n h = h

pub runs_app : (w : Place) (t : Tree) (xs : List Tree) (k : Option CtorApp → Program Tree) (v : Tree) (n : ℕ) → Runs w (ctor_app_of t xs >>= k) v n → Runs w (k (app_at w t xs)) v n
runs_app w (const c ks) xs k v n h =
    subst (λ (o : Option Entry). Runs w (k (elim o [ Some g ↦ ctor_app_by c ks xs g g.kind | None ↦ None ])) v n) (sym h.1) h.2
runs_app w _ xs k v n h = h

only_by : (w : Place) (r : Recursor) (rule : RecRule) (g : Entry) → r.rules ≡ rule ∷ [] → w.means rule.ctor ≡ Some g → (k : Kind) → g.kind ≡ k → IfOnly w r (ctor_app_by rule.ctor [] [] g k)
only_by w r rule g o m (a_ctor b i c) e = record { rule = rule; one = o; named = refl; given = m; kind = e }
only_by w r rule g o m _ e = tt

only_of : (w : Place) (r : Recursor) (rs : List RecRule) → r.rules ≡ rs → IfOnly w r (only_at w rs)
only_of w r [] e = tt
only_of w r (rule ∷ []) e = go (w.means rule.ctor) refl
  where
    go : (o : Option Entry) → w.means rule.ctor ≡ o → IfOnly w r (elim o [ Some g ↦ ctor_app_by rule.ctor [] [] g g.kind | None ↦ None ])
    go (Some g) m = only_by w r rule g e m g.kind refl
    go None m = tt
only_of w r (a ∷ b ∷ rs) e = tt

pub only_found : (w : Place) (r : Recursor) (b : CtorApp) → only_at w r.rules ≡ Some b → IsOnly w r b
only_found w r b h = subst (IfOnly w r) h (only_of w r r.rules refl)

-- a type and its weak head form are asked for
pub record FormRun (w : Place) (e : Tree) (p : Tree → Program Tree) (v : Tree) (n : ℕ) : Type 0 where
  pub form : Tree
  pub has : HasForm w e form
  pub second : ℕ
  pub runs : Runs w (p form) v second
  pub paid : n ≡ has.first + (has.second + second)

pub form_run : (w : Place) (e : Tree) (p : Tree → Program Tree) (v : Tree) (n : ℕ) → Runs w (ask (infer e) (λ S. ask (whnf S) p)) v n → FormRun w e p v n
form_run w e p v n h =
    let one : n ≡ h.1 + h.2 = h.5 in
    let two : h.2 ≡ h.4.1 + h.4.2 = h.4.5 in
    record {
      form = h.4.0;
      has = record { stated = h.0; first = h.1; second = h.4.1; typed = h.3; formed = h.4.3 };
      second = h.4.2;
      runs = h.4.4;
      paid = omega arith;
    }

pub form_within : (w : Place) (e : Tree) (p : Tree → Program Tree) (v : Tree) (n most : ℕ) → n ≤ most → FormRun w e p v n → IsTypedWithin w e most
form_within w e p v n most lt h =
    let paid : n ≡ h.has.first + (h.has.second + h.second) = h.paid in
    record { form = h.form; has = h.has; first_within = omega arith; second_within = omega arith }

-- there is one
pub record SameForm {w : Place} {e T T' : Tree} (h : HasForm w e T) (k : HasForm w e T') : Type 0 where
  pub form : T ≡ T'
  pub first : h.first ≡ k.first
  pub second : h.second ≡ k.second

pub same_form : (w : Place) (e T T' : Tree) (h : HasForm w e T) (k : HasForm w e T') → SameForm h k
same_form w e T T' h k =
    let one : AreOne h.stated k.stated h.first k.first = one_answer w (infer e) h.stated k.stated h.first k.first h.typed k.typed in
    let two : AreOne T T' h.second k.second = one_answer w (whnf k.stated) T T' h.second k.second (subst (λ z. IsAnswered w (whnf z) T h.second) one.answer h.formed) k.formed in
    record { form = two.answer; first = one.cost; second = two.cost }

-- by the form that is told
pub record FormRunAt {w : Place} {e T : Tree} (k : HasForm w e T) (p : Tree → Program Tree) (v : Tree) (n : ℕ) : Type 0 where
  pub second : ℕ
  pub runs : Runs w (p T) v second
  pub paid : n ≡ k.first + (k.second + second)

pub form_run_at : (w : Place) (e T : Tree) (k : HasForm w e T) (p : Tree → Program Tree) (v : Tree) (n : ℕ) → FormRun w e p v n → FormRunAt k p v n
form_run_at w e T k p v n h =
    let s : SameForm h.has k = same_form w e h.form T h.has k in
    let first : h.has.first ≡ k.first = s.first in
    let second : h.has.second ≡ k.second = s.second in
    let paid : n ≡ h.has.first + (h.has.second + h.second) = h.paid in
    record { second = h.second; runs = subst (λ z. Runs w (p z) v h.second) s.form h.runs; paid = omega arith }

module _ {w : Place} (R : RecApp w) (e m : Tree) (rest : List Tree) (v : Tree) (n : ℕ) where
  abbrev after : Option Tree → Program Tree
  after d = iota_after_k e R.entry R.levels R.recursor R.front m rest d

  abbrev with_k : Program Tree
  with_k = only_ctor R.recursor.rules >>= λ b. to_ctor_when_k R.recursor m b >>= λ d. iota_after_k e R.entry R.levels R.recursor R.front m rest d

  pub without_k : R.recursor.k ≡ false → Runs w (program_of R e m rest starts) v n → Runs w (program_of R e m rest at_major) v n
  without_k k h = subst (λ (x : Bool). Runs w (if x then with_k else after None) v n) k h

  pub k_looks : R.recursor.k ≡ true → Runs w (program_of R e m rest starts) v n → Runs w (program_of R e m rest (by_only (only_at w R.recursor.rules))) v n
  k_looks k h = runs_only w R.recursor.rules (λ b. to_ctor_when_k R.recursor m b >>= λ d. iota_after_k e R.entry R.levels R.recursor R.front m rest d) v n
      (subst (λ (x : Bool). Runs w (if x then with_k else after None) v n) k h)

  pub k_typed : (b : CtorApp) → Runs w (program_of R e m rest (by_only (Some b))) v n → FormRun w m (λ T. program_of R e m rest (by_type b T (levels_at b.ind.name (head T)))) v n
  k_typed b h = form_run w m (λ T. program_of R e m rest (by_type b T (levels_at b.ind.name (head T)))) v n h

  pub subject_ctor : (d : Tree) (b : CtorApp) → app_at w (head d) (args d) ≡ Some b → Runs w (program_of R e m rest (at_subject d)) v n → Runs w (program_of R e m rest (at_ctor (app_at w (head d) (args d)))) v n
  subject_ctor d b i h =
      let run = runs_app w (head d) (args d) (λ b. as_ctor_app R.recursor d b >>= λ c. iota_at_ctor e R.entry R.levels R.recursor R.front rest c) v n h in
      subst (λ o. Runs w (program_of R e m rest (at_ctor o)) v n) (sym i)
      (subst (λ o. Runs w (as_ctor_app R.recursor d o >>= λ c. iota_at_ctor e R.entry R.levels R.recursor R.front rest c) v n) i run)

  only_bind : (rs : List RecRule) (d : Tree) → Runs w ((only_ctor rs >>= λ k. to_ctor_when_structure d k) >>= λ c. iota_at_ctor e R.entry R.levels R.recursor R.front rest c) v n →
      Runs w (only_ctor rs >>= λ k. to_ctor_when_structure d k >>= λ c. iota_at_ctor e R.entry R.levels R.recursor R.front rest c) v n
  only_bind [] d h = h
  only_bind (r ∷ []) d h = h
  only_bind (r ∷ s ∷ rs) d h = h

  pub subject_none : (d : Tree) → app_at w (head d) (args d) ≡ None → Runs w (program_of R e m rest (at_subject d)) v n → Runs w (program_of R e m rest (by_structure d (only_at w R.recursor.rules))) v n
  subject_none d i h =
      let run = runs_app w (head d) (args d) (λ b. as_ctor_app R.recursor d b >>= λ c. iota_at_ctor e R.entry R.levels R.recursor R.front rest c) v n h in
      let none = subst (λ o. Runs w (as_ctor_app R.recursor d o >>= λ c. iota_at_ctor e R.entry R.levels R.recursor R.front rest c) v n) i run in
      runs_only w R.recursor.rules (λ k. to_ctor_when_structure d k >>= λ c. iota_at_ctor e R.entry R.levels R.recursor R.front rest c) v n (only_bind R.recursor.rules d none)
