-- At status 0 each unit is good, and uses allowed axioms alone.
use Rattle.std.proofs.Common.{◌≡◌, ℕ, zero, suc, ◌<◌, Bool, true, false, List, [], ◌∷◌, length, Some, None, refl, sym, ap, subst, ◌∙◌, arith}
use Rattle.std.specs.Prelude.{slice_get, nat_eq, codes, if◌then◌else◌, IfSome}
use Rattle.std.specs.declared.option.Option.{Option}
use Rattle.std.proofs.lemmas.Bool.Decides.{nat_tests}
use Rattle.lk_verdict.specs.Told.{Verdict, accepted, rejected, out_of_steps, out_of_memory}
use Rattle.lk_command.specs.declared.words.Options.{Options}
use Rattle.lk_command.specs.Words.{allowed_text, HasOptions, MeansCheck}
use Rattle.lk_text.specs.Text.{count}
use Rattle.lk_text.specs.Policy.{policy_of, texts_of, all_under}
use Rattle.lk_text.proofs.Refusing.{as_many, accepted_before, all_listed}
use Rattle.lk_text.specs.declared.counts.VerdictKind.TheVariants.{No, Memory}
use Rattle.leancheck.specs.declared.status.Status.{Status}
use Rattle.leancheck.specs.declared.status.Status.TheVariants.{AllYes, SomeNo, SomeMemory}
use Rattle.leancheck.specs.declared.extent.Extent.{Extent}
use Rattle.leancheck.specs.declared.extent.Extent.TheVariants.{Report}
use Rattle.leancheck.specs.Ends.{policy_in, status_of, IsReport, Reports, IsAllGood}

all_accepted : (vs : List Verdict) → count No vs ≡ 0 → count Memory vs ≡ 0 → (n : ℕ) → n < length vs → slice_get vs n ≡ Some accepted
all_accepted [] refused wanting n lt = absurd (omega (arith, lt))
all_accepted (accepted ∷ vs) refused wanting zero lt = refl
all_accepted (accepted ∷ vs) refused wanting (suc n) lt = all_accepted vs refused wanting n (omega (arith, lt))
all_accepted (rejected r ∷ vs) refused wanting n lt = absurd (omega (arith, refused))
all_accepted (out_of_steps ∷ vs) refused wanting n lt = absurd (omega (arith, refused))
all_accepted (out_of_memory ∷ vs) refused wanting n lt = absurd (omega (arith, wanting))

none : (b c : Bool) → (if b then (if c then AllYes else SomeMemory) else SomeNo) ≡ AllYes → (b ≡ true) × (c ≡ true)
none true true e = (refl, refl)
none true false e = absurd (cc)
none false c e = absurd (cc)

-- where the status is 0, each verdict is yes
pub each_yes : (vs : List Verdict) → status_of vs ≡ AllYes → (n : ℕ) → n < length vs → slice_get vs n ≡ Some accepted
each_yes vs e =
    let both = none (nat_eq (count No vs) 0) (nat_eq (count Memory vs) 0) e in
    let b = both.0 in
    let c = both.1 in
    let refused : count No vs ≡ 0 = grind (arith, nat_tests) in
    let wanting : count Memory vs ≡ 0 = grind (arith, nat_tests) in
    all_accepted vs refused wanting

-- a report whose status is 0
module _ (extent : Extent) (o : Options) (bytes : List ℕ) (text : List ℕ) (r : IsReport extent o bytes AllYes text) where
  as_many_told : length r.verdicts ≡ length r.export.units
  as_many_told = ap length r.judged ∙ as_many (policy_in o) r.export.units 0 r.plain ∙ r.are.as_many

  told_yes : (n : ℕ) → n < length r.export.units → slice_get (all_under (policy_in o) r.export.units 0 r.plain) n ≡ Some accepted
  told_yes n lt =
      ap (λ vs. slice_get vs n) (sym r.judged)
      ∙ each_yes r.verdicts (sym r.status_is) n (subst (λ k. n < k) (sym as_many_told) lt)

  plain_yes : (n : ℕ) → n < length r.export.units → slice_get r.plain n ≡ Some accepted
  plain_yes n lt = accepted_before (policy_in o) r.export.units r.plain n (told_yes n lt)

  pub good_report : IsAllGood o bytes
  good_report = record {
    export = r.export;
    spelled = r.spelled;
    good = λ n lt. (r.are.each n accepted (plain_yes n lt)).good refl (λ m below gives. plain_yes m (omega (arith, below, lt)));
    allowed = λ list is n k lt has.
        all_listed (texts_of list) r.export.units r.plain n k
        (subst (λ t. slice_get (all_under (policy_of t) r.export.units 0 r.plain) n ≡ Some accepted) is (told_yes n lt)) has;
  }

-- options that allow the same axioms
same_policy : (one other : Options) (bytes : List ℕ) → allowed_text one ≡ allowed_text other → IsAllGood one bytes → IsAllGood other bytes
same_policy one other bytes same g = record {
  export = g.export;
  spelled = g.spelled;
  good = g.good;
  allowed = λ list is. g.allowed list (same ∙ is);
}

-- words say one thing
same_rows : {X Y : Type 0} (name : X) (one other : Y) → ◌≡◌ {A = Option (X × Y)} (Some (name, one)) (Some (name, other)) → one ≡ other
same_rows {X} {Y} name one other e =
    let pairs : ◌≡◌ {A = X × Y} (name, one) (name, other) = cc in
    ap (λ (p : X × Y). p.1) pairs

same_allowed : (words : List (List ℕ)) (one other : Options) → MeansCheck words one → MeansCheck words other → allowed_text one ≡ allowed_text other
same_allowed words one other m n =
    let same = same_rows (codes "check") m.rows n.rows (sym m.entered.matched ∙ n.entered.matched) in
    let values = subst (λ rows. HasOptions rows other) (sym same) n.values in
    m.values.allow ∙ sym values.allow

-- what a check that ends with status 0 wrote
pub all_good : (words : List (List ℕ)) (used o : Options) (left old new : Option (List ℕ)) (status : Status) → status ≡ AllYes → MeansCheck words used → MeansCheck words o
    → IfSome left (λ bytes. Reports Report used bytes status old new) → IfSome left (IsAllGood o)
all_good words used o None old new status ends means asked told = tt
all_good words used o (Some bytes) old new status ends means asked told =
    let report = subst (λ s. IsReport Report used bytes s told.text) ends told.right in
    same_policy used o bytes (same_allowed words used o means asked) (good_report Report used bytes told.text report)
