-- The marks of the axioms of a unit, and verdicts that are put under a policy one after another.
use Rattle.std.proofs.Common.{◌≡◌, ℕ, ◌+◌, ◌<◌, ◌≤◌, Bool, true, cond, ◌&&◌, ◌⊎◌, inl, inr, List, [], ◌∷◌, ◌++◌, map, length, get_or, refl, ap, sym, ◌∙◌, arith, append_assoc}
use Rattle.std.specs.Prelude.{option_map, unwrap_or}
use Rattle.std.specs.List.{Contains, list_all}
use Rattle.std.proofs.lemmas.List.{length-append, length_push, set_at, get_or_at, map-append}
use Rattle.std.proofs.lemmas.List.Elements.{Contains-get_or}
use Rattle.std.proofs.lemmas.Option.{slice_get-map, slice_get_within, unwrap_or-slice_get}
use Rattle.std.proofs.Math.ListN.{set}
use Rattle.lk_rulebook.specs.Units.{Library}
use Rattle.lk_reach.specs.Axioms.{IsAxiomUnit, IsAxiomOf}
use Rattle.lk_reach.specs.Computed.{axioms_of}
use Rattle.lk_reach.specs.Reach.{Mentions}
use Rattle.lk_reach.proofs.Computed.{axioms_listed}
use Rattle.lk_reach.proofs.Lists.{contains_later}
use Rattle.lk_reach.proofs.Reached.{only_axioms}
use Rattle.lk_tree.specs.declared.rule.Rule.TheVariants.{AxiomNotAllowed}
use Rattle.lk_verdict.specs.Told.{accepted, rejected}
use Rattle.lk_store.specs.Contents.{Contents}
use Rattle.lk_env.specs.declared.unit.Unit.{Unit as StoredUnit}
use Rattle.lk_env.specs.Units.{unit_at, library_at}
use Rattle.lk_verdict.specs.declared.verdict.Verdict.TheVariants.{Yes}
use Rattle.lk_verdict.specs.declared.verdict.Verdict.{Verdict as HeldVerdict}
use Rattle.lk_verdict.specs.Held.{verdict}
use Rattle.lk_text.specs.Marks.{mark_of, marks_of}
use Rattle.lk_text.specs.Policy.{Policy, allows, allows_at, allows_name, allows_all, under, all_under}
use Rattle.lk_text.specs.Text.{name_word}

-- the mark of an axiom says whether it is allowed
mark_at : (p : Policy) (us : Library) (n k : ℕ) → Contains (axioms_of us n) k → get_or (marks_of p us) k true ≡ allows p us k
mark_at p us n k c =
    let a = ((axioms_listed us n).each k c).axiom_unit in
    sym (unwrap_or-slice_get (marks_of p us) k true) ∙ ap (λ o. unwrap_or o true) (slice_get-map (mark_of p) us k ∙ ap (option_map (mark_of p)) a.stands)
    ∙ ap (λ b. cond b (allows_name p (name_word a.unit)) true) a.is_one ∙ ap (allows_at p) (sym a.stands)

agree : (f g : ℕ → Bool) (ks : List ℕ) → ((k : ℕ) → Contains ks k → f k ≡ g k) → list_all f ks ≡ list_all g ks
agree f g [] h = refl
agree f g (k ∷ ks) h =
    ap (λ b. b && list_all f ks) (h k (Contains-get_or (k ∷ ks) 0 k (omega arith))) ∙ ap (λ b. g k && b) (agree f g ks (λ j c. h j (contains_later k ks j c)))

pub in_marks : (p : Policy) (us : Library) (n : ℕ) → list_all (λ k. get_or (marks_of p us) k true) (axioms_of us n) ≡ allows_all p us (axioms_of us n)
in_marks p us n = agree (λ k. get_or (marks_of p us) k true) (allows p us) (axioms_of us n) (λ k c. mark_at p us n k c)

-- a number that no unit has has no axioms
none_past : (us : Library) (n k : ℕ) → length us ≤ n → ((n ≡ k) × IsAxiomUnit us n) ⊎ ((m : ℕ) × Mentions us n m × IsAxiomOf us m k) → ⊥
none_past us n k l (inl (e, a)) = omega (arith, slice_get_within us n a.unit a.stands)
none_past us n k l (inr (m, s, a)) = omega (arith, slice_get_within us n s.unit s.stands)

all_true : (ks : List ℕ) → list_all (λ k. true) ks ≡ true
all_true [] = refl
all_true (k ∷ ks) = all_true ks

pub allowed_past : (p : Policy) (us : Library) (n : ℕ) → length us ≤ n → true ≡ allows_all p us (axioms_of us n)
allowed_past p us n l =
    sym (all_true (axioms_of us n)) ∙ agree (λ k. true) (allows p us) (axioms_of us n) (λ k c. absurd (none_past us n k l (only_axioms us n k ((axioms_listed us n).each k c))))

-- so many verdicts at the front are put under the policy, and the rest is as it was
pub record IsPutUnder (p : Policy) (us : Library) (old now : List HeldVerdict) (n : ℕ) : Type 0 where
  pub front : List HeldVerdict
  pub rest : List HeldVerdict
  pub cut : now ≡ front ++ rest
  pub so_many : length front ≡ n
  pub text : map verdict front ++ all_under p us n (map verdict rest) ≡ all_under p us 0 (map verdict old)

more_cut : (p : Policy) (us : Library) (old now : List HeldVerdict) (n : ℕ) (d w : HeldVerdict) (front rest : List HeldVerdict) → now ≡ front ++ rest → length front ≡ n → n < length now → verdict w ≡ under p us n (verdict (get_or now n d))
    → map verdict front ++ all_under p us n (map verdict rest) ≡ all_under p us 0 (map verdict old) → IsPutUnder p us old (set now n w) (n + 1)
more_cut p us old now n d w front [] cut so_many few said text = absurd (omega (arith, ap length cut, length-append front [], so_many))
more_cut p us old now n d w front (v ∷ rest) cut so_many few said text =
    let read : get_or now n d ≡ v = ap (λ vs. get_or vs n d) cut ∙ get_or_at front v rest d n so_many in
    let is : verdict w ≡ under p us n (verdict v) = said ∙ ap (λ x. under p us n (verdict x)) read in
    let later = all_under p us (n + 1) (map verdict rest) in
    record {
      front = front ++ w ∷ [];
      rest = rest;
      cut = ap (λ vs. set vs n w) cut ∙ set_at front v rest w n so_many ∙ sym (append_assoc front (w ∷ []) rest);
      so_many = length_push front w ∙ ap (λ k. k + 1) so_many;
      text = ap (λ vs. vs ++ later) (map-append verdict front (w ∷ [])) ∙ append_assoc (map verdict front) (verdict w ∷ []) later ∙ ap (λ x. map verdict front ++ x ∷ later) is ∙ text;
    }

-- one more is put under it
pub one_more : (p : Policy) (us : Library) (old now : List HeldVerdict) (n : ℕ) (d w : HeldVerdict) → n < length now → verdict w ≡ under p us n (verdict (get_or now n d)) → IsPutUnder p us old now n → IsPutUnder p us old (set now n w) (n + 1)
one_more p us old now n d w few said h = more_cut p us old now n d w h.front h.rest h.cut h.so_many few said h.text

-- the mark of one more unit
pub marks_more : (p : Policy) (c : Contents) (whole marks new : List Bool) (left more : List StoredUnit) (u : StoredUnit) (b : Bool) → left ≡ u ∷ more → new ≡ marks ++ b ∷ [] → b ≡ mark_of p (unit_at c u) → marks ++ map (mark_of p) (library_at c left) ≡ whole
    → new ++ map (mark_of p) (library_at c more) ≡ whole
marks_more p c whole marks new left more u b cut pushed is h =
    let rest = map (mark_of p) (library_at c more) in
    ap (λ x. x ++ rest) pushed ∙ append_assoc marks (b ∷ []) rest ∙ ap (λ x. marks ++ x ∷ rest) is ∙ ap (λ l. marks ++ map (mark_of p) (library_at c l)) (sym cut) ∙ h

-- the verdict of a unit to which yes is said
pub yes_under : (p : Policy) (us : Library) (n : ℕ) (v : HeldVerdict) (b : Bool) → v ≡ Yes → b ≡ allows_all p us (axioms_of us n) → cond b accepted (rejected AxiomNotAllowed) ≡ under p us n (verdict v)
yes_under p us n v b said is = ap (λ x. cond x accepted (rejected AxiomNotAllowed)) is ∙ ap (λ w. under p us n (verdict w)) (sym said)
