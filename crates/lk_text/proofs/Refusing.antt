-- Verdicts under a policy.
use Rattle.std.proofs.Common.{◌≡◌, ℕ, zero, suc, ◌+◌, Bool, true, false, cond, List, [], ◌∷◌, length, Option, Some, None, refl, ap, sym, ◌∙◌, add-zero, zero-add, arith}
use Rattle.std.specs.Prelude.{slice_get, option_map}
use Rattle.std.specs.List.{Contains, list_all}
use Rattle.std.proofs.lemmas.Bool.{and_from}
use Rattle.std.proofs.lemmas.List.Elements.{All-contains}
use Rattle.std.proofs.lemmas.List.Sums.{AllPass-from_list_all}
use Rattle.std.proofs.lemmas.Map.Made.{is_member-Decides}
use Rattle.std.proofs.lemmas.Slice.Eq.{bytes_eq-Decides}
use Rattle.lk_tree.specs.declared.rule.Rule.TheVariants.{AxiomNotAllowed}
use Rattle.lk_rulebook.specs.Units.{LibraryUnit, Library}
use Rattle.lk_reach.specs.Computed.{axioms_of}
use Rattle.lk_reach.proofs.Computed.{axioms_listed}
use Rattle.lk_verdict.specs.Told.{Verdict, accepted, rejected, out_of_steps, out_of_memory}
use Rattle.lk_text.specs.Text.{name_word}
use Rattle.lk_text.specs.Policy.{Policy, every_axiom, listed, IsOnList, allows, allows_at, allows_all, under, all_under}

pub as_many : (p : Policy) (us : Library) (n : ℕ) (vs : List Verdict) → length (all_under p us n vs) ≡ length vs
as_many p us n [] = refl
as_many p us n (v ∷ vs) = ap (λ k. suc k) (as_many p us (n + 1) vs)

pub each : (p : Policy) (us : Library) (n m : ℕ) (vs : List Verdict) → slice_get (all_under p us n vs) m ≡ option_map (under p us (n + m)) (slice_get vs m)
each p us n m [] = refl
each p us n zero (v ∷ vs) = ap (λ k. Some (under p us k v)) (sym (add-zero n))
each p us n (suc m) (v ∷ vs) =
    let e : n + 1 + m ≡ n + suc m = omega arith in
    each p us (n + 1) m vs ∙ ap (λ k. option_map (under p us k) (slice_get vs m)) e

-- a yes under a policy
abbrev IsYes : Policy → Library → ℕ → Verdict → Type 0
IsYes p us n v = (v ≡ accepted) × (allows_all p us (axioms_of us n) ≡ true)

were_allowed : (b : Bool) → cond b accepted (rejected AxiomNotAllowed) ≡ accepted → b ≡ true
were_allowed true e = refl
were_allowed false e = absurd (cc)

yes_under : (p : Policy) (us : Library) (n : ℕ) (v : Verdict) → under p us n v ≡ accepted → IsYes p us n v
yes_under p us n accepted e = (refl, were_allowed (allows_all p us (axioms_of us n)) e)
yes_under p us n (rejected r) e = absurd (cc)
yes_under p us n out_of_steps e = absurd (cc)
yes_under p us n out_of_memory e = absurd (cc)

yes_at : (p : Policy) (us : Library) (n : ℕ) (o : Option Verdict) → option_map (under p us n) o ≡ Some accepted → (o ≡ Some accepted) × (allows_all p us (axioms_of us n) ≡ true)
yes_at p us n None e = absurd (cc)
yes_at p us n (Some v) e =
    let is : under p us n v ≡ accepted = cc in
    let y = yes_under p us n v is in
    (ap (λ w. Some w) y.0, y.1)

accepted_at : (p : Policy) (us : Library) (vs : List Verdict) (n : ℕ) → slice_get (all_under p us 0 vs) n ≡ Some accepted → (slice_get vs n ≡ Some accepted) × (allows_all p us (axioms_of us n) ≡ true)
accepted_at p us vs n h =
    yes_at p us n (slice_get vs n) (ap (λ k. option_map (under p us k) (slice_get vs n)) (sym (zero-add n)) ∙ sym (each p us 0 n vs) ∙ h)

pub accepted_before : (p : Policy) (us : Library) (vs : List Verdict) (n : ℕ) → slice_get (all_under p us 0 vs) n ≡ Some accepted → slice_get vs n ≡ Some accepted
accepted_before p us vs n h = (accepted_at p us vs n h).0

passes : (f : ℕ → Bool) (ks : List ℕ) (k : ℕ) → list_all f ks ≡ true → Contains ks k → f k ≡ true
passes f ks k all c = All-contains (λ x. f x ≡ true) ks k (AllPass-from_list_all f ks all) c

pub allowed_each : (p : Policy) (us : Library) (vs : List Verdict) (n k : ℕ) → slice_get (all_under p us 0 vs) n ≡ Some accepted → Contains (axioms_of us n) k → allows p us k ≡ true
allowed_each p us vs n k h c = passes (allows p us) (axioms_of us n) k (accepted_at p us vs n h).1 c

every_at : (o : Option LibraryUnit) → allows_at every_axiom o ≡ true
every_at None = refl
every_at (Some u) = refl

every_all : (us : Library) (ks : List ℕ) → allows_all every_axiom us ks ≡ true
every_all us [] = refl
every_all us (k ∷ ks) = and_from (allows every_axiom us k) (allows_all every_axiom us ks) (every_at (slice_get us k)) (every_all us ks)

every_under : (us : Library) (n : ℕ) (v : Verdict) → under every_axiom us n v ≡ v
every_under us n accepted = ap (λ b. cond b accepted (rejected AxiomNotAllowed)) (every_all us (axioms_of us n))
every_under us n (rejected r) = refl
every_under us n out_of_steps = refl
every_under us n out_of_memory = refl

pub every_stays : (us : Library) (n : ℕ) (vs : List Verdict) → all_under every_axiom us n vs ≡ vs
every_stays us n [] = refl
every_stays us n (v ∷ vs) = ap (λ w. w ∷ all_under every_axiom us (n + 1) vs) (every_under us n v) ∙ ap (λ ws. v ∷ ws) (every_stays us (n + 1) vs)

pub is_listed : (texts : List (List ℕ)) (us : Library) (k : ℕ) (u : LibraryUnit) → allows (listed texts) us k ≡ true → slice_get us k ≡ Some u → Contains texts (name_word u)
is_listed texts us k u h stands =
    (is_member-Decides bytes_eq-Decides texts (name_word u)).0 (ap (allows_at (listed texts)) (sym stands) ∙ h)

pub all_listed : (texts : List (List ℕ)) (us : Library) (vs : List Verdict) (n k : ℕ) → slice_get (all_under (listed texts) us 0 vs) n ≡ Some accepted → Contains (axioms_of us n) k → IsOnList texts us k
all_listed texts us vs n k h c =
    let a = ((axioms_listed us n).each k c).axiom_unit in
    record { unit = a.unit; stands = a.stands; is_one = is_listed texts us k a.unit (allowed_each (listed texts) us vs n k h c) a.stands }
