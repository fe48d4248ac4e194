-- Replies in a list that grows.
use Rattle.std.proofs.Common.{◌≡◌, ℕ, zero, suc, ◌+◌, ◌<◌, ◌≤◌, inl, inr, List, [], ◌∷◌, ◌++◌, length, map, take, slice_get, Some, refl, sym, ap, ◌∙◌, subst, arith, length-append}
use Rattle.std.proofs.lemmas.Grind.{flat_map-append}
use mathlib.Core.List.{IsPrefix}
use Rattle.std.proofs.lemmas.List.{length-map}
use Rattle.std.specs.Prelude.{slice_index_or}
use Rattle.lk_rulebook.specs.Units.{Library}
use Rattle.lk_questions.specs.Table.{steps}
use Rattle.lk_verdict.specs.Held.{verdict}
use Rattle.lk_verdict.specs.Told.{Verdict, IsPlainVerdict, told}
use Rattle.lk_verdict.proofs.Earlier.{same_verdict}
use Rattle.lk_session.specs.declared.reply.Reply.{Reply}
use Rattle.lk_session.specs.Answers.{IsReply}
use Rattle.lk_session.proofs.Adding.{length_more}
use Rattle.lk_callers.specs.Answered.{IsRight, AreRight, AreWithin}
use Rattle.lk_session.specs.declared.view.Submission.{Submission}
use Rattle.lk_session.specs.Texts.{Says, units_in, units_of}

pub get_within : {A : Type 0} (xs : List A) (i : ℕ) (x : A) → slice_get xs i ≡ Some x → i < length xs
get_within [] i x e = absurd cc
get_within (y ∷ xs) zero x e = omega arith
get_within (y ∷ xs) (suc i) x e = let l = get_within xs i x e in omega arith

-- the units of a list that begins a longer one begin that one's units
pub units_begin : (stated : Says) (xs ys : List Submission) → IsPrefix xs ys → IsPrefix (units_of stated xs) (units_of stated ys)
units_begin stated xs ys p = (units_of stated p.0, sym (flat_map-append (λ (x : Submission). units_in stated x.text) xs p.0) ∙ ap (units_of stated) p.1)

pub units_grow : (stated : Says) (xs ys : List Submission) → IsPrefix xs ys → length (units_of stated xs) ≤ length (units_of stated ys)
units_grow stated xs ys p = let b = units_begin stated xs ys p in let l : length (units_of stated ys) ≡ length (units_of stated xs) + length b.0 = ap length (sym b.1) ∙ length-append (units_of stated xs) b.0 in omega arith

-- units of a list stand in a longer one at the same places, behind the same units
take_begin : {A : Type 0} (us vs : List A) (n : ℕ) → IsPrefix us vs → n ≤ length us → take n us ≡ take n vs
take_begin us vs zero p le = refl
take_begin [] vs (suc n) p le = absurd (omega arith)
take_begin (u ∷ us) [] (suc n) p le = absurd (cc (p.1))
take_begin (u ∷ us) (v ∷ vs) (suc n) p le = let rest = take_begin us vs n (p.0, cc (p.1)) (omega arith) in let same : u ≡ v = cc (p.1) in cc (same, rest)

get_begin : {A : Type 0} (us vs : List A) (n : ℕ) → IsPrefix us vs → n < length us → slice_get us n ≡ slice_get vs n
get_begin [] vs n p lt = absurd (omega arith)
get_begin (u ∷ us) [] n p lt = absurd (cc (p.1))
get_begin (u ∷ us) (v ∷ vs) zero p lt = cc (p.1)
get_begin (u ∷ us) (v ∷ vs) (suc n) p lt = get_begin us vs n (p.0, cc (p.1)) (omega arith)

-- so the plain verdict of such a unit is the same
plain_begin : (us vs : Library) (budget n : ℕ) (v : Verdict) → IsPrefix us vs → n < length us → IsPlainVerdict us budget n v → IsPlainVerdict vs budget n v
plain_begin us vs budget n v p lt (inl e) = inl (e ∙ ap told (same_verdict steps us vs n budget (take_begin us vs n p (omega arith)) (get_begin us vs n p lt)))
plain_begin us vs budget n v p lt (inr e) = inr e

pub right_grows : (stated : Says) (budget : ℕ) (xs ys : List Submission) (r : Reply) → IsPrefix xs ys → IsRight stated budget xs r → IsRight stated budget ys r
right_grows stated budget xs ys r p i =
    let us = units_begin stated xs ys p in
    record {
      within = (let w = i.within in let g = units_grow stated xs ys p in omega arith);
      each = λ k v at. plain_begin (units_of stated xs) (units_of stated ys) budget (r.first + k) v us
          (let w = i.within in let l = get_within (map verdict r.verdicts.items) k v at in let m = length-map r.verdicts.items verdict in omega arith) (i.each k v at);
    }

pub rights_grow : (stated : Says) (budget : ℕ) (xs ys : List Submission) (rs : List Reply) → IsPrefix xs ys → AreRight stated budget xs rs → AreRight stated budget ys rs
rights_grow stated budget xs ys rs p all k d lt = right_grows stated budget xs ys (slice_index_or rs k d) p (all k d lt)

-- a call's own reply
pub reply_right : (stated : Says) (budget : ℕ) (earlier list : List Submission) (call : Submission) (r : Reply) → list ≡ earlier ++ call ∷ [] → IsReply stated budget earlier call r → IsRight stated budget list r
reply_right stated budget earlier list call r last i = subst (λ (l : List Submission). IsRight stated budget l r) (sym last) (record {
  within = (let f = i.first_is in let n = i.as_many in let m = length_more stated earlier call in omega arith);
  each = i.each;
})

pub rights_within : (stated : Says) (budget : ℕ) (list : List Submission) (rs : List Reply) → AreRight stated budget list rs → AreWithin (length (units_of stated list)) rs
rights_within stated budget list rs all k d lt = (all k d lt).within

-- replies to a pass that added nothing, one that is put behind others, and others behind them
pub no_replies : (stated : Says) (budget : ℕ) (list : List Submission) (rs : List Reply) → rs ≡ [] → AreRight stated budget list rs
no_replies stated budget list rs none = subst (λ (l : List Reply). AreRight stated budget list l) (sym none) (λ k d lt. absurd (omega arith))
