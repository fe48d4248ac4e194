-- What was read of a list, once more is read or the list grows.
use Rattle.std.proofs.Common.{◌≡◌, ℕ, zero, suc, min, ◌+◌, ◌^◌, ◌<◌, ◌≤◌, ◌⊎◌, inl, inr, All, List, [], ◌∷◌, ◌++◌, length, get_or, take, drop, map, refl, sym, ap, ◌∙◌, subst, arith, length-drop, length-append}
use Rattle.std.proofs.lemmas.List.{take-append-le, get_or-drop, get_or-map, length-map, drop-map}
use mathlib.Core.List.{IsPrefix}
use Rattle.lk_rulebook.specs.Units.{Library}
use Rattle.lk_env.specs.Units.{library_of}
use Rattle.lk_env.proofs.Members.{flat_map_more}
use Rattle.lk_session.specs.declared.list_reader.ListReader.{ListReader}
use Rattle.lk_session.specs.declared.view.Submission.{Submission}
use Rattle.lk_session.specs.declared.view.View.{View}
use Rattle.atomic_table.specs.Seated.{TableId}
use Rattle.lk_session.specs.declared.mark.Mark.{Mark}
use Rattle.lk_session.specs.Seats.{Token, IsBook}
use Rattle.lk_session.specs.Texts.{Says, SharedText, bytes_of, texts_of, units_in, units_of, IsFaultless, AreFaultless}
use Rattle.lk_session.specs.Reading.{HasRead, AreBehind}

-- what was read of a list was read of a longer one
pub read_of_longer : {stated : Says} (xs ys : List Submission) (r : ListReader) → IsPrefix xs ys → HasRead stated xs r → HasRead stated ys r
read_of_longer {stated} xs ys r p h =
    let same : take r.count ys ≡ take r.count xs = subst (λ (l : List Submission). take r.count l ≡ take r.count xs) p.1 (take-append-le r.count xs p.0 h.within) in
    let more : length ys ≡ length xs + length p.0 = subst (λ (l : List Submission). length l ≡ length xs + length p.0) p.1 (length-append xs p.0) in
    let w = h.within in
    record { within = omega arith; units = h.units ∙ sym (ap (units_of stated) same); budgets = h.budgets }

-- what was read of one of two lists that begin a longer one was read of that
pub read_of_either : (stated : Says) (xs ys zs : List Submission) (r s t : ListReader) → IsPrefix xs zs → IsPrefix ys zs → HasRead stated xs r → HasRead stated ys s → (t ≡ r) ⊎ (t ≡ s) → HasRead stated zs t
read_of_either stated xs ys zs r s t p q h i (inl e) = subst (HasRead stated zs) (sym e) (read_of_longer xs zs r p h)
read_of_either stated xs ys zs r s t p q h i (inr e) = subst (HasRead stated zs) (sym e) (read_of_longer ys zs s q i)

-- the texts behind are as many as the submissions behind
pub behind_length : (texts : List SharedText) (list : List Submission) (c : ℕ) → c ≤ length list → map bytes_of texts ≡ drop c (texts_of list) → c + length texts ≡ length list
behind_length texts list c le e =
    let n : length texts ≡ length (drop c (texts_of list)) = sym (length-map texts bytes_of) ∙ ap length e in
    let m = length-drop c (texts_of list) in
    let k : length (texts_of list) ≡ length list = length-map list (λ (x : Submission). x.text) in
    omega arith

-- a text behind is that of its submission
text_at : (texts : List SharedText) (list : List Submission) (c k : ℕ) (t : SharedText) (d : Submission) → c + k < length list → k < length texts → map bytes_of texts ≡ drop c (texts_of list) → t ≡ get_or texts k t
    → bytes_of t ≡ (get_or list (c + k) d).text
text_at texts list c k t d in_list in_texts e at =
    ap bytes_of at ∙ (sym (get_or-map bytes_of texts k t (bytes_of t) in_texts) ∙ (ap (λ (l : List (List ℕ)). get_or l k (bytes_of t)) e
    ∙ (get_or-drop c (texts_of list) k (bytes_of t) ∙ get_or-map (λ (x : Submission). x.text) list (c + k) d (bytes_of t) in_list)))

-- one text more is read
pub read_one : (stated : Says) (texts : List SharedText) (list : List Submission) (c k : ℕ) (t : SharedText) (before after : ListReader)
    → c ≤ length list → map bytes_of texts ≡ drop c (texts_of list) → k < length texts → t ≡ get_or texts k t
    → before.count ≡ c + k → after.count ≡ before.count + 1 → library_of after.library ≡ library_of before.library ++ units_in stated (bytes_of t)
    → after.library.budgets ≡ [] → HasRead stated list before → HasRead stated list after
read_one stated texts list c k t before after le e lt at is_k one units none h =
    let d : Submission = record { tag = 0; text = [] } in
    let n = behind_length texts list c le e in
    let in_list : c + k < length list = omega arith in
    let text = text_at texts list c k t d in_list lt e at in
    let next : after.count ≡ c + k + 1 = omega arith in
    let more = flat_map_more (λ (x : Submission). units_in stated x.text) list (c + k) d in_list in
    record {
      within = omega arith;
      units = units ∙ ((λ i. (h.units ∙ ap (λ (j : ℕ). units_of stated (take j list)) is_k) i ++ units_in stated (text i)) ∙ (sym more ∙ sym (ap (λ (j : ℕ). units_of stated (take j list)) next)));
      budgets = none;
    }

-- before the first text
pub read_none : (stated : Says) (list : List Submission) (r : ListReader) → r.count ≡ 0 → library_of r.library ≡ [] → r.library.budgets ≡ [] → HasRead stated list r
read_none stated list r none units budgets = record {
  within = omega arith;
  units = units ∙ sym (ap (λ (j : ℕ). units_of stated (take j list)) none);
  budgets = budgets;
}

take_whole : {A : Type 0} (l : List A) → take (length l) l ≡ l
take_whole [] = refl
take_whole {A} (x ∷ l) = ap (λ (m : List A). x ∷ m) (take_whole l)

-- where all was read the library has all units
pub read_whole : (stated : Says) (us : Library) (read : ℕ) (known before : View) → us ≡ units_of stated (take read known.seen) → known ≡ before → read ≡ length before.seen → us ≡ units_of stated before.seen
read_whole stated us read known before is same all =
    is ∙ ap (units_of stated) (ap (λ (v : View). take read v.seen) same ∙ (ap (λ (j : ℕ). take j before.seen) all ∙ take_whole before.seen))

-- a text behind has no fault
pub text_faultless : (stated : Says) (texts : List SharedText) (k : ℕ) (t : SharedText) → AreFaultless stated (map bytes_of texts) → k < length texts → t ≡ get_or texts k t → IsFaultless stated (bytes_of t)
text_faultless stated texts k t all lt at =
    let n : k < length (map bytes_of texts) = omega (arith, length-map texts bytes_of) in
    let b : get_or (map bytes_of texts) k (bytes_of t) ≡ bytes_of t = get_or-map bytes_of texts k t (bytes_of t) lt ∙ sym (ap bytes_of at) in
    subst (λ (x : List ℕ). IsFaultless stated x) b (all k (bytes_of t) n)

all_behind : {A : Type 0} (P : A → Type 0) (n : ℕ) (xs : List A) → All P xs → All P (drop n xs)
all_behind P n xs all k d lt = subst P (sym (get_or-drop n xs k d)) (all (n + k) d (let l = length-drop n xs in omega arith))

-- where more are dropped than there are, none is left
pub drop_min : {A : Type 0} (n : ℕ) (xs : List A) → drop (min n (length xs)) xs ≡ drop n xs
drop_min zero xs = let e : min 0 (length xs) ≡ 0 = omega arith in ap (λ (k : ℕ). drop k xs) e
drop_min {A} (suc n) [] = let e : min (suc n) 0 ≡ 0 = omega arith in ap (λ (k : ℕ). drop {A = A} k []) e
drop_min (suc n) (x ∷ xs) = let e : min (suc n) (suc (length xs)) ≡ suc (min n (length xs)) = omega arith in ap (λ (k : ℕ). drop k (x ∷ xs)) e ∙ drop_min n xs

-- the texts behind, of what lies under the lock
pub behind_of : (table : TableId) (stated : Says) (t : Token) (texts : List SharedText) (marks : List Mark) (units read : ℕ) (behind ts : List SharedText) → IsBook table stated t texts marks units → length texts < 2 ^ 64
    → behind ≡ drop read texts → map bytes_of ts ≡ map bytes_of behind → AreBehind stated read t.me.0.seen ts
behind_of table stated t texts marks units read behind ts b few is same =
    let seen = t.me.0.seen in
    let e : map bytes_of ts ≡ drop read (texts_of seen) = same ∙ (ap (map bytes_of) is ∙ (sym (drop-map bytes_of read texts) ∙ ap (drop read) b.texts_are)) in
    let n : length texts ≡ length seen = sym (length-map texts bytes_of) ∙ (ap length b.texts_are ∙ length-map seen (λ (x : Submission). x.text)) in
    record {
      texts_are = e;
      faultless = subst (λ (l : List (List ℕ)). AreFaultless stated l) (sym e) (all_behind (λ (x : List ℕ). IsFaultless stated x) read (texts_of seen) b.faultless);
      short = omega arith;
    }
