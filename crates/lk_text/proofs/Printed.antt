-- Searching for the unit of a printed name.
use Rattle.std.proofs.Common.{arith, ◌≡◌, ℕ, zero, suc, ◌||◌, Bool, true, false, List, [], ◌∷◌, length, Some, None, ◌+◌, subst, ap, refl, sym, ◌∙◌, if◌then◌else◌, drop, map, ◌<◌, slice_index_or}
use Rattle.std.specs.Prelude.{slice_get}
use Rattle.std.specs.List.{list_any}
use Rattle.lk_rulebook.specs.Units.{LibraryUnit, Library}
use Rattle.lk_text.specs.Named.{has_printed, first_printed}

-- a name that is none of it is passed
pub any_behind : {A : Type 0} (p : A → Bool) (x : A) (xs : List A) → p x ≡ false → list_any p (x ∷ xs) ≡ list_any p xs
any_behind p x xs is = ap (λ b. b || list_any p xs) is

pub any_here : {A : Type 0} (p : A → Bool) (x : A) (xs : List A) → p x ≡ true → list_any p (x ∷ xs) ≡ true
any_here p x xs is = ap (λ b. b || list_any p xs) is

here : (text : List ℕ) (k : ℕ) (v u : LibraryUnit) (us : Library) → v ≡ u
    → first_printed k (v ∷ us) text ≡ (if has_printed text u then Some k else first_printed (suc k) us text)
here text k v u us is = ap (λ w. if has_printed text w then Some k else first_printed (suc k) us text) is

-- what the search comes to at a unit
pub at_unit : (text : List ℕ) (k n : ℕ) (us : Library) (u : LibraryUnit) → slice_get us n ≡ Some u
    → first_printed k (drop n us) text ≡ (if has_printed text u then Some k else first_printed (suc k) (drop (suc n) us) text)
at_unit text k n [] u stands = cc stands
at_unit text k zero (v ∷ us) u stands = here text k v u us (cc stands)
at_unit text k (suc n) (v ∷ us) u stands = at_unit text k n us u stands

-- behind the last unit nothing is found
pub at_end : (text : List ℕ) (k n : ℕ) (us : Library) → n ≡ length us → first_printed k (drop n us) text ≡ None
at_end text k zero [] end = refl
at_end text k (suc n) [] end = refl
at_end text k zero (v ∷ us) end = cc end
at_end text k (suc n) (v ∷ us) end = at_end text k n us (omega arith)

-- it ends at a unit that has the name, and goes on at another
pub ends_at : (text : List ℕ) (us : Library) (n : ℕ) (u : LibraryUnit) → slice_get us n ≡ Some u
    → first_printed n (drop n us) text ≡ first_printed 0 us text → has_printed text u ≡ true → Some n ≡ first_printed 0 us text
ends_at text us n u stands so_far is =
    sym (at_unit text n n us u stands ∙ ap (λ b. if b then Some n else first_printed (suc n) (drop (suc n) us) text) is) ∙ so_far

pub passes_at : (text : List ℕ) (us : Library) (n : ℕ) (u : LibraryUnit) → slice_get us n ≡ Some u
    → first_printed n (drop n us) text ≡ first_printed 0 us text → has_printed text u ≡ false → first_printed (n + 1) (drop (n + 1) us) text ≡ first_printed 0 us text
passes_at text us n u stands so_far is =
    let next : suc n ≡ n + 1 = omega arith in
    subst (λ m. first_printed m (drop m us) text ≡ first_printed 0 us text) next
    (sym (at_unit text n n us u stands ∙ ap (λ b. if b then Some n else first_printed (suc n) (drop (suc n) us) text) is) ∙ so_far)

no_below : (n : ℕ) → n < 0 → ⊥
no_below n below = omega arith

-- the unit of a number, as it stands in the library
pub unit_stands : {A : Type 0} (f : A → LibraryUnit) (us : List A) (n : ℕ) (d : A) → n < length us → slice_get (map f us) n ≡ Some (f (slice_index_or us n d))
unit_stands f [] n d below = absurd (no_below n below)
unit_stands f (u ∷ us) zero d below = refl
unit_stands f (u ∷ us) (suc n) d below = unit_stands f us n d (omega arith)

-- the same of units that are lent
pub unit_lent : {A : Type 0} (f : A → LibraryUnit) (us vs : List A) (n : ℕ) (u : A) → us ≡ vs → u ≡ slice_index_or us n u → n < length us → slice_get (map f vs) n ≡ Some (f u)
unit_lent f us vs n u same is below = ap (λ ws. slice_get (map f ws) n) (sym same) ∙ unit_stands f us n u below ∙ ap (λ v. Some (f v)) (sym is)
