-- Places with names partial: they are well stated, and give what was given before.
use Rattle.std.proofs.Common.{ℕ, ◌≡◌, inl, List, [], ◌∷◌, ◌++◌, take, Option, Some, None, refl, ap, ◌∙◌}
use Rattle.std.specs.Prelude.{option_and_then}
use Rattle.lk_tree.specs.Tree.{Name, name_discrete}
use Rattle.lk_rulebook.specs.Place.{Entry}
use Rattle.lk_rulebook.specs.Units.{Members, LibraryUnit, given_by, first_of_two, first_giving, flawless, place_of, at_partial}
use Rattle.lk_questions.specs.Sound.{WellStated, IsStated, KindStated}
use Rattle.lk_inductive.specs.Grows.{IsWithin}

abbrev pub MembersStated : Members → Type 0
MembersStated [] = Unit {0}
MembersStated (m ∷ ms) = (IsStated m.1.type × KindStated m.1.kind) × MembersStated ms

Some_is : {A : Type 0} {a b : A} → Some a ≡ Some b → a ≡ b
Some_is e = cc

pub given_stated : (h : Members) (c : Name) (e : Entry) → MembersStated h → given_by h c ≡ Some e → IsStated e.type × KindStated e.kind
given_stated [] c e s g = absurd cc
given_stated (m ∷ ms) c e s g = go (given_stated ms c e s.1) (name_discrete m.0 c) g
  where
    go : (given_by ms c ≡ Some e → IsStated e.type × KindStated e.kind) → (d : Dec (m.0 ≡ c)) → elim d as (λ y. Option Entry) [ yes x ↦ Some m.1 | no f ↦ given_by ms c ] ≡ Some e → IsStated e.type × KindStated e.kind
    go f (yes x) k = let i : m.1 ≡ e = Some_is k in rw (← i) s.0
    go f (no x) k = f k

pub well_stated_half : (us : List LibraryUnit) (n : ℕ) (h : Members) → WellStated (place_of us n []) → MembersStated h → WellStated (place_of us n h)
well_stated_half us n h ok s c e = go (given_by h c) refl
  where
    go : (g : Option Entry) → given_by h c ≡ g →
        option_and_then flawless (first_of_two (at_partial n g) (first_giving 0 (take n us) c)) ≡ Some e → IsStated e.type × KindStated e.kind
    go (Some x) i m = let k : x ≡ e = Some_is m in given_stated h c e s (i ∙ ap Some k)
    go None i m = ok c e m

pub stated_append : (xs ys : Members) → MembersStated xs → MembersStated ys → MembersStated (xs ++ ys)
stated_append [] ys s t = t
stated_append (x ∷ xs) ys s t = (s.0, stated_append xs ys s.1 t)

abbrev pub first_entry : Option Entry → Option Entry → Option Entry
first_entry (Some e) o = Some e
first_entry None o = o

-- the first member of the name
pub given_append : (xs ys : Members) (c : Name) → given_by (xs ++ ys) c ≡ first_entry (given_by xs c) (given_by ys c)
given_append [] ys c = refl
given_append (m ∷ xs) ys c = go (given_append xs ys c) (name_discrete m.0 c)
  where
    go : given_by (xs ++ ys) c ≡ first_entry (given_by xs c) (given_by ys c) → (d : Dec (m.0 ≡ c)) →
        elim d as (λ y. Option Entry) [ yes x ↦ Some m.1 | no f ↦ given_by (xs ++ ys) c ] ≡ first_entry (elim d as (λ y. Option Entry) [ yes x ↦ Some m.1 | no f ↦ given_by xs c ]) (given_by ys c)
    go f (yes x) = refl
    go f (no x) = f

-- what the name means, by what is partial
abbrev means_by : List LibraryUnit → ℕ → Name → Option Entry → Option Entry
means_by us n c g = option_and_then flawless (first_of_two (at_partial n g) (first_giving 0 (take n us) c))

-- more that is partial, of names that were not given, takes nothing away
pub half_within : (us : List LibraryUnit) (n : ℕ) (h ms : Members) →
    ((c : Name) (e : Entry) → (place_of us n h).means c ≡ Some e → given_by h c ≡ None → given_by ms c ≡ None) →
    IsWithin (place_of us n h) (place_of us n (h ++ ms))
half_within us n h ms fresh c e m = inl (ap (means_by us n c) (given_append h ms c) ∙ go (given_by h c) refl m)
  where
    go : (g : Option Entry) → given_by h c ≡ g → means_by us n c g ≡ Some e → means_by us n c (first_entry g (given_by ms c)) ≡ Some e
    go (Some x) i k = k
    go None i k = ap (means_by us n c) (fresh c e (ap (means_by us n c) i ∙ k) i) ∙ k
