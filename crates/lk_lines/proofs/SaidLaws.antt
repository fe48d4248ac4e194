-- A line of bytes: it spells what is read, or has the fault that is told.
use Rattle.std.proofs.Common.{◌≡◌, ℕ, zero, suc, Bool, true, false, List, [], ◌∷◌, ◌++◌, Ok, Err, refl, sym, ◌∙◌, subst, arith, inl, inr, ◌≢◌}
use Rattle.std.specs.Prelude.{◌⊎◌}
use Rattle.std.specs.Str.Parse.{IsNumeral}
use Rattle.lk_token.specs.Fields.{fields_of, text_behind}
use Rattle.lk_lines.specs.declared.tags.Dialect.{Dialect}
use Rattle.lk_lines.specs.declared.words.Word.{Word}
use Rattle.lk_lines.specs.declared.words.Word.TheVariants.{BadNumber, BadVersion}
use Rattle.lk_lines.specs.Reading.{number_at}
use Rattle.lk_lines.specs.Items.{Item, item_at, numbered_at, is_tag, ItemFault}
use Rattle.lk_lines.specs.Says.{Says, Blank, Version, OfItem, IsVersion, said_at, said_below, SpellsFields, FieldsFault, SpellsSaid, SaidFault}
use Rattle.lk_lines.proofs.Numerals.{number_of-bad}
use Rattle.lk_lines.proofs.ItemCases.{item_outcome}
use Rattle.lk_lines.proofs.ItemAgain.{item_again, item_stop, numeral_begins}
use Rattle.lk_lines.proofs.VersionLaws.{version_forward, version_cases, version_no_numeral, is_two-other}

two_cases : (n : ℕ) → (n ≡ 2) ⊎ (n ≢ 2)
two_cases zero = inr (λ e. absurd (omega arith))
two_cases (suc zero) = inr (λ e. absurd (omega arith))
two_cases (suc (suc zero)) = inl refl
two_cases (suc (suc (suc n))) = inr (λ e. absurd (omega arith))

abbrev Outcome : ℕ → Dialect → Bool → List ℕ → List (List ℕ) → Type 0
Outcome limit d first text fields = ((says : Says) × (said_at limit d first text fields ≡ Ok says) × SpellsFields limit d first text fields says)
    ⊎ ((w : Word) × (said_at limit d first text fields ≡ Err w) × FieldsFault limit d first text fields w)

outcome : (limit : ℕ) (d : Dialect) (first : Bool) (text : List ℕ) (fields : List (List ℕ)) → Outcome limit d first text fields
unfolding said_at
outcome limit d first text [] = inl (Blank, refl, refl)
outcome limit d false text (field ∷ fields) = elim (item_outcome limit d text field fields) [
  | inl (item, e, s) ↦ inl (OfItem item, rw e refl, s)
  | inr (w, e, h) ↦ inr (w, rw e refl, inr (λ no. absurd cc, h))
]
outcome limit d true text (field ∷ fields) = elim (version_cases (field ∷ fields)) [
  | inl (major, v, e) ↦ elim (two_cases major) [
    | inl two ↦ inl (Version, rw (e, two) refl, (refl, subst (λ m. IsVersion (field ∷ fields) m) two v))
    | inr other ↦ inr (BadVersion, rw (e, is_two-other major other) refl, inl (refl, refl, major, v, other))
  ]
  | inr (e, none) ↦ elim (item_outcome limit d text field fields) [
    | inl (item, is, s) ↦ inl (OfItem item, rw (e, is) refl, s)
    | inr (w, is, h) ↦ inr (w, rw (e, is) refl, inr (λ first. none, h))
  ]
]

front_lem : (a more : List ℕ) → IsNumeral 10 a → is_tag (a ++ more) ≡ is_tag a
front_lem [] more h = absurd (let lt = h.0 in omega arith)
front_lem (c ∷ a) more h = refl

-- a version is no item, since its field is neither a tag nor a number
dotted_no_item : (limit : ℕ) (d : Dialect) (text field : List ℕ) → is_tag field ≡ false → (IsNumeral 10 field → ⊥) → item_at limit d text (field ∷ []) ≡ Err BadNumber
unfolding item_at numbered_at number_at
dotted_no_item limit d text field tagged isnt = rw (tagged, number_of-bad limit field isnt) refl

version_no_item : (limit : ℕ) (d : Dialect) (text : List ℕ) (fields : List (List ℕ)) (major : ℕ) → IsVersion fields major → item_at limit d text fields ≡ Err BadNumber
version_no_item limit d text fields major (a, b, c, q, p, r, s, is) =
    let tagged : is_tag (a ++ 46 ∷ (b ++ 46 ∷ c)) ≡ false = front_lem a (46 ∷ (b ++ 46 ∷ c)) p ∙ numeral_begins a p in
    let P : List (List ℕ) → Type 0 = λ fs. item_at limit d text fs ≡ Err BadNumber in
    subst P (sym q) (dotted_no_item limit d text (a ++ 46 ∷ (b ++ 46 ∷ c)) tagged (version_no_numeral a (b ++ 46 ∷ c)))

item_only : (limit : ℕ) (d : Dialect) (first : Bool) (text : List ℕ) (fields : List (List ℕ)) (item : Item) → item_at limit d text fields ≡ Ok item → said_at limit d first text fields ≡ Ok (OfItem item)
unfolding said_at item_at
item_only limit d first text [] item e = absurd cc
item_only limit d false text (field ∷ fields) item e = rw e refl
item_only limit d true text (field ∷ fields) item e = elim (version_cases (field ∷ fields)) [
  | inl (major, v, is) ↦ absurd (let no = version_no_item limit d text (field ∷ fields) major v in let both = e in cc)
  | inr (is, none) ↦ rw (is, e) refl
]

version_only : (limit : ℕ) (d : Dialect) (text : List ℕ) (fields : List (List ℕ)) → IsVersion fields 2 → said_at limit d true text fields ≡ Ok Version
unfolding said_at
version_only limit d text [] (a, b, c, q, p, r, s, is) = absurd cc
version_only limit d text (field ∷ fields) v = rw (version_forward (field ∷ fields) 2 v) refl

only : (limit : ℕ) (d : Dialect) (first : Bool) (text : List ℕ) (fields : List (List ℕ)) (says : Says) → SpellsFields limit d first text fields says → said_at limit d first text fields ≡ Ok says
unfolding said_at
only limit d first text fields Blank s = rw s refl
only limit d first text fields Version s = rw s.0 (version_only limit d text fields s.1)
only limit d first text fields (OfItem item) s = item_only limit d first text fields item (item_again limit d item text fields s)

version_fault : (limit : ℕ) (d : Dialect) (text : List ℕ) (fields : List (List ℕ)) (major : ℕ) → IsVersion fields major → major ≢ 2 → said_at limit d true text fields ≡ Err BadVersion
unfolding said_at
version_fault limit d text [] major (a, b, c, q, p, r, s, is) other = absurd cc
version_fault limit d text (field ∷ fields) major v other = rw (version_forward (field ∷ fields) major v, is_two-other major other) refl

item_fault : (limit : ℕ) (d : Dialect) (first : Bool) (text : List ℕ) (fields : List (List ℕ)) (w : Word) → (first ≡ true → (major : ℕ) → ¬ (IsVersion fields major)) → ItemFault limit d text fields w → said_at limit d first text fields ≡ Err w
unfolding said_at
item_fault limit d first text [] w none h = absurd h
item_fault limit d false text (field ∷ fields) w none h = rw (item_stop limit d text (field ∷ fields) w h) refl
item_fault limit d true text (field ∷ fields) w none h = elim (version_cases (field ∷ fields)) [
  | inl (major, v, is) ↦ absurd (none refl major v)
  | inr (is, isnt) ↦ rw (is, item_stop limit d text (field ∷ fields) w h) refl
]

fault : (limit : ℕ) (d : Dialect) (first : Bool) (text : List ℕ) (fields : List (List ℕ)) (w : Word) → FieldsFault limit d first text fields w → said_at limit d first text fields ≡ Err w
fault limit d first text fields w (inl (is, one, major, v, other)) = rw (is, one) (version_fault limit d text fields major v other)
fault limit d first text fields w (inr (none, h)) = item_fault limit d first text fields w none h

pub said_outcome : (limit : ℕ) (d : Dialect) (first : Bool) (bytes : List ℕ) → ((says : Says) × (said_below limit d first bytes ≡ Ok says) × SpellsSaid limit d first bytes says) ⊎ ((w : Word) × (said_below limit d first bytes ≡ Err w) × SaidFault limit d first bytes w)
unfolding said_below
said_outcome limit d first bytes = outcome limit d first (text_behind bytes) (fields_of bytes)

pub said_again : (limit : ℕ) (d : Dialect) (first : Bool) (bytes : List ℕ) (says : Says) → SpellsSaid limit d first bytes says → said_below limit d first bytes ≡ Ok says
unfolding said_below
said_again limit d first bytes says s = only limit d first (text_behind bytes) (fields_of bytes) says s

pub said_fault : (limit : ℕ) (d : Dialect) (first : Bool) (bytes : List ℕ) (w : Word) → SaidFault limit d first bytes w → said_below limit d first bytes ≡ Err w
unfolding said_below
said_fault limit d first bytes w h = fault limit d first (text_behind bytes) (fields_of bytes) w h
