-- Which axioms a run allows, and what becomes of verdicts under such a policy.
use Rattle.std.specs.Prelude.{ℕ, ◌≡◌, ◌+◌, ◌==◌, ◌≢◌, Bool, true, List, [], ◌∷◌, Option, Some, None}
use Rattle.std.specs.Prelude.{slice_get, if◌then◌else◌, All}
use Rattle.std.specs.List.{Contains, list_all, list_any, slice_split, join_with_byte}
use Rattle.std.specs.Str.{bytes_eq}
use Rattle.lk_tree.specs.declared.rule.Rule.TheVariants.{AxiomNotAllowed}
use Rattle.lk_rulebook.specs.Units.{LibraryUnit, Library}
use Rattle.lk_reach.specs.Computed.{axioms_of}
use Rattle.lk_verdict.specs.Told.{Verdict, accepted, rejected, out_of_steps, out_of_memory}
use Rattle.lk_text.specs.Text.{name_word}

-- every axiom, or those whose names print as one of these texts
pub data Policy : Type 0 where
  every_axiom : Policy
  listed : List (List ℕ) → Policy

-- the texts on a list: those between its commas; the empty list has none
abbrev pub texts_of : List ℕ → List (List ℕ)
texts_of [] = []
texts_of (b ∷ bytes) = slice_split (λ c. c == 44) (b ∷ bytes)

-- what the list of an option says: without one every axiom is allowed
abbrev pub policy_of : Option (List ℕ) → Policy
policy_of None = every_axiom
policy_of (Some bytes) = listed (texts_of bytes)

-- the list of these texts: they are joined by single commas
abbrev pub joined : List (List ℕ) → List ℕ
joined texts = join_with_byte 44 texts

-- the text has no comma
abbrev pub IsCommaFree : List ℕ → Type 0
IsCommaFree text = All (λ b. b ≢ 44) text

-- an axiom whose name prints so is allowed
abbrev pub allows_name : Policy → List ℕ → Bool
allows_name every_axiom name = true
allows_name (listed texts) name = list_any (bytes_eq name) texts

-- the axiom that stands there is allowed; where nothing stands, nothing is printed
abbrev pub allows_at : Policy → Option LibraryUnit → Bool
allows_at p None = true
allows_at p (Some u) = allows_name p (name_word u)

-- unit k, an axiom, is allowed
abbrev pub allows : Policy → Library → ℕ → Bool
allows p us k = allows_at p (slice_get us k)

abbrev pub allows_all : Policy → Library → List ℕ → Bool
allows_all p us ks = list_all (allows p us) ks

-- the verdict of unit n under the policy: a yes needs that all axioms of the unit are allowed
abbrev pub under : Policy → Library → ℕ → Verdict → Verdict
under p us n accepted =
    if allows_all p us (axioms_of us n) then accepted else rejected AxiomNotAllowed
under p us n (rejected r) = rejected r
under p us n out_of_steps = out_of_steps
under p us n out_of_memory = out_of_memory

-- the verdicts of the units from number n on
abbrev pub all_under : Policy → Library → ℕ → List Verdict → List Verdict
all_under p us n [] = []
all_under p us n (v ∷ vs) = under p us n v ∷ all_under p us (n + 1) vs

-- unit k, an axiom, prints as one of the texts
pub record IsOnList (texts : List (List ℕ)) (us : Library) (k : ℕ) : Type 0 where
  pub unit : LibraryUnit
  pub stands : slice_get us k ≡ Some unit
  pub is_one : Contains texts (name_word unit)
