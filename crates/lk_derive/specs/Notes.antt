-- What is written so far of a section, and what it states.
use Rattle.std.specs.Prelude.{◌≡◌, ℕ, ◌<◌, ◌^◌, List, [], ◌∷◌, ◌++◌, length, map, All}
use Rattle.std.specs.Prelude.{true, false, Option, Some, None, slice_get, if◌then◌else◌}
use Rattle.std.specs.HashMap as hash_map
use Rattle.lk_rulebook.specs.Place.{Place}
use Rattle.lk_rulebook.specs.Claims.{Claim as PlainClaim}
use Rattle.lk_written.specs.Section.{claims_by}
use Rattle.lk_written.specs.Written.{Keeps}
use Rattle.lk_store.specs.Contents.{Contents}
use Rattle.lk_trace.specs.declared.rules.Rule.{Rule}
use Rattle.lk_trace.specs.declared.rules.Rule.TheVariants.{Typing, Reduction, Conversion}
use Rattle.lk_trace.specs.declared.sections.Line.{Line}
use Rattle.lk_trace.specs.Meaning.{line_of, IsLineIn}
use Rattle.lk_premises.specs.declared.claims.Claim.{Claim}
use Rattle.lk_premises.specs.declared.claims.Relation.{Relation}
use Rattle.lk_premises.specs.declared.claims.Relation.TheVariants as relations
use Rattle.lk_premises.specs.Claims.{claims_at}
use Rattle.lk_step.specs.Steps.{is_of_one}
use Rattle.lk_step.specs.Rows.{IsThere}
use Rattle.lk_derive.specs.declared.key.ClaimKey.{ClaimKey}
use Rattle.lk_derive.specs.declared.notes.Notes.{Notes}
use Rattle.lk_derive.specs.Keys.{claim_key, same_key}

-- how lines of a rule relate their two trees
abbrev pub relation_of : Rule → Relation
relation_of (Typing r) = relations.Typing
relation_of (Reduction r) = relations.Reduction
relation_of (Conversion r) = relations.Equality

-- what a line of this rule states of two trees
abbrev pub claim_with : Rule → ℕ → ℕ → Claim
claim_with rule a b = record { relation = relation_of rule; left = a; right = b }

abbrev pub claim_of : Line → Claim
claim_of l = claim_with l.rule l.left l.right

-- what the lines state, one after another
abbrev pub claims_in : Notes → List Claim
claims_in n = map claim_of n.lines.items

-- the same, by what numbers stand for
abbrev pub stated_at : Contents → Notes → List PlainClaim
stated_at c n = claims_at c (claims_in n)

-- where the line stands that states it
abbrev pub place_in : Notes → Claim → Option ℕ
place_in n k = hash_map.get same_key n.stated (claim_key k)

-- the trees of lines are trees of the store, and each place is that of a line that states the claim
pub record IsIndexed (c : Contents) (n : Notes) : Type 0 where
  pub lines_in : All (IsLineIn c) n.lines.items
  pub few : length n.lines.items < 2 ^ 32
  pub placed : (k : Claim) (i : ℕ) → place_in n k ≡ Some i → slice_get (claims_in n) i ≡ Some k

-- and each line holds at w, on those before it
pub record IsNotes (w : Place) (c : Contents) (n : Notes) : Type 0 where
  pub indexed : IsIndexed c n
  pub holds : claims_by w [] (map (line_of c) n.lines.items) ≡ Some (stated_at c n)

-- a line more, whose claim has its place
pub record AddsLine (old new : Notes) (l : Line) : Type 0 where
  pub lines : new.lines.items ≡ old.lines.items ++ l ∷ []
  pub few : length new.lines.items < 2 ^ 32
  pub place : ℕ
  pub at : place ≡ length old.lines.items
  pub places : (q : ClaimKey) → hash_map.get same_key new.stated q
      ≡ (if same_key (claim_key (claim_of l)) q then Some place
      else hash_map.get same_key old.stated q)

-- the number of a line that states the claim; one of one tree has none
abbrev pub IsNumberOf : List PlainClaim → PlainClaim → Option ℕ → Type 0
IsNumberOf ps p None = is_of_one p ≡ true
IsNumberOf ps p (Some i) = (is_of_one p ≡ false) × (slice_get ps i ≡ Some p)

-- the notes go on holding, what was stated stays under its number, and the claim is there
pub record Writes (w : Place) (c : Contents) (old new : Notes) (p : PlainClaim) : Type 0 where
  pub notes : IsNotes w c new
  pub keeps : Keeps (stated_at c old) (stated_at c new)
  pub there : IsThere (stated_at c new) p
