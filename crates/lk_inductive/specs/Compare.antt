-- The stated recursors against the recomputed ones.
use Rattle.std.specs.Prelude.{Bool, true, false, ◌&&◌, nat_eq, List, [], ◌∷◌, length, Option, Some, None}
use Rattle.lk_tree.specs.Tree.{Name}
use Rattle.lk_tree.specs.declared.rule.Rule.TheVariants.{RecursorDiffers}
use Rattle.lk_rulebook.specs.Place.{RecRule}
pub use Rattle.lk_rulebook.specs.Units.{rec_entries}
use Rattle.lk_tree.specs.Mentions.{same_name}
use Rattle.lk_questions.specs.Query.{infer, same}
use Rattle.lk_questions.specs.Program.{Program, done, refuse, asked, ◌>>=◌}
use Rattle.lk_questions.specs.Steps.{given, sort_of}
use Rattle.lk_questions.specs.Declarations.{Yes, checked}
use Rattle.lk_inductive.specs.Recursors.{BlockRecursor}
pub use Rattle.lk_inductive.specs.RecursorRelation.{renamed, AreRules, no_rule, a_rule, IsRec, IsOneOf, AreRecs}

abbrev pub same_rules : List RecRule → List RecRule → Bool
same_rules [] [] = true
same_rules (a ∷ as_) (b ∷ bs) = (same_name a.ctor b.ctor && nat_eq a.fields b.fields) && same_rules as_ bs
same_rules [] (b ∷ bs) = false
same_rules (a ∷ as_) [] = false

abbrev pub same_bool : Bool → Bool → Bool
same_bool true b = b
same_bool false true = false
same_bool false false = true

abbrev pub same_counts : BlockRecursor → BlockRecursor → Bool
same_counts a b =
    (nat_eq a.recursor.parameters b.recursor.parameters && nat_eq a.recursor.indices b.recursor.indices)
    && ((nat_eq a.recursor.motives b.recursor.motives && nat_eq a.recursor.minors b.recursor.minors)
    && ((same_bool a.recursor.k b.recursor.k && nat_eq (length a.levels) (length b.levels))
    && same_rules a.recursor.rules b.recursor.rules))

abbrev pub rules_steps : BlockRecursor → BlockRecursor → List RecRule → List RecRule → Program Yes
rules_steps stated r (a ∷ as_) (b ∷ bs) = do
  V ← asked (infer a.value)
  equal ← asked (same a.value (renamed stated r b.value))
  given equal RecursorDiffers (rules_steps stated r as_ bs)
rules_steps stated r [] bs = done checked
rules_steps stated r (a ∷ as_) [] = done checked

abbrev pub rec_steps : BlockRecursor → BlockRecursor → Program Yes
rec_steps stated r = given (same_counts stated r) RecursorDiffers (do
  l ← sort_of stated.type
  equal ← asked (same stated.type (renamed stated r r.type))
  given equal RecursorDiffers (rules_steps stated r stated.recursor.rules r.recursor.rules))

abbrev pub rec_named : List BlockRecursor → Name → Option BlockRecursor
rec_named [] c = None
rec_named (r ∷ rs) c = elim (same_name r.name c) [ true ↦ Some r | false ↦ rec_named rs c ]

abbrev pub compare_found : BlockRecursor → Option BlockRecursor → Program Yes
compare_found stated (Some r) = rec_steps stated r
compare_found stated None = refuse RecursorDiffers

abbrev pub compare_steps : List BlockRecursor → List BlockRecursor → Program Yes
compare_steps rs [] = done checked
compare_steps rs (s ∷ ss) = do
  y ← compare_found s (rec_named rs s.name)
  compare_steps rs ss
