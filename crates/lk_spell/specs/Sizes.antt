-- How much there is of each kind.
use Rattle.std.specs.Prelude.{◌≡◌, ◌+◌, Bool, nat_lt, length}
use Rattle.lk_store.specs.Contents.{Contents}
use Rattle.lk_store.specs.declared.sizes.Sizes.{Sizes}
use Rattle.lk_spell.specs.declared.part.Part.{Part}
use Rattle.lk_spell.specs.declared.part.Part.TheVariants as part
use Rattle.lk_spell.specs.declared.spelled.OwnNode.{OwnNode}
use Rattle.lk_spell.specs.declared.spelled.OwnNode.TheVariants.{Name, Text, Level, List as Levels, Term}

-- the sizes of these contents
pub record AreSizes (c : Contents) (s : Sizes) : Type 0 where
  pub names : s.names ≡ length c.names
  pub texts : s.texts ≡ length c.texts
  pub levels : s.levels ≡ length c.levels
  pub lists : s.lists ≡ length c.lists
  pub terms : s.terms ≡ length c.trees

-- a part's number is below the size of its kind
abbrev pub is_within : Sizes → Part → Bool
is_within s (part.Name n) = nat_lt n s.names
is_within s (part.Text t) = nat_lt t s.texts
is_within s (part.Level l) = nat_lt l s.levels
is_within s (part.List ls) = nat_lt ls s.lists
is_within s (part.Term e) = nat_lt e s.terms

-- the number that an own node gets, and the sizes with it
abbrev pub next_part : Sizes → OwnNode → Part
next_part s (Name n) = part.Name s.names
next_part s (Text t) = part.Text s.texts
next_part s (Level l) = part.Level s.levels
next_part s (Levels ls) = part.List s.lists
next_part s (Term e) = part.Term s.terms

abbrev pub next_sizes : Sizes → OwnNode → Sizes
next_sizes s (Name n) = record s { names = s.names + 1 }
next_sizes s (Text t) = record s { texts = s.texts + 1 }
next_sizes s (Level l) = record s { levels = s.levels + 1 }
next_sizes s (Levels ls) = record s { lists = s.lists + 1 }
next_sizes s (Term e) = record s { terms = s.terms + 1 }

pub record Numbered (old new : Sizes) (node : OwnNode) (p : Part) : Type 0 where
  pub part : p ≡ next_part old node
  pub sizes : new ≡ next_sizes old node
