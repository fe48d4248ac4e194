-- What was spelled so far.
use Rattle.std.specs.Prelude.{◌≡◌, ◌+◌, ◌≤◌, [], ◌∷◌, ◌++◌, count_by, if◌then◌else◌}
use Rattle.lk_store.specs.Contents.{Contents}
use Rattle.lk_spell.specs.declared.part.Part.{Part}
use Rattle.lk_spell.specs.declared.spelled.OwnNode.{OwnNode}
use Rattle.lk_spell.specs.declared.speller.Speller.{Speller}
use Rattle.lk_spell.specs.Numbers.{Translates, Adds}
use Rattle.lk_spell.specs.Parts.{number_of}
use Rattle.lk_spell.specs.Sizes.{AreSizes, next_part, next_sizes}
use Rattle.lk_spell.specs.Spelled.{grown_by, AreOwn, is_counted}

-- over the contents b of a library, parts of c are spelled
pub record IsSpeller (b c : Contents) (s : Speller) : Type 0 where
  pub own : AreOwn b s.own.items
  pub sizes : AreSizes (grown_by b s.own.items) s.sizes
  pub numbers : Translates c (grown_by b s.own.items) s.numbers
  pub counted : s.counted ≡ count_by is_counted s.own.items
  pub few : s.counted ≤ 4096

-- the part is spelled by the node
pub record Spells (old new : Speller) (p : Part) (node : OwnNode) : Type 0 where
  pub own : new.own.items ≡ old.own.items ++ node ∷ []
  pub sizes : new.sizes ≡ next_sizes old.sizes node
  pub numbers : Adds old.numbers new.numbers p (number_of (next_part old.sizes node))
  pub counted : new.counted ≡ old.counted + (if is_counted node then 1 else 0)
  pub few : new.counted ≤ 4096
