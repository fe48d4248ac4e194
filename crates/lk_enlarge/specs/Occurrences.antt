-- The nested occurrences that were met, by the numbers of a store.
use Rattle.std.specs.Prelude.{map, All}
use Rattle.lk_rulebook.specs.Place.{Place}
use Rattle.lk_inductive.specs.Enlarged.{Setting as PlainSetting}
use Rattle.lk_store.specs.Contents.{Contents, tree_at}
use Rattle.lk_mentions.specs.Names.{names_at}
use Rattle.lk_nested.specs.Foreign.{AreOwn}
use Rattle.lk_nested.specs.Joined.{AreMet}
use Rattle.lk_nested.specs.Marks.{AreMarked}
use Rattle.lk_nested.specs.Pairs.{pairs_at, ArePairsIn}
use Rattle.lk_auxiliary.specs.declared.setting.Setting.{Setting}
use Rattle.lk_auxiliary.specs.Auxiliaries.{auxs_at, IsAuxiliaryIn}
use Rattle.lk_enlarge.specs.declared.visited.Visited.{Visited}
use Rattle.lk_enlarge.specs.declared.occurrences.Occurrences.{Occurrences}

-- what was found of the trees that were visited
pub record IsVisited (c : Contents) (s : Setting) (v : Visited) : Type 0 where
  pub marks : AreMarked c (names_at c s.names.now) v.marks
  pub own : AreOwn (map (tree_at c) s.parameters.now) c v.own

-- they are met at the place, in the block of the plain setting
pub record AreOccurrences (w : Place) (plain : PlainSetting) (c : Contents) (s : Setting)
    (m : Occurrences) : Type 0 where
  pub auxs_in : All (IsAuxiliaryIn c) m.auxs.items
  pub pairs_in : ArePairsIn c m.pairs.items
  pub visited_in : IsVisited c s m.visited
  pub met : AreMet w plain (auxs_at c m.auxs.items) (pairs_at c m.pairs.items)
