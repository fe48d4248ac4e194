-- What a yes of a block means where no occurrence is nested, and that the scans hold of it.
use Rattle.std.specs.Prelude.{◌++◌, List, [], ◌∷◌}
use Rattle.lk_tree.specs.Tree.{Level}
use Rattle.lk_rulebook.specs.Place.{Place, Block, BlockType, Ctor}
use Rattle.lk_rulebook.specs.Units.{Members}
pub use Rattle.lk_rulebook.specs.Units.{partial_types, partial_members}
use Rattle.lk_rulebook.specs.Rules.{HasSort}
use Rattle.lk_tree.specs.WellFormed.{IsStated}
use Rattle.lk_rulebook.specs.WellStated.{TypesStated, RulesStated}
use Rattle.lk_inductive.specs.Block.{Shape}
use Rattle.lk_inductive.specs.Relation.{IsBlock, CountsAgree}
use Rattle.lk_inductive.specs.Recursors.{BlockRecursor, recursors}
use Rattle.lk_inductive.specs.RecursorRelation.{AreRecs}

abbrev pub CtorsSorted : Place → List Ctor → Type 0
CtorsSorted w [] = Unit {0}
CtorsSorted w (c ∷ cs) = ((l : Level) × HasSort w c.type l) × CtorsSorted w cs

abbrev pub TypesSorted : Place → List BlockType → Type 0
TypesSorted w [] = Unit {0}
TypesSorted w (t ∷ ts) = ((l : Level) × HasSort w t.type l) × TypesSorted w ts

abbrev pub AllCtorsSorted : Place → List BlockType → Type 0
AllCtorsSorted w [] = Unit {0}
AllCtorsSorted w (t ∷ ts) = CtorsSorted w t.ctors × AllCtorsSorted w ts

-- the block is derived: places gives the place for what is partial
pub record BlockDerived (places : Members → Place) (b : Block) (stated : List BlockRecursor) (s : Shape) : Type 0 where
  pub counts : CountsAgree b
  pub types_sorted : TypesSorted (places []) b.types
  pub ctors_sorted : AllCtorsSorted (places (partial_types b)) b.types
  pub block : IsBlock (places []) (places (partial_types b)) b s
  pub recs : AreRecs (places (partial_types b ++ partial_members b stated)) (recursors s) stated

abbrev pub RecsStated : List BlockRecursor → Type 0
RecsStated [] = Unit {0}
RecsStated (r ∷ rs) = (IsStated r.type × RulesStated r.recursor.rules) × RecsStated rs

-- the scans hold
pub record BlockStated (b : Block) (stated : List BlockRecursor) : Type 0 where
  pub types : TypesStated b.types
  pub recs : RecsStated stated
