-- An occurrence whose family becomes auxiliary.
use Rattle.std.specs.Prelude.{◌≡◌, ℕ, List, Option, Result}
use Rattle.lk_tree.specs.Tree.{Name, Level, Tree, const}
use Rattle.lk_tree.specs.Spine.{apply}
use Rattle.lk_rulebook.specs.Place.{Place, Block, BlockType}
use Rattle.lk_inductive.specs.Enlarged.{Aux, Setting}
use Rattle.lk_inductive.specs.Nested.{aux_at}
use Rattle.lk_ask.specs.declared.stop.Stop.{Stop}
use Rattle.lk_declaration.specs.Courses.{Settles}
use Rattle.lk_nested.specs.Occurrences.{occurs, test_at}
use Rattle.lk_auxiliary.specs.Made.{made_form}

-- of the type that its test tells
abbrev pub IsMadeFor : {X : Type 0} → Place → Setting → Tree → List Tree → List Aux → (X → Tree × List Aux) → Result X Stop → Type 0
IsMadeFor w s e xs as_ value r = (J : Name) (ls : List Level) (b : Block) (t : BlockType) → test_at w s.names e ≡ occurs J ls b t → Settles (made_form s as_ J ls xs b.types t) value r

-- its number among the auxiliary types
abbrev pub IsNumbered : Tree → List Aux → Option ℕ → Type 0
IsNumbered e as_ o = (J : Name) (ls : List Level) (bs : List Tree) → e ≡ apply (const J ls) bs → o ≡ aux_at 0 as_ J ls bs
