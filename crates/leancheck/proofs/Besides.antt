-- Types given beside a block, each alone, are the bare entries of the definitions.
use Rattle.std.proofs.Common.{◌≡◌, List, [], ◌∷◌, refl, ap}
use Rattle.lk_rulebook.specs.Place.{BlockType, a_type}
use Rattle.lk_env.specs.Scopes.{alone_members}
use Rattle.lk_inductive.specs.Enlarged.{bare, bare_entries}

pub alone_are : (ts : List BlockType) → alone_members ts ≡ bare_entries ts
alone_are [] = refl
alone_are (t ∷ ts) = ap (λ ms. (t.name, record { levels = t.levels; type = t.type; kind = a_type (record { types = bare t ∷ [] }) (bare t) }) ∷ ms) (alone_are ts)
