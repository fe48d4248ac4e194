-- The walk that replaces nested occurrences, by what it finds at a place, one occurrence after another.
use Rattle.std.specs.Prelude.{◌≡◌, true, List, ◌++◌, map, All}
use Rattle.lk_tree.specs.Tree.{Tree}
use Rattle.lk_tree.specs.Spine.{args}
use Rattle.lk_rulebook.specs.Place.{Place}
use Rattle.lk_inductive.specs.Enlarged.{Aux, Setting}
use Rattle.lk_inductive.specs.Nested.{replaced, nest}
use Rattle.lk_nested.specs.Findings.{Finding, found, refused, asking, finding}
use Rattle.lk_nested.specs.Occurrences.{Test, passes, occurs, fails, test_at, is_occurrence}

-- what takes the place of an occurrence, and the auxiliary types then
abbrev pub meets_by : Place → Setting → Test → List Tree → List Aux → Finding (Tree × List Aux)
meets_by w s passes xs as_ = asking
meets_by w s (occurs J ls b t) xs as_ = finding w (replaced s as_ J ls xs b t)
meets_by w s (fails r) xs as_ = refused r

abbrev pub meets : Place → Setting → Tree → List Aux → Finding (Tree × List Aux)
meets w s o as_ = meets_by w s (test_at w s.names o) (args o) as_

-- what is found of a tree
abbrev pub nests : Place → Setting → Tree → List Aux → Finding (Tree × List Aux)
nests w s e as_ = finding w (nest s e as_)

-- an occurrence that was met, and what takes its place, whatever auxiliary types are added
pub record IsMet (w : Place) (s : Setting) (as_ : List Aux) (p : Tree × Tree) : Type 0 where
  pub is : is_occurrence (test_at w s.names p.0) ≡ true
  pub again : (more : List Aux) → meets w s p.0 (as_ ++ more) ≡ found (p.1, as_ ++ more)

abbrev pub AreMet : Place → Setting → List Aux → List (Tree × Tree) → Type 0
AreMet w s as_ ps = All (IsMet w s as_) ps

abbrev pub occurrences : List (Tree × Tree) → List Tree
occurrences ps = map (λ p. p.0) ps
