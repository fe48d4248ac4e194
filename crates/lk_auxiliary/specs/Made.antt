-- A family that becomes auxiliary.
use Rattle.std.specs.Prelude.{List, All, ◌++◌, ◌<◌, length, nat_le, suc, ◌+◌}
use Rattle.lk_tree.specs.Tree.{Name, Level, Tree}
use Rattle.lk_tree.specs.declared.rule.Rule.TheVariants.{NestedForm}
use Rattle.lk_rulebook.specs.Place.{BlockType}
use Rattle.lk_questions.specs.Program.{Program, done, ◌>>=◌}
use Rattle.lk_questions.specs.Steps.{given}
use Rattle.lk_inductive.specs.Enlarged.{Aux, Setting}
use Rattle.lk_inductive.specs.Nested.{other_count, aux_applied}
use Rattle.lk_store.specs.Contents.{Contents}
use Rattle.lk_auxiliary.specs.declared.made.Occurrence.{Occurrence}
use Rattle.lk_auxiliary.specs.Parts.{family_form}

-- it is of the store
pub record IsOccurrenceIn (c : Contents) (o : Occurrence) : Type 0 where
  pub name_in : o.name < length c.names
  pub list_in : o.list < length c.lists
  pub arguments_in : All (λ x. x < length c.trees) o.arguments.now

-- J at ls and bs, where it is none of these
abbrev pub made_form : Setting → List Aux → Name → List Level → List Tree → List BlockType → BlockType
    → Program (Tree × List Aux)
made_form s as_ J ls bs ts t =
    given (nat_le (length as_ + suc (other_count J ts)) 1024) NestedForm
    (family_form (length s.params) ls bs J ts t >>= λ ms.
    done (aux_applied s (length as_), as_ ++ ms))
