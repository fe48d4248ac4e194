-- The cases of two levels at places of an order.
use Rattle.std.specs.Prelude.{ℕ, Bool, List}
use Rattle.lk_store.specs.Contents.{Contents, level_at}
use Rattle.lk_level_order.specs.declared.cases.Question.{Question}
use Rattle.lk_level_order.specs.Values.{value_at, relation_test, IsTested, IsRefuted}

-- whether what is asked holds at these values
abbrev pub asked_where : Contents → Question → List ℕ → Bool
asked_where d q vs = relation_test q.relation (value_at d.names vs (level_at d q.places.left)) (value_at d.names vs (level_at d q.places.right))

abbrev pub IsTestedOf : Contents → Question → ℕ → List ℕ → Type 0
IsTestedOf d q k vs = IsTested q.relation k d.names (level_at d q.places.left) (level_at d q.places.right) vs

abbrev pub IsRefutedOf : Contents → Question → Type 0
IsRefutedOf d q = IsRefuted q.relation d.names (level_at d q.places.left) (level_at d q.places.right)
