-- What an entry stands for, by the unit that its number tells.
use Rattle.std.proofs.Common.{◌≡◌, List, Option, Some, None, ap, ◌∙◌}
use Rattle.std.specs.Prelude.{option_map, option_and_then, slice_get}
use Rattle.std.proofs.lemmas.Option.{slice_get-map}
use Rattle.lk_rulebook.specs.Place.{Entry as PlainEntry}
use Rattle.lk_store.specs.Contents.{Contents, tree_at}
use Rattle.lk_env.specs.declared.entry.Entry.{Entry}
use Rattle.lk_env.specs.declared.unit.Unit.{Unit as StoredUnit}
use Rattle.lk_env.specs.Units.{unit_at}
use Rattle.lk_env.specs.Entries.{entry_of, plain_entry}

module _ (c : Contents) (us : List StoredUnit) (e : Entry) where
  stands_by : (o : Option StoredUnit) → slice_get us e.unit ≡ o → plain_entry c us e ≡ option_and_then (λ u. entry_of c (unit_at c u) e.kind (tree_at c e.stated)) o
  stands_by None at = ap (option_and_then (λ v. entry_of c v e.kind (tree_at c e.stated))) (slice_get-map (unit_at c) us e.unit ∙ ap (option_map (unit_at c)) at)
  stands_by (Some u) at = ap (option_and_then (λ v. entry_of c v e.kind (tree_at c e.stated))) (slice_get-map (unit_at c) us e.unit ∙ ap (option_map (unit_at c)) at)

  pub entry_there : (u : StoredUnit) → slice_get us e.unit ≡ Some u → plain_entry c us e ≡ entry_of c (unit_at c u) e.kind (tree_at c e.stated)
  entry_there u at = stands_by (Some u) at

  pub not_there : (p : PlainEntry) → slice_get us e.unit ≡ None → plain_entry c us e ≡ Some p → ⊥
  not_there p at is = let none : plain_entry c us e ≡ None = stands_by None at in absurd cc
