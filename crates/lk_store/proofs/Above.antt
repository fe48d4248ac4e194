-- A row stands after its parts: a store that lacks a part of a key has no row with it.
use Rattle.std.proofs.Common.{◌≡◌, ℕ, ◌<◌, List, length, get_or, true, false, Bool, subst, arith}
use Rattle.lk_rows.specs.Rows.{NoRowHas}
use Rattle.lk_store.specs.Keys.{IsNameBelow, IsLevelBelow, IsListBelow, IsTreeBelow}
use Rattle.lk_store.specs.Store.{names_of, levels_of, parts_of, IsStore}
use Rattle.lk_store.specs.declared.key.NameKey.{NameKey}
use Rattle.lk_store.specs.declared.key.LevelKey.{LevelKey}
use Rattle.lk_store.specs.declared.key.ListKey.{ListKey}
use Rattle.lk_store.specs.declared.key.TreeKey.{TreeKey}
use Rattle.lk_store.specs.declared.key.LevelRow.{LevelRow}
use Rattle.lk_store.specs.declared.key.ListRow.{ListRow}
use Rattle.lk_store.specs.declared.key.TreeRow.{TreeRow}
use Rattle.lk_store.specs.declared.tables.Tables.{Tables}
use Rattle.lk_store.proofs.Keyed.{name_below-more, level_below-more, list_below-more, tree_below-more}
use Rattle.lk_store.proofs.Growing.{length-names_of, length-levels_of}

none_above : {R K : Type 0} (key : R → K) (IsKnown : K → Type 0) (rows : List R) (wanted : K) (test : Bool)
    → ((i : ℕ) (d : R) → i < length rows → IsKnown (key (get_or rows i d)))
    → (IsKnown wanted → test ≡ true) → test ≡ false → NoRowHas key rows wanted
none_above key IsKnown rows wanted test known told fails i d l has =
    let yes = told (subst IsKnown has (known i d l)) in
    absurd (cc)

module _ (b : Tables) (s : IsStore b) where
  pub name_above : (k : NameKey) (test : Bool) → (IsNameBelow (length b.texts) (length b.names) k → test ≡ true) → test ≡ false
      → NoRowHas (λ (n : NameKey). n) b.names k
  name_above k test = none_above (λ (n : NameKey). n) (λ n. IsNameBelow (length b.texts) (length b.names) n) b.names k test
      (λ i d l. name_below-more (length b.texts) (length b.texts) i (length b.names) (get_or b.names i d) (omega arith) (omega arith) (s.names.known i d l))

  pub level_above : (k : LevelKey) (test : Bool) → (IsLevelBelow (length b.names) (length b.levels) k → test ≡ true) → test ≡ false
      → NoRowHas (λ (row : LevelRow). row.key) b.levels k
  level_above k test = none_above (λ (row : LevelRow). row.key) (λ n. IsLevelBelow (length b.names) (length b.levels) n) b.levels k test
      (λ i d l. level_below-more (length (names_of b)) (length b.names) i (length b.levels) (get_or b.levels i d).key (rw (length-names_of b s) (omega arith)) (omega arith) (s.levels.known i d l))

  pub list_above : (k : ListKey) (test : Bool) → (IsListBelow (length b.levels) (length b.lists) k → test ≡ true) → test ≡ false
      → NoRowHas (λ (row : ListRow). row.key) b.lists k
  list_above k test = none_above (λ (row : ListRow). row.key) (λ n. IsListBelow (length b.levels) (length b.lists) n) b.lists k test
      (λ i d l. list_below-more (length (levels_of b)) (length b.levels) i (length b.lists) (get_or b.lists i d).key (rw (length-levels_of b s) (omega arith)) (omega arith) (s.lists.known i d l))

  pub tree_above : (k : TreeKey) (test : Bool) → (IsTreeBelow (parts_of b) (length b.trees) k → test ≡ true) → test ≡ false
      → NoRowHas (λ (row : TreeRow). row.key) b.trees k
  tree_above k test = none_above (λ (row : TreeRow). row.key) (λ n. IsTreeBelow (parts_of b) (length b.trees) n) b.trees k test
      (λ i d l. tree_below-more (parts_of b) i (length b.trees) (get_or b.trees i d).key (omega arith) (s.trees.known i d l))
