-- What was made at levels stays so in more contents, and one more row may stand beside it.
use Rattle.std.proofs.Common.{◌≡◌, ℕ, ◌<◌, List, [], ◌∷◌, ◌++◌, length, map, ap, sym, subst, ◌∙◌, arith}
use Rattle.std.specs.Prelude.{All, Result, Ok, Err, OnOk, OnErr, Option, Some, IfOk}
use Rattle.std.proofs.lemmas.Bool.Decides.{nat_tests}
use Rattle.std.proofs.lemmas.List.{length-map}
use Rattle.std.proofs.lemmas.List.Elements.{All-push, All-weaker}
use Rattle.lk_tree.specs.Tree.{Level, Tree}
use Rattle.lk_rulebook.specs.Place.{Entry as PlainEntry}
use Rattle.lk_store.specs.Contents.{Contents, name_at, list_at, tree_at, Extends}
use Rattle.lk_store.specs.declared.tables.Tables.{Tables}
use Rattle.lk_store.specs.declared.memory.NoMemory.{NoMemory}
use Rattle.lk_store.proofs.Extending.{Extends-trans}
use Rattle.lk_subst.specs.Numbers.{values-steady, values-known}
use Rattle.lk_ask.specs.declared.instances.TreeAt.{TreeAt}
use Rattle.lk_ask.specs.declared.instances.Instance.{Instance}
use Rattle.lk_ask.specs.declared.instances.Instances.{Instances}
use Rattle.lk_ask.specs.Constants.{IsAtLevels}
use Rattle.lk_ask.specs.Instances.{IsInstance, AreInstances, IsLookout}

module _ {c d : Contents} (x : Extends c d) where
  stays : (params : List ℕ) (tree : TreeAt) (made : ℕ) → IsInstance c params tree made
      → IsInstance d params tree made
  stays params tree made i =
      let names = values-steady [] c.names d.names params x.names i.params_in in
      let list = x.lists.same tree.levels i.levels_in in
      let e = x.trees.same tree.e i.e_in in
      let result = x.trees.same made i.is.known in
      let more_lists = x.lists.longer in
      let more_trees = x.trees.longer in
      let known = i.is.known in
      let levels_in = i.levels_in in
      let e_in = i.e_in in
      record {
        params_in = values-known [] c.names d.names params x.names i.params_in;
        levels_in = omega arith;
        e_in = omega arith;
        as_many = ap length list ∙ i.as_many;
        is = record { known = omega arith; is = rw (names, list, e) (result ∙ i.is.is) };
      }

  -- what was made stays so
  pub instances_stay : (rows : List Instance) → AreInstances c rows → AreInstances d rows
  instances_stay rows h =
      All-weaker (λ (i : Instance). IsInstance c i.params.items i.tree i.made)
      (λ (i : Instance). IsInstance d i.params.items i.tree i.made)
      (λ i. stays i.params.items i.tree i.made) rows h

  -- a lookout over more contents is one
  pub lookout_stays : {library : Tables} {instances : Instances} → IsLookout library c instances
      → IsLookout library d instances
  lookout_stays {library} {instances} h = record {
    over = Extends-trans _ _ _ h.over x;
    made = instances_stay instances.table h.made;
  }

-- a row is added where there is memory
pub added : {E : Type 0} (P : Instance → Type 0) (old new : List Instance) (row : Instance)
    (r : Result (Unit {0}) E) → OnOk r (new ≡ old ++ row ∷ []) → OnErr r (new ≡ old) → P row → All P old
    → All P new
added P old new row (Ok u) ok err one all = rw ok (All-push P old row all one)
added P old new row (Err e) ok err one all = rw err all

-- what was put is what a row says
pub row_is : (c d : Contents) (params : List ℕ) (tree : TreeAt) (made : ℕ) → Extends c d
    → All (λ p. p < length c.names) params → tree.levels < length c.lists
    → tree.e < length c.trees
    → IsAtLevels d (map (name_at c) params) (list_at c tree.levels) (tree_at c tree.e) (Some made)
    → IsInstance d params tree made
row_is c d params tree made x params_in levels_in e_in is =
    let names = values-steady [] c.names d.names params x.names params_in in
    let list = x.lists.same tree.levels levels_in in
    let e = x.trees.same tree.e e_in in
    let more_lists = x.lists.longer in
    let more_trees = x.trees.longer in
    let count : length (list_at c tree.levels) ≡ length (map (name_at c) params) =
    grind (arith, nat_tests, is.0) in
    record {
      params_in = values-known [] c.names d.names params x.names params_in;
      levels_in = omega arith;
      e_in = omega arith;
      as_many = ap length list ∙ count ∙ length-map params (name_at c);
      is = rw (names, list, e) is.1;
    }

-- what is so of a result is so of what it has
pub what_is_put : {E : Type 0} (P : Option ℕ → Type 0) (r : Result (Option ℕ) E) (o : Option ℕ)
    (made : ℕ) → r ≡ Ok o → o ≡ Some made → IfOk r P → P (Some made)
what_is_put P r o made is some h = rw (is, some) at h

-- parameters are those that the unit has
pub of_unit : (c d f : Contents) (o : Option PlainEntry) (params : List ℕ) (ls : List Level)
    (t : Tree) (r : Result (Option ℕ) NoMemory) → Extends c d
    → All (λ n. n < length c.names) params
    → ((y : PlainEntry) → o ≡ Some y → y.levels ≡ map (name_at c) params)
    → IfOk r (IsAtLevels f (map (name_at d) params) ls t)
    → IfOk r (λ r. (g : PlainEntry) → o ≡ Some g → IsAtLevels f g.levels ls t r)
of_unit c d f o params ls t (Err e) x known declared h = tt
of_unit c d f o params ls t (Ok r) x known declared h = λ g e.
    let same : map (name_at d) params ≡ g.levels =
    values-steady [] c.names d.names params x.names known ∙ sym (declared g e) in
    subst (λ ps. IsAtLevels f ps ls t r) same h
