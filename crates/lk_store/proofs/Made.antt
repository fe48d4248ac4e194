-- What is added to a store.
use Rattle.std.proofs.Common.{true, ◌≡◌, ◌≢◌, ℕ, ◌+◌, ◌<◌, ◌≤◌, ◌^◌, List, [], ◌∷◌, ◌++◌, length, get_or, refl, ap, sym, ◌∙◌, subst, arith, append_assoc, false}
use Rattle.std.specs.Prelude.{IfNone, IfSome, Some, None}
use Rattle.std.specs.declared.option.Option.{Option}
use Rattle.std.proofs.lemmas.Grind.{common_steps}
use Rattle.lk_tree.specs.Tree.{zero_level, Tree, wide}
use Rattle.lk_store.specs.Measures.{list_has_params}
use Rattle.lk_store.specs.Contents.{Contents, Extends, name_at, name_of, level_of, list_of, tree_of, IsNameIn, IsLevelIn, IsListIn, IsIn, IsName, IsText, IsLevel, IsList, IsTree}
use Rattle.lk_store.specs.Keys.{IsCodeOf, IsMarkedLevel}
use Rattle.lk_store.specs.Nodes.{name_node, level_node, list_node, IsKeyOf}
use Rattle.lk_store.specs.Store.{over, names_of, contents_of, IsStore, Recoded, Grown}
use Rattle.lk_store.specs.RowFor.{IsRowFor}
use Rattle.lk_store.specs.declared.key.Number.{Number}
use Rattle.lk_store.specs.declared.key.NameKey.{NameKey}
use Rattle.lk_store.specs.declared.key.LevelKey.{LevelKey}
use Rattle.lk_store.specs.declared.key.ListKey.{ListKey}
use Rattle.lk_store.specs.declared.key.TreeKey.{TreeKey}
use Rattle.lk_store.specs.declared.key.LevelRow.{LevelRow}
use Rattle.lk_store.specs.declared.key.ListRow.{ListRow}
use Rattle.lk_store.specs.declared.key.TreeRow.{TreeRow}
use Rattle.lk_store.specs.declared.node.NameNode.{NameNode}
use Rattle.lk_store.specs.declared.node.LevelNode.{LevelNode}
use Rattle.lk_store.specs.declared.node.ListNode.{ListNode}
use Rattle.lk_store.specs.declared.node.Node.{Node}
use Rattle.lk_store.specs.declared.tables.Tables.{Tables}
use Rattle.lk_store.proofs.Columns.{Keeps-self, Keeps-push}
use Rattle.lk_store.proofs.Keyed.{no_number, decoded-small, decoded-large}
use Rattle.lk_store.proofs.Growing.{name_fresh, push_number, push_name, push_text, push_level, push_list, push_tree, length-names_of, length-levels_of, length-lists_of, length-trees_of, name_is, level_is, list_is, tree_is}
use Rattle.lk_store.proofs.Read.{name_of_key, level_of_key, list_of_key, tree_of_key, name_below_of, level_below_of, list_below_of, below_of}

pub Extends-self : (c : Contents) → Extends c c
Extends-self c = record { names = Keeps-self [] c.names; texts = Keeps-self [] c.texts; levels = Keeps-self zero_level c.levels; lists = Keeps-self [] c.lists; trees = Keeps-self wide c.trees }

pub Grown-self : (r : Tables) → IsStore r → Grown r r
Grown-self r s = record { store = s; keeps = Extends-self (contents_of r) }

pub Recoded-self : (r : Tables) → IsStore r → Recoded r r
Recoded-self r s = record { store = s; same = refl; numbers = Keeps-self no_number r.numbers }

pub Recoded-trans : (r s t : Tables) → Recoded r s → Recoded s t → Recoded r t
Recoded-trans r s t x y = record {
  store = y.store;
  same = y.same ∙ x.same;
  numbers = record { longer = let a = x.numbers.longer in let b = y.numbers.longer in omega arith; same = λ i h. y.numbers.same i (let a = x.numbers.longer in omega arith) ∙ x.numbers.same i h };
}

-- Where the row is there.
module _ (r : Tables) (s : IsStore r) where
  pub found_level : (i : ℕ) (k : LevelKey) (node : LevelNode) → i < length r.levels → ((d : LevelRow) → (get_or r.levels i d).key ≡ k) → level_node k ≡ node → IsLevel (contents_of r) i (level_of (contents_of r) node)
  found_level i k node l there is =
      let d : LevelRow = record { key = k; params = false; zero = false } in
      rw (← is, level_of_key r k) (record { known = rw (length-levels_of r s) l; is = rw (← there d) (level_is r s i d l) })

  pub found_list : (i : ℕ) (k : ListKey) (node : ListNode) → i < length r.lists → ((d : ListRow) → (get_or r.lists i d).key ≡ k) → list_node k ≡ node → IsList (contents_of r) i (list_of (contents_of r) node)
  found_list i k node l there is =
      let d : ListRow = record { key = k; params = false } in
      rw (← is, list_of_key r k) (record { known = rw (length-lists_of r s) l; is = rw (← there d) (list_is r s i d l) })

  pub found_tree : (i : ℕ) (k : TreeKey) (node : Node) → i < length r.trees → ((d : TreeRow) → (get_or r.trees i d).key ≡ k) → IsKeyOf r.numbers k node → IsTree (contents_of r) i (tree_of (contents_of r) node)
  found_tree i k node l there is =
      let d : TreeRow = record { key = k; loose = 0; local = 0; params = false; narrow = true } in
      rw (← is.is, tree_of_key r k) (record { known = rw (length-trees_of r s) l; is = rw (← there d) (tree_is r s i d l) })

  pub found_name : (i : ℕ) (k : NameKey) (node : NameNode) → i < length r.names → ((d : NameKey) → get_or r.names i d ≡ k) → name_node k ≡ node → IsName (contents_of r) i (name_of (contents_of r) node)
  found_name i k node l there is =
      rw (← is, name_of_key r k) (record { known = rw (length-names_of r s) l; is = rw (← there k) (name_is r s i k l) })

  -- a name whose key no row has
  pub absent_name : (k : NameKey) (node : NameNode) → name_node k ≡ node → IsNameIn (contents_of r) node → ((i : ℕ) (d : NameKey) → i < length r.names → get_or r.names i d ≢ k)
      → (i : ℕ) → i < length (names_of r) → name_at (contents_of r) i ≢ name_of (contents_of r) node
  absent_name k node is known new i l e =
      name_fresh r s k (name_below_of r k (rw (← is) at known)) new i (rw (length-names_of r s) at l) (e ∙ ap (name_of (contents_of r)) (sym is) ∙ name_of_key r k)

  pub found_text : (i : ℕ) (x : List ℕ) → i < length r.texts → ((d : List ℕ) → get_or r.texts i d ≡ x) → IsText (contents_of r) i x
  found_text i x l there = record { known = l; is = there [] }

-- What a search among the rows gives.
pub name_absent : (r : Tables) (s : IsStore r) (k : NameKey) (node : NameNode) → name_node k ≡ node → IsNameIn (contents_of r) node → (o : Option ℕ)
    → IfNone o ((i : ℕ) (d : NameKey) → i < length r.names → get_or r.names i d ≢ k) → IfNone o ((i : ℕ) → i < length (contents_of r).names → name_at (contents_of r) i ≢ name_of (contents_of r) node)
name_absent r s k node is known None h = absent_name r s k node is known h
name_absent r s k node is known (Some i) h = tt

pub name_present : (r : Tables) (s : IsStore r) (k : NameKey) (node : NameNode) → name_node k ≡ node → (o : Option ℕ)
    → IfSome o (λ i. i < length r.names) → IfSome o (λ i. (d : NameKey) → get_or r.names i d ≡ k) → IfSome o (λ n. IsName (contents_of r) n (name_of (contents_of r) node))
name_present r s k node is None h there = tt
name_present r s k node is (Some i) h there = found_name r s i k node h there is

-- Where it is added.
module _ (b o : Tables) (s : IsStore (over b o)) where
  pub add_level : (row : LevelRow) (rows : List LevelRow) (l : ℕ) (node : LevelNode) → rows ≡ o.levels ++ row ∷ [] → l ≡ length (b.levels ++ o.levels) → l + 1 < 2 ^ 32
      → level_node row.key ≡ node → IsLevelIn (contents_of (over b o)) node → IsMarkedLevel (level_of (contents_of (over b o)) node) row
      → ((i : ℕ) (d : LevelRow) → i < length (b.levels ++ o.levels) → (get_or (b.levels ++ o.levels) i d).key ≢ row.key)
      → let t : Tables = record o { levels = rows } in Grown (over b o) (over b t) × IsLevel (contents_of (over b t)) l (level_of (contents_of (over b o)) node)
  add_level row rows l node pushed is_l few is known marked new =
      let r = over b o in
      let below = level_below_of r row.key (rw (← is) at known) in
      let mark = rw (← is, level_of_key r row.key) at marked in
      let small : length r.levels + 1 < 2 ^ 32 = rw is_l at few in
      let step = push_level r s row small below mark new in
      let longer : length (r.levels ++ row ∷ []) ≡ length r.levels + 1 = grind (arith, common_steps) in
      let t : Tables = record r { levels = r.levels ++ row ∷ [] } in
      let stands : IsLevel (contents_of t) (length r.levels) (level_of (contents_of r) node) =
      record { known = rw (length-levels_of t step.0, longer) (omega arith); is = step.2 ∙ sym (level_of_key r row.key) ∙ ap (level_of (contents_of r)) is } in
      rw (pushed, is_l, ← append_assoc) ((record { store = step.0; keeps = step.1 }), stands)

  pub add_list : (row : ListRow) (rows : List ListRow) (l : ℕ) (node : ListNode) → rows ≡ o.lists ++ row ∷ [] → l ≡ length (b.lists ++ o.lists) → l + 1 < 2 ^ 32
      → list_node row.key ≡ node → IsListIn (contents_of (over b o)) node → row.params ≡ list_has_params (list_of (contents_of (over b o)) node)
      → ((i : ℕ) (d : ListRow) → i < length (b.lists ++ o.lists) → (get_or (b.lists ++ o.lists) i d).key ≢ row.key)
      → let t : Tables = record o { lists = rows } in Grown (over b o) (over b t) × IsList (contents_of (over b t)) l (list_of (contents_of (over b o)) node)
  add_list row rows l node pushed is_l few is known marked new =
      let r = over b o in
      let below = list_below_of r row.key (rw (← is) at known) in
      let mark = rw (← is, list_of_key r row.key) at marked in
      let small : length r.lists + 1 < 2 ^ 32 = rw is_l at few in
      let step = push_list r s row small below mark new in
      let longer : length (r.lists ++ row ∷ []) ≡ length r.lists + 1 = grind (arith, common_steps) in
      let t : Tables = record r { lists = r.lists ++ row ∷ [] } in
      let stands : IsList (contents_of t) (length r.lists) (list_of (contents_of r) node) =
      record { known = rw (length-lists_of t step.0, longer) (omega arith); is = step.2 ∙ sym (list_of_key r row.key) ∙ ap (list_of (contents_of r)) is } in
      rw (pushed, is_l, ← append_assoc) ((record { store = step.0; keeps = step.1 }), stands)

  pub add_tree : (row : TreeRow) (rows : List TreeRow) (e : ℕ) (key : TreeKey) (node : Node) → rows ≡ o.trees ++ row ∷ [] → e ≡ length (b.trees ++ o.trees) → e + 1 < 2 ^ 32
      → IsRowFor (over b o) row key node → IsIn (contents_of (over b o)) node
      → ((i : ℕ) (d : TreeRow) → i < length (b.trees ++ o.trees) → (get_or (b.trees ++ o.trees) i d).key ≢ key)
      → let t : Tables = record o { trees = rows } in Grown (over b o) (over b t) × IsTree (contents_of (over b t)) e (tree_of (contents_of (over b o)) node)
  add_tree row rows e key node pushed is_e few for_node known new =
      let r = over b o in
      let is = for_node.key_of.is in
      let below = below_of r row.key for_node.key_of.there (rw (← is) at known) in
      let mark = rw (← is, tree_of_key r row.key) at for_node.marked in
      let small : length r.trees + 1 < 2 ^ 32 = rw is_e at few in
      let step = push_tree r s row small below mark (λ i d l h. new i d l (h ∙ for_node.key_is)) in
      let longer : length (r.trees ++ row ∷ []) ≡ length r.trees + 1 = grind (arith, common_steps) in
      let t : Tables = record r { trees = r.trees ++ row ∷ [] } in
      let stands : IsTree (contents_of t) (length r.trees) (tree_of (contents_of r) node) =
      record { known = rw (length-trees_of t step.0, longer) (omega arith); is = step.2 ∙ sym (tree_of_key r row.key) ∙ ap (tree_of (contents_of r)) is } in
      rw (pushed, is_e, ← append_assoc) ((record { store = step.0; keeps = step.1 }), stands)

  pub add_text : (x : List ℕ) (rows : List (List ℕ)) (i : ℕ) → rows ≡ o.texts ++ x ∷ [] → i ≡ length (b.texts ++ o.texts) → i + 1 < 2 ^ 32
      → ((k : ℕ) (d : List ℕ) → k < length (b.texts ++ o.texts) → get_or (b.texts ++ o.texts) k d ≢ x)
      → let t : Tables = record o { texts = rows } in Grown (over b o) (over b t) × IsText (contents_of (over b t)) i x
  add_text x rows i pushed is_i few new =
      let r = over b o in
      let small : length r.texts + 1 < 2 ^ 32 = rw is_i at few in
      let step = push_text r s x small new in
      let t : Tables = record r { texts = r.texts ++ x ∷ [] } in
      let stands : IsText (contents_of t) (length r.texts) x = record { known = grind (arith, common_steps); is = grind (arith, common_steps) } in
      rw (pushed, is_i, ← append_assoc) ((record { store = step.0; keeps = step.1 }), stands)

  pub add_number : (n : Number) (rows : List Number) → rows ≡ o.numbers ++ n ∷ [] → length (b.numbers ++ o.numbers) + 1 < 2 ^ 31 → 2 ^ 31 ≤ n.value
      → ((k : ℕ) (d : Number) → k < length (b.numbers ++ o.numbers) → get_or (b.numbers ++ o.numbers) k d ≢ n)
      → let t : Tables = record o { numbers = rows } in Recoded (over b o) (over b t) × IsCodeOf (over b t).numbers (length (b.numbers ++ o.numbers) + 2 ^ 31) n.value
  add_number n rows pushed few large new =
      let r = over b o in
      let step = push_number r s n few large new in
      let t : Tables = record r { numbers = r.numbers ++ n ∷ [] } in
      let recoded : Recoded r t = record {
        store = step.0;
        same = ap (λ (ts : List Tree). let c : Contents = record (contents_of r) { trees = ts } in c) step.1;
        numbers = Keeps-push no_number r.numbers n;
      } in
      let longer : length (r.numbers ++ n ∷ []) ≡ length r.numbers + 1 = grind (arith, common_steps) in
      let read : get_or (r.numbers ++ n ∷ []) (length r.numbers) no_number ≡ n = grind (arith, common_steps) in
      let code : IsCodeOf t.numbers (length r.numbers + 2 ^ 31) n.value =
      record { there = omega arith; is = decoded-large t.numbers (length r.numbers) ∙ ap (λ (m : Number). m.value) read } in
      rw (pushed, ← append_assoc) (recoded, code)

  pub add_name : (k : NameKey) (keys : List NameKey) (l : ℕ) (node : NameNode) → keys ≡ o.names ++ k ∷ [] → l ≡ length (b.names ++ o.names) → l + 1 < 2 ^ 32
      → name_node k ≡ node → IsNameIn (contents_of (over b o)) node
      → ((i : ℕ) (d : NameKey) → i < length (b.names ++ o.names) → get_or (b.names ++ o.names) i d ≢ k)
      → let t : Tables = record o { names = keys } in Grown (over b o) (over b t) × IsName (contents_of (over b t)) l (name_of (contents_of (over b o)) node)
  add_name k keys l node pushed is_l few is known new =
      let r = over b o in
      let below = name_below_of r k (rw (← is) at known) in
      let small : length r.names + 1 < 2 ^ 32 = rw is_l at few in
      let step = push_name r s k small below new in
      let longer : length (r.names ++ k ∷ []) ≡ length r.names + 1 = grind (arith, common_steps) in
      let t : Tables = record r { names = r.names ++ k ∷ [] } in
      let stands : IsName (contents_of t) (length r.names) (name_of (contents_of r) node) =
      record { known = rw (length-names_of t step.0, longer) (omega arith); is = step.2 ∙ sym (name_of_key r k) ∙ ap (name_of (contents_of r)) is } in
      rw (pushed, is_l, ← append_assoc) ((record { store = step.0; keeps = step.1 }), stands)

-- Codes.
pub small_code : (r : Tables) (s : IsStore r) (n : ℕ) → n < 2 ^ 31 → IsCodeOf r.numbers n n
small_code r s n h = record { there = omega arith; is = decoded-small r.numbers n h }

pub found_code : (r : Tables) (i n : ℕ) → i < length r.numbers → ((d : Number) → get_or r.numbers i d ≡ (let m : Number = record { value = n } in m)) → IsCodeOf r.numbers (i + 2 ^ 31) n
found_code r i n l there = record { there = omega arith; is = decoded-large r.numbers i ∙ ap (λ (m : Number). m.value) (there no_number) }

-- A tree that was there, or is added, where codes may have been added before.
pub stands_recoded : (r s : Tables) (e : ℕ) (node : Node) → Recoded r s → IsTree (contents_of s) e (tree_of (contents_of s) node) → IsTree (contents_of s) e (tree_of (contents_of r) node)
stands_recoded r s e node x t = subst (λ (c : Contents). IsTree (contents_of s) e (tree_of c node)) x.same t

pub make_new : (b o o1 o2 : Tables) (row : TreeRow) (rows : List TreeRow) (e : ℕ) (key : TreeKey) (node : Node)
    → Recoded (over b o) (over b o1) → Recoded (over b o1) (over b o2) → o2.trees ≡ o1.trees
    → rows ≡ o2.trees ++ row ∷ [] → e ≡ length (b.trees ++ o2.trees) → e + 1 < 2 ^ 32
    → IsRowFor (over b o2) row key node → IsIn (contents_of (over b o)) node
    → ((i : ℕ) (d : TreeRow) → i < length (b.trees ++ o1.trees) → (get_or (b.trees ++ o1.trees) i d).key ≢ key)
    → let t : Tables = record o2 { trees = rows } in Grown (over b o) (over b t) × IsTree (contents_of (over b t)) e (tree_of (contents_of (over b o)) node)
make_new b o o1 o2 row rows e key node x y same pushed is_e few for_node known new =
    let same_contents : contents_of (over b o2) ≡ contents_of (over b o) = y.same ∙ x.same in
    let known2 : IsIn (contents_of (over b o2)) node = subst (λ (c : Contents). IsIn c node) (sym same_contents) known in
    let t : Tables = record o2 { trees = rows } in
    let step = add_tree b o2 y.store row rows e key node pushed is_e few for_node known2 (rw same new) in
    let grown = step.0 in (
      record { store = grown.store; keeps = subst (λ (c : Contents). Extends c (contents_of (over b t))) same_contents grown.keeps },
      subst (λ (c : Contents). IsTree (contents_of (over b t)) e (tree_of c node)) same_contents step.1,
    )
