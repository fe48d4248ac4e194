-- What the rows of a store say.
use Rattle.std.proofs.Common.{◌≡◌, ℕ, ◌<◌, ◌^◌, [], length, get_or, refl, ap, sym, ◌∙◌, arith, nat_eq}
use Rattle.std.specs.Prelude.{IsTrue}
use Rattle.std.proofs.lemmas.Bool.Decides.{nat_tests}
use Rattle.lk_tree.specs.Tree.{zero_level, wide}
use Rattle.lk_store.specs.Measures.{list_has_params}
use Rattle.lk_store.specs.Contents.{name_of, level_of, list_of, tree_of, IsNameIn, IsLevelIn, IsListIn, IsIn}
use Rattle.lk_store.specs.Keys.{key_name, IsNameBelow, key_level, IsLevelBelow, IsMarkedLevel, key_list, IsListBelow, key_tree, IsTreeBelow, IsMarkedTree}
use Rattle.lk_store.specs.Nodes.{name_node, level_node, list_node, node_of, AreCodes, NameFits, LevelFits, ListFits, NodeFits}
use Rattle.lk_store.specs.Store.{names_of, levels_of, lists_of, parts_of, trees_of, contents_of, IsStore}
use Rattle.lk_store.specs.declared.key.NameKey.{NameKey}
use Rattle.lk_store.specs.declared.key.NameKey.TheVariants as name
use Rattle.lk_store.specs.declared.key.LevelKey.{LevelKey}
use Rattle.lk_store.specs.declared.key.LevelKey.TheVariants.{Zero, Succ, Max, IMax, Param}
use Rattle.lk_store.specs.declared.key.ListKey.{ListKey}
use Rattle.lk_store.specs.declared.key.ListKey.TheVariants.{Empty, Cons}
use Rattle.lk_store.specs.declared.key.TreeKey.{TreeKey}
use Rattle.lk_store.specs.declared.key.TreeKey.TheVariants.{Var, Sort, Const, App, Lam, Pi, Let, Proj, Lit, Wide, Str, Local}
use Rattle.lk_store.specs.declared.key.LevelRow.{LevelRow}
use Rattle.lk_store.specs.declared.key.ListRow.{ListRow}
use Rattle.lk_store.specs.declared.key.TreeRow.{TreeRow}
use Rattle.lk_store.specs.declared.node.NameNode.{NameNode}
use Rattle.lk_store.specs.declared.node.NameNode.TheVariants as n
use Rattle.lk_store.specs.declared.node.LevelNode.{LevelNode}
use Rattle.lk_store.specs.declared.node.LevelNode.TheVariants as l
use Rattle.lk_store.specs.declared.node.ListNode.{ListNode}
use Rattle.lk_store.specs.declared.node.ListNode.TheVariants as q
use Rattle.lk_store.specs.declared.node.Node.{Node}
use Rattle.lk_store.specs.declared.node.Node.TheVariants as t
use Rattle.lk_store.specs.declared.tables.Tables.{Tables}
use Rattle.lk_store.proofs.Growing.{length-names_of, length-levels_of, length-lists_of, length-trees_of, name_is, level_is, list_is, tree_is}
use Rattle.lk_store.proofs.Keyed.{name_below-more, level_below-more, list_below-more, tree_below-more}

module _ (r : Tables) where
  -- A key's node stands for what the key stands for.
  pub name_of_key : (k : NameKey) → name_of (contents_of r) (name_node k) ≡ key_name r.texts (names_of r) k
  name_of_key name.Anonymous = refl
  name_of_key (name.Text a s) = refl
  name_of_key (name.Number a i) = refl

  pub name_in_of_key : (k : NameKey) → IsNameBelow (length r.texts) (length (names_of r)) k → IsNameIn (contents_of r) (name_node k)
  name_in_of_key name.Anonymous h = h
  name_in_of_key (name.Text a s) h = h
  name_in_of_key (name.Number a i) h = h

  pub name_below_of : (k : NameKey) → IsNameIn (contents_of r) (name_node k) → IsNameBelow (length r.texts) (length (names_of r)) k
  name_below_of name.Anonymous h = h
  name_below_of (name.Text a s) h = h
  name_below_of (name.Number a i) h = h

  pub level_of_key : (k : LevelKey) → level_of (contents_of r) (level_node k) ≡ key_level (names_of r) (levels_of r) k
  level_of_key Zero = refl
  level_of_key (Succ i) = refl
  level_of_key (Max i j) = refl
  level_of_key (IMax i j) = refl
  level_of_key (Param n) = refl

  pub level_in_of_key : (k : LevelKey) → IsLevelBelow (length (names_of r)) (length (levels_of r)) k → IsLevelIn (contents_of r) (level_node k)
  level_in_of_key Zero h = h
  level_in_of_key (Succ i) h = h
  level_in_of_key (Max i j) h = h
  level_in_of_key (IMax i j) h = h
  level_in_of_key (Param n) h = h

  pub level_below_of : (k : LevelKey) → IsLevelIn (contents_of r) (level_node k) → IsLevelBelow (length (names_of r)) (length (levels_of r)) k
  level_below_of Zero h = h
  level_below_of (Succ i) h = h
  level_below_of (Max i j) h = h
  level_below_of (IMax i j) h = h
  level_below_of (Param n) h = h

  pub list_of_key : (k : ListKey) → list_of (contents_of r) (list_node k) ≡ key_list (levels_of r) (lists_of r) k
  list_of_key Empty = refl
  list_of_key (Cons i j) = refl

  pub list_in_of_key : (k : ListKey) → IsListBelow (length (levels_of r)) (length (lists_of r)) k → IsListIn (contents_of r) (list_node k)
  list_in_of_key Empty h = h
  list_in_of_key (Cons i j) h = h

  pub list_below_of : (k : ListKey) → IsListIn (contents_of r) (list_node k) → IsListBelow (length (levels_of r)) (length (lists_of r)) k
  list_below_of Empty h = h
  list_below_of (Cons i j) h = h

  pub tree_of_key : (k : TreeKey) → tree_of (contents_of r) (node_of r.numbers k) ≡ key_tree (parts_of r) (trees_of r) k
  tree_of_key (Var i) = refl
  tree_of_key (Sort i) = refl
  tree_of_key (Const n i) = refl
  tree_of_key (App f a) = refl
  tree_of_key (Lam A b) = refl
  tree_of_key (Pi A B) = refl
  tree_of_key (Let A v b) = refl
  tree_of_key (Proj S i s) = refl
  tree_of_key (Lit n) = refl
  tree_of_key Wide = refl
  tree_of_key (Str s) = refl
  tree_of_key (Local k T) = refl

  pub in_of_key : (k : TreeKey) → IsTreeBelow (parts_of r) (length (trees_of r)) k → IsIn (contents_of r) (node_of r.numbers k)
  in_of_key (Var i) h = tt
  in_of_key (Sort i) h = h
  in_of_key (Const n i) h = h
  in_of_key (App f a) h = h
  in_of_key (Lam A b) h = h
  in_of_key (Pi A B) h = h
  in_of_key (Let A v b) h = h
  in_of_key (Proj S i s) h = (h.0, h.2)
  in_of_key (Lit n) h = tt
  in_of_key Wide h = tt
  in_of_key (Str s) h = h
  in_of_key (Local k T) h = h.1

  pub codes_of_key : (n : ℕ) (k : TreeKey) → IsTreeBelow (parts_of r) n k → AreCodes r.numbers k
  codes_of_key n (Var i) h = h
  codes_of_key n (Sort i) h = tt
  codes_of_key n (Const c i) h = tt
  codes_of_key n (App f a) h = tt
  codes_of_key n (Lam A b) h = tt
  codes_of_key n (Pi A B) h = tt
  codes_of_key n (Let A v b) h = tt
  codes_of_key n (Proj S i s) h = h.1
  codes_of_key n (Lit i) h = h
  codes_of_key n Wide h = tt
  codes_of_key n (Str s) h = tt
  codes_of_key n (Local k T) h = h.0

  pub below_of : (k : TreeKey) → AreCodes r.numbers k → IsIn (contents_of r) (node_of r.numbers k) → IsTreeBelow (parts_of r) (length (trees_of r)) k
  below_of (Var i) a h = a
  below_of (Sort i) a h = h
  below_of (Const n i) a h = h
  below_of (App f b) a h = h
  below_of (Lam A b) a h = h
  below_of (Pi A B) a h = h
  below_of (Let A v b) a h = h
  below_of (Proj S i s) a h = (h.0, a, h.1)
  below_of (Lit n) a h = a
  below_of Wide a h = tt
  below_of (Str s) a h = h
  below_of (Local k T) a h = (a, h)

  module _ (s : IsStore r) where
    names_few : length (names_of r) < 2 ^ 32
    names_few = rw (length-names_of r s) s.names.few

    levels_few : length (levels_of r) < 2 ^ 32
    levels_few = rw (length-levels_of r s) s.levels.few

    lists_few : length (lists_of r) < 2 ^ 32
    lists_few = rw (length-lists_of r s) s.lists.few

    trees_few : length (trees_of r) < 2 ^ 32
    trees_few = rw (length-trees_of r s) s.trees.few

    texts_few : length r.texts < 2 ^ 32
    texts_few = s.texts_few

    -- The numbers of a store take 32 bits.
    pub name_fits : (k : NameNode) → IsNameIn (contents_of r) k → NameFits k
    name_fits n.Anonymous h = tt
    name_fits (n.Text a x) h = let b = names_few in let c = texts_few in (omega arith, omega arith)
    name_fits (n.Number a i) h = let b = names_few in omega arith

    pub level_fits : (n : LevelNode) → IsLevelIn (contents_of r) n → LevelFits n
    level_fits l.Zero h = tt
    level_fits (l.Succ i) h = let a = levels_few in omega arith
    level_fits (l.Max i j) h = let a = levels_few in (omega arith, omega arith)
    level_fits (l.IMax i j) h = let a = levels_few in (omega arith, omega arith)
    level_fits (l.Param n) h = let a = names_few in omega arith

    pub list_fits : (n : ListNode) → IsListIn (contents_of r) n → ListFits n
    list_fits q.Empty h = tt
    list_fits (q.Cons i j) h = let a = levels_few in let b = lists_few in (omega arith, omega arith)

    pub node_fits : (n : Node) → IsIn (contents_of r) n → NodeFits n
    node_fits (t.Var i) h = tt
    node_fits (t.Sort i) h = let a = levels_few in omega arith
    node_fits (t.Const n i) h = let a = names_few in let b = lists_few in (omega arith, omega arith)
    node_fits (t.App f a) h = let b = trees_few in (omega arith, omega arith)
    node_fits (t.Lam A a) h = let b = trees_few in (omega arith, omega arith)
    node_fits (t.Pi A a) h = let b = trees_few in (omega arith, omega arith)
    node_fits (t.Let A v a) h = let b = trees_few in (omega arith, omega arith, omega arith)
    node_fits (t.Proj S i x) h = let a = names_few in let b = trees_few in (omega arith, omega arith)
    node_fits (t.Lit n) h = tt
    node_fits t.Wide h = tt
    node_fits (t.Str x) h = let a = texts_few in omega arith
    node_fits (t.Local k T) h = let b = trees_few in omega arith

    -- What a number's row says.
    pub name_known : (i : ℕ) (d : NameKey) → i < length (names_of r) → IsNameBelow (length r.texts) (length (names_of r)) (get_or r.names i d)
    name_known i d h = let m = rw (length-names_of r s) at h in
        name_below-more (length r.texts) (length r.texts) i (length (names_of r)) (get_or r.names i d) (omega arith) (omega arith) (s.names.known i d m)

    pub name_reads : (i : ℕ) (d : NameKey) → i < length (names_of r) → name_of (contents_of r) (name_node (get_or r.names i d)) ≡ get_or (names_of r) i []
    name_reads i d h = name_of_key (get_or r.names i d) ∙ sym (name_is r s i d (rw (length-names_of r s) at h))

    -- equal numbers say that the names are equal
    pub same_name_number : (a b : ℕ) → a < length (names_of r) → b < length (names_of r)
        → (IsTrue (nat_eq a b) → get_or (names_of r) a [] ≡ get_or (names_of r) b []) × (get_or (names_of r) a [] ≡ get_or (names_of r) b [] → IsTrue (nat_eq a b))
    same_name_number a b la lb = (
      (λ h. let e : a ≡ b = grind (arith, nat_tests) in ap (λ i. get_or (names_of r) i []) e),
      (λ h. let e = s.names.apart.apart a b la lb h in grind (arith, nat_tests)),
    )

    pub level_known : (i : ℕ) (d : LevelRow) → i < length (levels_of r) → IsLevelBelow (length (names_of r)) (length (levels_of r)) (get_or r.levels i d).key
    level_known i d h = let m = rw (length-levels_of r s) at h in
        level_below-more (length (names_of r)) (length (names_of r)) i (length (levels_of r)) (get_or r.levels i d).key (omega arith) (omega arith) (s.levels.known i d m)

    pub level_reads : (i : ℕ) (d : LevelRow) → i < length (levels_of r) → level_of (contents_of r) (level_node (get_or r.levels i d).key) ≡ get_or (levels_of r) i zero_level
    level_reads i d h = level_of_key (get_or r.levels i d).key ∙ sym (level_is r s i d (rw (length-levels_of r s) at h))

    pub level_marked : (i : ℕ) (d : LevelRow) → i < length (levels_of r) → IsMarkedLevel (get_or (levels_of r) i zero_level) (get_or r.levels i d)
    level_marked i d h = s.levels.marked i d (rw (length-levels_of r s) at h)

    pub list_known : (i : ℕ) (d : ListRow) → i < length (lists_of r) → IsListBelow (length (levels_of r)) (length (lists_of r)) (get_or r.lists i d).key
    list_known i d h = let m = rw (length-lists_of r s) at h in
        list_below-more (length (levels_of r)) (length (levels_of r)) i (length (lists_of r)) (get_or r.lists i d).key (omega arith) (omega arith) (s.lists.known i d m)

    pub list_reads : (i : ℕ) (d : ListRow) → i < length (lists_of r) → list_of (contents_of r) (list_node (get_or r.lists i d).key) ≡ get_or (lists_of r) i []
    list_reads i d h = list_of_key (get_or r.lists i d).key ∙ sym (list_is r s i d (rw (length-lists_of r s) at h))

    pub list_params : (i : ℕ) (d : ListRow) → i < length (lists_of r) → (get_or r.lists i d).params ≡ list_has_params (get_or (lists_of r) i [])
    list_params i d h = s.lists.marked i d (rw (length-lists_of r s) at h)

    pub tree_known : (i : ℕ) (d : TreeRow) → i < length (trees_of r) → IsTreeBelow (parts_of r) (length (trees_of r)) (get_or r.trees i d).key
    tree_known i d h = let m = rw (length-trees_of r s) at h in
        tree_below-more (parts_of r) i (length (trees_of r)) (get_or r.trees i d).key (omega arith) (s.trees.known i d m)

    pub tree_reads : (i : ℕ) (d : TreeRow) → i < length (trees_of r) → tree_of (contents_of r) (node_of r.numbers (get_or r.trees i d).key) ≡ get_or (trees_of r) i wide
    tree_reads i d h = tree_of_key (get_or r.trees i d).key ∙ sym (tree_is r s i d (rw (length-trees_of r s) at h))

    pub tree_marks : (i : ℕ) (d : TreeRow) → i < length (trees_of r) → IsMarkedTree r.numbers (get_or (trees_of r) i wide) (get_or r.trees i d)
    tree_marks i d h = s.trees.marked i d (rw (length-trees_of r s) at h)

    -- equal numbers say that the trees are equal
    pub same_number : (a b : ℕ) → a < length (trees_of r) → b < length (trees_of r)
        → (IsTrue (nat_eq a b) → get_or (trees_of r) a wide ≡ get_or (trees_of r) b wide) × (get_or (trees_of r) a wide ≡ get_or (trees_of r) b wide → IsTrue (nat_eq a b))
    same_number a b la lb = (
      (λ h. let e : a ≡ b = grind (arith, nat_tests) in ap (λ n. get_or (trees_of r) n wide) e),
      (λ h. let e = s.trees.apart.apart a b la lb h in grind (arith, nat_tests)),
    )
