-- A store that grows.
use Rattle.std.proofs.Common.{true, ◌≡◌, ◌≢◌, ℕ, ◌+◌, ◌<◌, ◌≤◌, ◌^◌, List, [], ◌∷◌, ◌++◌, length, get_or, refl, sym, ◌∙◌, arith, below_more, false}
use Rattle.std.proofs.lemmas.Grind.{common_steps}
use Rattle.lk_tree.specs.Tree.{Name, Level, zero_level, Tree, wide}
use Rattle.lk_store.specs.Measures.{list_has_params}
use Rattle.lk_store.specs.Values.{Keeps, AreApart, values_of, IsColumn}
use Rattle.lk_store.specs.Contents.{Extends}
use Rattle.lk_store.specs.Keys.{key_name, IsNameBelow, key_level, IsLevelBelow, IsMarkedLevel, key_list, IsListBelow, Parts, key_tree, IsTreeBelow, IsMarkedTree}
use Rattle.lk_store.specs.Store.{AreNames, AreLevels, AreLists, AreTrees, names_by, names_of, levels_by, levels_of, lists_by, lists_of, parts_of, trees_by, trees_of, contents_of, IsStore}
use Rattle.lk_store.specs.declared.key.Number.{Number}
use Rattle.lk_store.specs.declared.key.NameKey.{NameKey}
use Rattle.lk_store.specs.declared.key.LevelKey.{LevelKey}
use Rattle.lk_store.specs.declared.key.ListKey.{ListKey}
use Rattle.lk_store.specs.declared.key.TreeKey.{TreeKey}
use Rattle.lk_store.specs.declared.key.LevelRow.{LevelRow}
use Rattle.lk_store.specs.declared.key.ListRow.{ListRow}
use Rattle.lk_store.specs.declared.key.TreeRow.{TreeRow}
use Rattle.lk_store.specs.declared.tables.Tables.{Tables}
use Rattle.lk_store.proofs.Columns.{Keeps-self, Keeps-push, AreApart-push, IsColumn-push, values_of-agree, values_keep, value_at, new_value, length-values_of}
use Rattle.lk_store.proofs.Keyed.{no_number, key_name-keeps, key_name-texts, name_below-more, key_name-injective, key_level-keeps, key_level-names, level_below-more, key_level-injective, key_list-keeps, key_list-levels, list_below-more, key_list-injective, PartsKeep, key_tree-keeps, key_tree-parts, tree_below-parts, tree_below-more, marked-parts, PartsApart, key_tree-injective}

pub Keeps-is : {X : Type 0} (none : X) (xs ys : List X) → ys ≡ xs → Keeps none xs ys
Keeps-is none xs ys e = rw e (Keeps-self none xs)

-- a column of keys whose values are made in another way that agrees
column-agree : {K V : Type 0} (none : V) (f g : List V → K → V) (P Q : ℕ → K → Type 0) (M N : V → K → Type 0)
    → ((vs : List V) (k : K) → P (length vs) k → g vs k ≡ f vs k) → ((n : ℕ) (k : K) → P n k → Q n k) → ((v : V) (k : K) → M v k → N v k)
    → (ks : List K) → IsColumn none f P M ks → (values_of g ks ≡ values_of f ks) × IsColumn none g Q N ks
column-agree none f g P Q M N agree more marks ks s =
    let same = values_of-agree f g P agree ks s.known in (
      same,
      record {
        few = s.few;
        known = λ i d l. more i (get_or ks i d) (s.known i d l);
        marked = λ i d l. rw same (marks (get_or (values_of f ks) i none) (get_or ks i d) (s.marked i d l));
        apart = rw same s.apart;
      },
    )

names_carry : (ts us : List (List ℕ)) (keys : List NameKey) → Keeps [] ts us → AreNames ts keys → (values_of (names_by us) keys ≡ values_of (names_by ts) keys) × AreNames us keys
names_carry ts us keys x s = column-agree [] (names_by ts) (names_by us) _ _ _ _
    (λ vs k h. key_name-texts ts us vs k x h) (λ n k h. name_below-more (length ts) (length us) n n k x.longer (omega arith) h) (λ v k h. h) keys s

levels_carry : (ns ms : List Name) (rows : List LevelRow) → Keeps [] ns ms → AreLevels ns rows → (values_of (levels_by ms) rows ≡ values_of (levels_by ns) rows) × AreLevels ms rows
levels_carry ns ms rows x s = column-agree zero_level (levels_by ns) (levels_by ms) _ _ _ _
    (λ vs k h. key_level-names ns ms vs k.key x h) (λ n k h. level_below-more (length ns) (length ms) n n k.key x.longer (omega arith) h) (λ v k h. h) rows s

lists_carry : (ls ms : List Level) (rows : List ListRow) → Keeps zero_level ls ms → AreLists ls rows → (values_of (lists_by ms) rows ≡ values_of (lists_by ls) rows) × AreLists ms rows
lists_carry ls ms rows x s = column-agree [] (lists_by ls) (lists_by ms) _ _ _ _
    (λ vs k h. key_list-levels ls ms vs k.key x h) (λ n k h. list_below-more (length ls) (length ms) n n k.key x.longer (omega arith) h) (λ v k h. h) rows s

trees_carry : (p q : Parts) (rows : List TreeRow) → PartsKeep p q → AreTrees p rows → (values_of (trees_by q) rows ≡ values_of (trees_by p) rows) × AreTrees q rows
trees_carry p q rows x s = column-agree wide (trees_by p) (trees_by q) _ _ _ _
    (λ vs k h. key_tree-parts p q vs k.key x h) (λ n k h. tree_below-parts p q n k.key x h) (λ v k h. marked-parts p.numbers q.numbers v k x.numbers h) rows s

names_steady : (ts : List (List ℕ)) (vs us : List Name) (k : NameKey) → Keeps [] vs us → IsNameBelow (length ts) (length vs) k → names_by ts us k ≡ names_by ts vs k
names_steady ts vs us k x h = key_name-keeps ts vs us k x h

levels_steady : (ns : List Name) (vs us : List Level) (k : LevelRow) → Keeps zero_level vs us → IsLevelBelow (length ns) (length vs) k.key → levels_by ns us k ≡ levels_by ns vs k
levels_steady ns vs us k x h = key_level-keeps ns vs us k.key x h

lists_steady : (ls : List Level) (vs us : List (List Level)) (k : ListRow) → Keeps [] vs us → IsListBelow (length ls) (length vs) k.key → lists_by ls us k ≡ lists_by ls vs k
lists_steady ls vs us k x h = key_list-keeps ls vs us k.key x h

trees_steady : (p : Parts) (vs us : List Tree) (k : TreeRow) → Keeps wide vs us → IsTreeBelow p (length vs) k.key → trees_by p us k ≡ trees_by p vs k
trees_steady p vs us k x h = key_tree-keeps p vs us k.key x h

module _ (r : Tables) (s : IsStore r) where
  pub length-names_of : length (names_of r) ≡ length r.names
  length-names_of = length-values_of (names_by r.texts) r.names

  pub length-levels_of : length (levels_of r) ≡ length r.levels
  length-levels_of = length-values_of (levels_by (names_of r)) r.levels

  pub length-lists_of : length (lists_of r) ≡ length r.lists
  length-lists_of = length-values_of (lists_by (levels_of r)) r.lists

  pub length-trees_of : length (trees_of r) ≡ length r.trees
  length-trees_of = length-values_of (trees_by (parts_of r)) r.trees

  -- the value of a number is that of its row
  pub name_is : (i : ℕ) (d : NameKey) → i < length r.names → get_or (names_of r) i [] ≡ key_name r.texts (names_of r) (get_or r.names i d)
  name_is i d l = value_at [] (names_by r.texts) (λ n k. IsNameBelow (length r.texts) n k) (λ v k. Unit {0}) (names_steady r.texts) r.names s.names.known i d l

  pub level_is : (i : ℕ) (d : LevelRow) → i < length r.levels → get_or (levels_of r) i zero_level ≡ key_level (names_of r) (levels_of r) (get_or r.levels i d).key
  level_is i d l = value_at zero_level (levels_by (names_of r)) (λ n row. IsLevelBelow (length (names_of r)) n row.key) (λ l row. IsMarkedLevel l row) (levels_steady (names_of r)) r.levels s.levels.known i d l

  pub list_is : (i : ℕ) (d : ListRow) → i < length r.lists → get_or (lists_of r) i [] ≡ key_list (levels_of r) (lists_of r) (get_or r.lists i d).key
  list_is i d l = value_at [] (lists_by (levels_of r)) (λ n row. IsListBelow (length (levels_of r)) n row.key) (λ ls row. row.params ≡ list_has_params ls) (lists_steady (levels_of r)) r.lists s.lists.known i d l

  pub tree_is : (i : ℕ) (d : TreeRow) → i < length r.trees → get_or (trees_of r) i wide ≡ key_tree (parts_of r) (trees_of r) (get_or r.trees i d).key
  tree_is i d l = value_at wide (trees_by (parts_of r)) (λ n row. IsTreeBelow (parts_of r) n row.key) (λ t row. IsMarkedTree r.numbers t row) (trees_steady (parts_of r)) r.trees s.trees.known i d l

  -- a key that no row has stands for something new
  pub name_fresh : (k : NameKey) → IsNameBelow (length r.texts) (length (names_of r)) k → ((i : ℕ) (d : NameKey) → i < length r.names → get_or r.names i d ≢ k)
      → (i : ℕ) → i < length r.names → get_or (names_of r) i [] ≢ key_name r.texts (names_of r) k
  name_fresh k h new i l e =
      new i k l (key_name-injective r.texts (names_of r) s.texts_apart s.names.apart (get_or r.names i k) k
      (name_below-more (length r.texts) (length r.texts) i (length (names_of r)) (get_or r.names i k) (omega arith) (rw length-names_of (omega arith)) (s.names.known i k l)) h
      (sym (name_is i k l) ∙ e))

  pub level_fresh : (k : LevelKey) → IsLevelBelow (length (names_of r)) (length (levels_of r)) k → ((i : ℕ) (d : LevelRow) → i < length r.levels → (get_or r.levels i d).key ≢ k)
      → (i : ℕ) → i < length r.levels → get_or (levels_of r) i zero_level ≢ key_level (names_of r) (levels_of r) k
  level_fresh k h new i l e =
      let d : LevelRow = record { key = k; params = false; zero = false } in
      new i d l (key_level-injective (names_of r) (levels_of r) s.names.apart s.levels.apart (get_or r.levels i d).key k
      (level_below-more (length (names_of r)) (length (names_of r)) i (length (levels_of r)) (get_or r.levels i d).key (omega arith) (rw length-levels_of (omega arith)) (s.levels.known i d l)) h
      (sym (level_is i d l) ∙ e))

  pub list_fresh : (k : ListKey) → IsListBelow (length (levels_of r)) (length (lists_of r)) k → ((i : ℕ) (d : ListRow) → i < length r.lists → (get_or r.lists i d).key ≢ k)
      → (i : ℕ) → i < length r.lists → get_or (lists_of r) i [] ≢ key_list (levels_of r) (lists_of r) k
  list_fresh k h new i l e =
      let d : ListRow = record { key = k; params = false } in
      new i d l (key_list-injective (levels_of r) (lists_of r) s.levels.apart s.lists.apart (get_or r.lists i d).key k
      (list_below-more (length (levels_of r)) (length (levels_of r)) i (length (lists_of r)) (get_or r.lists i d).key (omega arith) (rw length-lists_of (omega arith)) (s.lists.known i d l)) h
      (sym (list_is i d l) ∙ e))

  apart : PartsApart (parts_of r)
  apart = record { numbers = s.numbers; names = s.names.apart; texts = s.texts_apart; levels = s.levels.apart; lists = s.lists.apart }

  pub tree_fresh : (k : TreeKey) → IsTreeBelow (parts_of r) (length (trees_of r)) k → ((i : ℕ) (d : TreeRow) → i < length r.trees → (get_or r.trees i d).key ≢ k)
      → (i : ℕ) → i < length r.trees → get_or (trees_of r) i wide ≢ key_tree (parts_of r) (trees_of r) k
  tree_fresh k h new i l e =
      let d : TreeRow = record { key = k; loose = 0; local = 0; params = false; narrow = true } in
      new i d l (key_tree-injective (parts_of r) (trees_of r) apart s.trees.apart (get_or r.trees i d).key k
      (tree_below-more (parts_of r) i (length (trees_of r)) (get_or r.trees i d).key (rw length-trees_of (omega arith)) (s.trees.known i d l)) h
      (sym (tree_is i d l) ∙ e))

  -- One more of each.
  pub push_number : (n : Number) → length r.numbers + 1 < 2 ^ 31 → 2 ^ 31 ≤ n.value → ((i : ℕ) (d : Number) → i < length r.numbers → get_or r.numbers i d ≢ n)
      → let t : Tables = record r { numbers = r.numbers ++ n ∷ [] } in IsStore t × (trees_of t ≡ trees_of r)
  push_number n few large new =
      let t : Tables = record r { numbers = r.numbers ++ n ∷ [] } in
      let longer : length (r.numbers ++ n ∷ []) ≡ length r.numbers + 1 = grind (arith, common_steps) in
      let keep : PartsKeep (parts_of r) (parts_of t) = record {
        numbers = Keeps-push no_number r.numbers n;
        names = Keeps-self [] (names_of r);
        texts = Keeps-self [] r.texts;
        levels = Keeps-self zero_level (levels_of r);
        lists = Keeps-self [] (lists_of r);
      } in
      let trees = trees_carry (parts_of r) (parts_of t) r.trees keep s.trees in (
        record {
          numbers = record {
            few = rw longer few;
            large = λ i d l. below_more (λ m. 2 ^ 31 ≤ (get_or (r.numbers ++ n ∷ []) m d).value) (length r.numbers)
                (λ m lm. let read : get_or (r.numbers ++ n ∷ []) m d ≡ get_or r.numbers m d = grind (arith, common_steps) in rw read (s.numbers.large m d lm))
                (let read : get_or (r.numbers ++ n ∷ []) (length r.numbers) d ≡ n = grind (arith, common_steps) in rw read large)
                i (rw longer at l);
            apart = AreApart-push no_number r.numbers n s.numbers.apart (λ i l. new i no_number l);
          };
          texts_few = s.texts_few;
          texts_apart = s.texts_apart;
          names = s.names;
          levels = s.levels;
          lists = s.lists;
          trees = trees.1;
        },
        trees.0,
      )

  -- where names or texts were added, and each kept its own, the levels, lists and trees are carried along
  carried : (t : Tables) → Keeps [] (names_of r) (names_of t) → Keeps [] r.texts t.texts → t.numbers ≡ r.numbers → t.levels ≡ r.levels → t.lists ≡ r.lists → t.trees ≡ r.trees
      → length t.texts < 2 ^ 32 → AreApart [] t.texts → AreNames t.texts t.names → IsStore t × Extends (contents_of r) (contents_of t)
  carried t names texts same_numbers same_level_rows same_list_rows same_tree_rows few texts_apart column =
      let levels = levels_carry (names_of r) (names_of t) r.levels names s.levels in
      let levels_same : levels_of t ≡ levels_of r = rw same_level_rows levels.0 in
      let same_levels = Keeps-is zero_level (levels_of r) (levels_of t) levels_same in
      let lists = lists_carry (levels_of r) (levels_of t) r.lists same_levels s.lists in
      let lists_same : lists_of t ≡ lists_of r = rw same_list_rows lists.0 in
      let same_lists = Keeps-is [] (lists_of r) (lists_of t) lists_same in
      let keep : PartsKeep (parts_of r) (parts_of t) = record {
        numbers = Keeps-is no_number r.numbers t.numbers same_numbers;
        names = names;
        texts = texts;
        levels = same_levels;
        lists = same_lists;
      } in
      let trees = trees_carry (parts_of r) (parts_of t) r.trees keep s.trees in
      let trees_same : trees_of t ≡ trees_of r = rw same_tree_rows trees.0 in (
        record {
          numbers = rw same_numbers s.numbers;
          texts_few = few;
          texts_apart = texts_apart;
          names = column;
          levels = rw same_level_rows levels.1;
          lists = rw same_list_rows lists.1;
          trees = rw same_tree_rows trees.1;
        },
        record { names = names; texts = texts; levels = same_levels; lists = same_lists; trees = Keeps-is wide (trees_of r) (trees_of t) trees_same },
      )

  pub push_name : (k : NameKey) → length r.names + 1 < 2 ^ 32 → IsNameBelow (length r.texts) (length (names_of r)) k → ((i : ℕ) (d : NameKey) → i < length r.names → get_or r.names i d ≢ k)
      → let t : Tables = record r { names = r.names ++ k ∷ [] } in
      IsStore t × Extends (contents_of r) (contents_of t) × (get_or (names_of t) (length r.names) [] ≡ key_name r.texts (names_of r) k)
  push_name k few below new =
      let t : Tables = record r { names = r.names ++ k ∷ [] } in
      let f = names_by r.texts in
      let K : ℕ → NameKey → Type 0 = λ n k. IsNameBelow (length r.texts) n k in
      let M : Name → NameKey → Type 0 = λ v k. Unit {0} in
      let column = IsColumn-push [] f K M (names_steady r.texts) r.names k s.names few (rw length-names_of at below) tt (name_fresh k below new) in
      let names = values_keep [] f K M (names_steady r.texts) r.names k in
      let all = carried t names (Keeps-self [] r.texts) refl refl refl refl s.texts_few s.texts_apart column in
      (all.0, all.1, new_value [] f K M (names_steady r.texts) r.names k)

  pub push_text : (x : List ℕ) → length r.texts + 1 < 2 ^ 32 → ((i : ℕ) (d : List ℕ) → i < length r.texts → get_or r.texts i d ≢ x)
      → let t : Tables = record r { texts = r.texts ++ x ∷ [] } in IsStore t × Extends (contents_of r) (contents_of t)
  push_text x few new =
      let t : Tables = record r { texts = r.texts ++ x ∷ [] } in
      let longer : length (r.texts ++ x ∷ []) ≡ length r.texts + 1 = grind (arith, common_steps) in
      let texts : Keeps [] r.texts (r.texts ++ x ∷ []) = Keeps-push [] r.texts x in
      let names = names_carry r.texts (r.texts ++ x ∷ []) r.names texts s.names in
      carried t (Keeps-is [] (names_of r) (names_of t) names.0) texts refl refl refl refl (rw longer few) (AreApart-push [] r.texts x s.texts_apart (λ i l. new i [] l)) names.1

  pub push_level : (row : LevelRow) → length r.levels + 1 < 2 ^ 32 → IsLevelBelow (length (names_of r)) (length (levels_of r)) row.key → IsMarkedLevel (key_level (names_of r) (levels_of r) row.key) row
      → ((i : ℕ) (d : LevelRow) → i < length r.levels → (get_or r.levels i d).key ≢ row.key)
      → let t : Tables = record r { levels = r.levels ++ row ∷ [] } in
      IsStore t × Extends (contents_of r) (contents_of t) × (get_or (levels_of t) (length r.levels) zero_level ≡ key_level (names_of r) (levels_of r) row.key)
  push_level row few below marked new =
      let t : Tables = record r { levels = r.levels ++ row ∷ [] } in
      let f = levels_by (names_of r) in
      let K : ℕ → LevelRow → Type 0 = λ n row. IsLevelBelow (length (names_of r)) n row.key in
      let M : Level → LevelRow → Type 0 = λ l row. IsMarkedLevel l row in
      let column = IsColumn-push zero_level f K M (levels_steady (names_of r)) r.levels row s.levels few (rw length-levels_of at below) marked (level_fresh row.key below new) in
      let levels = values_keep zero_level f K M (levels_steady (names_of r)) r.levels row in
      let lists = lists_carry (levels_of r) (levels_of t) r.lists levels s.lists in
      let same_lists = Keeps-is [] (lists_of r) (lists_of t) lists.0 in
      let keep : PartsKeep (parts_of r) (parts_of t) = record {
        numbers = Keeps-self no_number r.numbers;
        names = Keeps-self [] (names_of r);
        texts = Keeps-self [] r.texts;
        levels = levels;
        lists = same_lists;
      } in
      let trees = trees_carry (parts_of r) (parts_of t) r.trees keep s.trees in (
        record {
          numbers = s.numbers;
          texts_few = s.texts_few;
          texts_apart = s.texts_apart;
          names = s.names;
          levels = column;
          lists = lists.1;
          trees = trees.1;
        },
        record { names = Keeps-self [] (names_of r); texts = Keeps-self [] r.texts; levels = levels; lists = same_lists; trees = Keeps-is wide (trees_of r) (trees_of t) trees.0 },
        new_value zero_level f K M (levels_steady (names_of r)) r.levels row,
      )

  pub push_list : (row : ListRow) → length r.lists + 1 < 2 ^ 32 → IsListBelow (length (levels_of r)) (length (lists_of r)) row.key → row.params ≡ list_has_params (key_list (levels_of r) (lists_of r) row.key)
      → ((i : ℕ) (d : ListRow) → i < length r.lists → (get_or r.lists i d).key ≢ row.key)
      → let t : Tables = record r { lists = r.lists ++ row ∷ [] } in
      IsStore t × Extends (contents_of r) (contents_of t) × (get_or (lists_of t) (length r.lists) [] ≡ key_list (levels_of r) (lists_of r) row.key)
  push_list row few below marked new =
      let t : Tables = record r { lists = r.lists ++ row ∷ [] } in
      let f = lists_by (levels_of r) in
      let K : ℕ → ListRow → Type 0 = λ n row. IsListBelow (length (levels_of r)) n row.key in
      let M : List Level → ListRow → Type 0 = λ ls row. row.params ≡ list_has_params ls in
      let column = IsColumn-push [] f K M (lists_steady (levels_of r)) r.lists row s.lists few (rw length-lists_of at below) marked (list_fresh row.key below new) in
      let lists = values_keep [] f K M (lists_steady (levels_of r)) r.lists row in
      let keep : PartsKeep (parts_of r) (parts_of t) = record {
        numbers = Keeps-self no_number r.numbers;
        names = Keeps-self [] (names_of r);
        texts = Keeps-self [] r.texts;
        levels = Keeps-self zero_level (levels_of r);
        lists = lists;
      } in
      let trees = trees_carry (parts_of r) (parts_of t) r.trees keep s.trees in (
        record {
          numbers = s.numbers;
          texts_few = s.texts_few;
          texts_apart = s.texts_apart;
          names = s.names;
          levels = s.levels;
          lists = column;
          trees = trees.1;
        },
        record { names = Keeps-self [] (names_of r); texts = Keeps-self [] r.texts; levels = Keeps-self zero_level (levels_of r); lists = lists; trees = Keeps-is wide (trees_of r) (trees_of t) trees.0 },
        new_value [] f K M (lists_steady (levels_of r)) r.lists row,
      )

  pub push_tree : (row : TreeRow) → length r.trees + 1 < 2 ^ 32 → IsTreeBelow (parts_of r) (length (trees_of r)) row.key → IsMarkedTree r.numbers (key_tree (parts_of r) (trees_of r) row.key) row
      → ((i : ℕ) (d : TreeRow) → i < length r.trees → (get_or r.trees i d).key ≢ row.key)
      → let t : Tables = record r { trees = r.trees ++ row ∷ [] } in
      IsStore t × Extends (contents_of r) (contents_of t) × (get_or (trees_of t) (length r.trees) wide ≡ key_tree (parts_of r) (trees_of r) row.key)
  push_tree row few below marked new =
      let f = trees_by (parts_of r) in
      let K : ℕ → TreeRow → Type 0 = λ n row. IsTreeBelow (parts_of r) n row.key in
      let M : Tree → TreeRow → Type 0 = λ t row. IsMarkedTree r.numbers t row in
      let column = IsColumn-push wide f K M (trees_steady (parts_of r)) r.trees row s.trees few (rw length-trees_of at below) marked (tree_fresh row.key below new) in
      let trees = values_keep wide f K M (trees_steady (parts_of r)) r.trees row in (
        record {
          numbers = s.numbers;
          texts_few = s.texts_few;
          texts_apart = s.texts_apart;
          names = s.names;
          levels = s.levels;
          lists = s.lists;
          trees = column;
        },
        record { names = Keeps-self [] (names_of r); texts = Keeps-self [] r.texts; levels = Keeps-self zero_level (levels_of r); lists = Keeps-self [] (lists_of r); trees = trees },
        new_value wide f K M (trees_steady (parts_of r)) r.trees row,
      )
