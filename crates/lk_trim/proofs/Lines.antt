-- One line more.
use Rattle.std.proofs.Common.{◌≡◌, ℕ, ◌<◌, List, [], ◌∷◌, ◌++◌, map, length, refl, ap, sym, ◌∙◌, append_assoc}
use Rattle.std.specs.Prelude.{suc, reverse, decimal}
use Rattle.std.proofs.lemmas.List.{map-append, length-map, reverse-append, reverse-reverse}
use Rattle.std.proofs.lemmas.List.Elements.{All-push}
use Rattle.lk_tree.specs.Tree.{Name, text, number, Level, zero_level, Tree}
use Rattle.lk_store.specs.Contents.{Contents, name_at, text_at, level_at, tree_at, name_of, level_of, tree_of}
use Rattle.lk_store.specs.declared.node.NameNode.{NameNode}
use Rattle.lk_store.specs.declared.node.NameNode.TheVariants.{Anonymous, Text, Number}
use Rattle.lk_store.specs.declared.node.LevelNode.{LevelNode}
use Rattle.lk_store.specs.declared.node.Node.{Node}
use Rattle.lk_trim.specs.declared.numbers.Writer.{Writer}
use Rattle.lk_trim.specs.Written.{Written, File}
use Rattle.lk_trim.specs.Names.{name_fields, add_name}
use Rattle.lk_trim.specs.Levels.{level_fields, add_level}
use Rattle.lk_trim.specs.Trees.{tree_fields, add_tree}
use Rattle.lk_trim.specs.Stored.{written_at, file_at, AreNumbersIn, Writes, node_fields}

-- a line is written in three steps
joined : (old a b new d e : List ℕ) → a ≡ old ++ d → b ≡ a ++ e → new ≡ b ++ 10 ∷ [] → new ≡ old ++ (d ++ (e ++ 10 ∷ []))
joined old a b new d e p q r =
    r ∙ ap (λ x. x ++ 10 ∷ []) q ∙ append_assoc a e (10 ∷ []) ∙ ap (λ x. x ++ (e ++ 10 ∷ [])) p ∙ append_assoc old d (e ++ 10 ∷ [])

abbrev file_of : List ℕ → Written → File
file_of t w = record { text = t; written = w }

abbrev written_of : List Name → List Level → List Tree → ℕ → Written
written_of ns ls es r = record { names = ns; levels = ls; trees = es; rules = r }

file_is : (t u : List ℕ) (w v : Written) → t ≡ u → w ≡ v → file_of t w ≡ file_of u v
file_is t u w v e f = ap (λ x. file_of x w) e ∙ ap (file_of u) f

written_is : (ns ms : List Name) (ls ks : List Level) (es fs : List Tree) (q r : ℕ) → ns ≡ ms → ls ≡ ks → es ≡ fs → q ≡ r → written_of ns ls es q ≡ written_of ms ks fs r
written_is ns ms ls ks es fs q r e f g h =
    ap (λ x. written_of x ls es q) e ∙ ap (λ x. written_of ms x es q) f ∙ ap (λ x. written_of ms ks x q) g ∙ ap (written_of ms ks fs) h

node_says : (c : Contents) (w : Written) (d : NameNode) → node_fields c w d ≡ name_fields w (reverse (name_of c d))
node_says c w Anonymous = refl
node_says c w (Text n s) = ap (name_fields w) (sym (reverse-append (name_at c n) (text (text_at c s) ∷ [])))
node_says c w (Number n k) = ap (name_fields w) (sym (reverse-append (name_at c n) (number k ∷ [])))

module _ (c : Contents) (old new : Writer) (k : AreNumbersIn c old.numbers) (start mid : List ℕ) (last : new.out.items ≡ mid ++ 10 ∷ []) (rules : new.numbers.rules ≡ old.numbers.rules) where
  abbrev w : Written
  w = written_at c old.numbers

  -- of a name
  module _ (x : ℕ) (inside : x < length c.names) (node : NameNode) (is : name_of c node ≡ name_at c x) (n : ℕ) (first : n ≡ suc (length old.numbers.names))
      (begun : start ≡ old.out.items ++ decimal n) (said : mid ≡ start ++ node_fields c w node)
      (names : new.numbers.names ≡ old.numbers.names ++ x ∷ []) (levels : new.numbers.levels ≡ old.numbers.levels) (trees : new.numbers.trees ≡ old.numbers.trees) where
    name_file : file_at c new ≡ add_name (reverse (name_at c x)) (file_at c old)
    unfolding add_name
    name_file =
        file_is new.out.items _ (written_at c new.numbers) _
        (joined old.out.items start mid new.out.items (decimal (length w.names)) (name_fields w (reverse (name_at c x)))
        (begun ∙ ap (λ i. old.out.items ++ decimal i) (first ∙ ap suc (sym (length-map old.numbers.names (name_at c)))))
        (said ∙ ap (λ y. start ++ y) (node_says c w node ∙ ap (λ y. name_fields w (reverse y)) is)) last)
        (written_is _ _ _ _ _ _ new.numbers.rules old.numbers.rules
        (ap (λ y. [] ∷ map (name_at c) y) names ∙ ap (λ y. [] ∷ y) (map-append (name_at c) old.numbers.names (x ∷ []))
        ∙ ap (λ y. ([] ∷ map (name_at c) old.numbers.names) ++ y ∷ []) (sym (reverse-reverse (name_at c x))))
        (ap (λ y. zero_level ∷ map (level_at c) y) levels) (ap (map (tree_at c)) trees) rules)

    pub name_line : Writes c (add_name (reverse (name_at c x))) old new
    name_line = record {
      numbers = record {
        interned = k.interned;
        names_apart = k.names_apart;
        names_in = rw names (All-push (λ m. m < length c.names) old.numbers.names x k.names_in inside);
        levels_in = rw levels k.levels_in;
        trees_in = rw trees k.trees_in;
      };
      file = name_file;
    }

  -- of a level
  module _ (x : ℕ) (inside : x < length c.levels) (node : LevelNode) (is : level_of c node ≡ level_at c x) (n : ℕ) (first : n ≡ suc (length old.numbers.levels))
      (begun : start ≡ old.out.items ++ decimal n) (said : mid ≡ start ++ level_fields w (level_of c node))
      (names : new.numbers.names ≡ old.numbers.names) (levels : new.numbers.levels ≡ old.numbers.levels ++ x ∷ []) (trees : new.numbers.trees ≡ old.numbers.trees) where
    level_file : file_at c new ≡ add_level (level_at c x) (file_at c old)
    unfolding add_level
    level_file =
        file_is new.out.items _ (written_at c new.numbers) _
        (joined old.out.items start mid new.out.items (decimal (length w.levels)) (level_fields w (level_at c x))
        (begun ∙ ap (λ i. old.out.items ++ decimal i) (first ∙ ap suc (sym (length-map old.numbers.levels (level_at c)))))
        (said ∙ ap (λ y. start ++ level_fields w y) is) last)
        (written_is _ _ _ _ _ _ new.numbers.rules old.numbers.rules (ap (λ y. [] ∷ map (name_at c) y) names)
        (ap (λ y. zero_level ∷ map (level_at c) y) levels ∙ ap (λ y. zero_level ∷ y) (map-append (level_at c) old.numbers.levels (x ∷ []))) (ap (map (tree_at c)) trees) rules)

    pub level_line : Writes c (add_level (level_at c x)) old new
    level_line = record {
      numbers = record {
        interned = k.interned;
        names_apart = k.names_apart;
        names_in = rw names k.names_in;
        levels_in = rw levels (All-push (λ m. m < length c.levels) old.numbers.levels x k.levels_in inside);
        trees_in = rw trees k.trees_in;
      };
      file = level_file;
    }

  -- of a tree
  module _ (x : ℕ) (inside : x < length c.trees) (node : Node) (is : tree_of c node ≡ tree_at c x) (n : ℕ) (first : n ≡ length old.numbers.trees)
      (begun : start ≡ old.out.items ++ decimal n) (said : mid ≡ start ++ tree_fields w (tree_of c node))
      (names : new.numbers.names ≡ old.numbers.names) (levels : new.numbers.levels ≡ old.numbers.levels) (trees : new.numbers.trees ≡ old.numbers.trees ++ x ∷ []) where
    tree_file : file_at c new ≡ add_tree (tree_at c x) (file_at c old)
    unfolding add_tree
    tree_file =
        file_is new.out.items _ (written_at c new.numbers) _
        (joined old.out.items start mid new.out.items (decimal (length w.trees)) (tree_fields w (tree_at c x))
        (begun ∙ ap (λ i. old.out.items ++ decimal i) (first ∙ sym (length-map old.numbers.trees (tree_at c))))
        (said ∙ ap (λ y. start ++ tree_fields w y) is) last)
        (written_is _ _ _ _ _ _ new.numbers.rules old.numbers.rules (ap (λ y. [] ∷ map (name_at c) y) names)
        (ap (λ y. zero_level ∷ map (level_at c) y) levels) (ap (map (tree_at c)) trees ∙ map-append (tree_at c) old.numbers.trees (x ∷ [])) rules)

    pub tree_line : Writes c (add_tree (tree_at c x)) old new
    tree_line = record {
      numbers = record {
        interned = k.interned;
        names_apart = k.names_apart;
        names_in = rw names k.names_in;
        levels_in = rw levels k.levels_in;
        trees_in = rw trees (All-push (λ m. m < length c.trees) old.numbers.trees x k.trees_in inside);
      };
      file = tree_file;
    }
