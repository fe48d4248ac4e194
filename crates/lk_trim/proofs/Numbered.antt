-- What has its line, and its number, by the numbers of a store.
use Rattle.std.proofs.Common.{◌≡◌, ℕ, ◌<◌, [], ◌∷◌, map, length, refl, ap, sym, ◌∙◌}
use Rattle.std.specs.Prelude.{option_map, suc, Bool, true, false}
use Rattle.lk_tree.specs.Tree.{Name, name_discrete, Level, zero_level, succ_level, max_level, imax_level, param, level_discrete, tree_discrete, wide}
use Rattle.lk_store.specs.Contents.{Contents, name_at, level_at, tree_at}
use Rattle.lk_trim.specs.declared.numbers.Numbers.{Numbers}
use Rattle.lk_trim.specs.Written.{place, stands, number_at}
use Rattle.lk_trim.specs.Numbering.{place_in, from_one}
use Rattle.lk_trim.specs.Names.{has_name, name_number}
use Rattle.lk_trim.specs.Levels.{has_level, level_number}
use Rattle.lk_trim.specs.Trees.{has_tree, tree_number}
use Rattle.lk_trim.specs.Stored.{written_at, AreNumbersIn, is_anonymous, is_zero}
use Rattle.lk_trim.proofs.Places.{place_by, place_behind, place_first, later_number, later_stands}

anonymous_is : (x : Name) → is_anonymous x ≡ true → [] ≡ x
anonymous_is [] e = refl
anonymous_is (p ∷ ps) e = absurd cc

zero_is : (l : Level) → is_zero l ≡ true → zero_level ≡ l
zero_is zero_level e = refl
zero_is (succ_level l) e = absurd cc
zero_is (max_level l m) e = absurd cc
zero_is (imax_level l m) e = absurd cc
zero_is (param n) e = absurd cc

both : {A : Type 0} (f : A → Bool) (x y : A) → f x ≡ true → f y ≡ false → x ≡ y → ⊥
both f x y t s e = let d : true ≡ false = sym t ∙ ap f e ∙ s in absurd cc

module _ (c : Contents) (n : Numbers) (k : AreNumbersIn c n) where
  module _ (x : ℕ) (l : x < length c.names) (b : is_anonymous (name_at c x) ≡ false) where
    name_place : place name_discrete (written_at c n).names (name_at c x) ≡ option_map suc (place_in n.names x)
    name_place = place_behind name_discrete [] (map (name_at c) n.names) (name_at c x) (both is_anonymous [] (name_at c x) refl b) ∙ ap (option_map suc) (place_by name_discrete [] c.names k.names_apart n.names x k.names_in l)

    pub name_has : stands (place_in n.names x) ≡ has_name (written_at c n) (name_at c x)
    name_has = sym (ap stands name_place ∙ later_stands (place_in n.names x))

    pub name_numbered : from_one (place_in n.names x) ≡ name_number (written_at c n) (name_at c x)
    name_numbered = sym (ap number_at name_place ∙ later_number (place_in n.names x))

  module _ (x : ℕ) (b : is_anonymous (name_at c x) ≡ true) where
    anonymous_place : place name_discrete (written_at c n).names (name_at c x) ≡ place name_discrete (written_at c n).names []
    anonymous_place = ap (place name_discrete (written_at c n).names) (sym (anonymous_is (name_at c x) b))

    pub anonymous_has : true ≡ has_name (written_at c n) (name_at c x)
    anonymous_has = sym (ap stands (anonymous_place ∙ place_first name_discrete [] (map (name_at c) n.names)))

    pub anonymous_numbered : 0 ≡ name_number (written_at c n) (name_at c x)
    anonymous_numbered = sym (ap number_at (anonymous_place ∙ place_first name_discrete [] (map (name_at c) n.names)))

  module _ (x : ℕ) (l : x < length c.levels) (b : is_zero (level_at c x) ≡ false) where
    level_place : place level_discrete (written_at c n).levels (level_at c x) ≡ option_map suc (place_in n.levels x)
    level_place = place_behind level_discrete zero_level (map (level_at c) n.levels) (level_at c x) (both is_zero zero_level (level_at c x) refl b) ∙ ap (option_map suc) (place_by level_discrete zero_level c.levels k.interned.levels n.levels x k.levels_in l)

    pub level_has : stands (place_in n.levels x) ≡ has_level (written_at c n) (level_at c x)
    level_has = sym (ap stands level_place ∙ later_stands (place_in n.levels x))

    pub level_numbered : from_one (place_in n.levels x) ≡ level_number (written_at c n) (level_at c x)
    level_numbered = sym (ap number_at level_place ∙ later_number (place_in n.levels x))

  module _ (x : ℕ) (b : is_zero (level_at c x) ≡ true) where
    zero_place : place level_discrete (written_at c n).levels (level_at c x) ≡ place level_discrete (written_at c n).levels zero_level
    zero_place = ap (place level_discrete (written_at c n).levels) (sym (zero_is (level_at c x) b))

    pub zero_has : true ≡ has_level (written_at c n) (level_at c x)
    zero_has = sym (ap stands (zero_place ∙ place_first level_discrete zero_level (map (level_at c) n.levels)))

    pub zero_numbered : 0 ≡ level_number (written_at c n) (level_at c x)
    zero_numbered = sym (ap number_at (zero_place ∙ place_first level_discrete zero_level (map (level_at c) n.levels)))

  module _ (x : ℕ) (l : x < length c.trees) where
    tree_place : place tree_discrete (written_at c n).trees (tree_at c x) ≡ place_in n.trees x
    tree_place = place_by tree_discrete wide c.trees k.interned.trees n.trees x k.trees_in l

    pub tree_has : stands (place_in n.trees x) ≡ has_tree (written_at c n) (tree_at c x)
    tree_has = sym (ap stands tree_place)

    pub tree_numbered : number_at (place_in n.trees x) ≡ tree_number (written_at c n) (tree_at c x)
    tree_numbered = sym (ap number_at tree_place)
