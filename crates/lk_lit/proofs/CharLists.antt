-- Lists of characters, made from the last one on.
use Rattle.std.proofs.Common.{◌≡◌, ℕ, List, [], ◌∷◌, ◌++◌, refl, ap, ◌∙◌, arith}
use Rattle.lk_tree.specs.Tree.{Tree}
use Rattle.lk_rulebook.specs.Literals.{char_list}
use Rattle.lk_store.specs.Contents.{Contents, Extends, IsTree}
use Rattle.lk_lit.specs.declared.characters.Maker.{Maker}
use Rattle.lk_lit.specs.Characters.{prepended, IsMaker}

-- a list with these characters before it
abbrev pub all_prepended : List ℕ → Tree → Tree
all_prepended [] e = e
all_prepended (c ∷ cs) e = prepended c (all_prepended cs e)

pub all_prepended-nil : (cs : List ℕ) → all_prepended cs (char_list []) ≡ char_list cs
all_prepended-nil [] = refl
all_prepended-nil (c ∷ cs) = ap (prepended c) (all_prepended-nil cs)

pub all_prepended-push : (cs : List ℕ) (c : ℕ) (e : Tree) → all_prepended (cs ++ c ∷ []) e ≡ all_prepended cs (prepended c e)
all_prepended-push [] c e = refl
all_prepended-push (d ∷ cs) c e = ap (prepended d) (all_prepended-push cs c e)

tree_stays : (c d : Contents) (e : ℕ) (t : Tree) → Extends c d → IsTree c e t → IsTree d e t
tree_stays c d e t x h = record {
  known = let a = x.trees.longer in let b = h.known in omega arith;
  is = x.trees.same e h.known ∙ h.is;
}

pub maker_stays : (c d : Contents) (m : Maker) → Extends c d → IsMaker c m → IsMaker d m
maker_stays c d m x h = record {
  nil_is = tree_stays c d m.nil _ x h.nil_is;
  cons_is = tree_stays c d m.cons _ x h.cons_is;
  of_nat_is = tree_stays c d m.of_nat _ x h.of_nat_is;
}
