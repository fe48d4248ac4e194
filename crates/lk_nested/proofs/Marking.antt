-- What is marked of trees, and of trees without foreign Locals, stays true while the store grows.
use Rattle.std.proofs.Common.{ℕ, ◌<◌, List, [], length, map, All, ap, sym, subst, ◌∙◌, arith}
use Rattle.std.proofs.lemmas.List.Elements.{All-weaker}
use Rattle.lk_tree.specs.Tree.{Name, Tree}
use Rattle.lk_tree.specs.Mentions.{mentions}
use Rattle.lk_store.specs.Contents.{Contents, tree_at, Extends}
use Rattle.lk_subst.specs.Numbers.{values-steady, trees-steady}
use Rattle.lk_mentions.specs.declared.part.Met.{Met}
use Rattle.lk_mentions.specs.Names.{names_at}
use Rattle.lk_nested.specs.declared.marks.Mark.{Mark}
use Rattle.lk_nested.specs.Foreign.{has_foreign, IsOwn, AreOwn}
use Rattle.lk_nested.specs.Marks.{IsMark, AreMarked}

module _ (c d : Contents) (x : Extends c d) where
  mark_stays : (ns : List Name) (m : Mark) → IsMark c ns m → IsMark d ns m
  mark_stays ns m h = record {
    known = (let l = h.known in let longer = x.trees.longer in omega arith);
    is = h.is ∙ ap (mentions ns) (sym (x.trees.same m.tree h.known));
  }

  pub marks_stay : (ks : List ℕ) → All (λ n. n < length c.names) ks → (marks : List Mark) → AreMarked c (names_at c ks) marks → AreMarked d (names_at d ks) marks
  marks_stay ks known marks h =
      subst (λ ns. AreMarked d ns marks) (sym (values-steady [] c.names d.names ks x.names known)) (All-weaker (IsMark c (names_at c ks)) (IsMark d (names_at c ks)) (mark_stays (names_at c ks)) marks h)

  own_stays : (ps : List Tree) (m : Met) → IsOwn ps c m → IsOwn ps d m
  own_stays ps m h = record {
    known = (let l = h.known in let longer = x.trees.longer in omega arith);
    own = ap (has_foreign ps) (x.trees.same m.tree h.known) ∙ h.own;
  }

  pub owns_stay : (es : List ℕ) → All (λ e. e < length c.trees) es → (met : List Met) → AreOwn (map (tree_at c) es) c met → AreOwn (map (tree_at d) es) d met
  owns_stay es known met h =
      subst (λ ps. AreOwn ps d met) (sym (trees-steady c d es x known)) (All-weaker (IsOwn (map (tree_at c) es) c) (IsOwn (map (tree_at c) es) d) (own_stays (map (tree_at c) es)) met h)
