-- What stays where a store grows.
use Rattle.std.proofs.Common.{ℕ, ◌≡◌, ◌<◌, ◌≤◌, length, sym, subst, ◌∙◌, ap, arith}
use Rattle.lk_tree.specs.Tree.{Tree}
use Rattle.lk_rulebook.specs.Place.{Place}
use Rattle.lk_store.specs.Contents.{Contents, tree_at, Extends}
use Rattle.lk_store.proofs.Extending.{Extends-trans}
use Rattle.lk_ask.specs.Looks.{Sight}
use Rattle.lk_step.specs.Told.{Leaves}

module _ {S R B : Type 0} {contents : S → Contents} {rest : S → R} {sight : R → Sight B} where
  pub leaves_on : {a b c : S} → Leaves contents rest sight a b → Leaves contents rest sight b c → Leaves contents rest sight a c
  leaves_on {a} {b} {c} x y = record {
    keeps = Extends-trans (contents a) (contents b) (contents c) x.keeps y.keeps;
    library = y.library ∙ x.library;
    place = y.place ∙ x.place;
    beside = y.beside ∙ x.beside;
  }

  pub tree_stays : {a b : S} → Leaves contents rest sight a b → (e : ℕ) → e < length (contents a).trees → tree_at (contents b) e ≡ tree_at (contents a) e
  tree_stays x e h = x.keeps.trees.same e h

  pub tree_in : {a b : S} → Leaves contents rest sight a b → (e : ℕ) → e < length (contents a).trees → e < length (contents b).trees
  tree_in {a} {b} x e h = let longer : length (contents a).trees ≤ length (contents b).trees = x.keeps.trees.longer in omega (arith, longer, h)

  -- what is said of trees before is said of them after, and the other way round
  pub moved1 : {a b : S} → Leaves contents rest sight a b → (P : Place → Tree → Type 0) (e : ℕ) → e < length (contents a).trees
      → P (sight (rest a)).basis.place (tree_at (contents a) e) → P (sight (rest b)).basis.place (tree_at (contents b) e)
  moved1 {a} {b} x P e h p =
      subst (λ w. P w (tree_at (contents b) e)) (sym x.place) (subst (λ t. P (sight (rest a)).basis.place t) (sym (tree_stays x e h)) p)

  pub moved2 : {a b : S} → Leaves contents rest sight a b → (P : Place → Tree → Tree → Type 0) (e f : ℕ) → e < length (contents a).trees → f < length (contents a).trees
      → P (sight (rest a)).basis.place (tree_at (contents a) e) (tree_at (contents a) f) → P (sight (rest b)).basis.place (tree_at (contents b) e) (tree_at (contents b) f)
  moved2 {a} {b} x P e f h i p =
      subst (λ t. P (sight (rest b)).basis.place (tree_at (contents b) e) t) (sym (tree_stays x f i)) (moved1 x (λ w t. P w t (tree_at (contents a) f)) e h p)

  pub back1 : {a b : S} → Leaves contents rest sight a b → (P : Place → Tree → Type 0) (e : ℕ) → e < length (contents a).trees
      → P (sight (rest b)).basis.place (tree_at (contents b) e) → P (sight (rest a)).basis.place (tree_at (contents a) e)
  back1 {a} {b} x P e h p =
      subst (λ w. P w (tree_at (contents a) e)) x.place (subst (λ t. P (sight (rest b)).basis.place t) (tree_stays x e h) p)

  pub back2 : {a b : S} → Leaves contents rest sight a b → (P : Place → Tree → Tree → Type 0) (e f : ℕ) → e < length (contents a).trees → f < length (contents a).trees
      → P (sight (rest b)).basis.place (tree_at (contents b) e) (tree_at (contents b) f) → P (sight (rest a)).basis.place (tree_at (contents a) e) (tree_at (contents a) f)
  back2 {a} {b} x P e f h i p =
      subst (λ t. P (sight (rest a)).basis.place (tree_at (contents a) e) t) (tree_stays x f i) (back1 x (λ w t. P w t (tree_at (contents b) f)) e h p)

-- what only makes terms
pub leaves_made : {S R B : Type 0} (contents : S → Contents) (rest : S → R) (sight : R → Sight B) (a b : S) → Extends (contents a) (contents b) → rest b ≡ rest a → Leaves contents rest sight a b
leaves_made contents rest sight a b x e = record {
  keeps = x;
  library = ap (λ r. (sight r).basis.library) e;
  place = ap (λ r. (sight r).basis.place) e;
  beside = ap (λ r. (sight r).basis.beside) e;
}
