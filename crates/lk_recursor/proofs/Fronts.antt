-- What all recursors share, put together, and Locals that bind a tree after one another.
use Rattle.std.proofs.Common.{◌≡◌, ◌<◌, ◌+◌, ℕ, List, map, length, All, ap, sym, subst, ◌∙◌}
use Rattle.std.specs.Prelude.{IfSome}
use Rattle.lk_tree.specs.Tree.{Tree, param}
use Rattle.lk_store.specs.Contents.{Contents, name_at, tree_at, Extends, IsList}
use Rattle.lk_spine.specs.Reading.{AreTrees}
use Rattle.lk_subst.specs.Numbers.{trees-steady}
use Rattle.lk_inductive.specs.Block as plain
use Rattle.lk_inductive.specs.Recursors.{shape_bound, rec_params, motives, minors}
use Rattle.lk_block.specs.declared.shape.Shape.{Shape}
use Rattle.lk_block.specs.Shapes.{shape_at}
use Rattle.lk_restore.specs.Originals.{AreOriginals}
use Rattle.lk_recursor.specs.declared.binders.Binder.{Binder}
use Rattle.lk_recursor.specs.Binders.{bound_by}
use Rattle.lk_recursor.specs.declared.heads.Heads.{Heads}
use Rattle.lk_recursor.specs.declared.front.Front.{Front}
use Rattle.lk_recursor.specs.Fronts.{AreHeads, IsFront}
use Rattle.lk_recursor.specs.Telescopes.{IsFrontTelescope}

module _ (c : Contents) (s : Shape) (p : plain.Shape) (same : shape_at c s ≡ p) where
  -- what was made for the same shape
  pub heads_made : (h : Heads) → IsList c h.own_levels (map param p.levels) → AreTrees c h.motives.items (motives p) → AreHeads c s h
  heads_made h levels motives_are = record {
    own_levels_are = subst (λ (q : plain.Shape). IsList c h.own_levels (map param q.levels)) (sym same) levels;
    motives_are = subst (λ (q : plain.Shape). AreTrees c h.motives.items (motives q)) (sym same) motives_are;
  }

  pub front_made : (f : Front) → AreHeads c s f.heads → All (λ n. n < length c.names) f.names.items → map (name_at c) f.names.items ≡ rec_params p → IsList c f.levels (map param (rec_params p))
      → AreTrees c f.minors.items (minors p) → f.major ≡ shape_bound p + (length p.types + length (minors p)) → AreOriginals c p f.originals.now
      → IfSome f.telescope (IsFrontTelescope c p f.originals.now) → IsFront c s f
  front_made f heads names_in names levels minors_are major originals_are telescope_is = record {
    heads_are = heads;
    names_in = names_in;
    names_are = names ∙ ap rec_params (sym same);
    levels_are = subst (λ (q : plain.Shape). IsList c f.levels (map param (rec_params q))) (sym same) levels;
    minors_are = subst (λ (q : plain.Shape). AreTrees c f.minors.items (minors q)) (sym same) minors_are;
    originals_are = subst (λ (q : plain.Shape). AreOriginals c q f.originals.now) (sym same) originals_are;
    telescope_is = subst (λ (q : plain.Shape). IfSome f.telescope (IsFrontTelescope c q f.originals.now)) (sym same) telescope_is;
    major_is = subst (λ (q : plain.Shape). f.major ≡ shape_bound q + (length q.types + length (minors q))) (sym same) major;
  }

-- Locals that are numbers of the store before, over a tree that is known
pub bound_then : (b : Binder) (c d : Contents) (grown : Extends c d) (given locals : List ℕ) (xs : List Tree) (made body inner : Tree) → given ≡ locals → AreTrees c locals xs
    → body ≡ inner → made ≡ bound_by b (map (tree_at d) given) body → made ≡ bound_by b xs inner
bound_then b c d grown given locals xs made body inner same known body_is is =
    is
    ∙ ap (λ ys. bound_by b (map (tree_at d) ys) body) same
    ∙ ap (λ ys. bound_by b ys body) (trees-steady c d locals grown known.known ∙ known.are)
    ∙ ap (bound_by b xs) body_is
