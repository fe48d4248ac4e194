-- What recursors of a block share, while the store grows.
use Rattle.std.proofs.Common.{◌≡◌, ℕ, List, map, length, ◌+◌, ap, sym, subst, ◌∙◌, arith}
use Rattle.std.specs.Prelude.{IfSome}
use Rattle.std.proofs.lemmas.Option.{IfSome_then}
use Rattle.lk_tree.specs.Tree.{Level, Tree, param}
use Rattle.lk_store.specs.Contents.{Contents, Extends, IsList}
use Rattle.lk_spine.specs.Reading.{AreTrees}
use Rattle.lk_subst.specs.Numbers.{trees-steady, trees-known}
use Rattle.lk_block.specs.declared.shape.Shape.{Shape}
use Rattle.lk_block.specs.Shapes.{shape_at, IsShapeIn}
use Rattle.lk_env.proofs.Stays.{names_stay, names_in_stay}
use Rattle.lk_block.proofs.Shaping.{shape-steady}
use Rattle.lk_inductive.specs.Block as plain
use Rattle.lk_inductive.specs.Recursors.{Restoring, shape_bound, rec_params, motives, minors, recursors_by}
use Rattle.lk_recursor.specs.declared.heads.Heads.{Heads}
use Rattle.lk_recursor.specs.declared.front.Front.{Front}
use Rattle.lk_restore.specs.Originals.{AreOriginals, restoring_at}
use Rattle.lk_restore.specs.Steady.{originals-stay, restoring-steady}
use Rattle.lk_recursor.specs.Fronts.{AreHeads, IsFront, read_by, own_recursors}
use Rattle.lk_recursor.specs.declared.recursive.Heading.{Heading}
use Rattle.lk_recursor.specs.declared.recursive.Heading.TheVariants.{Motives, Recursors}
use Rattle.lk_recursor.specs.Recursive.{IsHeading}
use Rattle.lk_recursor.specs.Telescopes.{IsFrontTelescope}
use Rattle.lk_recursor.proofs.Telescopes.{front_telescope-steady}

module _ (c d : Contents) (grown : Extends c d) where
  pub list-steady : (l : ℕ) (levels : List Level) → IsList c l levels → IsList d l levels
  list-steady l levels h = record { known = (let longer = grown.lists.longer in let known = h.known in omega arith); is = grown.lists.same l h.known ∙ h.is }

  pub AreTrees-steady : (es : List ℕ) (ts : List Tree) → AreTrees c es ts → AreTrees d es ts
  AreTrees-steady es ts h = record { known = trees-known c d es grown h.known; are = trees-steady c d es grown h.known ∙ h.are }

  pub levels-steady : (s : Shape) (l : ℕ) → IsShapeIn c s → IsList c l (map param (shape_at c s).levels) → IsList d l (map param (shape_at d s).levels)
  levels-steady s l known was =
      subst (λ (p : plain.Shape). IsList d l (map param p.levels)) (sym (shape-steady c d grown s known)) (list-steady l (map param (shape_at c s).levels) was)

  pub heads-steady : (s : Shape) (h : Heads) → IsShapeIn c s → AreHeads c s h → AreHeads d s h
  heads-steady s h known was =
      let same = sym (shape-steady c d grown s known) in
      record {
        own_levels_are = subst (λ (p : plain.Shape). IsList d h.own_levels (map param p.levels)) same (list-steady h.own_levels (map param (shape_at c s).levels) was.own_levels_are);
        motives_are = subst (λ (p : plain.Shape). AreTrees d h.motives.items (motives p)) same (AreTrees-steady h.motives.items (motives (shape_at c s)) was.motives_are);
      }

  pub front-steady : (s : Shape) (f : Front) → IsShapeIn c s → IsFront c s f → IsFront d s f
  front-steady s f known was =
      let same = sym (shape-steady c d grown s known) in
      record {
        heads_are = heads-steady s f.heads known was.heads_are;
        names_in = names_in_stay c d grown f.names.items was.names_in;
        names_are = names_stay c d grown f.names.items was.names_in ∙ was.names_are ∙ ap rec_params same;
        levels_are = subst (λ (p : plain.Shape). IsList d f.levels (map param (rec_params p))) same (list-steady f.levels (map param (rec_params (shape_at c s))) was.levels_are);
        minors_are = subst (λ (p : plain.Shape). AreTrees d f.minors.items (minors p)) same (AreTrees-steady f.minors.items (minors (shape_at c s)) was.minors_are);
        originals_are = subst (λ (p : plain.Shape). AreOriginals d p f.originals.now) same (originals-stay c d grown (shape_at c s) f.originals.now was.originals_are);
        telescope_is =
            subst (λ (p : plain.Shape). IfSome f.telescope (IsFrontTelescope d p f.originals.now)) same
            (IfSome_then f.telescope was.telescope_is (λ t h. front_telescope-steady c d grown (shape_at c s) f.originals.now t h));
        major_is = subst (λ (p : plain.Shape). f.major ≡ shape_bound p + (length p.types + length (minors p))) same was.major_is;
      }

  pub heading-steady : (s : Shape) (h : Heading) → IsShapeIn c s → IsHeading c s h → IsHeading d s h
  heading-steady s (Motives h) known was = heads-steady s h.now known was
  heading-steady s (Recursors f) known was = front-steady s f.now known was

  -- names and trees are read back as before
  pub read_by-steady : (s : Shape) (f : Front) → IsShapeIn c s → IsFront c s f → read_by d s f ≡ read_by c s f
  read_by-steady s f known was = ap (restoring_at d f.originals.now) (shape-steady c d grown s known) ∙ restoring-steady c d grown (shape_at c s) f.originals.now was.originals_are

  pub own_recursors-steady : (s : Shape) (f : Front) → IsShapeIn c s → IsFront c s f → own_recursors d s f ≡ own_recursors c s f
  own_recursors-steady s f known was = ap (λ (w : Restoring). recursors_by w (shape_at d s)) (read_by-steady s f known was) ∙ ap (recursors_by (read_by c s f)) (shape-steady c d grown s known)
