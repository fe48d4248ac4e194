-- The pairs of a structure's fields: what is asked of them, and what is claimed.
use Rattle.std.proofs.Common.{ℕ, suc, ◌≡◌, ◌<◌, ◌≤◌, true, List, [], ◌∷◌, length, drop, refl, ◌∙◌, ap, subst, arith}
use Rattle.lk_tree.specs.Tree.{Name, Tree, proj}
use Rattle.lk_tree.specs.Spine.{args}
use Rattle.lk_rulebook.specs.Place.{Place}
use Rattle.lk_rulebook.specs.Structures.{projections}
use Rattle.lk_rulebook.specs.Claims.{equals}
use Rattle.lk_questions.specs.Query.{same}
use Rattle.lk_questions.specs.Eta.{same_fields}
use Rattle.lk_store.specs.Contents.{Contents, name_at, tree_at, Extends}
use Rattle.lk_ask.specs.declared.sheet.Pair.{Pair}
use Rattle.lk_ask.specs.Lines.{lefts, rights}
use Rattle.lk_ask.specs.Looks.{Sight}
use Rattle.lk_ask.proofs.Sheets.{pairs_steady, pairs_known}
use Rattle.lk_constructor.specs.declared.constructor.AppliedConstructor.{AppliedConstructor}
use Rattle.lk_eta.specs.Fields.{ArePairs}
use Rattle.lk_eta.proofs.Pairing.{pairs_are}
use Rattle.lk_step.specs.Equal.{argument_claims, field_claims}
use Rattle.lk_step.specs.Pairs.{same_pairs, pairs_at, same_asks}
use Rattle.lk_step.specs.Told.{Leaves, IsType, IsSame}
use Rattle.lk_step.proofs.Moving.{moved1, moved2, tree_in}
use Rattle.lk_derive_eta.specs.declared.structures.Typed.{Typed}
use Rattle.lk_derive_eta.specs.Structures.{IsFull, IsFullApp, AreTyped, AreFields}
use Rattle.lk_derive_eta.proofs.StructureLine.{field_asks}

asks_each : (J : Name) (a : Tree) (j : ℕ) (xs : List Tree) → same_asks (projections J a j (length xs)) xs ≡ field_asks J a j xs
asks_each J a j [] = refl
asks_each J a j (x ∷ xs) = ap (λ qs. same (proj J j a) x ∷ qs) (asks_each J a (suc j) xs)

claims_each : (J : Name) (a : Tree) (j : ℕ) (xs : List Tree) → argument_claims (projections J a j (length xs)) xs ≡ field_claims J a j xs
claims_each J a j [] = refl
claims_each J a j (x ∷ xs) = ap (λ cs. equals (proj J j a) x ∷ cs) (claims_each J a (suc j) xs)

module _ (c : Contents) (J : Name) (a : Tree) (xs : List Tree) (ps : List (Pair ℕ)) (h : ArePairs c J a xs ps) where
  pub pair_program : same_pairs (pairs_at c ps) ≡ same_fields J a 0 xs
  pair_program = pairs_are c J a xs ps h

  pub pair_asks : same_asks (lefts (pairs_at c ps)) (rights (pairs_at c ps)) ≡ field_asks J a 0 xs
  pair_asks = ap (λ ys. same_asks ys (rights (pairs_at c ps))) h.lefts_are ∙ (ap (λ zs. same_asks (projections J a 0 (length xs)) zs) h.rights_are ∙ asks_each J a 0 xs)

  pub pair_claims : argument_claims (lefts (pairs_at c ps)) (rights (pairs_at c ps)) ≡ field_claims J a 0 xs
  pair_claims = ap (λ ys. argument_claims ys (rights (pairs_at c ps))) h.lefts_are ∙ (ap (λ zs. argument_claims (projections J a 0 (length xs)) zs) h.rights_are ∙ claims_each J a 0 xs)

  -- they stay so
  pub pairs_stay : (d : Contents) → Extends c d → ArePairs d J a xs ps
  pairs_stay d x =
      let steady : pairs_at d ps ≡ pairs_at c ps = pairs_steady x ps h.pairs_in in
      record { pairs_in = pairs_known x ps h.pairs_in; lefts_are = ap lefts steady ∙ h.lefts_are; rights_are = ap rights steady ∙ h.rights_are }

-- by the constructor's own numbers
pub fields_there : (w : Place) (d m : Contents) (a b : Tree) (u : AppliedConstructor) (h : IsFullApp w d b u) (ps : List (Pair ℕ)) → ArePairs m (name_at d u.inductive) a (drop u.parameters (args b)) ps → AreFields w a b m ps
fields_there w d m a b u h ps k = record {
  ctor = h.ctor;
  full = h.full;
  pairs = subst (λ J. ArePairs m J a (drop h.ctor.ctor.parameters (args b)) ps) h.inductive_is (subst (λ p. ArePairs m (name_at d u.inductive) a (drop p (args b)) ps) h.parameters_are k);
}

-- what is known of the two stays known
module _ {S R B : Type 0} {contents : S → Contents} {rest : S → R} {sight : R → Sight B} {x y : S} (l : Leaves contents rest sight x y) where
  pub typed_on : (a b : ℕ) (t : Typed) → a < length (contents x).trees → b < length (contents x).trees → AreTyped (sight (rest x)).basis.place (tree_at (contents x) a) (tree_at (contents x) b) (contents x) t
      → AreTyped (sight (rest y)).basis.place (tree_at (contents y) a) (tree_at (contents y) b) (contents y) t
  typed_on a b t a_in b_in h = record {
    left_in = tree_in l t.left h.left_in;
    right_in = tree_in l t.right h.right_in;
    left = moved2 l (λ w e f. IsType w e f) a t.left a_in h.left_in h.left;
    right = moved2 l (λ w e f. IsType w e f) b t.right b_in h.right_in h.right;
    same = moved2 l (λ w e f. IsSame w e f true) t.left t.right h.left_in h.right_in h.same;
  }

  pub full_on : (b : ℕ) (u : AppliedConstructor) → b < length (contents x).trees → IsFullApp (sight (rest x)).basis.place (contents x) (tree_at (contents x) b) u → IsFullApp (sight (rest y)).basis.place (contents y) (tree_at (contents y) b) u
  full_on b u b_in h =
      let longer : length (contents x).names ≤ length (contents y).names = l.keeps.names.longer in
      let inside : u.inductive < length (contents x).names = h.inductive_in in
      record {
        ctor = h.ctor;
        full = moved1 l (λ w e. IsFull w e h.ctor) b b_in h.full;
        inductive_in = omega (arith, longer, inside);
        inductive_is = l.keeps.names.same u.inductive h.inductive_in ∙ h.inductive_is;
        parameters_are = h.parameters_are;
      }
