-- What is known stays known while sets come and findings are kept.
use Rattle.std.proofs.Common.{ℕ, ◌≡◌, ◌≢◌, ◌<◌, inl, inr, List, length, get_or, set, sym, ap, subst, ◌∙◌, arith, get_or-set_same, get_or-set_other}
use Rattle.std.proofs.lemmas.Bool.{cases_eq}
use Rattle.std.proofs.Math.ListN.{length-set}
use Rattle.lk_rulebook.specs.Units.{Library}
use Rattle.lk_reach.specs.Axioms.{IsAxiomList}
use Rattle.lk_store.specs.Contents.{Contents, tree_at, tree_of}
use Rattle.lk_store.specs.declared.node.Node.{Node}
use Rattle.lk_axioms.specs.declared.finding.Finding.{Finding}
use Rattle.lk_axioms.specs.declared.gathering.Gathering.{Gathering}
use Rattle.lk_axioms.specs.Lists.{HasEmptySet, Keeps}
use Rattle.lk_axioms.specs.Gives.{TreeGives, IsFinding, nowhere, cell_at, IsKnown, IsSetOfUnit}
use Rattle.lk_axioms.specs.Gathered.{IsRight, IsMade, IsLeft}
use Rattle.lk_axioms.specs.Walks.{IsNodeOf}
use Rattle.lk_axioms.proofs.Listed.{still}

-- sets have come
pub set_still : (us : Library) (m set : ℕ) (old new : List (List ℕ)) → Keeps old new → IsSetOfUnit us old m set → IsSetOfUnit us new m set
set_still us m set old new k s = record { set_in = omega (arith, s.set_in, k.longer); is_list = subst (λ ks. IsAxiomList us m ks) (sym (k.same set s.set_in)) s.is_list }

pub right_still : (c : Contents) (us : Library) (n : ℕ) (old new : Gathering) → IsRight c us n old → Keeps old.sets new.sets → new.cells.items ≡ old.cells.items → new.units.items ≡ old.units.items → IsRight c us n new
right_still c us n old new r k cells units = record {
  has_empty = record { empty_in = omega (arith, r.has_empty.empty_in, k.longer); empty = k.same 0 r.has_empty.empty_in ∙ r.has_empty.empty };
  one_each = ap length cells ∙ r.one_each;
  cells = λ e l. subst (λ f. IsFinding (TreeGives us (tree_at c e)) n new.sets f) (sym (ap (λ xs. cell_at xs e) cells)) (still (TreeGives us (tree_at c e)) n old.sets new.sets (cell_at old.cells.items e) k (r.cells e l));
  count = ap length units ∙ r.count;
  units = λ m l. subst (IsSetOfUnit us new.sets m) (sym (ap (λ xs. get_or xs m 0) units)) (set_still us m (get_or old.units.items m 0) old.sets new.sets k (r.units m l));
}

-- the finding of a tree is kept
module _ (c : Contents) (us : Library) (n : ℕ) (old mid new : Gathering) (e : ℕ) (d : Node) (f : Finding)
    (r : IsRight c us n old) (i : IsNodeOf c e d) (m : IsMade (TreeGives us (tree_of c d)) n old mid f)
    (sets : new.sets ≡ mid.sets) (cells : new.cells.items ≡ set mid.cells.items e f) (units : new.units.items ≡ mid.units.items) where
  mid_right : IsRight c us n mid
  mid_right = right_still c us n old mid r m.keeps m.cells m.units

  inside : e < length mid.cells.items
  inside = omega (arith, i.tree_in, mid_right.one_each)

  here : cell_at new.cells.items e ≡ f
  here = ap (λ xs. cell_at xs e) cells ∙ get_or-set_same mid.cells.items e f nowhere inside

  there : (q : ℕ) → q ≢ e → cell_at new.cells.items q ≡ cell_at mid.cells.items q
  there q ne = ap (λ xs. cell_at xs q) cells ∙ get_or-set_other mid.cells.items e q f nowhere ne

  finds : (q : ℕ) → q < length c.trees → IsFinding (TreeGives us (tree_at c q)) n mid.sets (cell_at new.cells.items q)
  finds q l = elim (cases_eq q e) [
    | inl s ↦
        let own : IsFinding (TreeGives us (tree_at c e)) n mid.sets f = subst (λ t. IsFinding (TreeGives us t) n mid.sets f) i.tree m.finding in
        subst (λ x. IsFinding (TreeGives us (tree_at c x)) n mid.sets (cell_at new.cells.items x)) (sym s) (subst (IsFinding (TreeGives us (tree_at c e)) n mid.sets) (sym here) own)
    | inr s ↦ subst (IsFinding (TreeGives us (tree_at c q)) n mid.sets) (sym (there q s)) (mid_right.cells q l)
  ]

  kept_right : IsRight c us n new
  kept_right = record {
    has_empty = subst HasEmptySet (sym sets) mid_right.has_empty;
    one_each = ap length cells ∙ length-set mid.cells.items e f ∙ mid_right.one_each;
    cells = λ q l. subst (λ x. IsFinding (TreeGives us (tree_at c q)) n x (cell_at new.cells.items q)) (sym sets) (finds q l);
    count = ap length units ∙ mid_right.count;
    units = λ k l. subst (λ x. IsSetOfUnit us x k (get_or new.units.items k 0)) (sym sets) (subst (IsSetOfUnit us mid.sets k) (sym (ap (λ xs. get_or xs k 0) units)) (mid_right.units k l));
  }

  known_here : IsKnown n new.cells.items e
  known_here = subst (λ x. n < x.below) (sym here) m.known

  stays : (q : ℕ) → IsKnown n old.cells.items q → IsKnown n new.cells.items q
  stays q k = elim (cases_eq q e) [
    | inl s ↦ subst (IsKnown n new.cells.items) (sym s) known_here
    | inr s ↦ subst (λ x. n < x.below) (sym (there q s ∙ ap (λ xs. cell_at xs q) m.cells)) k
  ]

  pub left : IsLeft c us n e old new
  left = record { right = kept_right; keeps = subst (Keeps old.sets) (sym sets) m.keeps; stays = stays; known = known_here }
