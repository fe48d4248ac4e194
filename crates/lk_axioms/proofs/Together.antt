-- What several trees lead to, and the unit that states them.
use Rattle.std.proofs.Common.{ℕ, ◌≡◌, ◌+◌, ◌<◌, ◌⊎◌, inl, inr, List, [], ◌∷◌, ◌++◌, take, length, get_or, sym, subst, arith}
use Rattle.std.proofs.lemmas.List.{take_more}
use Rattle.std.proofs.lemmas.List.Elements.{Contains-append_left, Contains-push, Contains-push_cases}
use Rattle.lk_rulebook.specs.Units.{Library}
use Rattle.lk_reach.specs.Axioms.{IsListOf}
use Rattle.lk_store.specs.Contents.{Contents, tree_at}
use Rattle.lk_axioms.specs.declared.gathering.Gathering.{Gathering}
use Rattle.lk_axioms.specs.Lists.{set_at, IsUnited}
use Rattle.lk_axioms.specs.Gives.{TreeGives, TreesGive, cell_at, IsFinding}
use Rattle.lk_axioms.specs.Gathered.{IsRight, IsLeft, AreGathered}
use Rattle.lk_axioms.proofs.Listed.{none_listed, union_listed, Keeps-trans, Keeps-refl}
use Rattle.lk_axioms.proofs.Left.{right_still}

module _ (c : Contents) (us : Library) (n : ℕ) where
  pub none_gathered : (g : Gathering) → IsRight c us n g → AreGathered c us n [] g g 0
  none_gathered g r = record {
    right = r;
    keeps = Keeps-refl g.sets;
    set_in = r.has_empty.empty_in;
    listed = subst (IsListOf (TreesGive c us [] n)) (sym r.has_empty.empty) (none_listed (TreesGive c us [] n) (λ k t. omega (arith, t.is_one.1)));
  }

  -- one more tree
  module _ (es : List ℕ) (e : ℕ) where
    from : (k : ℕ) → TreesGive c us (es ++ e ∷ []) n k → TreesGive c us es n k ⊎ TreeGives us (tree_at c e) n k
    from k t = elim (Contains-push_cases es e t.tree t.is_one) [
      | inl i ↦ inl (record { tree = t.tree; is_one = i; gives = t.gives })
      | inr i ↦ inr (subst (λ x. TreeGives us (tree_at c x) n k) (sym i) t.gives)
    ]

    left : (k : ℕ) → TreesGive c us es n k → TreesGive c us (es ++ e ∷ []) n k
    left k t = record { tree = t.tree; is_one = Contains-append_left es (e ∷ []) t.tree t.is_one; gives = t.gives }

    right : (k : ℕ) → TreeGives us (tree_at c e) n k → TreesGive c us (es ++ e ∷ []) n k
    right k t = record { tree = e; is_one = Contains-push es e; gives = t }

    one_more : (first old mid new : Gathering) (used r : ℕ) → AreGathered c us n es first old used → e < length c.trees → IsLeft c us n e old mid → IsUnited mid.sets new.sets used (cell_at mid.cells.items e).set r
        → new.cells.items ≡ mid.cells.items → new.units.items ≡ mid.units.items → AreGathered c us n (es ++ e ∷ []) first new r
    one_more first old mid new used r a l m u cells units =
        let found : IsFinding (TreeGives us (tree_at c e)) n mid.sets (cell_at mid.cells.items e) = m.right.cells e l in
        let before : IsListOf (TreesGive c us es n) (set_at mid.sets used) = subst (IsListOf (TreesGive c us es n)) (sym (m.keeps.same used a.set_in)) a.listed in
        record {
          right = right_still c us n mid new m.right u.keeps cells units;
          keeps = Keeps-trans first.sets mid.sets new.sets (Keeps-trans first.sets old.sets mid.sets a.keeps m.keeps) u.keeps;
          set_in = u.set_in;
          listed = union_listed (TreesGive c us es n) (TreeGives us (tree_at c e) n) (TreesGive c us (es ++ e ∷ []) n) (set_at mid.sets used) (set_at mid.sets (cell_at mid.cells.items e).set) (set_at new.sets r)
              u.rising u.union before (found.holds n (omega arith) m.known) from left right;
        }

  pub gathered_more : (es : List ℕ) (i : ℕ) (first old mid new : Gathering) (used r : ℕ) → i < length es → AreGathered c us n (take i es) first old used → get_or es i 0 < length c.trees → IsLeft c us n (get_or es i 0) old mid
      → IsUnited mid.sets new.sets used (cell_at mid.cells.items (get_or es i 0)).set r → new.cells.items ≡ mid.cells.items → new.units.items ≡ mid.units.items → AreGathered c us n (take (i + 1) es) first new r
  gathered_more es i first old mid new used r l a inside m u cells units =
      subst (λ xs. AreGathered c us n xs first new r) (sym (take_more es i 0 l)) (one_more (take i es) (get_or es i 0) first old mid new used r a inside m u cells units)
