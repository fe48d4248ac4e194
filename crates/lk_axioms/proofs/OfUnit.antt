-- The axioms of a unit are what its trees lead to, and itself where it is one.
use Rattle.std.proofs.Common.{ℕ, ◌≡◌, ◌⊎◌, inl, inr, true, false, [], ◌∷◌, Some, refl, sym, ap, subst, ◌∙◌, arith}
use Rattle.std.specs.Prelude.{slice_get}
use Rattle.std.specs.List.{Contains}
use Rattle.lk_rulebook.specs.Units.{Library, trees_of}
use Rattle.lk_reach.specs.Reach.{TreesMention, Mentions}
use Rattle.lk_reach.specs.Axioms.{is_axiom, IsAxiomUnit, IsAxiomOf, IsListOf}
use Rattle.lk_reach.proofs.Lists.{contains_cases}
use Rattle.lk_reach.proofs.Reached.{own_axiom, mentioned_axiom, only_axioms}
use Rattle.lk_store.specs.Contents.{Contents}
use Rattle.lk_env.specs.declared.unit.Unit.{Unit as StoredUnit}
use Rattle.lk_env.specs.Units.{unit_at}
use Rattle.lk_axioms.specs.declared.gathering.Gathering.{Gathering}
use Rattle.lk_axioms.specs.Lists.{set_at}
use Rattle.lk_axioms.specs.Gives.{TreesGive}
use Rattle.lk_axioms.specs.Gathered.{AreGathered, IsUnitGathered, HasItself}
use Rattle.lk_axioms.specs.Stated.{stated_numbers}
use Rattle.lk_axioms.proofs.Listed.{listed_as, union_listed, Keeps-trans}
use Rattle.lk_axioms.proofs.Left.{right_still}
use Rattle.lk_axioms.proofs.Numbers.{IsMentionedIn, stated_are, mentioned_in, mentions_there}

module _ (c : Contents) (us : Library) (n : ℕ) (u : StoredUnit) (stands : slice_get us n ≡ Some (unit_at c u)) where
  gives_axiom : (k : ℕ) → TreesGive c us (stated_numbers u) n k → IsAxiomOf us n k
  gives_axiom k t =
      let g = t.gives.gives in
      let said : TreesMention t.gives.name (trees_of (unit_at c u)) = mentions_there c t.gives.name (stated_numbers u) (trees_of (unit_at c u)) (stated_are c u) t.tree t.is_one t.gives.has in
      let m : Mentions us n g.found.unit = record { unit = unit_at c u; stands = stands; name = t.gives.name; has = said; found = g.found; given = g.given; is_from = refl } in
      mentioned_axiom us n g.found.unit k m g.is_axiom

  through_name : (m k : ℕ) → Mentions us n m → IsAxiomOf us m k → TreesGive c us (stated_numbers u) n k
  through_name m k s a =
      let both : Some s.unit ≡ Some (unit_at c u) = sym s.stands ∙ stands in
      let same : s.unit ≡ unit_at c u = cc in
      let said : TreesMention s.name (trees_of (unit_at c u)) = subst (λ v. TreesMention s.name (trees_of v)) same s.has in
      let i : IsMentionedIn c s.name (stated_numbers u) = mentioned_in c s.name (stated_numbers u) (trees_of (unit_at c u)) (stated_are c u) said in
      record {
        tree = i.tree;
        is_one = i.is_one;
        gives = record { name = s.name; has = i.has; gives = record { found = s.found; given = s.given; is_axiom = subst (λ x. IsAxiomOf us x k) (sym s.is_from) a } };
      }

  axiom_given : (k : ℕ) → IsAxiomOf us n k → ((n ≡ k) × IsAxiomUnit us n) ⊎ TreesGive c us (stated_numbers u) n k
  axiom_given k a = elim (only_axioms us n k a) [ inl h ↦ inl h | inr h ↦ inr (through_name h.0 k h.1 h.2) ]

  no_axiom : is_axiom (unit_at c u) ≡ false → IsAxiomUnit us n → ⊥
  no_axiom none a =
      let both : Some a.unit ≡ Some (unit_at c u) = sym a.stands ∙ stands in
      let same : a.unit ≡ unit_at c u = cc in
      let clash : true ≡ false = sym a.is_one ∙ ap is_axiom same ∙ none in
      absurd cc

  pub without_itself : (first g : Gathering) (set : ℕ) → is_axiom (unit_at c u) ≡ false → AreGathered c us n (stated_numbers u) first g set → IsUnitGathered c us n first g set
  without_itself first g set none a = record { right = a.right; keeps = a.keeps; unit_set = record { set_in = a.set_in; is_list = listed_as (TreesGive c us (stated_numbers u) n) (IsAxiomOf us n) (set_at g.sets set) gives_axiom from a.listed } }
    where
      from : (k : ℕ) → IsAxiomOf us n k → TreesGive c us (stated_numbers u) n k
      from k x = elim (axiom_given k x) [ inl h ↦ absurd (no_axiom none h.1) | inr t ↦ t ]

  pub with_itself : (first old new : Gathering) (set r : ℕ) → is_axiom (unit_at c u) ≡ true → AreGathered c us n (stated_numbers u) first old set → HasItself old.sets new.sets n set r
      → new.cells.items ≡ old.cells.items → new.units.items ≡ old.units.items → IsUnitGathered c us n first new r
  with_itself first old new set r one a h cells units = record {
    right = right_still c us n old new a.right h.keeps cells units;
    keeps = Keeps-trans first.sets old.sets new.sets a.keeps h.keeps;
    unit_set = record { set_in = h.set_in; is_list = union_listed (TreesGive c us (stated_numbers u) n) (λ k. n ≡ k) (IsAxiomOf us n) (set_at old.sets set) (n ∷ []) (set_at new.sets r) h.rising h.union a.listed own from gives_axiom itself_of };
  }
    where
      own : IsListOf (λ k. n ≡ k) (n ∷ [])
      own = record { rising = λ k l. absurd (omega (arith, l)); each = only; all = λ k e. (0, omega arith, e) }
        where
          only : (k : ℕ) → Contains (n ∷ []) k → n ≡ k
          only k i = elim (contains_cases n [] k i) [ inl e ↦ e | inr j ↦ absurd (omega (arith, j.1)) ]

      from : (k : ℕ) → IsAxiomOf us n k → TreesGive c us (stated_numbers u) n k ⊎ (n ≡ k)
      from k x = elim (axiom_given k x) [ inl i ↦ inr i.0 | inr t ↦ inl t ]

      itself_of : (k : ℕ) → n ≡ k → IsAxiomOf us n k
      itself_of k e = subst (IsAxiomOf us n) e (own_axiom us n (record { unit = unit_at c u; stands = stands; is_one = one }))
