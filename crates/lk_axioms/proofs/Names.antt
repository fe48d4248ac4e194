-- What a name gives, by the unit that gives it first.
use Rattle.std.proofs.Common.{ℕ, ◌≡◌, ◌+◌, ◌<◌, ◌≤◌, List, [], take, nat_lt, Option, Some, None, length, refl, sym, ap, subst, ◌∙◌, arith}
use Rattle.std.specs.Prelude.{option_map}
use Rattle.std.proofs.lemmas.Bool.{cond-true, cond-false, lt-ltb, le-ltb}
use Rattle.lk_tree.specs.Tree.{Name}
use Rattle.lk_rulebook.specs.Units.{Library, Found, first_giving}
use Rattle.lk_reach.specs.Axioms.{IsListOf, IsAxiomOf}
use Rattle.lk_env.specs.Places.{position_in, position_below}
use Rattle.lk_env.proofs.Given.{unit_is}
use Rattle.lk_env.proofs.Before.{position_before_is}
use Rattle.lk_axioms.specs.Lists.{set_at}
use Rattle.lk_axioms.specs.Gives.{NameGives, IsFinding, IsSetOfUnit}
use Rattle.lk_axioms.proofs.Listed.{none_listed, listed_as}

abbrev unit_of : Option Found → Option ℕ
unit_of o = option_map (λ (x : Found). x.unit) o

none_found : (o : Option Found) → unit_of o ≡ None → o ≡ None
none_found None e = refl
none_found (Some f) e = absurd cc

record IsFoundAt (o : Option Found) (u : ℕ) : Type 0 where
  found : Found
  is : o ≡ Some found
  at : found.unit ≡ u

some_found : (o : Option Found) (u : ℕ) → unit_of o ≡ Some u → IsFoundAt o u
some_found None u e = absurd cc
some_found (Some f) u e = record { found = f; is = refl; at = cc }

module _ (us : Library) (x : Name) where
  -- the unit that gives the name among the first m units
  unit_among : (m : ℕ) (o : Option (ℕ × ℕ)) → o ≡ position_in 0 us x → unit_of (first_giving 0 (take m us) x) ≡ option_map (λ (p : ℕ × ℕ). p.0) (position_below m o)
  unit_among m o e = unit_is (take m us) x ∙ ap (option_map (λ (p : ℕ × ℕ). p.0)) (position_before_is x us m ∙ ap (position_below m) (sym e))

  nothing : (m k : ℕ) → first_giving 0 (take m us) x ≡ None → NameGives us x m k → ⊥
  nothing m k e g = let d : Some g.found ≡ None = sym g.given ∙ e in absurd cc

  -- nobody gives it
  pub by_nobody : (n : ℕ) (sets : List (List ℕ)) (below : ℕ) → 0 < length sets → set_at sets 0 ≡ [] → None ≡ position_in 0 us x → IsFinding (NameGives us x) n sets (record { set = 0; below = below })
  by_nobody n sets below l e p = record {
    set_in = l;
    holds = λ m a b. subst (IsListOf (NameGives us x m)) (sym e) (none_listed (NameGives us x m) (λ k g. nothing m k (none_found (first_giving 0 (take m us) x) (unit_among m None p)) g));
  }

  module _ (u j : ℕ) (p : Some (u, j) ≡ position_in 0 us x) where
    -- it is given first by a unit that is not before the finding's
    pub by_later : (n : ℕ) (sets : List (List ℕ)) (below : ℕ) → below ≤ u + 1 → 0 < length sets → set_at sets 0 ≡ [] → IsFinding (NameGives us x) n sets (record { set = 0; below = below })
    by_later n sets below h l e = record {
      set_in = l;
      holds = λ m a b. subst (IsListOf (NameGives us x m)) (sym e) (none_listed (NameGives us x m) (λ k g. nothing m k (absent m (omega (arith, h, b))) g));
    }
      where
        absent : (m : ℕ) → m ≤ u → first_giving 0 (take m us) x ≡ None
        absent m s = none_found (first_giving 0 (take m us) x) (unit_among m (Some (u, j)) p ∙ ap (option_map (λ (q : ℕ × ℕ). q.0)) (cond-false (nat_lt u m) (Some (u, j)) None (le-ltb u m s)))

    -- it is given first by a unit before
    pub by_earlier : (n : ℕ) (sets : List (List ℕ)) (set below : ℕ) → u < n → IsSetOfUnit us sets u set → IsFinding (NameGives us x) n sets (record { set = set; below = below })
    by_earlier n sets set below l s = record { set_in = s.set_in; holds = λ m a b. listed_as (IsAxiomOf us u) (NameGives us x m) (set_at sets set) (to m (at m (omega (arith, l, a)))) (from m (at m (omega (arith, l, a)))) s.is_list }
      where
        at : (m : ℕ) → u < m → IsFoundAt (first_giving 0 (take m us) x) u
        at m h = some_found (first_giving 0 (take m us) x) u (unit_among m (Some (u, j)) p ∙ ap (option_map (λ (q : ℕ × ℕ). q.0)) (cond-true (nat_lt u m) (Some (u, j)) None (lt-ltb u m h)))

        to : (m : ℕ) → IsFoundAt (first_giving 0 (take m us) x) u → (k : ℕ) → IsAxiomOf us u k → NameGives us x m k
        to m f k h = record { found = f.found; given = f.is; is_axiom = subst (λ v. IsAxiomOf us v k) (sym f.at) h }

        from : (m : ℕ) → IsFoundAt (first_giving 0 (take m us) x) u → (k : ℕ) → NameGives us x m k → IsAxiomOf us u k
        from m f k g =
            let both : Some g.found ≡ Some f.found = sym g.given ∙ f.is in
            let same : g.found ≡ f.found = cc in
            subst (λ v. IsAxiomOf us v k) (ap (λ (y : Found). y.unit) same ∙ f.at) g.is_axiom
