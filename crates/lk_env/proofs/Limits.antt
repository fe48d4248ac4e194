-- The own budgets of units, noted line by line.
use Rattle.std.proofs.Common.{◌≡◌, ℕ, suc, ◌+◌, ◌<◌, List, [], ◌∷◌, length, get_or, drop, Option, Some, None, refl, ap, sym, ◌∙◌, subst, add-one, arith}
use Rattle.std.specs.Prelude.{IfSome, option_map, slice_index_or, min}
use Rattle.std.proofs.Math.Seq.{drop-cons, drop-length}
use Rattle.std.proofs.lemmas.List.{length-map}
use Rattle.std.proofs.lemmas.List.Elements.{All-get_or}
use Rattle.lk_tree.specs.Tree.{Name}
use Rattle.lk_rulebook.specs.Units.{Library, members_of}
use Rattle.lk_store.specs.Contents.{Contents, name_at}
use Rattle.lk_env.specs.declared.budget.Budget.{Budget}
use Rattle.lk_env.specs.declared.position.Position.{Position}
use Rattle.lk_env.specs.declared.unit.Unit.{Unit as StoredUnit}
use Rattle.lk_env.specs.Units.{library_at, unit_at}
use Rattle.lk_env.specs.Places.{member_in, first_place, at_member, position_in}
use Rattle.lk_env.specs.Index.{pair_of, IsIndex}
use Rattle.lk_env.specs.Budgets.{lesser, steps_of, first_unit, stated_of, own_budget, budget_at, budgets_at, limit_at, AreBudgetsIn, AreLimits}
use Rattle.lk_env.proofs.Given.{unit_is}

lesser_none : (n : Option ℕ) → lesser n None ≡ n
lesser_none None = refl
lesser_none (Some n) = refl

lesser_assoc : (k m n : Option ℕ) → lesser (lesser k m) n ≡ lesser k (lesser m n)
lesser_assoc None m n = refl
lesser_assoc (Some k) None n = refl
lesser_assoc (Some k) (Some m) None = refl
lesser_assoc (Some k) (Some m) (Some n) =
    let e : min (min k m) n ≡ min k (min m n) = omega arith in ap Some e

-- the unit of a place is one of the list
abbrev pub IsBelow : ℕ → Option (ℕ × ℕ) → Type 0
IsBelow n None = Unit {0}
IsBelow n (Some p) = p.0 < n

below_later : (n i : ℕ) (o : Option (ℕ × ℕ)) → IsBelow (suc i + n) o → IsBelow (i + suc n) o
below_later n i o h = let e : suc i + n ≡ i + suc n = omega arith in subst (λ m. IsBelow m o) e h

below_first : (n i : ℕ) (o : Option ℕ) (later : Option (ℕ × ℕ)) → IsBelow (i + suc n) later → IsBelow (i + suc n) (first_place (at_member i o) later)
below_first n i None later h = h
below_first n i (Some j) later h = omega arith

position_below_all : (x : Name) (us : Library) (i : ℕ) → IsBelow (i + length us) (position_in i us x)
position_below_all x [] i = tt
position_below_all x (u ∷ us) i =
    below_first (length us) i (member_in 0 (members_of u) x) (position_in (suc i) us x)
    (below_later (length us) i (position_in (suc i) us x) (position_below_all x us (suc i)))

below_pair : (n : ℕ) (o : Option Position) → IsBelow n (option_map pair_of o) → IfSome o (λ p. p.unit < n)
below_pair n None h = tt
below_pair n (Some p) h = h

unit_of_pair : (o : Option Position) → option_map (λ (p : ℕ × ℕ). p.0) (option_map pair_of o) ≡ option_map (λ (p : Position). p.unit) o
unit_of_pair None = refl
unit_of_pair (Some p) = refl

-- Cells of an index.
module _ (c : Contents) (us : List StoredUnit) (cells : List (Option Position)) (index : IsIndex c us cells) (x : ℕ) (known : x < length c.names) where
  pub unit_is_below : IfSome (slice_index_or cells x None) (λ p. p.unit < length us)
  unit_is_below =
      let zero_plus : 0 + length (library_at c us) ≡ length (library_at c us) = omega arith in
      let e : 0 + length (library_at c us) ≡ length us = zero_plus ∙ length-map us (unit_at c) in
      below_pair (length us) (slice_index_or cells x None)
      (rw (index.right x known) (subst (λ n. IsBelow n (position_in 0 (library_at c us) (name_at c x))) e (position_below_all (name_at c x) (library_at c us) 0)))

  pub unit_is_first : option_map (λ (p : Position). p.unit) (slice_index_or cells x None) ≡ first_unit (library_at c us) (name_at c x)
  unit_is_first =
      sym (unit_of_pair (slice_index_or cells x None))
      ∙ ap (option_map (λ (p : ℕ × ℕ). p.0)) (index.right x known)
      ∙ sym (unit_is (library_at c us) (name_at c x))

-- Limits that the first i lines are noted in.
pub record AreLimitsUpTo (c : Contents) (us : List StoredUnit) (bs : List Budget) (i : ℕ) (limits : List (Option ℕ)) : Type 0 where
  pub one_each : length limits ≡ length us
  pub right : (n : ℕ) → lesser (limit_at limits n) (own_budget (library_at c us) (budgets_at c (drop i bs)) n) ≡ own_budget (library_at c us) (budgets_at c bs) n

pub no_line : (c : Contents) (us : List StoredUnit) (bs : List Budget) (limits : List (Option ℕ)) → length limits ≡ length us → ((n : ℕ) → limit_at limits n ≡ None) → AreLimitsUpTo c us bs 0 limits
no_line c us bs limits one_each empty = record { one_each = one_each; right = λ n. rw (empty n) refl }

pub every_line : (c : Contents) (us : List StoredUnit) (bs : List Budget) (limits : List (Option ℕ)) → AreLimitsUpTo c us bs (length bs) limits → AreLimits c us bs limits
every_line c us bs limits s n =
    sym (lesser_none (limit_at limits n))
    ∙ sym (ap (λ l. lesser (limit_at limits n) (own_budget (library_at c us) (budgets_at c l) n)) (drop-length bs))
    ∙ s.right n

-- One more line, which stands at number i.
module _ (c : Contents) (us : List StoredUnit) (cells : List (Option Position)) (bs : List Budget) (i : ℕ) (d : Budget) (index : IsIndex c us cells) (known : AreBudgetsIn c bs) (l : i < length bs) where
  abbrev line : Budget
  line = get_or bs i d

  line_name : line.name < length c.names
  line_name = All-get_or (λ (b : Budget). b.name < length c.names) bs i d l known

  pub line_below : (limits : List (Option ℕ)) → length limits ≡ length us → IfSome (slice_index_or cells line.name None) (λ p. p.unit < length limits)
  line_below limits one_each = rw one_each (unit_is_below c us cells index line.name line_name)

  pub next_line : (limits after : List (Option ℕ)) → length after ≡ length limits
      → ((n : ℕ) → limit_at after n ≡ lesser (limit_at limits n) (steps_of n line.steps (option_map (λ (p : Position). p.unit) (slice_index_or cells line.name None))))
      → AreLimitsUpTo c us bs i limits → AreLimitsUpTo c us bs (i + 1) after
  next_line limits after same noted s = record {
    one_each = same ∙ s.one_each;
    right = λ n.
        let lib : Library = library_at c us in
        let rest : Option ℕ = own_budget lib (budgets_at c (drop (suc i) bs)) n in
        ap (λ k. lesser (limit_at after n) (own_budget lib (budgets_at c (drop k bs)) n)) (add-one i)
        ∙ ap (λ o. lesser o rest) (noted n ∙ ap (λ u. lesser (limit_at limits n) (steps_of n line.steps u)) (unit_is_first c us cells index line.name line_name))
        ∙ lesser_assoc (limit_at limits n) (stated_of lib n (budget_at c line)) rest
        ∙ sym (ap (λ bs. lesser (limit_at limits n) (own_budget lib (budgets_at c bs) n)) (drop-cons bs i d l))
        ∙ s.right n;
  }
