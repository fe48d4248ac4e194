-- What a look-up answers is what the rule book has at the place.
use Rattle.std.proofs.Common.{◌≡◌, ℕ, zero, suc, ◌<◌, Bool, true, false, List, [], ◌∷◌, length, take, get_or, nat_lt, Option, Some, None, Result, Ok, Err, refl, ap, sym, ◌∙◌, arith}
use Rattle.std.specs.Prelude.{IfOk, IsSome, option_map, option_and_then, slice_get, if◌then◌else◌}
use Rattle.std.proofs.lemmas.Bool.Decides.{nat_tests}
use Rattle.std.proofs.lemmas.List.Elements.{All-get_or}
use Rattle.std.proofs.lemmas.Option.{slice_get-map, slice_get-get_or, slice_get_read}
use Rattle.lk_tree.specs.Tree.{Name}
use Rattle.lk_tree.specs.declared.rule.Rule.{Rule}
use Rattle.lk_tree.specs.declared.rule.Rule.TheVariants.{UnknownConstant, LooseVariable, WideLiteral}
use Rattle.lk_rulebook.specs.Units.{Members, Library, Found, flaw_of, first_broken, given_by, first_of_two, at_unit, at_partial, first_giving, place_by, place_of}
use Rattle.lk_rulebook.specs.Place.{Entry as PlainEntry}
use Rattle.lk_store.specs.Contents.{Contents, tree_at}
use Rattle.lk_env.specs.declared.entry.Entry.{Entry}
use Rattle.lk_env.specs.declared.unit.Unit.{Unit as StoredUnit}
use Rattle.lk_env.specs.Units.{unit_at, library_at, IsUnitIn, AreUnitsIn}
use Rattle.lk_env.specs.Places.{position_in, entry_at, found_at, position_below}
use Rattle.lk_env.specs.Entries.{entry_of, plain_entry, judged, MeansNothing, IsEntryIn, IsAnswer}
use Rattle.lk_env.specs.Scan.{AreFlaws}
use Rattle.lk_env.specs.Member.{Stands, IsMember}
use Rattle.lk_env.proofs.Given.{found_is}
use Rattle.lk_env.proofs.Before.{position_before_is}

pub judged_known : (c : Contents) (f : Option Rule) (e : Entry) (r : Result Entry Rule) → r ≡ judged f e → IsEntryIn c e → IfOk r (IsEntryIn c)
judged_known c f e r h known = rw h (go f)
  where
    go : (f : Option Rule) → IfOk (judged f e) (IsEntryIn c)
    go None = known
    go (Some r) = tt

pub unit_known : (c : Contents) (us : List StoredUnit) (i : ℕ) (u : StoredUnit) → i < length us → u ≡ get_or us i u → AreUnitsIn c us → IsUnitIn c u
unit_known c us i u l is known = rw is (All-get_or (IsUnitIn c) us i u l known)

-- no flaw is that a constant is unknown
none_unknown : (bound narrow : Bool) → first_broken ((bound, LooseVariable) ∷ (narrow, WideLiteral) ∷ []) ≡ Some UnknownConstant → ⊥
none_unknown false narrow h = absurd cc
none_unknown true false h = absurd cc
none_unknown true true h = absurd cc

some_is : {A : Type 0} (x y : A) → Some x ≡ Some y → x ≡ y
some_is x y h = cc

module _ (c : Contents) (us : List StoredUnit) (i : ℕ) (u : StoredUnit) (l : i < length us) (is : u ≡ get_or us i u) where
  unit_stands : slice_get (library_at c us) i ≡ Some (unit_at c u)
  unit_stands = slice_get-map (unit_at c) us i ∙ ap (option_map (unit_at c)) (slice_get_read us _ i u refl l is)

  flaw_stands : (flaws : List (Option Rule)) → length flaws ≡ length us → AreFlaws c us flaws → get_or flaws i None ≡ flaw_of (unit_at c u)
  flaw_stands flaws same are =
      let within : i < length flaws = rw same l in
      some_is (get_or flaws i None) (flaw_of (unit_at c u))
      (sym (slice_get-get_or flaws i None within)
      ∙ ap (λ fs. slice_get fs i) are
      ∙ slice_get-map flaw_of (library_at c us) i
      ∙ ap (option_map flaw_of) unit_stands)

  found_stands : (j : ℕ) → found_at (library_at c us) (i, j) ≡ at_unit i (unit_at c u) (entry_at (unit_at c u) j)
  found_stands j = ap (option_and_then (λ v. at_unit i v (entry_at v j))) unit_stands

  pub none_answered : (j n : ℕ) (x : Name) → entry_at (unit_at c u) j ≡ None
      → MeansNothing (place_by n (λ y. found_at (library_at c us) (i, j))) x UnknownConstant
  none_answered j n x none =
      let at : found_at (library_at c us) (i, j) ≡ None = found_stands j ∙ ap (at_unit i (unit_at c u)) none in
      rw at (record { means = refl; rule = refl; unknown = λ is. refl })

  judged_answer : (e : Entry) (y : PlainEntry) (n : ℕ) (x : Name) (f : Option Rule) → e.origin ≡ i → plain_entry c us e ≡ Some y
      → (f ≡ Some UnknownConstant → ⊥)
      → IsAnswer c us (place_by n (λ z. Some (record { unit = i; flaw = f; entry = y }))) x (judged f e)
  judged_answer e y n x None origin stands other = record { given = refl; means = sym stands; origin = sym origin }
  judged_answer e y n x (Some r) origin stands other = record { means = refl; rule = refl; unknown = λ is. absurd (other (ap (λ q. Some q) is)) }

  pub answered : (j n : ℕ) (x : Name) (e : Entry) (flaws : List (Option Rule)) (r : Result Entry Rule) → length flaws ≡ length us → AreFlaws c us flaws → e.unit ≡ i → e.origin ≡ i → IsMember c u j e
      → r ≡ judged (get_or flaws i None) e → IsAnswer c us (place_by n (λ y. found_at (library_at c us) (i, j))) x r
  answered j n x e flaws r same are unit origin s is_judged =
      rw (is_judged, found_stands j) (go (entry_at (unit_at c u) j) refl s.given)
    where
      stands : plain_entry c us e ≡ entry_at (unit_at c u) j
      stands =
          ap (λ k. option_and_then (λ v. entry_of c v e.kind (tree_at c e.stated)) (slice_get (library_at c us) k)) unit
          ∙ ap (option_and_then (λ v. entry_of c v e.kind (tree_at c e.stated))) unit_stands
          ∙ sym s.member

      go : (o : Option PlainEntry) → entry_at (unit_at c u) j ≡ o → IsSome o → IsAnswer c us (place_by n (λ y. at_unit i (unit_at c u) o)) x (judged (get_or flaws i None) e)
      go None h k = absurd cc
      go (Some y) h k = rw (← flaw_stands flaws same are) (judged_answer e y n x (get_or flaws i None) origin (stands ∙ h) (λ is. none_unknown _ _ (sym (flaw_stands flaws same are) ∙ is)))

-- Below unit n the library is as if it ended there.
taken : {A : Type 0} (us : List A) (n i : ℕ) → i < n → slice_get (take n us) i ≡ slice_get us i
taken us zero i h = absurd (omega arith)
taken [] (suc n) i h = refl
taken (u ∷ us) (suc n) zero h = refl
taken (u ∷ us) (suc n) (suc i) h = taken us n i (omega arith)

same_below : (us : Library) (n : ℕ) (o : Option (ℕ × ℕ)) → option_and_then (found_at (take n us)) (position_below n o) ≡ option_and_then (found_at us) (position_below n o)
same_below us n None = refl
same_below us n (Some p) = go (nat_lt p.0 n) (λ h. grind (arith, nat_tests))
  where
    go : (b : Bool) → (b ≡ true → p.0 < n) → option_and_then (found_at (take n us)) (if b then Some p else None) ≡ option_and_then (found_at us) (if b then Some p else None)
    go true h = ap (option_and_then (λ u. at_unit p.0 u (entry_at u p.1))) (taken us n p.0 (h refl))
    go false h = refl

pub given_before : (us : Library) (n : ℕ) (x : Name) (o : Option (ℕ × ℕ)) → o ≡ position_in 0 (take n us) x → first_giving 0 (take n us) x ≡ option_and_then (found_at us) o
given_before us n x o h =
    found_is (take n us) x
    ∙ ap (option_and_then (found_at (take n us))) (position_before_is x us n)
    ∙ same_below us n (position_in 0 us x)
    ∙ ap (option_and_then (found_at us)) (sym (position_before_is x us n) ∙ sym h)

-- the answer at a place that has what o has
pub answered_at : (c : Contents) (us : List StoredUnit) (lib : Library) (n : ℕ) (partial : Members) (x : Name) (o : Option Found) (r : Result Entry Rule)
    → first_of_two (at_partial n (given_by partial x)) (first_giving 0 (take n lib) x) ≡ o → IsAnswer c us (place_by n (λ y. o)) x r → IsAnswer c us (place_of lib n partial) x r
answered_at c us lib n partial x o (Ok e) h answer = record { given = rw h answer.given; means = rw h answer.means; origin = rw h answer.origin }
answered_at c us lib n partial x o (Err r) h answer = record { means = rw h answer.means; rule = rw h answer.rule; unknown = λ is. rw h (answer.unknown is) }

-- what stands for the partial entry of a member answers for it
pub partial_answered : (c : Contents) (us : List StoredUnit) (u : StoredUnit) (n : ℕ) (x : Name) (o : Option PlainEntry) (e : Entry)
    → slice_get us n ≡ Some u → e.unit ≡ n → e.origin ≡ n → Stands c u o e → IsAnswer c us (place_by n (λ y. at_partial n o)) x (Ok e)
partial_answered c us u n x o e at unit origin s = go o s.given s.member
  where
    stands : plain_entry c us e ≡ entry_of c (unit_at c u) e.kind (tree_at c e.stated)
    stands =
        ap (λ k. option_and_then (λ v. entry_of c v e.kind (tree_at c e.stated)) (slice_get (library_at c us) k)) unit
        ∙ ap (option_and_then (λ v. entry_of c v e.kind (tree_at c e.stated))) (slice_get-map (unit_at c) us n ∙ ap (option_map (unit_at c)) at)

    go : (o : Option PlainEntry) → IsSome o → o ≡ entry_of c (unit_at c u) e.kind (tree_at c e.stated) → IsAnswer c us (place_by n (λ y. at_partial n o)) x (Ok e)
    go None given is = absurd cc
    go (Some y) given is = record { given = refl; means = is ∙ sym stands; origin = sym origin }
