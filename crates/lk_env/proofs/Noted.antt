-- An index that is made step by step: what it has so far, and what the rest of the units will give.
use Rattle.std.proofs.Common.{◌≡◌, ◌≢◌, ℕ, suc, ◌+◌, ◌<◌, ◌⊎◌, inl, inr, true, false, List, [], ◌∷◌, length, get_or, drop, Option, Some, None, refl, ap, sym, ◌∙◌, add-one, eq-eqb, get_or-set_same, get_or-set_other, nat_eq}
use Rattle.std.specs.Prelude.{All, option_map, unwrap_or, slice_set}
use Rattle.std.specs.List.{position_from}
use Rattle.std.proofs.lemmas.Bool.{ne_eqb, cases_eq}
use Rattle.std.proofs.Math.Seq.{drop-cons, drop-length}
use Rattle.std.proofs.Math.ListN.{length-set}
use Rattle.std.proofs.lemmas.List.Elements.{All-get_or}
use Rattle.lk_tree.specs.Tree.{Name}
use Rattle.lk_store.specs.Values.{AreApart}
use Rattle.lk_store.specs.Contents.{Contents, name_at}
use Rattle.lk_env.specs.declared.position.Position.{Position}
use Rattle.lk_env.specs.declared.unit.Unit.{Unit as StoredUnit}
use Rattle.lk_env.specs.Units.{library_at, IsUnitIn, AreUnitsIn}
use Rattle.lk_env.specs.Places.{first_place, at_member, position_in}
use Rattle.lk_env.specs.Index.{member_names, pair_of, cell_at, AreNoted, IsIndex, IsIndexUpTo}
use Rattle.lk_env.proofs.Members.{members_known, place_of_number}

first_none : (o : Option (ℕ × ℕ)) → first_place o None ≡ o
first_none None = refl
first_none (Some p) = refl

first_assoc : (a b c : Option (ℕ × ℕ)) → first_place (first_place a b) c ≡ first_place a (first_place b c)
first_assoc None b c = refl
first_assoc (Some p) b c = refl

-- Members that are noted.
pub record AreNotedUpTo (unit : ℕ) (names : List ℕ) (j : ℕ) (old new : List (Option Position)) : Type 0 where
  pub one_each : length new ≡ length old
  pub right : (n : ℕ) → n < length old →
      first_place (cell_at new n) (at_member unit (position_from (λ m. nat_eq m n) j (drop j names))) ≡ first_place (cell_at old n) (at_member unit (position_from (λ m. nat_eq m n) 0 names))

pub none_noted : (unit : ℕ) (names : List ℕ) (cells : List (Option Position)) → AreNotedUpTo unit names 0 cells cells
none_noted unit names cells = record { one_each = refl; right = λ n h. refl }

pub all_noted : (unit : ℕ) (names : List ℕ) (old new : List (Option Position)) → AreNotedUpTo unit names (length names) old new → AreNoted unit names old new
all_noted unit names old new s n h =
    sym (first_none (cell_at new n))
    ∙ sym (ap (λ l. first_place (cell_at new n) (at_member unit (position_from (λ m. nat_eq m n) (length names) l))) (drop-length names))
    ∙ s.right n h

cell_kept : (o : Option Position) (p : Position) → Some (pair_of (unwrap_or o p)) ≡ first_place (option_map pair_of o) (Some (pair_of p))
cell_kept None p = refl
cell_kept (Some q) p = refl

-- the cells after number a is noted as member j
abbrev pub cells_after : ℕ → ℕ → ℕ → List (Option Position) → List (Option Position)
cells_after unit j a cells = slice_set cells a (Some (unwrap_or (get_or cells a None) (record { unit = unit; member = j })))

-- One more cell, where the number a stands next.
module _ (unit j a : ℕ) (later : List ℕ) (cells : List (Option Position)) (within : a < length cells) where
  abbrev next : Position
  next = record { unit = unit; member = j }

  cell_here : (n : ℕ) → a ≡ n
      → first_place (cell_at (cells_after unit j a cells) n) (at_member unit (position_from (λ m. nat_eq m n) (j + 1) later)) ≡ first_place (cell_at cells n) (at_member unit (position_from (λ m. nat_eq m n) j (a ∷ later)))
  cell_here n e =
      let set_here : cell_at (cells_after unit j a cells) a ≡ Some (pair_of (unwrap_or (get_or cells a None) next)) = ap (option_map pair_of) (get_or-set_same cells a (Some (unwrap_or (get_or cells a None) next)) None within) in
      let same : nat_eq a a ≡ true = eq-eqb a a refl in
      rw (← e, set_here, same) (cell_kept (get_or cells a None) next)

  cell_elsewhere : (n : ℕ) → (a ≡ n → ⊥)
      → first_place (cell_at (cells_after unit j a cells) n) (at_member unit (position_from (λ m. nat_eq m n) (j + 1) later)) ≡ first_place (cell_at cells n) (at_member unit (position_from (λ m. nat_eq m n) j (a ∷ later)))
  cell_elsewhere n f =
      let other : n ≢ a = λ e. f (sym e) in
      let stays : cell_at (cells_after unit j a cells) n ≡ cell_at cells n = ap (option_map pair_of) (get_or-set_other cells a n (Some (unwrap_or (get_or cells a None) next)) None other) in
      let differs : nat_eq a n ≡ false = ne_eqb a n f in
      rw (stays, differs) refl

  pub cell_after : (n : ℕ)
      → first_place (cell_at (cells_after unit j a cells) n) (at_member unit (position_from (λ m. nat_eq m n) (j + 1) later)) ≡ first_place (cell_at cells n) (at_member unit (position_from (λ m. nat_eq m n) j (a ∷ later)))
  cell_after n = go (cases_eq a n)
    where
      go : (a ≡ n) ⊎ (a ≡ n → ⊥)
          → first_place (cell_at (cells_after unit j a cells) n) (at_member unit (position_from (λ m. nat_eq m n) (j + 1) later)) ≡ first_place (cell_at cells n) (at_member unit (position_from (λ m. nat_eq m n) j (a ∷ later)))
      go (inl e) = cell_here n e
      go (inr f) = cell_elsewhere n f

pub one_noted : (unit j : ℕ) (names : List ℕ) (old cells : List (Option Position)) → j < length names → All (λ n. n < length old) names → AreNotedUpTo unit names j old cells
    → AreNotedUpTo unit names (j + 1) old (cells_after unit j (get_or names j 0) cells)
one_noted unit j names old cells l all s =
    let a : ℕ = get_or names j 0 in
    let within : a < length cells = rw s.one_each (All-get_or (λ n. n < length old) names j 0 l all) in
    record {
      one_each = length-set cells a (Some (unwrap_or (get_or cells a None) (record { unit = unit; member = j }))) ∙ s.one_each;
      right = λ n h.
          ap (λ i. first_place (cell_at (cells_after unit j a cells) n) (at_member unit (position_from (λ m. nat_eq m n) (j + 1) (drop i names)))) (add-one j)
          ∙ cell_after unit j a (drop (suc j) names) cells within n
          ∙ sym (ap (λ ns. first_place (cell_at cells n) (at_member unit (position_from (λ m. nat_eq m n) j ns))) (drop-cons names j 0 l))
          ∙ s.right n h;
    }

pub no_unit : (c : Contents) (us : List StoredUnit) (cells : List (Option Position)) → length cells ≡ length c.names → ((n : ℕ) → n < length c.names → cell_at cells n ≡ None) → IsIndexUpTo c us 0 cells
no_unit c us cells one_each empty = record { one_each = one_each; right = λ n h. rw (empty n h) refl }

pub every_unit : (c : Contents) (us : List StoredUnit) (cells : List (Option Position)) → IsIndexUpTo c us (length us) cells → IsIndex c us cells
every_unit c us cells s = record {
  one_each = s.one_each;
  right = λ n h.
      sym (first_none (cell_at cells n))
      ∙ sym (ap (λ vs. first_place (cell_at cells n) (position_in (length us) (library_at c vs) (name_at c n))) (drop-length us))
      ∙ s.right n h;
}

pub names_known : (c : Contents) (us : List StoredUnit) (i : ℕ) (u : StoredUnit) (names : List ℕ) (cells : List (Option Position)) → AreUnitsIn c us → i < length us → u ≡ get_or us i u
    → names ≡ member_names u → length cells ≡ length c.names → All (λ n. n < length cells) names
names_known c us i u names cells known l is are one_each = rw (are, one_each) (members_known c u (rw is (All-get_or (IsUnitIn c) us i u l known)))

pub next_unit : (c : Contents) (us : List StoredUnit) (i : ℕ) (u : StoredUnit) (names : List ℕ) (cells after : List (Option Position)) → AreApart [] c.names → AreUnitsIn c us → i < length us → u ≡ get_or us i u
    → names ≡ member_names u → length after ≡ length cells → AreNoted i names cells after → IsIndexUpTo c us i cells → IsIndexUpTo c us (i + 1) after
next_unit c us i u names cells after apart known l is are same noted s =
    let u_in : IsUnitIn c u = rw is (All-get_or (IsUnitIn c) us i u l known) in
    let here : drop i us ≡ u ∷ drop (suc i) us = drop-cons us i u l ∙ sym (ap (λ v. v ∷ drop (suc i) us) is) in
    record {
      one_each = same ∙ s.one_each;
      right = λ n h.
          let x : Name = name_at c n in
          let later : Option (ℕ × ℕ) = position_in (suc i) (library_at c (drop (suc i) us)) x in
          ap (λ k. first_place (cell_at after n) (position_in k (library_at c (drop k us)) x)) (add-one i)
          ∙ ap (λ o. first_place o later) (noted n (rw s.one_each h))
          ∙ first_assoc (cell_at cells n) (at_member i (position_from (λ m. nat_eq m n) 0 names)) later
          ∙ ap (λ ns. first_place (cell_at cells n) (first_place (at_member i (position_from (λ m. nat_eq m n) 0 ns)) later)) are
          ∙ ap (λ o. first_place (cell_at cells n) (first_place (at_member i o) later)) (place_of_number c n u apart h u_in)
          ∙ sym (ap (λ vs. first_place (cell_at cells n) (position_in i (library_at c vs) x)) here)
          ∙ s.right n h;
    }
