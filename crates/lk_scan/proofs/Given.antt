-- Whether the names of members are new: each is given by no earlier unit, and none stands twice.
use Rattle.std.proofs.Common.{◌≡◌, ℕ, Bool, true, false, not, ◌&&◌, [], ◌∷◌, map, take, Option, Some, None, refl, ap, sym, ◌∙◌}
use Rattle.std.specs.Prelude.{is_some, option_map}
use Rattle.std.specs.List.{list_all}
use Rattle.std.proofs.lemmas.List.Folds.{list_all-map}
use Rattle.lk_tree.specs.Tree.{Name, name_discrete}
use Rattle.lk_tree.specs.Mentions.{is_one_of}
use Rattle.lk_tree.specs.Scan.{none_twice}
use Rattle.lk_rulebook.specs.Place.{Entry}
use Rattle.lk_rulebook.specs.Units.{Library, Members, members_of, Found, given_by, first_giving}
use Rattle.lk_rulebook.specs.Scan.{is_none, are_new}
use Rattle.lk_store.specs.Contents.{Contents, name_at}
use Rattle.lk_env.specs.declared.position.Position.{Position}
use Rattle.lk_env.specs.declared.unit.Unit.{Unit as StoredUnit}
use Rattle.lk_env.specs.Units.{unit_at}
use Rattle.lk_env.specs.Places.{position_in}
use Rattle.lk_env.specs.Index.{pair_of, member_names}
use Rattle.lk_env.proofs.Given.{unit_is}
use Rattle.lk_env.proofs.Members.{names_in, member_names_are}
use Rattle.lk_scan.specs.Names.{is_new}

none_mapped : {X Y : Type 0} (f : X → Y) (o : Option X) → is_none (option_map f o) ≡ is_none o
none_mapped f None = refl
none_mapped f (Some x) = refl

none_is : {X : Type 0} (o : Option X) (r : Bool) → is_some o ≡ not r → r ≡ is_none o
none_is None true e = refl
none_is None false e = absurd (cc)
none_is (Some x) true e = absurd (cc)
none_is (Some x) false e = refl

-- a name is new where it has no place
pub new_is : (us : Library) (n : ℕ) (c : Name) (p : Option Position) (r : Bool) → option_map pair_of p ≡ position_in 0 (take n us) c → is_some p ≡ not r → r ≡ is_new us n c
new_is us n c p r placed asked =
    none_is p r asked ∙ sym (none_mapped pair_of p) ∙ ap is_none placed
    ∙ sym (none_mapped (λ (x : ℕ × ℕ). x.0) (position_in 0 (take n us) c)) ∙ ap is_none (sym (unit_is (take n us) c))
    ∙ none_mapped (λ (x : Found). x.unit) (first_giving 0 (take n us) c)

-- a name that no member has is none of theirs
not_given : (ms : Members) (c : Name) → is_none (given_by ms c) ≡ not (is_one_of (names_in ms) c)
not_given [] c = refl
not_given (m ∷ ms) c = go (name_discrete m.0 c) (not_given ms c)
  where
    go : (d : Dec (m.0 ≡ c)) → is_none (given_by ms c) ≡ not (is_one_of (names_in ms) c)
        → is_none (elim d as (λ y. Option Entry) [ yes e ↦ Some m.1 | no f ↦ given_by ms c ]) ≡ not (elim d as (λ y. Bool) [ yes e ↦ true | no f ↦ is_one_of (names_in ms) c ])
    go (yes e) h = refl
    go (no f) h = h

crossed : (a b x y : Bool) → ((a && b) && (x && y)) ≡ ((a && x) && (b && y))
crossed false b x y = refl
crossed true false false y = refl
crossed true false true y = refl
crossed true true x y = refl

names_new : (us : Library) (n : ℕ) (ms : Members) → are_new us n ms ≡ (list_all (is_new us n) (names_in ms) && none_twice (names_in ms))
names_new us n [] = refl
names_new us n (m ∷ ms) =
    let fresh = is_new us n m.0 in
    let once = not (is_one_of (names_in ms) m.0) in
    ap (λ b. (fresh && b) && are_new us n ms) (not_given ms m.0)
    ∙ ap (λ b. (fresh && once) && b) (names_new us n ms)
    ∙ crossed fresh once (list_all (is_new us n) (names_in ms)) (none_twice (names_in ms))

-- the members' names are new, by the numbers of the names
pub numbers_new : (c : Contents) (us : Library) (n : ℕ) (u : StoredUnit)
    → are_new us n (members_of (unit_at c u)) ≡ (list_all (λ k. is_new us n (name_at c k)) (member_names u) && none_twice (map (name_at c) (member_names u)))
numbers_new c us n u =
    names_new us n (members_of (unit_at c u))
    ∙ ap (λ names. list_all (is_new us n) names && none_twice names) (sym (member_names_are c u))
    ∙ ap (λ b. b && none_twice (map (name_at c) (member_names u))) (list_all-map (is_new us n) (name_at c) (member_names u))

-- a name of theirs is given
pub one_given : (whole a b x : Bool) → whole ≡ (a && b) → x ≡ a → x ≡ false → false ≡ whole
one_given whole a b x is e h = sym (is ∙ ap (λ v. v && b) (sym e ∙ h))

-- none of them is given: they are new where none stands twice
pub none_given : (whole a b x y : Bool) → whole ≡ (a && b) → x ≡ a → x ≡ true → y ≡ b → y ≡ whole
none_given whole a b x y is e h f = f ∙ sym (is ∙ ap (λ v. v && b) (sym e ∙ h))
