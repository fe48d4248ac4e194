-- The scan of a unit is right.
use Rattle.std.proofs.Common.{ℕ, ◌≡◌, Bool, true, false, ◌&&◌, List, [], ◌∷◌, ◌++◌, take, Option, Some, None, refl}
use Rattle.lk_tree.specs.WellFormed.{IsStated}
use Rattle.lk_tree.specs.Scan.{is_bound, is_narrow, none_twice, tree_over}
use Rattle.lk_tree.specs.declared.rule.Rule.{Rule}
use Rattle.lk_tree.specs.declared.rule.Rule.TheVariants.{UndeclaredLevel, DuplicateLevel, DuplicateName, LooseVariable, WideLiteral}
use Rattle.lk_tree.proofs.Scans.{both_true, and_true, bound_closed, closed_passes, distinct_right, distinct_passes, tree_right, tree_passes}
use Rattle.lk_rulebook.specs.Units.{Library, LibraryUnit, Members, members_of, Trees, trees_of, all_bound, all_narrow, first_broken, given_by, first_giving, flaw_of}
use Rattle.lk_rulebook.specs.Scan.{AreNew, AreDistinct, AreScanned, IsScanned, is_none, are_new, are_distinct, all_over, scan_of}

-- where no test fails each one holds
pub first_holds : (b : Bool) (r : Rule) (ts : List (Bool × Rule)) → first_broken ((b, r) ∷ ts) ≡ None → (b ≡ true) × (first_broken ts ≡ None)
first_holds true r ts h = (refl, h)
first_holds false r ts h = absurd cc

none_right : {A : Type 0} (o : Option A) → is_none o ≡ true → o ≡ None
none_right None h = refl
none_right (Some x) h = absurd cc

new_right : (us : Library) (n : ℕ) (ms : Members) → are_new us n ms ≡ true → AreNew us n ms
new_right us n [] h = tt
new_right us n (m ∷ ms) h =
    let x : ((is_none (first_giving 0 (take n us) m.0) && is_none (given_by ms m.0)) ≡ true) × (are_new us n ms ≡ true) = both_true (is_none (first_giving 0 (take n us) m.0) && is_none (given_by ms m.0)) (are_new us n ms) h in
    let y : (is_none (first_giving 0 (take n us) m.0) ≡ true) × (is_none (given_by ms m.0) ≡ true) = both_true (is_none (first_giving 0 (take n us) m.0)) (is_none (given_by ms m.0)) x.0 in
    (none_right (first_giving 0 (take n us) m.0) y.0, none_right (given_by ms m.0) y.1, new_right us n ms x.1)

distinct_members : (ms : Members) → are_distinct ms ≡ true → AreDistinct ms
distinct_members [] h = tt
distinct_members (m ∷ ms) h = let x : (none_twice m.1.levels ≡ true) × (are_distinct ms ≡ true) = both_true (none_twice m.1.levels) (are_distinct ms) h in (distinct_right m.1.levels x.0, distinct_members ms x.1)

trees_right : (es : Trees) → all_bound es ≡ true → all_over es ≡ true → all_narrow es ≡ true → AreScanned es
trees_right [] b o r = tt
trees_right (e ∷ es) b o r =
    let x : (is_bound 0 e.1 ≡ true) × (all_bound es ≡ true) = both_true (is_bound 0 e.1) (all_bound es) b in
    let y : (tree_over e.0 e.1 ≡ true) × (all_over es ≡ true) = both_true (tree_over e.0 e.1) (all_over es) o in
    let z : (is_narrow e.1 ≡ true) × (all_narrow es ≡ true) = both_true (is_narrow e.1) (all_narrow es) r in
    ((bound_closed 0 e.1 x.0 z.0, tree_right e.0 e.1 y.0), trees_right es x.1 y.1 z.1)

pub scan_right : (us : Library) (n : ℕ) (u : LibraryUnit) → scan_of us n u ≡ None → IsScanned us n u
scan_right us n u h =
    let ms : Members = members_of u in
    let es : Trees = trees_of u in
    let last : List (Bool × Rule) = (all_narrow es, WideLiteral) ∷ [] in
    let fourth : List (Bool × Rule) = (all_over es, UndeclaredLevel) ∷ last in
    let third : List (Bool × Rule) = (all_bound es, LooseVariable) ∷ fourth in
    let second : List (Bool × Rule) = (are_distinct ms, DuplicateLevel) ∷ third in
    let a : (are_new us n ms ≡ true) × (first_broken second ≡ None) = first_holds (are_new us n ms) DuplicateName second h in
    let b : (are_distinct ms ≡ true) × (first_broken third ≡ None) = first_holds (are_distinct ms) DuplicateLevel third a.1 in
    let c : (all_bound es ≡ true) × (first_broken fourth ≡ None) = first_holds (all_bound es) LooseVariable fourth b.1 in
    let d : (all_over es ≡ true) × (first_broken last ≡ None) = first_holds (all_over es) UndeclaredLevel last c.1 in
    let e : (all_narrow es ≡ true) × (first_broken [] ≡ None) = first_holds (all_narrow es) WideLiteral [] d.1 in
    record { names = new_right us n ms a.0; levels = distinct_members ms b.0; trees = trees_right es c.0 d.0 e.0 }

-- the trees of a unit without a flaw
abbrev pub AllStated : Trees → Type 0
AllStated [] = Unit {0}
AllStated (e ∷ es) = IsStated e.1 × AllStated es

trees_stated : (es : Trees) → all_bound es ≡ true → all_narrow es ≡ true → AllStated es
trees_stated [] b r = tt
trees_stated (e ∷ es) b r =
    let x : (is_bound 0 e.1 ≡ true) × (all_bound es ≡ true) = both_true (is_bound 0 e.1) (all_bound es) b in
    let z : (is_narrow e.1 ≡ true) × (all_narrow es ≡ true) = both_true (is_narrow e.1) (all_narrow es) r in
    (bound_closed 0 e.1 x.0 z.0, trees_stated es x.1 z.1)

pub unflawed_stated : (u : LibraryUnit) → flaw_of u ≡ None → AllStated (trees_of u)
unflawed_stated u h =
    let es : Trees = trees_of u in
    let last : List (Bool × Rule) = (all_narrow es, WideLiteral) ∷ [] in
    let c : (all_bound es ≡ true) × (first_broken last ≡ None) = first_holds (all_bound es) LooseVariable last h in
    let e : (all_narrow es ≡ true) × (first_broken [] ≡ None) = first_holds (all_narrow es) WideLiteral [] c.1 in
    trees_stated es c.0 e.0

pub scanned_stated : (es : Trees) → AreScanned es → AllStated es
scanned_stated [] h = tt
scanned_stated (e ∷ es) h = (h.0.0, scanned_stated es h.1)

pub stated_split : (xs ys : Trees) → AllStated (xs ++ ys) → AllStated xs × AllStated ys
stated_split [] ys h = (tt, h)
stated_split (x ∷ xs) ys h = let r : AllStated xs × AllStated ys = stated_split xs ys h.1 in ((h.0, r.0), r.1)

-- and what is so passes
is_none_of : {A : Type 0} (o : Option A) → o ≡ None → is_none o ≡ true
is_none_of None h = refl
is_none_of (Some x) h = absurd cc

new_passes : (us : Library) (n : ℕ) (ms : Members) → AreNew us n ms → are_new us n ms ≡ true
new_passes us n [] h = refl
new_passes us n (m ∷ ms) h =
    and_true (is_none (first_giving 0 (take n us) m.0) && is_none (given_by ms m.0)) (are_new us n ms)
    (and_true (is_none (first_giving 0 (take n us) m.0)) (is_none (given_by ms m.0)) (is_none_of (first_giving 0 (take n us) m.0) h.0) (is_none_of (given_by ms m.0) h.1))
    (new_passes us n ms h.2)

distinct_pass : (ms : Members) → AreDistinct ms → are_distinct ms ≡ true
distinct_pass [] h = refl
distinct_pass (m ∷ ms) h = and_true (none_twice m.1.levels) (are_distinct ms) (distinct_passes m.1.levels h.0) (distinct_pass ms h.1)

over_pass : (es : Trees) → AreScanned es → all_over es ≡ true
over_pass [] h = refl
over_pass (e ∷ es) h = and_true (tree_over e.0 e.1) (all_over es) (tree_passes e.0 e.1 h.0.1) (over_pass es h.1)

stated_pass : (es : Trees) → AllStated es → (all_bound es ≡ true) × (all_narrow es ≡ true)
stated_pass [] h = (refl, refl)
stated_pass (e ∷ es) h =
    let x : (is_bound 0 e.1 ≡ true) × (is_narrow e.1 ≡ true) = closed_passes 0 e.1 h.0.0 h.0.1 in
    let y : (all_bound es ≡ true) × (all_narrow es ≡ true) = stated_pass es h.1 in
    (and_true (is_bound 0 e.1) (all_bound es) x.0 y.0, and_true (is_narrow e.1) (all_narrow es) x.1 y.1)

none_broken : (b : Bool) (r : Rule) (ts : List (Bool × Rule)) → b ≡ true → first_broken ts ≡ None → first_broken ((b, r) ∷ ts) ≡ None
none_broken true r ts h k = k
none_broken false r ts h k = absurd cc

pub no_flaw : (u : LibraryUnit) → AllStated (trees_of u) → flaw_of u ≡ None
no_flaw u h =
    let es : Trees = trees_of u in
    let x : (all_bound es ≡ true) × (all_narrow es ≡ true) = stated_pass es h in
    none_broken (all_bound es) LooseVariable ((all_narrow es, WideLiteral) ∷ []) x.0 (none_broken (all_narrow es) WideLiteral [] x.1 refl)

pub scan_passes : (us : Library) (n : ℕ) (u : LibraryUnit) → IsScanned us n u → scan_of us n u ≡ None
scan_passes us n u h =
    let ms : Members = members_of u in
    let es : Trees = trees_of u in
    let x : (all_bound es ≡ true) × (all_narrow es ≡ true) = stated_pass es (scanned_stated es h.trees) in
    let last : List (Bool × Rule) = (all_narrow es, WideLiteral) ∷ [] in
    let fourth : List (Bool × Rule) = (all_over es, UndeclaredLevel) ∷ last in
    let third : List (Bool × Rule) = (all_bound es, LooseVariable) ∷ fourth in
    let second : List (Bool × Rule) = (are_distinct ms, DuplicateLevel) ∷ third in
    none_broken (are_new us n ms) DuplicateName second (new_passes us n ms h.names)
    (none_broken (are_distinct ms) DuplicateLevel third (distinct_pass ms h.levels)
    (none_broken (all_bound es) LooseVariable fourth x.0
    (none_broken (all_over es) UndeclaredLevel last (over_pass es h.trees)
    (none_broken (all_narrow es) WideLiteral [] x.1 refl))))
