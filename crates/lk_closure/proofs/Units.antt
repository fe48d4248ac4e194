-- The verdict of every unit rests on its closure alone.
use Rattle.std.proofs.Common.{◌≤◌, ℕ, zero, suc, ◌≡◌, ◌+◌, ◌⊎◌, inr, [], ◌∷◌, take, Some, None, Option, refl, ap, sym, subst, arith, ◌∙◌, Bool, true}
use Rattle.std.specs.Prelude.{slice_get}
use Rattle.lk_tree.specs.Tree.{Name, name_discrete}
use Rattle.lk_tree.specs.declared.rule.Rule.{Rule}
use Rattle.lk_tree.specs.declared.rule.Rule.TheVariants.{DuplicateName, DuplicateLevel, LooseVariable}
use Rattle.lk_rulebook.specs.Place.{Entry}
use Rattle.lk_rulebook.specs.Units.{trees_of, all_bound, Decl, LibraryUnit, of_decl, of_block, Library, Members, members_of, Found, given_by, first_of_two, at_unit, first_giving, place_of}
use Rattle.lk_rulebook.specs.Scan.{scan_of, own_scan, are_new, are_distinct}
use Rattle.lk_questions.proofs.Places.{prefix_gives}
use Rattle.lk_questions.specs.Table.{steps}
use Rattle.lk_inductive.specs.NestedRelation.{IsMarked}
use Rattle.lk_inductive.specs.NestedTask.{whole_task, plain_whole}
use Rattle.lk_verdict.specs.GoodUnit.{NamesClear, IsClearLibrary}
use Rattle.lk_verdict.specs.Verdict.{questions_of, plain_verdict}
use Rattle.lk_closure.proofs.Names.{IsClosed, HasBuiltins}
use Rattle.lk_closure.proofs.Over.{UnitOver, IsClosureOver, IsSeenAlike}
use Rattle.lk_uses.specs.Closure.{IsClosure, kept, renumbered}
use Rattle.lk_closure.proofs.Pieces.{Any}
use Rattle.lk_closure.proofs.Entries.{MembersOver, first_test, closure_is_closed}
use Rattle.lk_closure.proofs.Kept.{kept_stands, kept_alike}
use Rattle.lk_closure.proofs.Rows.{within_steps}
use Rattle.lk_closure.proofs.Verdicts.{scan_alike, verdict_alike, questions_alike, verdict_from, verdict_at}
use Rattle.lk_closure.proofs.Closures.{NamesOf, closure_over_more}
use Rattle.lk_closure.proofs.Tasks.{tasks_alike}
use Rattle.lk_closure.proofs.Nests.{HasMarked}
use Rattle.lk_closure.proofs.Wholes.{within_block}

-- P has what the check of the unit makes up: of a block the names of auxiliary types and their constructors
abbrev pub Serves : (Name → Type 0) → LibraryUnit → Type 0
Serves P (of_decl d) = Unit {0}
Serves P (of_block b rs) = HasMarked P

all_alike : (P : Name → Type 0) (us vs : Library) (n m : ℕ) (u : LibraryUnit) → Serves P u → (budget : ℕ) → all_bound (trees_of u) ≡ true → HasBuiltins P → ((h : Members) → MembersOver P h → IsClosed P (place_of us n h)) → IsSeenAlike P us n vs m → UnitOver P u →
    questions_of steps vs m u budget ≡ questions_of steps us n u budget
all_alike P us vs n m (of_decl d) k budget ab b cl h o = questions_alike P steps (within_steps P b) us vs n m d budget ab b (cl [] tt) h o
all_alike P us vs n m (of_block c rs) k budget ab b cl h o =
    verdict_alike (λ x. Any x.0) (plain_whole steps us n c rs budget) (plain_whole steps vs m c rs budget)
    (tasks_alike P steps (within_steps P b) b us vs n m h cl (whole_task (suc budget) c rs) Any [] budget tt (within_block P k (suc budget) c rs ab o))

-- the trees of a unit that is scanned hold no Local
scanned_bound : (us : Library) (n : ℕ) (u : LibraryUnit) → scan_of us n u ≡ None → all_bound (trees_of u) ≡ true
scanned_bound us n u h =
    let x : (are_new us n (members_of u) ≡ true) × (own_scan u ≡ None) = first_test (are_new us n (members_of u)) DuplicateName (own_scan u) h in
    let y : (are_distinct (members_of u) ≡ true) × (_ ≡ None) = first_test (are_distinct (members_of u)) DuplicateLevel _ x.1 in
    (first_test (all_bound (trees_of u)) LooseVariable _ y.1).0

-- Where n of us and m of vs state the same unit, and each name of a closed set is given with the same contents, the verdicts are one.
pub verdicts_agree : (P : Name → Type 0) (us vs : Library) (n m : ℕ) (u : LibraryUnit) → Serves P u → HasBuiltins P → ((h : Members) → MembersOver P h → IsClosed P (place_of us n h)) → IsSeenAlike P us n vs m → UnitOver P u →
    slice_get us n ≡ Some u → slice_get vs m ≡ Some u → (budget : ℕ) → plain_verdict steps vs m budget ≡ plain_verdict steps us n budget
verdicts_agree P us vs n m u k b cl h o eu ev budget =
    let s : scan_of vs m u ≡ scan_of us n u = scan_alike P us vs n m u h o.names in
    let v : verdict_from (scan_of vs m u) (questions_of steps vs m u budget) ≡ verdict_from (scan_of us n u) (questions_of steps us n u budget) =
    ap (λ x. verdict_from x (questions_of steps vs m u budget)) s ∙ go (scan_of us n u) refl in
    ap (verdict_at steps vs m budget) ev ∙ (v ∙ sym (ap (verdict_at steps us n budget) eu))
  where
    go : (r : Option Rule) → scan_of us n u ≡ r → verdict_from r (questions_of steps vs m u budget) ≡ verdict_from r (questions_of steps us n u budget)
    go (Some r) e = refl
    go None e = all_alike P us vs n m u k budget (scanned_bound us n u e) b cl h o

-- no unit of a clear library gives a marked name
none_given : (ms : Members) (c : Name) (e : Entry) → NamesClear ms → IsMarked c → given_by ms c ≡ Some e → ⊥
none_given [] c e h k g = absurd cc
none_given (m ∷ ms) c e h k g = go (none_given ms c e h.1 k) (name_discrete m.0 c) g
  where
    go : (given_by ms c ≡ Some e → ⊥) → (d : Dec (m.0 ≡ c)) → elim d as (λ y. Option Entry) [ yes x ↦ Some m.1 | no f ↦ given_by ms c ] ≡ Some e → ⊥
    go r (yes x) j = h.0 (subst IsMarked (sym x) k)
    go r (no f) j = r j

none_found : (i : ℕ) (us : Library) (c : Name) (f : Found) → IsClearLibrary us → IsMarked c → first_giving i us c ≡ Some f → ⊥
none_found i [] c f h k e = absurd cc
none_found i (u ∷ us) c f h k e = go (given_by (members_of u) c) refl (none_found (suc i) us c f h.1 k) e
  where
    go : (g : Option Entry) → given_by (members_of u) c ≡ g → (first_giving (suc i) us c ≡ Some f → ⊥) → first_of_two (at_unit i u g) (first_giving (suc i) us c) ≡ Some f → ⊥
    go (Some x) j r z = none_given (members_of u) c x h.0.names k j
    go None j r z = r z

clear_taken : (n : ℕ) (us : Library) → IsClearLibrary us → IsClearLibrary (take n us)
clear_taken zero us h = tt
clear_taken (suc n) [] h = tt
clear_taken (suc n) (u ∷ us) h = (h.0, clear_taken n us h.1)

stands_kept : (us : Library) (n : ℕ) (keep : ℕ → Bool) → keep n ≡ true → slice_get (kept 0 keep us) (renumbered 0 keep n) ≡ slice_get us n
stands_kept us n keep h = kept_stands 0 n keep us (let z : n ≡ 0 + n = omega arith in subst (λ x. keep x ≡ true) z h)

-- by a set of names that has what the check makes up
kept_by : (P : Name → Type 0) (us : Library) (n : ℕ) (keep : ℕ → Bool) (budget : ℕ) → IsClosureOver us n P keep →
    ((u : LibraryUnit) → slice_get us n ≡ Some u → Serves P u) → plain_verdict steps (kept 0 keep us) (renumbered 0 keep n) budget ≡ plain_verdict steps us n budget
kept_by P us n keep budget over serves = go (slice_get us n) refl
  where
    go : (o : Option LibraryUnit) → slice_get us n ≡ o → plain_verdict steps (kept 0 keep us) (renumbered 0 keep n) budget ≡ plain_verdict steps us n budget
    go (Some u) e =
        verdicts_agree P us (kept 0 keep us) n (renumbered 0 keep n) u (serves u e) over.builtins
        (λ partial oh. closure_is_closed us n P keep partial over oh) (kept_alike us n P keep over)
        (over.units n u over.own e) e (stands_kept us n keep over.own ∙ e) budget
    go None e = ap (verdict_at steps (kept 0 keep us) (renumbered 0 keep n) budget) (stands_kept us n keep over.own ∙ e) ∙ sym (ap (verdict_at steps us n budget) e)

-- in a clear library
pub unit_kept : (us : Library) (n : ℕ) (keep : ℕ → Bool) (budget : ℕ) → IsClearLibrary us → IsClosure us n keep → plain_verdict steps (kept 0 keep us) (renumbered 0 keep n) budget ≡ plain_verdict steps us n budget
unit_kept us n keep budget c h =
    kept_by (λ x. NamesOf us keep x ⊎ IsMarked x) us n keep budget (closure_over_more us n keep IsMarked h (λ x f k e. absurd (none_found 0 (take n us) x f (clear_taken n us c) k e)))
    (λ u e. serves u)
  where
    serves : (u : LibraryUnit) → Serves (λ x. NamesOf us keep x ⊎ IsMarked x) u
    serves (of_decl d) = tt
    serves (of_block b rs) = λ x k. inr k

-- a declaration, in any library
pub declaration_kept : (us : Library) (n : ℕ) (d : Decl) (keep : ℕ → Bool) (budget : ℕ) → slice_get us n ≡ Some (of_decl d) → IsClosure us n keep →
    plain_verdict steps (kept 0 keep us) (renumbered 0 keep n) budget ≡ plain_verdict steps us n budget
declaration_kept us n d keep budget m h =
    kept_by (λ x. NamesOf us keep x ⊎ ⊥) us n keep budget (closure_over_more us n keep (λ x. ⊥) h (λ x f k e. absurd k))
    (λ u e. serves u (let z : Some (of_decl d) ≡ Some u = sym m ∙ e in cc))
  where
    serves : (u : LibraryUnit) → of_decl d ≡ u → Serves (λ x. NamesOf us keep x ⊎ ⊥) u
    serves (of_decl x) e = tt
    serves (of_block b rs) e = absurd cc

moved_by : (us vs : Library) (n m : ℕ) (keep other : ℕ → Bool) (budget : ℕ) → plain_verdict steps (kept 0 keep us) (renumbered 0 keep n) budget ≡ plain_verdict steps us n budget →
    plain_verdict steps (kept 0 other vs) (renumbered 0 other m) budget ≡ plain_verdict steps vs m budget → kept 0 keep us ≡ kept 0 other vs → renumbered 0 keep n ≡ renumbered 0 other m → plain_verdict steps vs m budget ≡ plain_verdict steps us n budget
moved_by us vs n m keep other budget h k same at =
    sym k ∙ (sym (ap (λ x. plain_verdict steps x (renumbered 0 other m) budget) same) ∙ (sym (ap (λ i. plain_verdict steps (kept 0 keep us) i budget) at) ∙ h))

pub unit_moved : (us vs : Library) (n m : ℕ) (keep other : ℕ → Bool) (budget : ℕ) → IsClearLibrary us → IsClearLibrary vs → IsClosure us n keep → IsClosure vs m other →
    kept 0 keep us ≡ kept 0 other vs → renumbered 0 keep n ≡ renumbered 0 other m → plain_verdict steps vs m budget ≡ plain_verdict steps us n budget
unit_moved us vs n m keep other budget c d h k same at = moved_by us vs n m keep other budget (unit_kept us n keep budget c h) (unit_kept vs m other budget d k) same at

pub declaration_moved : (us vs : Library) (n m : ℕ) (d : Decl) (keep other : ℕ → Bool) (budget : ℕ) → slice_get us n ≡ Some (of_decl d) → slice_get vs m ≡ Some (of_decl d) → IsClosure us n keep → IsClosure vs m other →
    kept 0 keep us ≡ kept 0 other vs → renumbered 0 keep n ≡ renumbered 0 other m → plain_verdict steps vs m budget ≡ plain_verdict steps us n budget
declaration_moved us vs n m d keep other budget eu ev h k same at = moved_by us vs n m keep other budget (declaration_kept us n d keep budget eu h) (declaration_kept vs m d other budget ev k) same at

-- a set that is closed for a unit is closed for each earlier unit of it
pub closed_below : (us : Library) (n k : ℕ) (keep : ℕ → Bool) → k ≤ n → keep k ≡ true → IsClosure us n keep → IsClosure us k keep
closed_below us n k keep l y h = record {
  own = y;
  builtin = λ c f i e. h.builtin c f i (prefix_gives 0 k n us c f l e);
  used = λ j u c f z s x e. h.used j u c f z s x (prefix_gives 0 k n us c f l e);
}

pub each_kept : (us : Library) (n k : ℕ) (keep : ℕ → Bool) (budget : ℕ) → IsClearLibrary us → IsClosure us n keep → k ≤ n → keep k ≡ true →
    plain_verdict steps (kept 0 keep us) (renumbered 0 keep k) budget ≡ plain_verdict steps us k budget
each_kept us n k keep budget c h l y = unit_kept us k keep budget c (closed_below us n k keep l y h)
