-- What is partial at a site, by the numbers of members.
use Rattle.std.proofs.Common.{◌≡◌, ℕ, zero, suc, ◌+◌, ◌<◌, Bool, true, false, List, [], ◌∷◌, ◌++◌, take, nat_eq, nat_lt, Option, Some, None, refl, ap, sym, ◌∙◌, arith}
use Rattle.std.specs.Prelude.{◌&&◌, option_map, option_and_then, slice_get, if◌then◌else◌}
use Rattle.std.proofs.lemmas.Bool.Decides.{nat_tests}
use Rattle.lk_tree.specs.Tree.{Name, name_discrete}
use Rattle.lk_rulebook.specs.Place.{Entry, BlockRecursor}
use Rattle.lk_rulebook.specs.Units.{Members, LibraryUnit, of_decl, of_block, members_of, type_entries, all_ctor_entries, rec_members, rec_entries, Library, Found, given_by, first_of_two, at_partial, first_giving}
use Rattle.lk_rulebook.specs.Scan.{is_none, are_new}
use Rattle.lk_env.specs.declared.entry.Partial.{Partial}
use Rattle.lk_env.specs.declared.entry.Partial.TheVariants.{Nothing, Types, Members as AllMembers}
use Rattle.lk_env.specs.declared.entry.Site.{Site}
use Rattle.lk_env.specs.Places.{member_in, first_place, at_member, position_in, position_below, found_at, partial_of, partial_entry_in, own_member, new_among, partial_at}
use Rattle.lk_env.proofs.Given.{unit_is}
use Rattle.lk_env.proofs.Before.{none_below, position_before_is}
use Rattle.lk_env.proofs.Answered.{given_before}

-- the names of the one are the first names of the other
abbrev pub Leads : Members → Members → Type 0
Leads [] ms = Unit {0}
Leads (p ∷ ps) [] = ⊥
Leads (p ∷ ps) (m ∷ ms) = (p.0 ≡ m.0) × Leads ps ms

leads_more : (ms rest : Members) → Leads ms (ms ++ rest)
leads_more [] rest = tt
leads_more (m ∷ ms) rest = (refl, leads_more ms rest)

leads_behind : (xs ps ms : Members) → Leads ps ms → Leads (xs ++ ps) (xs ++ ms)
leads_behind [] ps ms h = h
leads_behind (x ∷ xs) ps ms h = (refl, leads_behind xs ps ms h)

leads_recursors : (rs : List BlockRecursor) → Leads (rec_entries rs) (rec_members rs)
leads_recursors [] = tt
leads_recursors (r ∷ rs) = (refl, leads_recursors rs)

partial_leads : (u : LibraryUnit) (p : Partial) → Leads (partial_of u p) (members_of u)
partial_leads u Nothing = tt
partial_leads (of_decl d) Types = tt
partial_leads (of_decl d) AllMembers = tt
partial_leads (of_block b rs) Types = leads_more (type_entries b b.types) (all_ctor_entries b b.types ++ rec_members rs)
partial_leads (of_block b rs) AllMembers =
    leads_behind (type_entries b b.types) (all_ctor_entries b b.types ++ rec_entries rs) (all_ctor_entries b b.types ++ rec_members rs)
    (leads_behind (all_ctor_entries b b.types) (rec_entries rs) (rec_members rs) (leads_recursors rs))

-- what a list gives a name is found by the place of the name in a list that it leads
abbrev entry_by : (ℕ → Option (Name × Entry)) → ℕ → Option Entry
entry_by f j = option_map (λ (m : Name × Entry). m.1) (f j)

none_from : (c : Name) (i : ℕ) (ms : Members) (f : ℕ → Option (Name × Entry)) → ((k : ℕ) → f (i + k) ≡ None) → option_and_then (entry_by f) (member_in i ms c) ≡ None
none_from c i [] f h = refl
none_from c i (m ∷ ms) f h = go (name_discrete m.0 c) (none_from c (suc i) ms f (λ k. let same : suc i + k ≡ i + suc k = omega arith in ap f same ∙ h (suc k)))
  where
    here : f i ≡ None
    here = let same : i ≡ i + zero = omega arith in ap f same ∙ h zero

    go : (d : Dec (m.0 ≡ c)) → option_and_then (entry_by f) (member_in (suc i) ms c) ≡ None
        → option_and_then (entry_by f) (elim d as (λ y. Option ℕ) [ yes e ↦ Some i | no n ↦ member_in (suc i) ms c ]) ≡ None
    go (yes e) r = ap (option_map (λ (m : Name × Entry). m.1)) here
    go (no n) r = r

given_leading : (c : Name) (i : ℕ) (ps ms : Members) (f : ℕ → Option (Name × Entry)) → ((k : ℕ) → f (i + k) ≡ slice_get ps k) → Leads ps ms
    → given_by ps c ≡ option_and_then (entry_by f) (member_in i ms c)
given_leading c i [] ms f h l = sym (none_from c i ms f h)
given_leading c i (p ∷ ps) [] f h l = absurd l
given_leading c i (p ∷ ps) (m ∷ ms) f h l =
    go (name_discrete p.0 c) (name_discrete m.0 c) (given_leading c (suc i) ps ms f (λ k. let same : suc i + k ≡ i + suc k = omega arith in ap f same ∙ h (suc k)) l.1)
  where
    here : f i ≡ Some p
    here = let same : i ≡ i + zero = omega arith in ap f same ∙ h zero

    go : (d : Dec (p.0 ≡ c)) (e : Dec (m.0 ≡ c)) → given_by ps c ≡ option_and_then (entry_by f) (member_in (suc i) ms c)
        → elim d as (λ y. Option Entry) [ yes y ↦ Some p.1 | no n ↦ given_by ps c ] ≡ option_and_then (entry_by f) (elim e as (λ y. Option ℕ) [ yes y ↦ Some i | no n ↦ member_in (suc i) ms c ])
    go (yes d) (yes e) r = sym (ap (option_map (λ (m : Name × Entry). m.1)) here)
    go (yes d) (no e) r = absurd (e (sym l.0 ∙ d))
    go (no d) (yes e) r = absurd (d (l.0 ∙ e))
    go (no d) (no e) r = r

-- Names that an earlier unit gives are not among the new ones, and the others are.
none_is_some : {A : Type 0} (x : A) → None ≡ Some x → ⊥
none_is_some x h = absurd cc

given_new : (us : Library) (n : ℕ) (ms : Members) (c : Name) → first_giving 0 (take n us) c ≡ None → given_by (new_among us n ms) c ≡ given_by ms c
given_new us n [] c h = refl
given_new us n (m ∷ ms) c h = go (given_new us n ms c h) (first_giving 0 (take n us) m.0) refl
  where
    both : given_by (new_among us n ms) c ≡ given_by ms c → (d : Dec (m.0 ≡ c))
        → elim d as (λ y. Option Entry) [ yes y ↦ Some m.1 | no k ↦ given_by (new_among us n ms) c ] ≡ elim d as (λ y. Option Entry) [ yes y ↦ Some m.1 | no k ↦ given_by ms c ]
    both more (yes d) = refl
    both more (no d) = more

    other : given_by (new_among us n ms) c ≡ given_by ms c → (x : Found) → first_giving 0 (take n us) m.0 ≡ Some x → (d : Dec (m.0 ≡ c)) → given_by (new_among us n ms) c ≡ elim d as (λ y. Option Entry) [ yes y ↦ Some m.1 | no k ↦ given_by ms c ]
    other more x is (yes d) = absurd (none_is_some x (sym h ∙ ap (first_giving 0 (take n us)) (sym d) ∙ is))
    other more x is (no d) = more

    go : given_by (new_among us n ms) c ≡ given_by ms c → (o : Option Found) → first_giving 0 (take n us) m.0 ≡ o → given_by (if is_none o then m ∷ new_among us n ms else new_among us n ms) c ≡ given_by (m ∷ ms) c
    go more None is = both more (name_discrete m.0 c)
    go more (Some x) is = other more x is (name_discrete m.0 c)

given_not_new : (us : Library) (n : ℕ) (ms : Members) (c : Name) (x : Found) → first_giving 0 (take n us) c ≡ Some x → given_by (new_among us n ms) c ≡ None
given_not_new us n [] c x h = refl
given_not_new us n (m ∷ ms) c x h = go (given_not_new us n ms c x h) (first_giving 0 (take n us) m.0) refl
  where
    other : given_by (new_among us n ms) c ≡ None → first_giving 0 (take n us) m.0 ≡ None → (d : Dec (m.0 ≡ c)) → elim d as (λ y. Option Entry) [ yes y ↦ Some m.1 | no k ↦ given_by (new_among us n ms) c ] ≡ None
    other more is (yes d) = absurd (none_is_some x (sym is ∙ ap (first_giving 0 (take n us)) d ∙ h))
    other more is (no d) = more

    go : given_by (new_among us n ms) c ≡ None → (o : Option Found) → first_giving 0 (take n us) m.0 ≡ o → given_by (if is_none o then m ∷ new_among us n ms else new_among us n ms) c ≡ None
    go more None is = other more is (name_discrete m.0 c)
    go more (Some y) is = more

-- Where no earlier unit gives a name, its place says which member of unit n has it.
not_own : (n k : ℕ) (o : Option (ℕ × ℕ)) → position_below k o ≡ None → n < k → own_member n o ≡ None
not_own n k None h l = refl
not_own n k (Some p) h l = go (nat_lt p.0 k) (nat_eq p.0 n) (λ e. grind (arith, nat_tests)) h
  where
    go : (a b : Bool) → (b ≡ true → a ≡ true) → (if a then Some p else None) ≡ None → (if b then Some p.1 else None) ≡ None
    go a false both e = refl
    go true true both e = absurd cc
    go false true both e = absurd (let f : false ≡ true = both refl in cc)

own_from : (c : Name) (us : Library) (i n : ℕ) (u : LibraryUnit) → slice_get us n ≡ Some u → position_below (i + n) (position_in i us c) ≡ None
    → own_member (i + n) (position_in i us c) ≡ member_in 0 (members_of u) c
own_from c [] i n u at h = absurd cc
own_from c (v ∷ us) i zero u at h =
    let same : v ≡ u = cc in
    go (member_in 0 (members_of v) c) ∙ ap (λ w. member_in 0 (members_of w) c) same
  where
    go : (o : Option ℕ) → own_member (i + zero) (first_place (at_member i o) (position_in (suc i) us c)) ≡ o
    go None = not_own (i + zero) (suc i) (position_in (suc i) us c) (none_below c us (suc i) (suc i) (omega arith)) (omega arith)
    go (Some j) = let e : nat_eq i (i + zero) ≡ true = grind (arith, nat_tests) in ap (λ b. if b then Some j else None) e
own_from c (v ∷ us) i (suc n) u at h = go (λ k. own_from c us (suc i) n u at k) (member_in 0 (members_of v) c) h
  where
    go : (position_below (suc i + n) (position_in (suc i) us c) ≡ None → own_member (suc i + n) (position_in (suc i) us c) ≡ member_in 0 (members_of u) c)
        → (o : Option ℕ) → position_below (i + suc n) (first_place (at_member i o) (position_in (suc i) us c)) ≡ None
        → own_member (i + suc n) (first_place (at_member i o) (position_in (suc i) us c)) ≡ member_in 0 (members_of u) c
    go more None k =
        let e : i + suc n ≡ suc i + n = omega arith in
        ap (λ m. own_member m (position_in (suc i) us c)) e ∙ more (ap (λ m. position_below m (position_in (suc i) us c)) (sym e) ∙ k)
    go more (Some j) k =
        let e : nat_lt i (i + suc n) ≡ true = grind (arith, nat_tests) in
        absurd (none_is_some (i, j) (sym k ∙ ap (λ b. if b then Some (i, j) else None) e))

module _ (us : Library) (s : Site) (x : Name) where
  abbrev pub found_at_site : Option Found
  found_at_site = first_of_two (at_partial s.unit (given_by (partial_at us s) x)) (first_giving 0 (take s.unit us) x)

  -- what an earlier unit gives is not partial
  pub found_before : (p : ℕ × ℕ) → Some p ≡ position_in 0 (take s.unit us) x → found_at_site ≡ found_at us p
  found_before p h = go (first_giving 0 (take s.unit us) x) refl ∙ given_before us s.unit x (Some p) h
    where
      none : (f : Found) → first_giving 0 (take s.unit us) x ≡ Some f → (o : Option LibraryUnit)
          → given_by (elim o as (λ y. Members) [ None ↦ [] | Some u ↦ new_among us s.unit (partial_of u s.partial) ]) x ≡ None
      none f is None = refl
      none f is (Some u) = given_not_new us s.unit (partial_of u s.partial) x f is

      go : (o : Option Found) → first_giving 0 (take s.unit us) x ≡ o → found_at_site ≡ first_giving 0 (take s.unit us) x
      go None is =
          absurd (none_is_some p.0 (sym (ap (option_map (λ (f : Found). f.unit)) is) ∙ unit_is (take s.unit us) x ∙ ap (option_map (λ (q : ℕ × ℕ). q.0)) (sym h)))
      go (Some f) is = ap (λ e. first_of_two (at_partial s.unit e) (first_giving 0 (take s.unit us) x)) (none f is (slice_get us s.unit))

  -- what none gives is found among the members of the unit itself
  pub found_own : position_in 0 (take s.unit us) x ≡ None → found_at_site ≡ at_partial s.unit (option_and_then (partial_entry_in us s) (own_member s.unit (position_in 0 us x)))
  found_own h =
      ap (first_of_two (at_partial s.unit (given_by (partial_at us s) x))) first
      ∙ alone (at_partial s.unit (given_by (partial_at us s) x))
      ∙ ap (at_partial s.unit) (go (slice_get us s.unit) refl)
    where
      first : first_giving 0 (take s.unit us) x ≡ None
      first = given_before us s.unit x None (sym h)

      alone : (o : Option Found) → first_of_two o None ≡ o
      alone None = refl
      alone (Some f) = refl

      nothing : (o : Option ℕ) → None ≡ option_and_then (λ (j : ℕ). option_and_then (λ u. option_map (λ (m : Name × Entry). m.1) (slice_get (partial_of u s.partial) j)) None) o
      nothing None = refl
      nothing (Some j) = refl

      below : position_below s.unit (position_in 0 us x) ≡ None
      below = sym (position_before_is x us s.unit) ∙ h

      go : (o : Option LibraryUnit) → slice_get us s.unit ≡ o
          → given_by (elim o as (λ y. Members) [ None ↦ [] | Some u ↦ new_among us s.unit (partial_of u s.partial) ]) x
          ≡ option_and_then (λ (j : ℕ). option_and_then (λ u. option_map (λ (m : Name × Entry). m.1) (slice_get (partial_of u s.partial) j)) o) (own_member s.unit (position_in 0 us x))
      go None at = nothing (own_member s.unit (position_in 0 us x))
      go (Some u) at =
          let e : 0 + s.unit ≡ s.unit = omega arith in
          given_new us s.unit (partial_of u s.partial) x first
          ∙ given_leading x 0 (partial_of u s.partial) (members_of u) (slice_get (partial_of u s.partial)) (λ k. let same : 0 + k ≡ k = omega arith in ap (slice_get (partial_of u s.partial)) same)
          (partial_leads u s.partial)
          ∙ ap (option_and_then (entry_by (slice_get (partial_of u s.partial))))
          (sym (own_from x us 0 s.unit u at (ap (λ m. position_below m (position_in 0 us x)) e ∙ below)) ∙ ap (λ m. own_member m (position_in 0 us x)) e)

  -- what no unit gives means nothing
  pub found_nowhere : position_in 0 us x ≡ None → found_at_site ≡ None
  found_nowhere h =
      found_own (position_before_is x us s.unit ∙ ap (position_below s.unit) h)
      ∙ ap (λ o. at_partial s.unit (option_and_then (partial_entry_in us s) (own_member s.unit o))) h

-- Where all names of a unit are new, all that is partial of it is.
all_new : (us : Library) (n : ℕ) (ps ms : Members) → Leads ps ms → are_new us n ms ≡ true → new_among us n ps ≡ ps
all_new us n [] ms l h = refl
all_new us n (p ∷ ps) [] l h = absurd l
all_new us n (p ∷ ps) (m ∷ ms) l h =
    ap (λ t. if t then p ∷ new_among us n ps else new_among us n ps) (ap (λ c. is_none (first_giving 0 (take n us) c)) l.0 ∙ first_of h)
    ∙ ap (λ k. p ∷ k) (all_new us n ps ms l.1 (rest_of h))
  where
    first : (a b d : Bool) → ((a && b) && d) ≡ true → a ≡ true
    first true b d e = refl
    first false b d e = absurd cc

    rest : (a b d : Bool) → ((a && b) && d) ≡ true → d ≡ true
    rest true true d e = e
    rest true false d e = absurd cc
    rest false b d e = absurd cc

    first_of : are_new us n (m ∷ ms) ≡ true → is_none (first_giving 0 (take n us) m.0) ≡ true
    first_of e = first (is_none (first_giving 0 (take n us) m.0)) (is_none (given_by ms m.0)) (are_new us n ms) e

    rest_of : are_new us n (m ∷ ms) ≡ true → are_new us n ms ≡ true
    rest_of e = rest (is_none (first_giving 0 (take n us) m.0)) (is_none (given_by ms m.0)) (are_new us n ms) e

pub all_partial : (us : Library) (s : Site) (u : LibraryUnit) → slice_get us s.unit ≡ Some u → are_new us s.unit (members_of u) ≡ true → partial_at us s ≡ partial_of u s.partial
all_partial us s u at new =
    ap (λ o. elim o as (λ y. Members) [ None ↦ [] | Some u ↦ new_among us s.unit (partial_of u s.partial) ]) at
    ∙ all_new us s.unit (partial_of u s.partial) (members_of u) (partial_leads u s.partial) new

pub none_partial : (us : Library) (n : ℕ) → partial_at us (record { unit = n; partial = Nothing }) ≡ []
none_partial us n = go (slice_get us n)
  where
    go : (o : Option LibraryUnit) → elim o as (λ y. Members) [ None ↦ [] | Some u ↦ new_among us n [] ] ≡ []
    go None = refl
    go (Some u) = refl
