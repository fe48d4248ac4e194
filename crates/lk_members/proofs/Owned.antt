-- Among lines without faults a name stands in one list of types alone.
use Rattle.std.proofs.Common.{◌≡◌, ℕ, Bool, true, false, List, [], ◌∷◌, ◌++◌, refl, ap, sym, ◌∙◌, subst, append_assoc}
use Rattle.std.specs.Prelude.{◌&&◌, ◌||◌, not, nat_eq, Option, Some, None, if◌then◌else◌}
use Rattle.std.specs.List.{list_any}
use Rattle.std.proofs.lemmas.Bool.{false≢true}
use Rattle.std.proofs.lemmas.List.{append-nil}
use Rattle.lk_members.specs.declared.line.TypeHead.{TypeHead}
use Rattle.lk_members.specs.Lines.{or_next, has, same_list, is_distinct, types_with, block_of, alone, a_type, a_ctor, a_recursor}
use Rattle.lk_members.specs.Faults.{fault_of, is_other, crosses}
use Rattle.lk_members.specs.Units.{is_this, block_at, block_with, ended}
use Rattle.lk_members.specs.Stored.{NumberedLine, NumberedMember}
use Rattle.lk_members.specs.Finishing.{AreFaultless, IsFaultless, begins_with, any_begins, ended_unless}
use Rattle.lk_members.proofs.Equal.{number_itself, number_is, list_itself, list_is}
use Rattle.lk_members.proofs.Listing.{type_is_new, or_next_assoc}

-- the list of the first block that names x, and the one that a line states
abbrev listed : List NumberedLine → ℕ → Option (List ℕ)
listed lines x = block_of nat_eq lines x

abbrev stated : NumberedMember → ℕ → Option (List ℕ)
stated s x = types_with nat_eq s x

listed-append : (xs ys : List NumberedLine) (x : ℕ) → listed (xs ++ ys) x ≡ or_next (listed xs x) (listed ys x)
listed-append [] ys x = refl
listed-append (l ∷ xs) ys x = ap (or_next (stated l.said x)) (listed-append xs ys x) ∙ sym (or_next_assoc (stated l.said x) (listed xs x) (listed ys x))

or_none : {A : Type 0} (o : Option A) → or_next o None ≡ o
or_none (Some x) = refl
or_none None = refl

listed_push : (xs : List NumberedLine) (l : NumberedLine) (x : ℕ) → listed (xs ++ l ∷ []) x ≡ or_next (listed xs x) (stated l.said x)
listed_push xs l x = listed-append xs (l ∷ []) x ∙ ap (or_next (listed xs x)) (or_none (stated l.said x))

listed_still : (xs ys : List NumberedLine) (x : ℕ) (us : List ℕ) → listed xs x ≡ Some us → listed (xs ++ ys) x ≡ Some us
listed_still xs ys x us e = listed-append xs ys x ∙ ap (λ o. or_next o (listed ys x)) e

-- none of them passes
none_passes : (p : ℕ → Bool) (xs : List ℕ) (y : ℕ) → list_any p xs ≡ false → has nat_eq xs y ≡ true → p y ≡ false
none_passes p [] y none h = absurd (false≢true h)
none_passes p (x ∷ xs) y none h = go (λ n i. none_passes p xs y n i) (nat_eq x y) refl h
  where
    both_false : (a b : Bool) → (a || b) ≡ false → (a ≡ false) × (b ≡ false)
    both_false true b e = absurd (false≢true (sym e))
    both_false false b e = (refl, e)

    go : (list_any p xs ≡ false → has nat_eq xs y ≡ true → p y ≡ false) → (b : Bool) → nat_eq x y ≡ b → (b || has nat_eq xs y) ≡ true → p y ≡ false
    go more true e i = ap p (sym (number_is x y e)) ∙ (both_false (p x) (list_any p xs) none).0
    go more false e i = more (both_false (p x) (list_any p xs) none).1 i

-- each name of a list leads to that list
abbrev IsOneEach : List NumberedLine → Type 0
IsOneEach lines = (x y : ℕ) (us : List ℕ) → listed lines x ≡ Some us → has nat_eq us y ≡ true → listed lines y ≡ Some us

-- the name of a line's type leads to the line's list
abbrev pub IsOwn : List NumberedLine → NumberedMember → Type 0
IsOwn lines (a_type n ts cs t) = listed lines n ≡ Some ts
IsOwn lines (alone d) = Unit {0}
IsOwn lines (a_ctor p n k) = Unit {0}
IsOwn lines (a_recursor ts n r) = Unit {0}

abbrev pub AreOwn : List NumberedLine → List NumberedLine → Type 0
AreOwn lines [] = Unit {0}
AreOwn lines (l ∷ ls) = IsOwn lines l.said × AreOwn lines ls

own_still : (xs ys : List NumberedLine) (s : NumberedMember) → IsOwn xs s → IsOwn (xs ++ ys) s
own_still xs ys (a_type n ts cs t) h = listed_still xs ys n ts h
own_still xs ys (alone d) h = tt
own_still xs ys (a_ctor p n k) h = tt
own_still xs ys (a_recursor ts n r) h = tt

all_own_push : (xs ls : List NumberedLine) (l : NumberedLine) → AreOwn xs ls → IsOwn (xs ++ l ∷ []) l.said → AreOwn (xs ++ l ∷ []) (ls ++ l ∷ [])
all_own_push xs [] l h own = (own, tt)
all_own_push xs (k ∷ ls) l h own = (own_still xs (l ∷ []) k.said h.0, all_own_push xs ls l h.1 own)

-- a type's lists are good
good_lists : (a b c : Bool) → (not a || (b || c)) ≡ false → (a ≡ true) × (b ≡ false)
good_lists true true c e = absurd (false≢true (sym e))
good_lists true false c e = (refl, refl)
good_lists false b c e = absurd (false≢true (sym e))

-- where no name of the list leads to another list, each leads to this one
one_list : (o : Option (List ℕ)) (ts : List ℕ) → is_other nat_eq o ts ≡ false → or_next o (Some ts) ≡ Some ts
one_list None ts e = refl
one_list (Some vs) ts e = ap Some (list_is vs ts (go (same_list nat_eq vs ts) e))
  where
    go : (b : Bool) → not b ≡ false → b ≡ true
    go true h = refl
    go false h = absurd (false≢true (sym h))

module _ (before : List NumberedLine) (l : NumberedLine) (n : ℕ) (ts cs : List ℕ) (t : TypeHead) (is : l.said ≡ a_type n ts cs t) (fine : fault_of nat_eq before l.said ≡ None) where
  good : (has nat_eq ts n ≡ true) × (crosses nat_eq before ts ≡ false)
  good = good_lists (has nat_eq ts n) (crosses nat_eq before ts) (not (is_distinct nat_eq ts) || not (is_distinct nat_eq cs)) (type_is_new before n ts cs t (ap (fault_of nat_eq before) (sym is) ∙ fine)).0

  states : (y : ℕ) → stated l.said y ≡ (if has nat_eq ts y then Some ts else None)
  states y = ap (λ (s : NumberedMember). stated s y) is

  leads_here : (y : ℕ) → has nat_eq ts y ≡ true → listed (before ++ l ∷ []) y ≡ Some ts
  leads_here y h =
      let here : stated l.said y ≡ Some ts = states y ∙ ap (λ (b : Bool). if b then Some ts else None) h in
      listed_push before l y ∙ ap (or_next (listed before y)) here ∙ one_list (listed before y) ts (none_passes (λ x. is_other nat_eq (listed before x) ts) ts y good.1 h)

  leads_still : IsOneEach before → (x y : ℕ) (us : List ℕ) → (o : Option (List ℕ)) → listed before x ≡ o → (b : Bool) → has nat_eq ts x ≡ b → or_next o (if b then Some ts else None) ≡ Some us → has nat_eq us y ≡ true → listed (before ++ l ∷ []) y ≡ Some us
  leads_still one x y us (Some vs) e b h i j = listed_still before (l ∷ []) y us (one x y us (e ∙ i) j)
  leads_still one x y us None e true h i j = let same : ts ≡ us = cc in subst (λ ws. listed (before ++ l ∷ []) y ≡ Some ws) same (leads_here y (ap (λ ws. has nat_eq ws y) same ∙ j))
  leads_still one x y us None e false h i j = absurd (cc)

  pub type_kept : IsOneEach before → IsOneEach (before ++ l ∷ [])
  type_kept one x y us i j = leads_still one x y us (listed before x) refl (has nat_eq ts x) refl (ap (or_next (listed before x)) (sym (states x)) ∙ sym (listed_push before l x) ∙ i) j

  pub type_own : IsOwn (before ++ l ∷ []) l.said
  type_own = subst (IsOwn (before ++ l ∷ [])) (sym is) (leads_here n good.0)

-- a line that states no list
other_kept : (before : List NumberedLine) (l : NumberedLine) → ((x : ℕ) → stated l.said x ≡ None) → IsOneEach before → IsOneEach (before ++ l ∷ [])
other_kept before l none one x y us i j =
    let as_before = λ (z : ℕ). listed_push before l z ∙ ap (or_next (listed before z)) (none z) ∙ or_none (listed before z) in
    as_before y ∙ one x y us (sym (as_before x) ∙ i) j

record AreKept (lines : List NumberedLine) : Type 0 where
  one : IsOneEach lines
  own : AreOwn lines lines

line_kept : (before : List NumberedLine) (l : NumberedLine) → fault_of nat_eq before l.said ≡ None → AreKept before → AreKept (before ++ l ∷ [])
line_kept before l fine k = go l.said refl
  where
    other : (s : NumberedMember) → l.said ≡ s → ((x : ℕ) → stated s x ≡ None) → IsOwn (before ++ l ∷ []) s → AreKept (before ++ l ∷ [])
    other s is none own = record {
      one = other_kept before l (λ x. ap (λ (u : NumberedMember). stated u x) is ∙ none x) k.one;
      own = all_own_push before before l k.own (subst (IsOwn (before ++ l ∷ [])) (sym is) own);
    }

    go : (s : NumberedMember) → l.said ≡ s → AreKept (before ++ l ∷ [])
    go (a_type n ts cs t) is = record { one = type_kept before l n ts cs t is fine k.one; own = all_own_push before before l k.own (type_own before l n ts cs t is fine) }
    go (alone d) is = other (alone d) is (λ x. refl) tt
    go (a_ctor p n c) is = other (a_ctor p n c) is (λ x. refl) tt
    go (a_recursor ts n r) is = other (a_recursor ts n r) is (λ x. refl) tt

all_kept : (before rest : List NumberedLine) → AreFaultless before rest → AreKept before → AreKept (before ++ rest)
all_kept before [] fine k = subst AreKept (sym (append-nil before)) k
all_kept before (l ∷ rest) fine k = subst AreKept (append_assoc before (l ∷ []) rest) (all_kept (before ++ l ∷ []) rest fine.1 (line_kept before l fine.0 k))

kept : (lines : List NumberedLine) → IsFaultless lines → AreKept lines
kept lines fine = all_kept [] lines fine (record { one = λ x y us i j. absurd (cc); own = tt })

-- a list that is found holds the name that it was found by
holds : (lines : List NumberedLine) (x : ℕ) (us : List ℕ) → listed lines x ≡ Some us → has nat_eq us x ≡ true
holds [] x us e = absurd (cc)
holds (l ∷ lines) x us e = go (λ i. holds lines x us i) l.said e
  where
    of_test : (listed lines x ≡ Some us → has nat_eq us x ≡ true) → (ts : List ℕ) (b : Bool) → has nat_eq ts x ≡ b → or_next (if b then Some ts else None) (listed lines x) ≡ Some us → has nat_eq us x ≡ true
    of_test more ts true h i = let same : ts ≡ us = cc in subst (λ ws. has nat_eq ws x ≡ true) same h
    of_test more ts false h i = more i

    go : (listed lines x ≡ Some us → has nat_eq us x ≡ true) → (s : NumberedMember) → or_next (stated s x) (listed lines x) ≡ Some us → has nat_eq us x ≡ true
    go more (a_type n ts cs t) i = of_test more ts (has nat_eq ts x) refl i
    go more (alone d) i = more i
    go more (a_ctor p n c) i = more i
    go more (a_recursor ts n r) i = more i

-- the list begins with a name that leads to it
abbrev IsHeaded : List NumberedLine → List ℕ → Type 0
IsHeaded lines [] = ⊥
IsHeaded lines (t ∷ ts) = listed lines t ≡ Some (t ∷ ts)

headed : (lines : List NumberedLine) (k : AreKept lines) (x : ℕ) (us : List ℕ) → listed lines x ≡ Some us → IsHeaded lines us
headed lines k x [] e = let h = holds lines x [] e in false≢true h
headed lines k x (t ∷ ts) e = k.one x t (t ∷ ts) e (ap (λ b. b || has nat_eq ts t) (number_itself t))

-- so does the list of each line's block
block_headed : (lines : List NumberedLine) (k : AreKept lines) (s : NumberedMember) → IsOwn lines s → (us : List ℕ) → block_at nat_eq lines s ≡ Some us → IsHeaded lines us
block_headed lines k (a_type n ts cs t) own us e = headed lines k n us (own ∙ e)
block_headed lines k (a_ctor p n c) own us e = headed lines k p us e
block_headed lines k (alone d) own us e = absurd (cc)
block_headed lines k (a_recursor ts n r) own us e = absurd (cc)

-- lists that begin alike are equal
same_heads : (lines : List NumberedLine) (t : ℕ) (ts : List ℕ) → IsHeaded lines (t ∷ ts) → (o : Option (List ℕ)) → ((us : List ℕ) → o ≡ Some us → IsHeaded lines us) → is_this nat_eq (t ∷ ts) o ≡ begins_with t o
same_heads lines t ts head None all = refl
same_heads lines t ts head (Some []) all = absurd (all [] refl)
same_heads lines t ts head (Some (u ∷ us)) all = go (nat_eq u t) refl
  where
    go : (b : Bool) → nat_eq u t ≡ b → (nat_eq u t && same_list nat_eq us ts) ≡ nat_eq u t
    go true e =
        let one : u ≡ t = number_is u t e in
        let other : listed lines t ≡ Some (u ∷ us) = ap (listed lines) (sym one) ∙ all (u ∷ us) refl in
        let same : (u ∷ us) ≡ (t ∷ ts) = let h : Some (u ∷ us) ≡ Some (t ∷ ts) = sym other ∙ head in cc in
        subst (λ (ws : List ℕ). same_list nat_eq (u ∷ us) ws ≡ true) same (list_itself (u ∷ us)) ∙ sym e
    go false e = ap (λ b. b && same_list nat_eq us ts) e ∙ sym e

later_same : (lines : List NumberedLine) (k : AreKept lines) (t : ℕ) (ts : List ℕ) → IsHeaded lines (t ∷ ts) → (later : List NumberedLine) → AreOwn lines later
    → list_any (λ (l : NumberedLine). is_this nat_eq (t ∷ ts) (block_at nat_eq lines l.said)) later ≡ any_begins lines later t
later_same lines k t ts head [] own = refl
later_same lines k t ts head (l ∷ later) own =
    let one = same_heads lines t ts head (block_at nat_eq lines l.said) (block_headed lines k l.said own.0) in
    let more = later_same lines k t ts head later own.1 in
    ap (λ b. b || list_any (λ (l : NumberedLine). is_this nat_eq (t ∷ ts) (block_at nat_eq lines l.said)) later) one ∙ ap (λ b. begins_with t (block_at nat_eq lines l.said) || b) more

own_drop : (lines done later : List NumberedLine) → AreOwn lines (done ++ later) → AreOwn lines later
own_drop lines [] later h = h
own_drop lines (l ∷ done) later h = own_drop lines done later h.1

-- what ends at a line, by the first names of the lists that were met behind it
pub ended_is : (lines done : List NumberedLine) (l : NumberedLine) (later : List NumberedLine) → IsFaultless lines → done ++ l ∷ later ≡ lines
    → ended_unless (any_begins lines later) lines (block_at nat_eq lines l.said) ≡ ended nat_eq lines later (block_at nat_eq lines l.said)
ended_is lines done l later fine whole =
    let k = kept lines fine in
    let own = own_drop lines done (l ∷ later) (subst (AreOwn lines) (sym whole) k.own) in
    go k own (block_at nat_eq lines l.said) (block_headed lines k l.said own.0)
  where
    by_test : (a b : Bool) (ts : List ℕ) → a ≡ b → (if b then [] else block_with nat_eq lines ts ∷ []) ≡ (if not a then block_with nat_eq lines ts ∷ [] else [])
    by_test true true ts e = refl
    by_test true false ts e = absurd (false≢true (sym e))
    by_test false true ts e = absurd (false≢true e)
    by_test false false ts e = refl

    go : (k : AreKept lines) (own : AreOwn lines (l ∷ later)) (o : Option (List ℕ)) → ((us : List ℕ) → o ≡ Some us → IsHeaded lines us) → ended_unless (any_begins lines later) lines o ≡ ended nat_eq lines later o
    go k own None all = refl
    go k own (Some []) all = absurd (all [] refl)
    go k own (Some (t ∷ ts)) all = by_test (list_any (λ (l : NumberedLine). is_this nat_eq (t ∷ ts) (block_at nat_eq lines l.said)) later) (any_begins lines later t) (t ∷ ts) (later_same lines k t ts (all (t ∷ ts) refl) later own.1)
