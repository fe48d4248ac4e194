-- Among lines without faults a name stands in one list of types alone.
use Rattle.std.specs.Prelude.{◌≡◌, Bool, true, false, not, ◌||◌, ◌⊎◌, List, [], ◌∷◌, ◌++◌, All}
use Rattle.std.specs.Prelude.{Option, Some, None, is_some, if◌then◌else◌}
use Rattle.std.specs.List.{list_any}
use Rattle.std.proofs.Common.{inl, inr, refl, ap, sym, ◌∙◌, subst, append_assoc}
use Rattle.std.proofs.lemmas.Bool.{or_parts, not-false}
use Rattle.std.proofs.lemmas.List.{append-nil}
use Rattle.std.proofs.lemmas.List.Elements.{All-nil, All-push, All-weaker}
use Rattle.lk_tree.specs.Tree.{Name}
use Rattle.lk_tree.specs.Mentions.{same_name}
use Rattle.lk_tree.proofs.LevelTests.{name_is}
use Rattle.lk_members.specs.declared.fault.MemberFault.TheVariants.{BadCount, RepeatedMember}
use Rattle.lk_members.specs.Lines.{or_next, has, same_list, is_distinct, types_with, block_of}
use Rattle.lk_members.specs.Lines.{type_of}
use Rattle.lk_members.specs.Lines.{alone, a_type, a_ctor, a_recursor}
use Rattle.lk_members.specs.Faults.{fault_of, is_other, crosses, bad_lists}
use Rattle.lk_members.specs.Plain.{Head, PlainMember, PlainLine}
use Rattle.lk_readback.proofs.Members.{HaveNoFault}
use Rattle.lk_readback.proofs.NameLists.{list_is}

-- what each line without a fault keeps holds of all lines
pub through : (P : List PlainLine → Type 0)
    → ((before : List PlainLine) (l : PlainLine) → fault_of same_name before l.said ≡ None
    → P before → P (before ++ l ∷ []))
    → (before rest : List PlainLine) → HaveNoFault (before ++ rest) → P before → P (before ++ rest)
through P step before [] fine p = subst P (sym (append-nil before)) p
through P step before (l ∷ rest) fine p =
    subst P (append_assoc before (l ∷ []) rest)
    (through P step (before ++ l ∷ []) rest
    (subst HaveNoFault (sym (append_assoc before (l ∷ []) rest)) fine)
    (step before l (fine before l rest refl) p))

-- the list of the first block that names x, and the one that a line states
abbrev listed : List PlainLine → Name → Option (List Name)
listed lines x = block_of same_name lines x

abbrev stated : PlainMember → Name → Option (List Name)
stated s x = types_with same_name s x

next_assoc : {A : Type 0} (o p q : Option A)
    → or_next (or_next o p) q ≡ or_next o (or_next p q)
next_assoc None p q = refl
next_assoc (Some a) p q = refl

next_none : {A : Type 0} (o : Option A) → or_next o None ≡ o
next_none None = refl
next_none (Some a) = refl

-- what the first or the second gives
pub next_cases : {A : Type 0} (o p : Option A) (a : A) → or_next o p ≡ Some a
    → (o ≡ Some a) ⊎ (p ≡ Some a)
next_cases None p a e = inr e
next_cases (Some b) p a e = inl e

-- what a test lets through
pub chosen : {A : Type 0} (b : Bool) (x y : A) → (if b then Some x else None) ≡ Some y
    → (b ≡ true) × (x ≡ y)
chosen true x y e = (refl, cc)
chosen false x y e = absurd cc

listed-append : (xs ys : List PlainLine) (x : Name)
    → listed (xs ++ ys) x ≡ or_next (listed xs x) (listed ys x)
listed-append [] ys x = refl
listed-append (l ∷ xs) ys x =
    ap (or_next (stated l.said x)) (listed-append xs ys x)
    ∙ sym (next_assoc (stated l.said x) (listed xs x) (listed ys x))

listed_push : (xs : List PlainLine) (l : PlainLine) (x : Name)
    → listed (xs ++ l ∷ []) x ≡ or_next (listed xs x) (stated l.said x)
listed_push xs l x =
    listed-append xs (l ∷ []) x ∙ ap (or_next (listed xs x)) (next_none (stated l.said x))

listed_still : (xs ys : List PlainLine) (x : Name) (us : List Name) → listed xs x ≡ Some us
    → listed (xs ++ ys) x ≡ Some us
listed_still xs ys x us e = listed-append xs ys x ∙ ap (λ o. or_next o (listed ys x)) e

-- a line that names x has it in its list
stated_has : (s : PlainMember) (x : Name) (ts : List Name) → stated s x ≡ Some ts
    → has same_name ts x ≡ true
stated_has (a_type n us cs t) x ts e =
    let c = chosen (has same_name us x) us ts e in
    ap (λ vs. has same_name vs x) (sym c.1) ∙ c.0
stated_has (alone d) x ts e = absurd cc
stated_has (a_ctor p n c) x ts e = absurd cc
stated_has (a_recursor us n r) x ts e = absurd cc

-- a list that is found holds the name that it was found by
pub holds : (lines : List PlainLine) (x : Name) (ts : List Name) → listed lines x ≡ Some ts
    → has same_name ts x ≡ true
holds [] x ts e = absurd cc
holds (l ∷ lines) x ts e =
    go (holds lines x ts) (next_cases (stated l.said x) (listed lines x) ts e)
  where
    go : (listed lines x ≡ Some ts → has same_name ts x ≡ true)
        → (stated l.said x ≡ Some ts) ⊎ (listed lines x ≡ Some ts) → has same_name ts x ≡ true
    go more (inl i) = stated_has l.said x ts i
    go more (inr i) = more i

-- none of them passes
pub none_passes : (p : Name → Bool) (xs : List Name) (y : Name) → list_any p xs ≡ false
    → has same_name xs y ≡ true → p y ≡ false
none_passes p [] y none h = absurd cc
none_passes p (x ∷ xs) y none h = go (none_passes p xs y) (same_name x y) refl h
  where
    go : (list_any p xs ≡ false → has same_name xs y ≡ true → p y ≡ false) → (b : Bool)
        → same_name x y ≡ b → (b || has same_name xs y) ≡ true → p y ≡ false
    go more true e i =
        ap p (sym (name_is x y e)) ∙ (or_parts (p x) (list_any p xs) none).0
    go more false e i = more (or_parts (p x) (list_any p xs) none).1 i

-- each name of a list leads to that list
abbrev pub IsOneEach : List PlainLine → Type 0
IsOneEach lines =
    (x y : Name) (ts : List Name) → listed lines x ≡ Some ts → has same_name ts y ≡ true
    → listed lines y ≡ Some ts

-- the name of a line's type leads to the line's list, and its lists hold no name twice
pub record IsOwnType (lines : List PlainLine) (n : Name) (ts cs : List Name) : Type 0 where
  pub leads : listed lines n ≡ Some ts
  pub types : is_distinct same_name ts ≡ true
  pub ctors : is_distinct same_name cs ≡ true

abbrev pub IsOwn : List PlainLine → PlainMember → Type 0
IsOwn lines (a_type n ts cs t) = IsOwnType lines n ts cs
IsOwn lines (alone d) = Unit {0}
IsOwn lines (a_ctor p n k) = Unit {0}
IsOwn lines (a_recursor ts n r) = Unit {0}

own_still : (xs ys : List PlainLine) (s : PlainMember) → IsOwn xs s → IsOwn (xs ++ ys) s
own_still xs ys (a_type n ts cs t) h =
    record { leads = listed_still xs ys n ts h.leads; types = h.types; ctors = h.ctors }
own_still xs ys (alone d) h = tt
own_still xs ys (a_ctor p n k) h = tt
own_still xs ys (a_recursor ts n r) h = tt

pub record AreOwn (lines : List PlainLine) : Type 0 where
  pub one : IsOneEach lines
  pub own : All (λ (l : PlainLine). IsOwn lines l.said) lines

own_push : (xs : List PlainLine) (l : PlainLine) → AreOwn xs → IsOwn (xs ++ l ∷ []) l.said
    → All (λ (k : PlainLine). IsOwn (xs ++ l ∷ []) k.said) (xs ++ l ∷ [])
own_push xs l h own =
    All-push (λ (k : PlainLine). IsOwn (xs ++ l ∷ []) k.said) xs l
    (All-weaker (λ (k : PlainLine). IsOwn xs k.said)
    (λ (k : PlainLine). IsOwn (xs ++ l ∷ []) k.said)
    (λ k. own_still xs (l ∷ []) k.said) xs h.own)
    own

-- the lists of a type whose line has no fault
record AreGoodLists (before : List PlainLine) (n : Name) (ts cs : List Name) : Type 0 where
  own : has same_name ts n ≡ true
  others : crosses same_name before ts ≡ false
  types : is_distinct same_name ts ≡ true
  ctors : is_distinct same_name cs ≡ true

not_bad : (a b : Bool)
    → (if a then Some BadCount else (if b then Some RepeatedMember else None)) ≡ None → a ≡ false
not_bad true b e = absurd cc
not_bad false b e = refl

good_lists : (before : List PlainLine) (n : Name) (ts cs : List Name) (t : Head)
    → fault_of same_name before (a_type n ts cs t) ≡ None → AreGoodLists before n ts cs
good_lists before n ts cs t fine =
    let good = not_bad (bad_lists same_name before n ts cs)
    (is_some (type_of same_name before n)) fine in
    let a = or_parts (not (has same_name ts n))
    (crosses same_name before ts
    || (not (is_distinct same_name ts) || not (is_distinct same_name cs))) good in
    let b = or_parts (crosses same_name before ts)
    (not (is_distinct same_name ts) || not (is_distinct same_name cs)) a.1 in
    let c = or_parts (not (is_distinct same_name ts)) (not (is_distinct same_name cs)) b.1 in
    record {
      own = not-false (has same_name ts n) a.0;
      others = b.0;
      types = not-false (is_distinct same_name ts) c.0;
      ctors = not-false (is_distinct same_name cs) c.1;
    }

-- where no name of the list leads to another list, each leads to this one
one_list : (o : Option (List Name)) (ts : List Name) → is_other same_name o ts ≡ false
    → or_next o (Some ts) ≡ Some ts
one_list None ts e = refl
one_list (Some vs) ts e =
    ap (λ xs. Some xs) (list_is vs ts (not-false (same_list same_name vs ts) e))

module _ (before : List PlainLine) (l : PlainLine) (n : Name) (ts cs : List Name) (t : Head)
    (is : l.said ≡ a_type n ts cs t) (fine : fault_of same_name before l.said ≡ None) where
  good : AreGoodLists before n ts cs
  good = good_lists before n ts cs t (ap (fault_of same_name before) (sym is) ∙ fine)

  states : (y : Name) → stated l.said y ≡ (if has same_name ts y then Some ts else None)
  states y = ap (λ (s : PlainMember). stated s y) is

  leads_here : (y : Name) → has same_name ts y ≡ true → listed (before ++ l ∷ []) y ≡ Some ts
  leads_here y h =
      let here : stated l.said y ≡ Some ts =
      states y ∙ ap (λ (b : Bool). if b then Some ts else None) h in
      listed_push before l y ∙ ap (or_next (listed before y)) here
      ∙ one_list (listed before y) ts
      (none_passes (λ x. is_other same_name (listed before x) ts) ts y good.others h)

  type_kept : IsOneEach before → IsOneEach (before ++ l ∷ [])
  type_kept one x y us i j =
      go (next_cases (listed before x) (stated l.said x) us (sym (listed_push before l x) ∙ i))
    where
      go : (listed before x ≡ Some us) ⊎ (stated l.said x ≡ Some us)
          → listed (before ++ l ∷ []) y ≡ Some us
      go (inl e) = listed_still before (l ∷ []) y us (one x y us e j)
      go (inr e) =
          let same : ts ≡ us = (chosen (has same_name ts x) ts us (sym (states x) ∙ e)).1 in
          subst (λ ws. listed (before ++ l ∷ []) y ≡ Some ws) same
          (leads_here y (ap (λ ws. has same_name ws y) same ∙ j))

  type_own : IsOwn (before ++ l ∷ []) l.said
  type_own =
      subst (IsOwn (before ++ l ∷ [])) (sym is)
      (record { leads = leads_here n good.own; types = good.types; ctors = good.ctors })

-- a line that states no list
other_kept : (before : List PlainLine) (l : PlainLine) → ((x : Name) → stated l.said x ≡ None)
    → IsOneEach before → IsOneEach (before ++ l ∷ [])
other_kept before l none one x y us i j =
    let as_before = λ (z : Name).
    listed_push before l z ∙ ap (or_next (listed before z)) (none z)
    ∙ next_none (listed before z) in
    as_before y ∙ one x y us (sym (as_before x) ∙ i) j

line_kept : (before : List PlainLine) (l : PlainLine) → fault_of same_name before l.said ≡ None
    → AreOwn before → AreOwn (before ++ l ∷ [])
line_kept before l fine k = go l.said refl
  where
    other : (s : PlainMember) → l.said ≡ s → ((x : Name) → stated s x ≡ None)
        → IsOwn (before ++ l ∷ []) s → AreOwn (before ++ l ∷ [])
    other s is none own =
        record {
          one = other_kept before l (λ x. ap (λ (u : PlainMember). stated u x) is ∙ none x) k.one;
          own = own_push before l k (subst (IsOwn (before ++ l ∷ [])) (sym is) own);
        }

    go : (s : PlainMember) → l.said ≡ s → AreOwn (before ++ l ∷ [])
    go (a_type n ts cs t) is =
        record {
          one = type_kept before l n ts cs t is fine k.one;
          own = own_push before l k (type_own before l n ts cs t is fine);
        }
    go (alone d) is = other (alone d) is (λ x. refl) tt
    go (a_ctor p n c) is = other (a_ctor p n c) is (λ x. refl) tt
    go (a_recursor ts n r) is = other (a_recursor ts n r) is (λ x. refl) tt

pub all_own : (ls : List PlainLine) → HaveNoFault ls → AreOwn ls
all_own ls fine =
    through AreOwn line_kept [] ls fine
    (record {
      one = λ x y ts e h. absurd cc;
      own = All-nil (λ (l : PlainLine). IsOwn [] l.said);
    })
