-- Among lines without faults no recursor of a block stands twice.
use Rattle.std.specs.Prelude.{◌≡◌, Bool, true, false, ◌&&◌, ◌||◌, List, [], ◌∷◌, ◌++◌, All}
use Rattle.std.specs.Prelude.{Some, None, if◌then◌else◌}
use Rattle.std.proofs.Common.{refl, ap, sym, ◌∙◌, append_assoc}
use Rattle.std.proofs.lemmas.List.{append-nil}
use Rattle.std.proofs.lemmas.List.Elements.{All-nil, All-cons, All-head, All-tail, All-append}
use Rattle.lk_tree.specs.Tree.{Name}
use Rattle.lk_tree.specs.Mentions.{same_name}
use Rattle.lk_rulebook.specs.Place.{BlockRecursor}
use Rattle.lk_members.specs.declared.fault.MemberFault.TheVariants.{RepeatedMember}
use Rattle.lk_members.specs.Lines.{has, same_list, is_distinct, recursor_here, recursors_of}
use Rattle.lk_members.specs.Lines.{is_recursor_here, has_recursor, alone, a_type, a_ctor}
use Rattle.lk_members.specs.Lines.{a_recursor}
use Rattle.lk_members.specs.Faults.{fault_of}
use Rattle.lk_members.specs.Plain.{PlainMember, PlainLine}
use Rattle.lk_readback.specs.Statable.{IsRecursor, recursor_names}
use Rattle.lk_readback.proofs.Members.{IsMember, AreMembers, HaveNoFault}
use Rattle.lk_readback.proofs.NameLists.{list_is, has_append, distinct_push, or_false}
use Rattle.lk_readback.proofs.OneBlock.{through}

-- the names of the recursors of a block that the lines state
abbrev names_here : PlainMember → List Name → List Name
names_here (a_recursor ts n r) us = if same_list same_name ts us then n ∷ [] else []
names_here (alone d) us = []
names_here (a_type n ts cs t) us = []
names_here (a_ctor p n c) us = []

abbrev names_stated : List PlainLine → List Name → List Name
names_stated [] us = []
names_stated (l ∷ ls) us = names_here l.said us ++ names_stated ls us

stated_push : (ls : List PlainLine) (l : PlainLine) (us : List Name)
    → names_stated (ls ++ l ∷ []) us ≡ names_stated ls us ++ names_here l.said us
stated_push [] l us = append-nil (names_here l.said us)
stated_push (k ∷ ls) l us =
    ap (λ ns. names_here k.said us ++ ns) (stated_push ls l us)
    ∙ sym (append_assoc (names_here k.said us) (names_stated ls us) (names_here l.said us))

here_is : (s : PlainMember) (us : List Name) (x : Name)
    → has same_name (names_here s us) x ≡ is_recursor_here same_name s us x
here_is (a_recursor ts n r) us x = go (same_list same_name ts us)
  where
    go : (b : Bool) → has same_name (if b then n ∷ [] else []) x ≡ (b && same_name n x)
    go true = or_false (same_name n x)
    go false = refl
here_is (alone d) us x = refl
here_is (a_type n ts cs t) us x = refl
here_is (a_ctor p n c) us x = refl

has_stated : (ls : List PlainLine) (us : List Name) (x : Name)
    → has same_name (names_stated ls us) x ≡ has_recursor same_name ls us x
has_stated [] us x = refl
has_stated (l ∷ ls) us x =
    has_append (names_here l.said us) (names_stated ls us) x
    ∙ ap (λ b. b || has same_name (names_stated ls us) x) (here_is l.said us x)
    ∙ ap (λ b. is_recursor_here same_name l.said us x || b) (has_stated ls us x)

abbrev StandOnce : List PlainLine → Type 0
StandOnce ls = (us : List Name) → is_distinct same_name (names_stated ls us) ≡ true

not_again : (b : Bool) → (if b then Some RepeatedMember else None) ≡ None → b ≡ false
not_again true e = absurd cc
not_again false e = refl

line_once : (before : List PlainLine) (l : PlainLine) → fault_of same_name before l.said ≡ None
    → StandOnce before → StandOnce (before ++ l ∷ [])
line_once before l fine once us =
    ap (is_distinct same_name) (stated_push before l us) ∙ go l.said fine
  where
    as_before : is_distinct same_name (names_stated before us ++ []) ≡ true
    as_before = ap (is_distinct same_name) (append-nil (names_stated before us)) ∙ once us

    by_test : (n : Name) (ts : List Name) → has_recursor same_name before ts n ≡ false → (b : Bool)
        → same_list same_name ts us ≡ b
        → is_distinct same_name (names_stated before us ++ (if b then n ∷ [] else [])) ≡ true
    by_test n ts new true e =
        let same : ts ≡ us = list_is ts us e in
        distinct_push (names_stated before us) n (once us)
        (has_stated before us n ∙ ap (λ vs. has_recursor same_name before vs n) (sym same) ∙ new)
    by_test n ts new false e = as_before

    go : (s : PlainMember) → fault_of same_name before s ≡ None
        → is_distinct same_name (names_stated before us ++ names_here s us) ≡ true
    go (a_recursor ts n r) none =
        by_test n ts (not_again (has_recursor same_name before ts n) none)
        (same_list same_name ts us) refl
    go (alone d) none = as_before
    go (a_type n ts cs t) none = as_before
    go (a_ctor p n c) none = as_before

names-append : (rs ss : List BlockRecursor)
    → recursor_names (rs ++ ss) ≡ recursor_names rs ++ recursor_names ss
names-append [] ss = refl
names-append (r ∷ rs) ss = ap (λ ns. r.name ∷ ns) (names-append rs ss)

named_here : (s : PlainMember) (us : List Name) → IsMember s
    → recursor_names (recursor_here same_name s us) ≡ names_here s us
named_here (a_recursor ts n r) us h = go (same_list same_name ts us) h.0
  where
    go : (b : Bool) → r.name ≡ n
        → recursor_names (if b then r ∷ [] else []) ≡ (if b then n ∷ [] else [])
    go true e = ap (λ x. x ∷ []) e
    go false e = refl
named_here (alone d) us h = refl
named_here (a_type n ts cs t) us h = refl
named_here (a_ctor p n c) us h = refl

named : (ls : List PlainLine) (us : List Name) → AreMembers ls
    → recursor_names (recursors_of same_name ls us) ≡ names_stated ls us
named [] us all = refl
named (l ∷ ls) us all =
    names-append (recursor_here same_name l.said us) (recursors_of same_name ls us)
    ∙ ap (λ ns. ns ++ recursor_names (recursors_of same_name ls us))
    (named_here l.said us (All-head (λ (k : PlainLine). IsMember k.said) l ls all))
    ∙ ap (λ ns. names_here l.said us ++ ns)
    (named ls us (All-tail (λ (k : PlainLine). IsMember k.said) l ls all))

pub recursors_once : (ls : List PlainLine) (us : List Name) → AreMembers ls → HaveNoFault ls
    → is_distinct same_name (recursor_names (recursors_of same_name ls us)) ≡ true
recursors_once ls us members fine =
    ap (is_distinct same_name) (named ls us members)
    ∙ through StandOnce line_once [] ls fine (λ vs. refl) us

-- each can be stated
recursors_here : (s : PlainMember) (us : List Name) → IsMember s
    → All IsRecursor (recursor_here same_name s us)
recursors_here (a_recursor ts n r) us h = go (same_list same_name ts us)
  where
    go : (b : Bool) → All IsRecursor (if b then r ∷ [] else [])
    go true = All-cons IsRecursor r [] h.1 (All-nil IsRecursor)
    go false = All-nil IsRecursor
recursors_here (alone d) us h = All-nil IsRecursor
recursors_here (a_type n ts cs t) us h = All-nil IsRecursor
recursors_here (a_ctor p n c) us h = All-nil IsRecursor

pub recursors_fine : (ls : List PlainLine) (us : List Name) → AreMembers ls
    → All IsRecursor (recursors_of same_name ls us)
recursors_fine [] us all = All-nil IsRecursor
recursors_fine (l ∷ ls) us all =
    All-append IsRecursor (recursor_here same_name l.said us) (recursors_of same_name ls us)
    (recursors_here l.said us (All-head (λ (k : PlainLine). IsMember k.said) l ls all))
    (recursors_fine ls us (All-tail (λ (k : PlainLine). IsMember k.said) l ls all))
