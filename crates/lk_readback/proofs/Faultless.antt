-- No line of units has a fault among those before it.
use Rattle.std.proofs.Common.{◌≡◌, Bool, true, false, List, [], ◌∷◌, ◌++◌, Option, Some, None, refl}
use Rattle.std.proofs.Common.{ap, sym, subst, ◌∙◌}
use Rattle.std.specs.Prelude.{◌||◌, not, is_some, if◌then◌else◌}
use Rattle.std.specs.List.{AllByRecursion}
use Rattle.std.proofs.lemmas.Bool.{and_left, and_right, or_from, false_from_ne_true}
use Rattle.std.proofs.lemmas.List.Elements.{recursion_from_All}
use Rattle.lk_tree.specs.Tree.{Name}
use Rattle.lk_tree.specs.Mentions.{same_name}
use Rattle.lk_rulebook.specs.Place.{Ctor, BlockType, type_names, BlockRecursor}
use Rattle.lk_rulebook.specs.Units.{LibraryUnit, of_decl, of_block, Library}
use Rattle.lk_trim.specs.Units.{ctor_names}
use Rattle.lk_members.specs.declared.fault.MemberFault.TheVariants.{BadCount, RepeatedMember}
use Rattle.lk_members.specs.Lines.{alone, a_type, a_ctor, a_recursor, or_next, has, same_list}
use Rattle.lk_members.specs.Lines.{is_distinct, types_with, block_of, type_here, type_of, ctor_here}
use Rattle.lk_members.specs.Lines.{ctor_of, is_recursor_here, has_recursor}
use Rattle.lk_members.specs.Faults.{is_other, crosses, fault_of}
use Rattle.lk_members.specs.Plain.{Head, PlainMember, PlainLine}
use Rattle.lk_readback.specs.Statable.{IsType, IsCtor, IsUnit, types_of, recursor_names}
use Rattle.lk_readback.specs.Stated.{head_of, type_member, type_members, ctor_member, ctor_members}
use Rattle.lk_readback.specs.Stated.{all_ctor_members, rec_member, rec_members, stated_of}
use Rattle.lk_readback.specs.Stated.{all_stated, said_by, AreFaultless}
use Rattle.lk_readback.proofs.Listed.{list_itself, has_first, has_later, none_of, first_apart}
use Rattle.lk_readback.proofs.Listed.{rest_distinct, differs_back, each_append}
use Rattle.lk_readback.proofs.Listed.{each_weaker, each_always}
use Rattle.lk_readback.proofs.Belonging.{IsOf, IsSilent, silent_of, unit_of_family, IsApart}
use Rattle.lk_readback.proofs.Belonging.{AreApart}
use Rattle.lk_readback.proofs.LookedUp.{type_silent, block_silent, ctor_silent, other_list}

-- the first of two lines makes the second no fault
abbrev pub IsClear : PlainMember → PlainMember → Type 0
IsClear e (alone d) = Unit {0}
IsClear e (a_type n ts cs t) =
    (type_here same_name e n ≡ None)
    × ((x : Name) → has same_name ts x ≡ true
    → is_other same_name (types_with same_name e x) ts ≡ false)
IsClear e (a_ctor p n c) = ctor_here same_name e p n ≡ None
IsClear e (a_recursor ts n r) = is_recursor_here same_name e ts n ≡ false

-- the lists of a line are as they should be
abbrev pub IsSound : PlainMember → Type 0
IsSound (alone d) = Unit {0}
IsSound (a_type n ts cs t) =
    (has same_name ts n ≡ true)
    × ((is_distinct same_name ts ≡ true) × (is_distinct same_name cs ≡ true))
IsSound (a_ctor p n c) = Unit {0}
IsSound (a_recursor ts n r) = Unit {0}

-- lines each of which makes no later one a fault
abbrev pub AreClear : List PlainMember → Type 0
AreClear [] = Unit {0}
AreClear (m ∷ ms) = AllByRecursion (IsClear m) ms × AreClear ms

-- what no line says is not found
no_type : (ls : List PlainLine) (x : Name)
    → AllByRecursion (λ (l : PlainLine). type_here same_name l.said x ≡ None) ls
    → type_of same_name ls x ≡ None
no_type [] x h = refl
no_type (l ∷ ls) x h = ap (λ o. or_next o (type_of same_name ls x)) h.0 ∙ no_type ls x h.1

no_ctor : (ls : List PlainLine) (t x : Name)
    → AllByRecursion (λ (l : PlainLine). ctor_here same_name l.said t x ≡ None) ls
    → ctor_of same_name ls t x ≡ None
no_ctor [] t x h = refl
no_ctor (l ∷ ls) t x h = ap (λ o. or_next o (ctor_of same_name ls t x)) h.0 ∙ no_ctor ls t x h.1

no_recursor : (ls : List PlainLine) (us : List Name) (x : Name)
    → AllByRecursion (λ (l : PlainLine). is_recursor_here same_name l.said us x ≡ false) ls
    → has_recursor same_name ls us x ≡ false
no_recursor [] us x h = refl
no_recursor (l ∷ ls) us x h =
    or_from (is_recursor_here same_name l.said us x) (has_recursor same_name ls us x) h.0
    (no_recursor ls us x h.1)

not_other : (ts : List Name) (o p : Option (List Name)) → is_other same_name o ts ≡ false
    → is_other same_name p ts ≡ false → is_other same_name (or_next o p) ts ≡ false
not_other ts None p a b = b
not_other ts (Some us) p a b = a

no_other : (ls : List PlainLine) (ts : List Name) (x : Name)
    → AllByRecursion
    (λ (l : PlainLine). is_other same_name (types_with same_name l.said x) ts ≡ false) ls
    → is_other same_name (block_of same_name ls x) ts ≡ false
no_other [] ts x h = refl
no_other (l ∷ ls) ts x h =
    not_other ts (types_with same_name l.said x) (block_of same_name ls x) h.0
    (no_other ls ts x h.1)

none_crosses : (ls : List PlainLine) (n : Name) (ts cs : List Name) (t : Head)
    → AllByRecursion (λ (l : PlainLine). IsClear l.said (a_type n ts cs t)) ls
    → crosses same_name ls ts ≡ false
none_crosses ls n ts cs t h =
    none_of (λ x. is_other same_name (block_of same_name ls x) ts) ts
    (λ x there. no_other ls ts x
    (each_weaker (λ (l : PlainLine). IsClear l.said (a_type n ts cs t))
    (λ (l : PlainLine). is_other same_name (types_with same_name l.said x) ts ≡ false)
    (λ l c. c.1 x there) ls h))

good_lists : (a b c d : Bool) → a ≡ true → b ≡ false → c ≡ true → d ≡ true
    → (not a || (b || (not c || not d))) ≡ false
good_lists a b c d i j k l =
    or_from (not a) (b || (not c || not d)) (ap not i)
    (or_from b (not c || not d) j (or_from (not c) (not d) (ap not k) (ap not l)))

no_fault : (a b : Bool) → a ≡ false → b ≡ false
    → (if a then Some BadCount else (if b then Some RepeatedMember else None)) ≡ None
no_fault a b i j =
    ap (λ x. if x then Some BadCount else (if b then Some RepeatedMember else None)) i
    ∙ ap (λ x. if x then Some RepeatedMember else None) j

-- a line behind others that make it no fault has none
none_at : (ls : List PlainLine) (m : PlainMember) → IsSound m
    → AllByRecursion (λ (l : PlainLine). IsClear l.said m) ls → fault_of same_name ls m ≡ None
none_at ls (alone d) s h = refl
none_at ls (a_type n ts cs t) s h =
    no_fault _ (is_some (type_of same_name ls n))
    (good_lists (has same_name ts n) (crosses same_name ls ts) (is_distinct same_name ts)
    (is_distinct same_name cs) s.0 (none_crosses ls n ts cs t h) s.1.0 s.1.1)
    (ap is_some
    (no_type ls n
    (each_weaker (λ (l : PlainLine). IsClear l.said (a_type n ts cs t))
    (λ (l : PlainLine). type_here same_name l.said n ≡ None) (λ l c. c.0) ls h)))
none_at ls (a_ctor p n c) s h =
    ap (λ o. if is_some o then Some RepeatedMember else None) (no_ctor ls p n h)
none_at ls (a_recursor ts n r) s h =
    ap (λ b. if b then Some RepeatedMember else None) (no_recursor ls ts n h)

-- the lines before one of these
clear_before : (before : List PlainMember) (m : PlainMember) (after : List PlainMember)
    → AreClear (before ++ m ∷ after) → AllByRecursion (λ e. IsClear e m) before
clear_before [] m after h = tt
clear_before (e ∷ before) m after h = (go before h.0, clear_before before m after h.1)
  where
    go : (ms : List PlainMember) → AllByRecursion (IsClear e) (ms ++ m ∷ after) → IsClear e m
    go [] a = a.0
    go (n ∷ ms) a = go ms a.1

sound_at : (before : List PlainMember) (m : PlainMember) (after : List PlainMember)
    → AllByRecursion IsSound (before ++ m ∷ after) → IsSound m
sound_at [] m after h = h.0
sound_at (e ∷ before) m after h = sound_at before m after h.1

clear_lines : (ls : List PlainLine) (m : PlainMember)
    → AllByRecursion (λ e. IsClear e m) (said_by ls)
    → AllByRecursion (λ (l : PlainLine). IsClear l.said m) ls
clear_lines [] m h = tt
clear_lines (l ∷ ls) m h = (h.0, clear_lines ls m h.1)

pub clear_faultless : (ms : List PlainMember) → AllByRecursion IsSound ms → AreClear ms
    → AreFaultless ms
clear_faultless ms sound clear before m after ls is said =
    none_at ls m (sound_at before m after (subst (AllByRecursion IsSound) is sound))
    (clear_lines ls m
    (subst (AllByRecursion (λ e. IsClear e m)) (sym said)
    (clear_before before m after (subst AreClear is clear))))

-- lines before others, where none of the first makes one of the others a fault
abbrev AreBefore : List PlainMember → List PlainMember → Type 0
AreBefore xs ys = AllByRecursion (λ e. AllByRecursion (IsClear e) ys) xs

clear_append : (xs ys : List PlainMember) → AreClear xs → AreClear ys → AreBefore xs ys
    → AreClear (xs ++ ys)
clear_append [] ys a b c = b
clear_append (x ∷ xs) ys a b c =
    (each_append (IsClear x) xs ys a.0 c.0, clear_append xs ys a.1 b c.1)

before_both : (xs ys zs : List PlainMember) → AreBefore xs ys → AreBefore xs zs
    → AreBefore xs (ys ++ zs)
before_both [] ys zs a b = tt
before_both (x ∷ xs) ys zs a b =
    (each_append (IsClear x) ys zs a.0 b.0, before_both xs ys zs a.1 b.1)

-- the types of a block
own_family : (family : List Name) (b : Bool)
    → is_other same_name (if b then Some family else None) family ≡ false
own_family family true = ap not (list_itself family)
own_family family false = refl

types_clear : (family : List Name) (ts : List BlockType)
    → is_distinct same_name (type_names ts) ≡ true → AreClear (type_members family ts)
types_clear family [] d = tt
types_clear family (t ∷ ts) d = (
  go ts (λ u there. differs_back (type_names ts) u t.name there
      (first_apart t.name (type_names ts) d)),
  types_clear family ts (rest_distinct t.name (type_names ts) d),
)
  where
    go : (us : List BlockType)
        → ((x : Name) → has same_name (type_names us) x ≡ true → same_name t.name x ≡ false)
        → AllByRecursion (IsClear (type_member family t)) (type_members family us)
    go [] other = tt
    go (u ∷ us) other = (
      (
        ap (λ b. if b then Some (head_of t, ctor_names t.ctors) else None)
            (other u.name (has_first u.name (type_names us))),
        (λ x there. own_family family (has same_name family x)),
      ),
      go us (λ x there. other x (has_later u.name (type_names us) x there)),
    )

-- constructors of one type
ctors_clear : (p : Name) (cs : List Ctor) → is_distinct same_name (ctor_names cs) ≡ true
    → AreClear (ctor_members cs)
ctors_clear p [] d = tt
ctors_clear p (c ∷ cs) d = (
  go cs (λ x there. differs_back (ctor_names cs) x c.name there
      (first_apart c.name (ctor_names cs) d)),
  ctors_clear p cs (rest_distinct c.name (ctor_names cs) d),
)
  where
    go : (ds : List Ctor)
        → ((x : Name) → has same_name (ctor_names ds) x ≡ true → same_name c.name x ≡ false)
        → AllByRecursion (IsClear (ctor_member c)) (ctor_members ds)
    go [] other = tt
    go (d ∷ ds) other = (
      ap (λ b. if b then Some c else None)
          (and_right (same_name c.parent d.parent) (same_name c.name d.name)
          (other d.name (has_first d.name (ctor_names ds)))),
      go ds (λ x there. other x (has_later d.name (ctor_names ds) x there)),
    )

-- constructors of one type before those of another
ctors_before : (p q : Name) (cs ds : List Ctor) → AllByRecursion (IsCtor p) cs
    → AllByRecursion (IsCtor q) ds → same_name p q ≡ false
    → AreBefore (ctor_members cs) (ctor_members ds)
ctors_before p q [] ds h k other = tt
ctors_before p q (c ∷ cs) ds h k other = (go ds k, ctors_before p q cs ds h.1 k other)
  where
    go : (es : List Ctor) → AllByRecursion (IsCtor q) es
        → AllByRecursion (IsClear (ctor_member c)) (ctor_members es)
    go [] l = tt
    go (e ∷ es) l =
        let off : same_name c.parent e.parent ≡ false =
        ap (λ x. same_name x e.parent) h.0.parent_is
        ∙ ap (same_name p) l.0.parent_is ∙ other in (
          ap (λ b. if b then Some c else None)
              (and_left (same_name c.parent e.parent) (same_name c.name e.name) off),
          go es l.1,
        )

type_ctors : (t : BlockType) → IsType t → AllByRecursion (IsCtor t.name) t.ctors
type_ctors t h = recursion_from_All (IsCtor t.name) t.ctors h.ctors

all_ctors_clear : (ts : List BlockType) → is_distinct same_name (type_names ts) ≡ true
    → AllByRecursion IsType ts → AreClear (all_ctor_members ts)
all_ctors_clear [] d h = tt
all_ctors_clear (t ∷ ts) d h =
    clear_append (ctor_members t.ctors) (all_ctor_members ts)
    (ctors_clear t.name t.ctors h.0.distinct)
    (all_ctors_clear ts (rest_distinct t.name (type_names ts) d) h.1)
    (go ts h.1 (λ x there. differs_back (type_names ts) x t.name there
    (first_apart t.name (type_names ts) d)))
  where
    go : (us : List BlockType) → AllByRecursion IsType us
        → ((x : Name) → has same_name (type_names us) x ≡ true → same_name t.name x ≡ false)
        → AreBefore (ctor_members t.ctors) (all_ctor_members us)
    go [] k other = each_always (λ e. Unit {0}) (λ e. tt) (ctor_members t.ctors)
    go (u ∷ us) k other =
        before_both (ctor_members t.ctors) (ctor_members u.ctors) (all_ctor_members us)
        (ctors_before t.name u.name t.ctors u.ctors (type_ctors t h.0) (type_ctors u k.0)
        (other u.name (has_first u.name (type_names us))))
        (go us k.1 (λ x there. other x (has_later u.name (type_names us) x there)))

-- recursors of one block
recs_clear : (family : List Name) (rs : List BlockRecursor)
    → is_distinct same_name (recursor_names rs) ≡ true → AreClear (rec_members family rs)
recs_clear family [] d = tt
recs_clear family (r ∷ rs) d = (
  go rs (λ x there. differs_back (recursor_names rs) x r.name there
      (first_apart r.name (recursor_names rs) d)),
  recs_clear family rs (rest_distinct r.name (recursor_names rs) d),
)
  where
    go : (qs : List BlockRecursor)
        → ((x : Name) → has same_name (recursor_names qs) x ≡ true → same_name r.name x ≡ false)
        → AllByRecursion (IsClear (rec_member family r)) (rec_members family qs)
    go [] other = tt
    go (q ∷ qs) other = (
      and_right (same_list same_name family family) (same_name r.name q.name)
          (other q.name (has_first q.name (recursor_names qs))),
      go qs (λ x there. other x (has_later q.name (recursor_names qs) x there)),
    )

-- lines of other kinds
recs_behind_type : (family us : List Name) (t : BlockType) (rs : List BlockRecursor)
    → AllByRecursion (IsClear (type_member family t)) (rec_members us rs)
recs_behind_type family us t [] = tt
recs_behind_type family us t (r ∷ rs) = (refl, recs_behind_type family us t rs)

recs_behind_ctor : (us : List Name) (c : Ctor) (rs : List BlockRecursor)
    → AllByRecursion (IsClear (ctor_member c)) (rec_members us rs)
recs_behind_ctor us c [] = tt
recs_behind_ctor us c (r ∷ rs) = (refl, recs_behind_ctor us c rs)

ctors_behind_type : (family : List Name) (t : BlockType) (cs : List Ctor)
    → AllByRecursion (IsClear (type_member family t)) (ctor_members cs)
ctors_behind_type family t [] = tt
ctors_behind_type family t (c ∷ cs) = (refl, ctors_behind_type family t cs)

all_ctors_behind_type : (family : List Name) (t : BlockType) (us : List BlockType)
    → AllByRecursion (IsClear (type_member family t)) (all_ctor_members us)
all_ctors_behind_type family t [] = tt
all_ctors_behind_type family t (u ∷ us) =
    each_append (IsClear (type_member family t)) (ctor_members u.ctors) (all_ctor_members us)
    (ctors_behind_type family t u.ctors) (all_ctors_behind_type family t us)

types_before : (family : List Name) (ts us : List BlockType) (rs : List BlockRecursor)
    → AreBefore (type_members family ts) (all_ctor_members us ++ rec_members family rs)
types_before family [] us rs = tt
types_before family (t ∷ ts) us rs = (
  each_append (IsClear (type_member family t)) (all_ctor_members us) (rec_members family rs)
      (all_ctors_behind_type family t us) (recs_behind_type family family t rs),
  types_before family ts us rs,
)

ctors_before_recs : (family : List Name) (cs : List Ctor) (rs : List BlockRecursor)
    → AreBefore (ctor_members cs) (rec_members family rs)
ctors_before_recs family [] rs = tt
ctors_before_recs family (c ∷ cs) rs =
    (recs_behind_ctor family c rs, ctors_before_recs family cs rs)

all_ctors_before_recs : (family : List Name) (ts : List BlockType) (rs : List BlockRecursor)
    → AreBefore (all_ctor_members ts) (rec_members family rs)
all_ctors_before_recs family [] rs = tt
all_ctors_before_recs family (t ∷ ts) rs =
    each_append (λ e. AllByRecursion (IsClear e) (rec_members family rs)) (ctor_members t.ctors)
    (all_ctor_members ts) (ctors_before_recs family t.ctors rs)
    (all_ctors_before_recs family ts rs)

unit_clear : (u : LibraryUnit) → IsUnit u → AreClear (stated_of u)
unit_clear (of_decl d) h = (tt, tt)
unit_clear (of_block b rs) h =
    let family = type_names b.types in
    let types = recursion_from_All IsType b.types h.types in
    clear_append (type_members family b.types)
    (all_ctor_members b.types ++ rec_members family rs)
    (types_clear family b.types h.types_distinct)
    (clear_append (all_ctor_members b.types) (rec_members family rs)
    (all_ctors_clear b.types h.types_distinct types)
    (recs_clear family rs h.recursors_distinct)
    (all_ctors_before_recs family b.types rs))
    (types_before family b.types b.types rs)

-- the lines of a unit have sound lists
types_sound : (family : List Name) (ts : List BlockType) → is_distinct same_name family ≡ true
    → AllByRecursion IsType ts
    → ((x : Name) → has same_name (type_names ts) x ≡ true → has same_name family x ≡ true)
    → AllByRecursion IsSound (type_members family ts)
types_sound family [] d h known = tt
types_sound family (t ∷ ts) d h known = (
  (known t.name (has_first t.name (type_names ts)), (d, h.0.distinct)),
  types_sound family ts d h.1
      (λ x there. known x (has_later t.name (type_names ts) x there)),
)

ctors_sound : (cs : List Ctor) → AllByRecursion IsSound (ctor_members cs)
ctors_sound [] = tt
ctors_sound (c ∷ cs) = (tt, ctors_sound cs)

all_ctors_sound : (ts : List BlockType) → AllByRecursion IsSound (all_ctor_members ts)
all_ctors_sound [] = tt
all_ctors_sound (t ∷ ts) =
    each_append IsSound (ctor_members t.ctors) (all_ctor_members ts) (ctors_sound t.ctors)
    (all_ctors_sound ts)

recs_sound : (family : List Name) (rs : List BlockRecursor)
    → AllByRecursion IsSound (rec_members family rs)
recs_sound family [] = tt
recs_sound family (r ∷ rs) = (tt, recs_sound family rs)

unit_sound : (u : LibraryUnit) → IsUnit u → AllByRecursion IsSound (stated_of u)
unit_sound (of_decl d) h = (tt, tt)
unit_sound (of_block b rs) h =
    let family = type_names b.types in
    each_append IsSound (type_members family b.types)
    (all_ctor_members b.types ++ rec_members family rs)
    (types_sound family b.types h.types_distinct (recursion_from_All IsType b.types h.types)
    (λ x there. there))
    (each_append IsSound (all_ctor_members b.types) (rec_members family rs)
    (all_ctors_sound b.types) (recs_sound family rs))

pub units_sound : (us : Library) → AllByRecursion IsUnit us
    → AllByRecursion IsSound (all_stated us)
units_sound [] h = tt
units_sound (u ∷ us) h =
    each_append IsSound (stated_of u) (all_stated us) (unit_sound u h.0) (units_sound us h.1)

-- a line that says nothing of the types of another's block makes it no fault
recursor_clear : (ts : List Name) (n x : Name) → has same_name ts x ≡ true → (e : PlainMember)
    → IsSilent x e → is_recursor_here same_name e ts n ≡ false
recursor_clear ts n x there (alone d) h = refl
recursor_clear ts n x there (a_type m us cs t) h = refl
recursor_clear ts n x there (a_ctor p m c) h = refl
recursor_clear ts n x there (a_recursor us m r) h =
    and_left (same_list same_name us ts) (same_name m n) (other_list us ts x there h)

clear_of : (family : List Name) (e : PlainMember)
    → ((x : Name) → has same_name family x ≡ true → IsSilent x e) → (m : PlainMember)
    → IsOf family m → IsClear e m
clear_of family e silent (alone d) h = tt
clear_of family e silent (a_type n ts cs t) h = (
  type_silent n e (silent n h.1),
  (λ x there. ap (λ o. is_other same_name o ts)
      (block_silent x e (silent x (ap (λ us. has same_name us x) (sym h.0) ∙ there)))),
)
clear_of family e silent (a_ctor p n c) h = ctor_silent p n e (silent p h)
clear_of family e silent (a_recursor ts n r) h =
    recursor_clear ts n h.1.0 (ap (λ us. has same_name us h.1.0) h.0 ∙ h.1.1) e
    (silent h.1.0 h.1.1)

unit_before : (u v : LibraryUnit) → IsUnit u → IsUnit v → IsApart u v
    → AreBefore (stated_of u) (stated_of v)
unit_before u v h k apart =
    each_weaker (IsOf (types_of u)) (λ e. AllByRecursion (IsClear e) (stated_of v))
    (λ e own. each_weaker (IsOf (types_of v)) (IsClear e)
    (clear_of (types_of v) e (λ x there. silent_of (types_of u) x
    (false_from_ne_true (has same_name (types_of u) x) (λ i. apart x i there)) e own))
    (stated_of v) (unit_of_family v k))
    (stated_of u) (unit_of_family u h)

unit_before_all : (u : LibraryUnit) (us : Library) → IsUnit u → AllByRecursion IsUnit us
    → AllByRecursion (IsApart u) us → AreBefore (stated_of u) (all_stated us)
unit_before_all u [] h k apart =
    each_always (λ e. Unit {0}) (λ e. tt) (stated_of u)
unit_before_all u (v ∷ us) h k apart =
    before_both (stated_of u) (stated_of v) (all_stated us) (unit_before u v h k.0 apart.0)
    (unit_before_all u us h k.1 apart.1)

pub units_clear : (us : Library) → AllByRecursion IsUnit us → AreApart us
    → AreClear (all_stated us)
units_clear [] h apart = tt
units_clear (u ∷ us) h apart =
    clear_append (stated_of u) (all_stated us) (unit_clear u h.0) (units_clear us h.1 apart.1)
    (unit_before_all u us h.0 h.1 apart.0)
