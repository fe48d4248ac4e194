-- What a search among the lines of units finds: what the lines of the unit itself say.
use Rattle.std.proofs.Common.{◌≡◌, true, false, inl, inr, List, [], ◌∷◌, ◌++◌, Option, Some}
use Rattle.std.proofs.Common.{None, refl, ap, sym, subst, ◌∙◌, append_assoc}
use Rattle.std.specs.Prelude.{◌≢◌, ◌&&◌, if◌then◌else◌}
use Rattle.std.specs.List.{flat_map, AllByRecursion}
use Rattle.std.proofs.lemmas.Bool.{false≢true, false_from_ne_true}
use Rattle.std.proofs.lemmas.List.Elements.{recursion_from_All}
use Rattle.lk_tree.specs.Tree.{Name}
use Rattle.lk_tree.specs.Mentions.{same_name}
use Rattle.lk_rulebook.specs.Place.{Ctor, BlockType, Block, type_names, BlockRecursor}
use Rattle.lk_rulebook.specs.Units.{LibraryUnit, of_decl, of_block, Library}
use Rattle.lk_trim.specs.Units.{ctor_names}
use Rattle.lk_members.specs.Lines.{alone, a_type, a_ctor, a_recursor, or_next, has, same_list}
use Rattle.lk_members.specs.Lines.{is_distinct, types_with, block_of, type_here, type_of, ctor_here}
use Rattle.lk_members.specs.Lines.{ctor_of, recursor_here, recursors_of}
use Rattle.lk_members.specs.Plain.{Head, PlainMember, PlainLine}
use Rattle.lk_readback.specs.Statable.{IsType, IsCtor, IsBlock, IsUnit, types_of}
use Rattle.lk_readback.specs.Stated.{head_of, type_members, ctor_members, all_ctor_members}
use Rattle.lk_readback.specs.Stated.{rec_members, stated_of, all_stated, said_by}
use Rattle.lk_readback.proofs.Listed.{same_itself, list_is, list_itself}
use Rattle.lk_readback.proofs.Listed.{has_first, has_later, differs_back}
use Rattle.lk_readback.proofs.Listed.{first_apart, rest_distinct, IsIn, each_append}
use Rattle.lk_readback.proofs.Listed.{each_weaker, each_always}
use Rattle.lk_readback.proofs.Belonging.{IsOf, IsSilent, AreSilent, silent_of, unit_of_family}
use Rattle.lk_readback.proofs.Belonging.{some_name}
use Rattle.lk_readback.proofs.Belonging.{IsApart, AreApart}

-- the first thing that lines say, each here
abbrev pub first : {A : Type 0} → (PlainMember → Option A) → List PlainMember → Option A
first here [] = None
first here (m ∷ ms) = or_next (here m) (first here ms)

-- searches rest on what lines say
type_said : (ls : List PlainLine) (x : Name)
    → type_of same_name ls x ≡ first (λ m. type_here same_name m x) (said_by ls)
type_said [] x = refl
type_said (l ∷ ls) x = ap (or_next (type_here same_name l.said x)) (type_said ls x)

block_said : (ls : List PlainLine) (x : Name)
    → block_of same_name ls x ≡ first (λ m. types_with same_name m x) (said_by ls)
block_said [] x = refl
block_said (l ∷ ls) x = ap (or_next (types_with same_name l.said x)) (block_said ls x)

ctor_said : (ls : List PlainLine) (t x : Name)
    → ctor_of same_name ls t x ≡ first (λ m. ctor_here same_name m t x) (said_by ls)
ctor_said [] t x = refl
ctor_said (l ∷ ls) t x = ap (or_next (ctor_here same_name l.said t x)) (ctor_said ls t x)

recursors_said : (ls : List PlainLine) (us : List Name)
    → recursors_of same_name ls us ≡ flat_map (λ m. recursor_here same_name m us) (said_by ls)
recursors_said [] us = refl
recursors_said (l ∷ ls) us =
    ap (λ rs. recursor_here same_name l.said us ++ rs) (recursors_said ls us)

-- lines that say nothing, in front and behind
module _ {A : Type 0} (here : PlainMember → Option A) where
  pub first_none : (ms : List PlainMember) → AllByRecursion (λ m. here m ≡ None) ms
      → first here ms ≡ None
  first_none [] h = refl
  first_none (m ∷ ms) h = ap (λ o. or_next o (first here ms)) h.0 ∙ first_none ms h.1

  pub first_behind : (front ms : List PlainMember) → AllByRecursion (λ m. here m ≡ None) front
      → first here (front ++ ms) ≡ first here ms
  first_behind [] ms h = refl
  first_behind (m ∷ front) ms h =
      ap (λ o. or_next o (first here (front ++ ms))) h.0 ∙ first_behind front ms h.1

  pub first_before : (ms later : List PlainMember) → AllByRecursion (λ m. here m ≡ None) later
      → first here (ms ++ later) ≡ first here ms
  first_before [] later h = first_none later h
  first_before (m ∷ ms) later h = ap (or_next (here m)) (first_before ms later h)

  pub first_between : (front ms later : List PlainMember)
      → AllByRecursion (λ m. here m ≡ None) front → AllByRecursion (λ m. here m ≡ None) later
      → first here (front ++ (ms ++ later)) ≡ first here ms
  first_between front ms later f l =
      first_behind front (ms ++ later) f ∙ first_before ms later l

module _ {A : Type 0} (here : PlainMember → List A) where
  flat_none : (ms : List PlainMember) → AllByRecursion (λ m. here m ≡ []) ms
      → flat_map here ms ≡ []
  flat_none [] h = refl
  flat_none (m ∷ ms) h = ap (λ xs. xs ++ flat_map here ms) h.0 ∙ flat_none ms h.1

  flat_behind : (front ms : List PlainMember) → AllByRecursion (λ m. here m ≡ []) front
      → flat_map here (front ++ ms) ≡ flat_map here ms
  flat_behind [] ms h = refl
  flat_behind (m ∷ front) ms h =
      ap (λ xs. xs ++ flat_map here (front ++ ms)) h.0 ∙ flat_behind front ms h.1

  flat_before : (ms later : List PlainMember) → AllByRecursion (λ m. here m ≡ []) later
      → flat_map here (ms ++ later) ≡ flat_map here ms
  flat_before [] later h = flat_none later h
  flat_before (m ∷ ms) later h = ap (λ xs. here m ++ xs) (flat_before ms later h)

  flat_between : (front ms later : List PlainMember)
      → AllByRecursion (λ m. here m ≡ []) front → AllByRecursion (λ m. here m ≡ []) later
      → flat_map here (front ++ (ms ++ later)) ≡ flat_map here ms
  flat_between front ms later f l =
      flat_behind front (ms ++ later) f ∙ flat_before ms later l

-- what a silent line says
pub type_silent : (x : Name) (m : PlainMember) → IsSilent x m → type_here same_name m x ≡ None
type_silent x (alone d) h = refl
type_silent x (a_type n ts cs t) h = ap (λ b. if b then Some (t, cs) else None) h.0
type_silent x (a_ctor p n c) h = refl
type_silent x (a_recursor ts n r) h = refl

pub block_silent : (x : Name) (m : PlainMember) → IsSilent x m → types_with same_name m x ≡ None
block_silent x (alone d) h = refl
block_silent x (a_type n ts cs t) h = ap (λ b. if b then Some ts else None) h.1
block_silent x (a_ctor p n c) h = refl
block_silent x (a_recursor ts n r) h = refl

pub ctor_silent : (t x : Name) (m : PlainMember) → IsSilent t m → ctor_here same_name m t x ≡ None
ctor_silent t x (alone d) h = refl
ctor_silent t x (a_type n ts cs h') h = refl
ctor_silent t x (a_ctor p n c) h = ap (λ b. if b && same_name n x then Some c else None) h
ctor_silent t x (a_recursor ts n r) h = refl

-- another list, where one has a name that the other lacks
pub other_list : (ts us : List Name) (x : Name) → has same_name us x ≡ true
    → has same_name ts x ≡ false → same_list same_name ts us ≡ false
other_list ts us x there none = false_from_ne_true (same_list same_name ts us) go
  where
    go : same_list same_name ts us ≡ true → ⊥
    go e =
        let same : has same_name ts x ≡ has same_name us x =
        ap (λ ws. has same_name ws x) (list_is ts us e) in
        false≢true (sym none ∙ same ∙ there)

recursor_silent : (us : List Name) (x : Name) → has same_name us x ≡ true → (m : PlainMember)
    → IsSilent x m → recursor_here same_name m us ≡ []
recursor_silent us x there (alone d) h = refl
recursor_silent us x there (a_type n ts cs t) h = refl
recursor_silent us x there (a_ctor p n c) h = refl
recursor_silent us x there (a_recursor ts n r) h =
    ap (λ b. if b then r ∷ [] else []) (other_list ts us x there h)

-- the names of what is in a list
pub type_in : (ts : List BlockType) (t : BlockType) → IsIn t ts
    → has same_name (type_names ts) t.name ≡ true
type_in [] t i = absurd i
type_in (u ∷ ts) t (inl e) =
    subst (λ (v : BlockType). has same_name (u.name ∷ type_names ts) v.name ≡ true) e
    (has_first u.name (type_names ts))
type_in (u ∷ ts) t (inr i) = has_later u.name (type_names ts) t.name (type_in ts t i)

pub ctor_in : (cs : List Ctor) (c : Ctor) → IsIn c cs → has same_name (ctor_names cs) c.name ≡ true
ctor_in [] c i = absurd i
ctor_in (d ∷ cs) c (inl e) =
    subst (λ (v : Ctor). has same_name (d.name ∷ ctor_names cs) v.name ≡ true) e
    (has_first d.name (ctor_names cs))
ctor_in (d ∷ cs) c (inr i) = has_later d.name (ctor_names cs) c.name (ctor_in cs c i)

-- a type among the lines of its block
abbrev Found : BlockType → Option (Head × List Name)
Found t = Some (head_of t, ctor_names t.ctors)

own_type : (family : List Name) (ts : List BlockType) (rest : List PlainMember) (t : BlockType)
    → is_distinct same_name (type_names ts) ≡ true → IsIn t ts
    → first (λ m. type_here same_name m t.name) (type_members family ts ++ rest) ≡ Found t
own_type family [] rest t d i = absurd i
own_type family (u ∷ ts) rest t d (inl e) =
    subst
    (λ (v : BlockType). first (λ m. type_here same_name m v.name)
    (type_members family (u ∷ ts) ++ rest) ≡ Found v) e
    (ap
    (λ b. or_next (if b then Found u else None)
    (first (λ m. type_here same_name m u.name) (type_members family ts ++ rest)))
    (same_itself u.name))
own_type family (u ∷ ts) rest t d (inr i) =
    let other : same_name u.name t.name ≡ false =
    differs_back (type_names ts) t.name u.name (type_in ts t i)
    (first_apart u.name (type_names ts) d) in
    ap
    (λ b. or_next (if b then Found u else None)
    (first (λ m. type_here same_name m t.name) (type_members family ts ++ rest))) other
    ∙ own_type family ts rest t (rest_distinct u.name (type_names ts) d) i

-- the block of a name of its list
own_block : (family : List Name) (ts : List BlockType) (rest : List PlainMember) (x : Name)
    → ts ≢ [] → has same_name family x ≡ true
    → first (λ m. types_with same_name m x) (type_members family ts ++ rest) ≡ Some family
own_block family [] rest x some there = absurd (some refl)
own_block family (t ∷ ts) rest x some there =
    ap
    (λ b. or_next (if b then Some family else None)
    (first (λ m. types_with same_name m x) (type_members family ts ++ rest))) there

-- a constructor among those of its type
no_ctors : (p t x : Name) (cs : List Ctor) → AllByRecursion (IsCtor p) cs
    → same_name p t ≡ false
    → AllByRecursion (λ m. ctor_here same_name m t x ≡ None) (ctor_members cs)
no_ctors p t x [] h other = tt
no_ctors p t x (c ∷ cs) h other =
    let off : same_name c.parent t ≡ false = ap (λ y. same_name y t) h.0.parent_is ∙ other in (
      ap (λ b. if b && same_name c.name x then Some c else None) off,
      no_ctors p t x cs h.1 other,
    )

ctor_found : (p : Name) (cs : List Ctor) (rest : List PlainMember) (c : Ctor)
    → is_distinct same_name (ctor_names cs) ≡ true → AllByRecursion (IsCtor p) cs → IsIn c cs
    → first (λ m. ctor_here same_name m p c.name) (ctor_members cs ++ rest) ≡ Some c
ctor_found p [] rest c d h i = absurd i
ctor_found p (k ∷ cs) rest c d h i =
    go (λ j. ctor_found p cs rest c (rest_distinct k.name (ctor_names cs) d) h.1 j) i
  where
    own : same_name k.parent p ≡ true
    own = ap (λ y. same_name y p) h.0.parent_is ∙ same_itself p

    by_parent : (x : Name)
        → first (λ m. ctor_here same_name m p x) (ctor_members (k ∷ cs) ++ rest)
        ≡ or_next (if same_name k.name x then Some k else None)
        (first (λ m. ctor_here same_name m p x) (ctor_members cs ++ rest))
    by_parent x =
        ap
        (λ b. or_next (if b && same_name k.name x then Some k else None)
        (first (λ m. ctor_here same_name m p x) (ctor_members cs ++ rest))) own

    go : (IsIn c cs
        → first (λ m. ctor_here same_name m p c.name) (ctor_members cs ++ rest) ≡ Some c)
        → IsIn c (k ∷ cs)
        → first (λ m. ctor_here same_name m p c.name) (ctor_members (k ∷ cs) ++ rest) ≡ Some c
    go more (inl e) =
        subst
        (λ (v : Ctor). first (λ m. ctor_here same_name m p v.name)
        (ctor_members (k ∷ cs) ++ rest) ≡ Some v) e
        (by_parent k.name ∙
        ap
        (λ b. or_next (if b then Some k else None)
        (first (λ m. ctor_here same_name m p k.name) (ctor_members cs ++ rest)))
        (same_itself k.name))
    go more (inr j) =
        by_parent c.name ∙
        ap
        (λ b. or_next (if b then Some k else None)
        (first (λ m. ctor_here same_name m p c.name) (ctor_members cs ++ rest)))
        (differs_back (ctor_names cs) c.name k.name (ctor_in cs c j)
        (first_apart k.name (ctor_names cs) d))
        ∙ more j

-- a constructor among the lines of its block
own_ctor : (ts : List BlockType) (rest : List PlainMember) (t : BlockType) (c : Ctor)
    → is_distinct same_name (type_names ts) ≡ true → AllByRecursion IsType ts → IsIn t ts
    → IsIn c t.ctors
    → first (λ m. ctor_here same_name m t.name c.name) (all_ctor_members ts ++ rest) ≡ Some c
own_ctor [] rest t c d h i j = absurd i
own_ctor (u ∷ ts) rest t c d h i j = go (λ k. own_ctor ts rest t c distinct h.1 k j) i
  where
    distinct : is_distinct same_name (type_names ts) ≡ true
    distinct = rest_distinct u.name (type_names ts) d

    parents : AllByRecursion (IsCtor u.name) u.ctors
    parents = recursion_from_All (IsCtor u.name) u.ctors h.0.ctors

    split : (ctor_members u.ctors ++ all_ctor_members ts) ++ rest
        ≡ ctor_members u.ctors ++ (all_ctor_members ts ++ rest)
    split = append_assoc (ctor_members u.ctors) (all_ctor_members ts) rest

    at_head : u ≡ t → first (λ m. ctor_here same_name m u.name c.name)
        (ctor_members u.ctors ++ (all_ctor_members ts ++ rest)) ≡ Some c
    at_head e =
        ctor_found u.name u.ctors (all_ctor_members ts ++ rest) c h.0.distinct parents
        (subst (λ (v : BlockType). IsIn c v.ctors) (sym e) j)

    go : (IsIn t ts
        → first (λ m. ctor_here same_name m t.name c.name) (all_ctor_members ts ++ rest) ≡ Some c)
        → IsIn t (u ∷ ts)
        → first (λ m. ctor_here same_name m t.name c.name) (all_ctor_members (u ∷ ts) ++ rest)
        ≡ Some c
    go more (inl e) =
        ap (first (λ m. ctor_here same_name m t.name c.name)) split ∙
        subst
        (λ (v : BlockType). first (λ m. ctor_here same_name m v.name c.name)
        (ctor_members u.ctors ++ (all_ctor_members ts ++ rest)) ≡ Some c) e (at_head e)
    go more (inr k) =
        ap (first (λ m. ctor_here same_name m t.name c.name)) split ∙
        (first_behind (λ m. ctor_here same_name m t.name c.name) (ctor_members u.ctors)
        (all_ctor_members ts ++ rest)
        (no_ctors u.name t.name c.name u.ctors parents
        (differs_back (type_names ts) t.name u.name (type_in ts t k)
        (first_apart u.name (type_names ts) d)))
        ∙ more k)

-- lines of types say nothing of constructors and recursors
no_ctor_lines : (family : List Name) (ts : List BlockType) (t x : Name)
    → AllByRecursion (λ m. ctor_here same_name m t x ≡ None) (type_members family ts)
no_ctor_lines family [] t x = tt
no_ctor_lines family (u ∷ ts) t x = (refl, no_ctor_lines family ts t x)

no_rec_lines : (family us : List Name) (ts : List BlockType)
    → AllByRecursion (λ m. recursor_here same_name m us ≡ []) (type_members family ts)
no_rec_lines family us [] = tt
no_rec_lines family us (t ∷ ts) = (refl, no_rec_lines family us ts)

no_recs_of_ctors : (us : List Name) (cs : List Ctor)
    → AllByRecursion (λ m. recursor_here same_name m us ≡ []) (ctor_members cs)
no_recs_of_ctors us [] = tt
no_recs_of_ctors us (c ∷ cs) = (refl, no_recs_of_ctors us cs)

no_recs_of_types : (us : List Name) (ts : List BlockType)
    → AllByRecursion (λ m. recursor_here same_name m us ≡ []) (all_ctor_members ts)
no_recs_of_types us [] = tt
no_recs_of_types us (t ∷ ts) =
    each_append (λ m. recursor_here same_name m us ≡ []) (ctor_members t.ctors)
    (all_ctor_members ts) (no_recs_of_ctors us t.ctors) (no_recs_of_types us ts)

own_recs : (family : List Name) (rs : List BlockRecursor)
    → flat_map (λ m. recursor_here same_name m family) (rec_members family rs) ≡ rs
own_recs family [] = refl
own_recs family (r ∷ rs) =
    ap
    (λ b. (if b then r ∷ [] else []) ++
    flat_map (λ m. recursor_here same_name m family) (rec_members family rs)) (list_itself family)
    ∙ ap (λ qs. r ∷ qs) (own_recs family rs)

-- what is found among the lines of a file for a block
pub record IsFoundIn (ls : List PlainLine) (b : Block) (rs : List BlockRecursor) : Type 0 where
  pub type : (t : BlockType) → IsIn t b.types
      → type_of same_name ls t.name ≡ Some (head_of t, ctor_names t.ctors)
  pub block : (x : Name) → has same_name (type_names b.types) x ≡ true
      → block_of same_name ls x ≡ Some (type_names b.types)
  pub ctor : (t : BlockType) (c : Ctor) → IsIn t b.types → IsIn c t.ctors
      → ctor_of same_name ls t.name c.name ≡ Some c
  pub recursors : recursors_of same_name ls (type_names b.types) ≡ rs

-- lines of a block, between others that say nothing of its types
module _ (ls : List PlainLine) (front later : List PlainMember) (b : Block)
    (rs : List BlockRecursor) (h : IsBlock b rs)
    (said : said_by ls ≡ front ++ (stated_of (of_block b rs) ++ later))
    (f : (x : Name) → has same_name (type_names b.types) x ≡ true → AreSilent x front)
    (l : (x : Name) → has same_name (type_names b.types) x ≡ true → AreSilent x later) where
  found_type : (t : BlockType) → IsIn t b.types
      → type_of same_name ls t.name ≡ Some (head_of t, ctor_names t.ctors)
  found_type t i =
      let here = λ (m : PlainMember). type_here same_name m t.name in
      let there = type_in b.types t i in
      type_said ls t.name ∙ ap (first here) said ∙
      first_between here front (stated_of (of_block b rs)) later
      (each_weaker (IsSilent t.name) (λ m. here m ≡ None) (type_silent t.name) front
      (f t.name there))
      (each_weaker (IsSilent t.name) (λ m. here m ≡ None) (type_silent t.name) later
      (l t.name there))
      ∙ own_type (type_names b.types) b.types
      (all_ctor_members b.types ++ rec_members (type_names b.types) rs) t h.types_distinct i

  found_block : (x : Name) → has same_name (type_names b.types) x ≡ true
      → block_of same_name ls x ≡ Some (type_names b.types)
  found_block x there =
      let here = λ (m : PlainMember). types_with same_name m x in
      block_said ls x ∙ ap (first here) said ∙
      first_between here front (stated_of (of_block b rs)) later
      (each_weaker (IsSilent x) (λ m. here m ≡ None) (block_silent x) front (f x there))
      (each_weaker (IsSilent x) (λ m. here m ≡ None) (block_silent x) later (l x there))
      ∙ own_block (type_names b.types) b.types
      (all_ctor_members b.types ++ rec_members (type_names b.types) rs) x h.some there

  found_ctor : (t : BlockType) (c : Ctor) → IsIn t b.types → IsIn c t.ctors
      → ctor_of same_name ls t.name c.name ≡ Some c
  found_ctor t c i j =
      let here = λ (m : PlainMember). ctor_here same_name m t.name c.name in
      let there = type_in b.types t i in
      let silent = ctor_silent t.name c.name in
      ctor_said ls t.name c.name ∙ ap (first here) said ∙
      first_between here front (stated_of (of_block b rs)) later
      (each_weaker (IsSilent t.name) (λ m. here m ≡ None) silent front (f t.name there))
      (each_weaker (IsSilent t.name) (λ m. here m ≡ None) silent later (l t.name there))
      ∙ first_behind here (type_members (type_names b.types) b.types)
      (all_ctor_members b.types ++ rec_members (type_names b.types) rs)
      (no_ctor_lines (type_names b.types) b.types t.name c.name)
      ∙ own_ctor b.types (rec_members (type_names b.types) rs) t c h.types_distinct
      (recursion_from_All IsType b.types h.types) i j

  found_recursors : recursors_of same_name ls (type_names b.types) ≡ rs
  found_recursors =
      let family = type_names b.types in
      let here = λ (m : PlainMember). recursor_here same_name m family in
      let some = some_name b.types h.some in
      let silent = recursor_silent family some.0 some.1 in
      recursors_said ls family ∙ ap (flat_map here) said ∙
      flat_between here front (stated_of (of_block b rs)) later
      (each_weaker (IsSilent some.0) (λ m. here m ≡ []) silent front (f some.0 some.1))
      (each_weaker (IsSilent some.0) (λ m. here m ≡ []) silent later (l some.0 some.1))
      ∙ flat_behind here (type_members family b.types)
      (all_ctor_members b.types ++ rec_members family rs) (no_rec_lines family family b.types)
      ∙ flat_behind here (all_ctor_members b.types) (rec_members family rs)
      (no_recs_of_types family b.types)
      ∙ own_recs family rs

  found_in : IsFoundIn ls b rs
  found_in =
      record {
        type = found_type;
        block = found_block;
        ctor = found_ctor;
        recursors = found_recursors;
      }

-- of a declaration alone nothing is looked up
abbrev pub IsFound : List PlainLine → LibraryUnit → Type 0
IsFound ls (of_decl d) = Unit {0}
IsFound ls (of_block b rs) = IsFoundIn ls b rs

-- lines that say nothing of a unit's types
abbrev IsBeside : List PlainMember → LibraryUnit → Type 0
IsBeside ms v = (x : Name) → has same_name (types_of v) x ≡ true → AreSilent x ms

unit_beside : (u v : LibraryUnit) → IsUnit u → IsApart u v → IsBeside (stated_of u) v
unit_beside u v h apart x there =
    each_weaker (IsOf (types_of u)) (IsSilent x)
    (silent_of (types_of u) x
    (false_from_ne_true (has same_name (types_of u) x) (λ e. apart x e there)))
    (stated_of u) (unit_of_family u h)

units_beside : (u : LibraryUnit) (us : Library) → AllByRecursion IsUnit us
    → AllByRecursion (IsApart u) us → IsBeside (all_stated us) u
units_beside u [] h apart x there = tt
units_beside u (v ∷ us) h apart x there =
    each_append (IsSilent x) (stated_of v) (all_stated us)
    (unit_beside v u h.0 (λ y a b. apart.0 y b a) x there) (units_beside u us h.1 apart.1 x there)

found_unit : (ls : List PlainLine) (front later : List PlainMember) (u : LibraryUnit) → IsUnit u
    → said_by ls ≡ front ++ (stated_of u ++ later) → IsBeside front u → IsBeside later u
    → IsFound ls u
found_unit ls front later (of_decl d) h said f l = tt
found_unit ls front later (of_block b rs) h said f l = found_in ls front later b rs h said f l

found_units : (ls : List PlainLine) (front : List PlainMember) (us : Library)
    → AllByRecursion IsUnit us → AreApart us → said_by ls ≡ front ++ all_stated us
    → AllByRecursion (IsBeside front) us → AllByRecursion (IsFound ls) us
found_units ls front [] h apart said f = tt
found_units ls front (u ∷ us) h apart said f = (
  found_unit ls front (all_stated us) u h.0 said f.0 (units_beside u us h.1 apart.0),
  found_units ls (front ++ stated_of u) us h.1 apart.1
      (said ∙ sym (append_assoc front (stated_of u) (all_stated us))) (further us apart.0 f.1),
)
  where
    further : (vs : Library) → AllByRecursion (IsApart u) vs → AllByRecursion (IsBeside front) vs
        → AllByRecursion (IsBeside (front ++ stated_of u)) vs
    further [] a g = tt
    further (v ∷ vs) a g = (
      (λ x there. each_append (IsSilent x) front (stated_of u) (g.0 x there)
          (unit_beside u v h.0 a.0 x there)),
      further vs a.1 g.1,
    )

-- among the lines of all units each is found
pub all_found : (us : Library) (ls : List PlainLine) → AllByRecursion IsUnit us → AreApart us
    → said_by ls ≡ all_stated us → AllByRecursion (IsFound ls) us
all_found us ls h apart said =
    found_units ls [] us h apart said (each_always (IsBeside []) (λ v x there. tt) us)
