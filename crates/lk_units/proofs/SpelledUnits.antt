-- The units of lines whose names hold no line feed.
use Rattle.std.proofs.Common.{Bool, true, false, List, [], ◌∷◌, map, Option, Some, None}
use Rattle.std.specs.Prelude.{IfSome, ◌&&◌, if◌then◌else◌}
use Rattle.std.specs.List.{flat_map}
use Rattle.std.proofs.lemmas.List.{map-append}
use Rattle.lk_tree.specs.Tree.{Name}
use Rattle.lk_tree.specs.Mentions.{same_name}
use Rattle.lk_rulebook.specs.Place.{Ctor, BlockRecursor}
use Rattle.lk_rulebook.specs.Units.{Decl}
use Rattle.lk_members.specs.Lines.{alone, a_type, a_ctor, a_recursor, or_next, same_list, block_of, type_here, type_of, ctor_here, ctor_of, recursor_here, recursors_of}
use Rattle.lk_members.specs.Units.{Gathered, if_any, ctors_listed, with_ctors, block_with, is_last, ended, at_line, units_from}
use Rattle.lk_members.specs.Plain.{Head, PlainMember, PlainLine, with_its_ctors, unit_of, library_stated}
use Rattle.lk_units.proofs.Spellings.{Each, each_append, IsSpelledCtor, IsSpelledType, IsSpelledRec, IsSpelledUnit, AreSpelledUnits, IsSpelledHead, IsSpelledMember, AreSpelledLines}

if_next : {A : Type 0} (P : A → Type 0) (o p : Option A) → IfSome o P → IfSome p P → IfSome (or_next o p) P
if_next P (Some a) p h g = h
if_next P None p h g = g

abbrev IsSpelledStated : Head × List Name → Type 0
IsSpelledStated t = IsSpelledHead t.0

type_here_spelled : (s : PlainMember) (x : Name) → IsSpelledMember s → IfSome (type_here same_name s x) IsSpelledStated
type_here_spelled (alone d) x h = tt
type_here_spelled (a_ctor p n c) x h = tt
type_here_spelled (a_recursor ts n r) x h = tt
type_here_spelled (a_type n ts cs t) x h = go (same_name n x)
  where
    go : (b : Bool) → IfSome (if b then Some (t, cs) else None) IsSpelledStated
    go true = h
    go false = tt

type_spelled : (ls : List PlainLine) (x : Name) → AreSpelledLines ls → IfSome (type_of same_name ls x) IsSpelledStated
type_spelled [] x h = tt
type_spelled (l ∷ ls) x h = if_next IsSpelledStated (type_here same_name l.said x) (type_of same_name ls x) (type_here_spelled l.said x h.0) (type_spelled ls x h.1)

ctor_here_spelled : (s : PlainMember) (t x : Name) → IsSpelledMember s → IfSome (ctor_here same_name s t x) IsSpelledCtor
ctor_here_spelled (alone d) t x h = tt
ctor_here_spelled (a_type n ts cs u) t x h = tt
ctor_here_spelled (a_recursor ts n r) t x h = tt
ctor_here_spelled (a_ctor p n c) t x h = go (same_name p t && same_name n x)
  where
    go : (b : Bool) → IfSome (if b then Some c else None) IsSpelledCtor
    go true = h
    go false = tt

ctor_spelled : (ls : List PlainLine) (t x : Name) → AreSpelledLines ls → IfSome (ctor_of same_name ls t x) IsSpelledCtor
ctor_spelled [] t x h = tt
ctor_spelled (l ∷ ls) t x h = if_next IsSpelledCtor (ctor_here same_name l.said t x) (ctor_of same_name ls t x) (ctor_here_spelled l.said t x h.0) (ctor_spelled ls t x h.1)

recursor_here_spelled : (s : PlainMember) (us : List Name) → IsSpelledMember s → Each IsSpelledRec (recursor_here same_name s us)
recursor_here_spelled (alone d) us h = tt
recursor_here_spelled (a_type n ts cs u) us h = tt
recursor_here_spelled (a_ctor p n c) us h = tt
recursor_here_spelled (a_recursor ts n r) us h = go (same_list same_name ts us)
  where
    go : (b : Bool) → Each IsSpelledRec (if b then r ∷ [] else [])
    go true = (h, tt)
    go false = tt

recursors_spelled : (ls : List PlainLine) (us : List Name) → AreSpelledLines ls → Each IsSpelledRec (recursors_of same_name ls us)
recursors_spelled [] us h = tt
recursors_spelled (l ∷ ls) us h = each_append IsSpelledRec (recursor_here same_name l.said us) (recursors_of same_name ls us) (recursor_here_spelled l.said us h.0) (recursors_spelled ls us h.1)

any_spelled : (o : Option Ctor) → IfSome o IsSpelledCtor → Each IsSpelledCtor (if_any o)
any_spelled None h = tt
any_spelled (Some c) h = (h, tt)

ctors_spelled : (ls : List PlainLine) (t : Name) (cs : List Name) → AreSpelledLines ls → Each IsSpelledCtor (ctors_listed same_name ls t cs)
ctors_spelled ls t [] h = tt
ctors_spelled ls t (x ∷ cs) h = each_append IsSpelledCtor (if_any (ctor_of same_name ls t x)) (ctors_listed same_name ls t cs) (any_spelled (ctor_of same_name ls t x) (ctor_spelled ls t x h)) (ctors_spelled ls t cs h)

with_spelled : (ls : List PlainLine) (x : Name) (o : Option (Head × List Name)) → AreSpelledLines ls → IfSome o IsSpelledStated → Each IsSpelledType (map with_its_ctors (with_ctors same_name ls x o))
with_spelled ls x None h g = tt
with_spelled ls x (Some t) h g = ((g.0, g.1, ctors_spelled ls x t.1 h), tt)

types_spelled : (ls : List PlainLine) (ts : List Name) → AreSpelledLines ls → Each IsSpelledType (map with_its_ctors (flat_map (λ x. with_ctors same_name ls x (type_of same_name ls x)) ts))
types_spelled ls [] h = tt
types_spelled ls (x ∷ ts) h =
    rw (map-append with_its_ctors (with_ctors same_name ls x (type_of same_name ls x)) (flat_map (λ y. with_ctors same_name ls y (type_of same_name ls y)) ts))
    (each_append IsSpelledType (map with_its_ctors (with_ctors same_name ls x (type_of same_name ls x))) (map with_its_ctors (flat_map (λ y. with_ctors same_name ls y (type_of same_name ls y)) ts))
    (with_spelled ls x (type_of same_name ls x) h (type_spelled ls x h)) (types_spelled ls ts h))

abbrev IsSpelledGathered : Gathered Decl Head Ctor BlockRecursor → Type 0
IsSpelledGathered u = IsSpelledUnit (unit_of u)

ended_spelled : (ls later : List PlainLine) (o : Option (List Name)) → AreSpelledLines ls → Each IsSpelledGathered (ended same_name ls later o)
ended_spelled ls later None h = tt
ended_spelled ls later (Some ts) h = go (is_last same_name ls later ts)
  where
    go : (b : Bool) → Each IsSpelledGathered (if b then block_with same_name ls ts ∷ [] else [])
    go true = ((types_spelled ls ts h, recursors_spelled ls ts h), tt)
    go false = tt

at_spelled : (ls later : List PlainLine) (s : PlainMember) → AreSpelledLines ls → IsSpelledMember s → Each IsSpelledGathered (at_line same_name ls later s)
at_spelled ls later (alone d) h g = (g, tt)
at_spelled ls later (a_type n ts cs t) h g = ended_spelled ls later (Some ts) h
at_spelled ls later (a_ctor p n c) h g = ended_spelled ls later (block_of same_name ls p) h
at_spelled ls later (a_recursor ts n r) h g = tt

from_spelled : (all ls : List PlainLine) → AreSpelledLines all → AreSpelledLines ls → Each IsSpelledGathered (units_from same_name all ls)
from_spelled all [] h g = tt
from_spelled all (l ∷ ls) h g = each_append IsSpelledGathered (at_line same_name all ls l.said) (units_from same_name all ls) (at_spelled all ls l.said h g.0) (from_spelled all ls h g.1)

each_map : (us : List (Gathered Decl Head Ctor BlockRecursor)) → Each IsSpelledGathered us → AreSpelledUnits (map unit_of us)
each_map [] h = tt
each_map (u ∷ us) h = (h.0, each_map us h.1)

pub spelled_units : (ls : List PlainLine) → AreSpelledLines ls → AreSpelledUnits (library_stated ls)
spelled_units ls h = each_map (units_from same_name ls ls) (from_spelled ls ls h h)
