-- Lines of members that an export can state, none with a fault among those before it.
use Rattle.std.proofs.Common.{◌≡◌, List, [], ◌∷◌, ◌++◌, length, None, refl, subst, inl, inr, ap}
use Rattle.std.specs.Prelude.{◌⊎◌, All}
use Rattle.lk_tree.specs.Tree.{Name}
use Rattle.lk_tree.specs.Mentions.{same_name}
use Rattle.lk_rulebook.specs.Place.{Ctor}
use Rattle.lk_members.specs.Lines.{alone, a_type, a_ctor, a_recursor}
use Rattle.lk_members.specs.Faults.{fault_of}
use Rattle.lk_members.specs.Plain.{Head, PlainMember, PlainLine}
use Rattle.lk_readback.specs.Statable.{IsSmall, IsName, AreNames, IsTree, IsDecl, IsRecursor}

-- a type's line
pub record IsHead (x : Name) (h : Head) : Type 0 where
  pub name_is : h.name ≡ x
  pub name : IsName h.name
  pub levels : AreNames h.levels
  pub type : IsTree h.type
  pub parameters : IsSmall h.parameters
  pub indices : IsSmall h.indices

-- a constructor's line
pub record IsCtorLine (p x : Name) (c : Ctor) : Type 0 where
  pub name_is : c.name ≡ x
  pub parent_is : c.parent ≡ p
  pub name : IsName c.name
  pub levels : AreNames c.levels
  pub type : IsTree c.type
  pub place : IsSmall c.place
  pub parameters : IsSmall c.parameters
  pub fields : IsSmall c.fields

abbrev pub IsMember : PlainMember → Type 0
IsMember (alone d) = IsDecl d
IsMember (a_type x ts cs h) = IsHead x h × (IsSmall (length ts) × IsSmall (length cs))
IsMember (a_ctor p x c) = IsCtorLine p x c
IsMember (a_recursor ts x r) = (r.name ≡ x) × IsRecursor r

abbrev pub AreMembers : List PlainLine → Type 0
AreMembers ls = All (λ (l : PlainLine). IsMember l.said) ls

-- no line has a fault among those before it
abbrev pub HaveNoFault : List PlainLine → Type 0
HaveNoFault ls =
    (before : List PlainLine) (l : PlainLine) (after : List PlainLine) → ls ≡ before ++ l ∷ after
    → fault_of same_name before l.said ≡ None

-- what stands in a list and one more is the last one, or stands in the list
cases_of_last : {X : Type 0} (xs before after : List X) (x y : X)
    → xs ++ x ∷ [] ≡ before ++ y ∷ after
    → ((xs ≡ before) × (x ≡ y)) ⊎ ((rest : List X) × (xs ≡ before ++ y ∷ rest))
cases_of_last [] [] after x y e = inl (refl, cc)
cases_of_last [] (b ∷ []) after x y e = absurd (cc)
cases_of_last [] (b ∷ d ∷ before) after x y e = absurd (cc)
cases_of_last (k ∷ xs) [] after x y e = inr (xs, let same : k ≡ y = cc in ap (λ z. z ∷ xs) same)
cases_of_last {X} (k ∷ xs) (b ∷ before) after x y e = go (cases_of_last xs before after x y (cc))
  where
    first : k ≡ b
    first = cc

    go : ((xs ≡ before) × (x ≡ y)) ⊎ ((rest : List X) × (xs ≡ before ++ y ∷ rest))
        → ((k ∷ xs ≡ b ∷ before) × (x ≡ y))
        ⊎ ((rest : List X) × (k ∷ xs ≡ b ∷ (before ++ y ∷ rest)))
    go (inl (same, last)) = inl (cc, last)
    go (inr (rest, same)) = inr (rest, cc)

pub none_at_first : HaveNoFault []
none_at_first [] l after e = absurd (cc)
none_at_first (b ∷ before) l after e = absurd (cc)

pub one_more_line : (ls : List PlainLine) (x : PlainLine) → HaveNoFault ls
    → fault_of same_name ls x.said ≡ None → HaveNoFault (ls ++ x ∷ [])
one_more_line ls x faultless none before l after e = elim (cases_of_last ls before after x l e) [
  | inl (same, last) ↦
      let P : List PlainLine → Type 0 = λ b. fault_of same_name b x.said ≡ None in
      let Q : PlainLine → Type 0 = λ y. fault_of same_name before y.said ≡ None in
      subst Q last (subst P same none)
  | inr (rest, is) ↦ faultless before l rest is
]
