-- What lines by numbers stand for, where no two names of the store are equal.
use Rattle.std.proofs.Common.{◌≡◌, ℕ, ◌<◌, Bool, true, false, List, [], ◌∷◌, length, map, refl, sym, ap, ◌∙◌, arith}
use Rattle.std.specs.Prelude.{nat_eq}
use Rattle.std.proofs.lemmas.Bool.Decides.{nat_tests}
use Rattle.std.proofs.lemmas.List.Elements.{All-head, All-tail}
use Rattle.lk_tree.specs.Tree.{name_discrete}
use Rattle.lk_tree.specs.Mentions.{same_name}
use Rattle.lk_rulebook.specs.Units.{of_block}
use Rattle.lk_store.specs.Contents.{Contents, name_at}
use Rattle.lk_store.specs.Values.{AreApart}
use Rattle.lk_env.specs.Units.{declaration_at, constructor_at, recursor_at}
use Rattle.lk_env.specs.declared.unit.Constructor.{Constructor}
use Rattle.lk_members.specs.declared.line.TypeHead.{TypeHead}
use Rattle.lk_members.specs.declared.line.StoredMember.{StoredMember}
use Rattle.lk_members.specs.declared.line.StoredMember.TheVariants as stored
use Rattle.lk_members.specs.declared.line.StoredLine.{StoredLine}
use Rattle.lk_members.specs.Faults.{fault_of, first_open}
use Rattle.lk_members.specs.Units.{one, block, units_of}
use Rattle.lk_members.specs.Stored.{NumberedUnit, said_of, lines_of, type_stated, unit_stated, IsStoredMemberIn, AreLinesIn}
use Rattle.lk_members.specs.Plain.{with_its_ctors, unit_of, library_stated, head_at, said_at, lines_at}
use Rattle.lk_members.proofs.Renamed.{said_renamed, line_renamed, IsKnownMember, AreKnownLines, typed_put, unit_renamed, fault_stays, first_stays, units_stay}

module _ (c : Contents) where
  abbrev IsName : ℕ → Type 0
  IsName n = n < length c.names

  said_named : (s : StoredMember) → said_at c s ≡ said_renamed (name_at c) (declaration_at c) (head_at c) (constructor_at c) (recursor_at c) (said_of s)
  said_named (stored.Alone d) = refl
  said_named (stored.Type t types) = refl
  said_named (stored.Constructor k) = refl
  said_named (stored.Recursor types r) = refl

  lines_named : (ls : List StoredLine) → lines_at c ls ≡ map (line_renamed (name_at c) (declaration_at c) (head_at c) (constructor_at c) (recursor_at c)) (lines_of ls)
  lines_named [] = refl
  lines_named (l ∷ ls) =
      let a : said_at c l.said ≡ said_renamed (name_at c) (declaration_at c) (head_at c) (constructor_at c) (recursor_at c) (said_of l.said) = said_named l.said in
      let b : lines_at c ls ≡ map (line_renamed (name_at c) (declaration_at c) (head_at c) (constructor_at c) (recursor_at c)) (lines_of ls) = lines_named ls in
      rw (a, b) refl

  said_known : (s : StoredMember) → IsStoredMemberIn c s → IsKnownMember IsName (said_of s)
  said_known (stored.Alone d) h = tt
  said_known (stored.Type t types) h = (h.0.name_in, (h.1.0, h.1.1))
  said_known (stored.Constructor k) h = (h.parent_in, h.stated.name_in)
  said_known (stored.Recursor types r) h = (h.0, h.1.stated.name_in)

  lines_known : (ls : List StoredLine) → AreLinesIn c ls → AreKnownLines IsName (lines_of ls)
  lines_known [] h = tt
  lines_known (l ∷ ls) h = (said_known l.said (All-head (λ (x : StoredLine). IsStoredMemberIn c x.said) l ls h), lines_known ls (All-tail (λ (x : StoredLine). IsStoredMemberIn c x.said) l ls h))

  module _ (apart : AreApart [] c.names) where
    -- two names are equal where their numbers are
    faithful : (x y : ℕ) → IsName x → IsName y → same_name (name_at c x) (name_at c y) ≡ nat_eq x y
    faithful x y p q = go (name_discrete (name_at c x) (name_at c y))
      where
        same_number : (b : Bool) → nat_eq x y ≡ b → (name_at c x ≡ name_at c y → ⊥) → nat_eq x y ≡ false
        same_number false e f = e
        same_number true e f = absurd (f (let same : x ≡ y = grind (arith, nat_tests, e) in ap (name_at c) same))

        go : (d : Dec (name_at c x ≡ name_at c y)) → elim d [ yes e ↦ true | no f ↦ false ] ≡ nat_eq x y
        go (yes e) = let same : x ≡ y = apart.apart x y p q e in let t : nat_eq x y ≡ true = grind (arith, nat_tests) in sym t
        go (no f) = sym (same_number (nat_eq x y) refl f)

    -- the fault of a line among those before it is found by numbers
    pub fault_stands : (ls : List StoredLine) (s : StoredMember) → AreLinesIn c ls → IsStoredMemberIn c s → fault_of same_name (lines_at c ls) (said_at c s) ≡ fault_of nat_eq (lines_of ls) (said_of s)
    fault_stands ls s k h =
        rw (lines_named ls, said_named s)
        (fault_stays nat_eq same_name (name_at c) IsName faithful (declaration_at c) (head_at c) (constructor_at c) (recursor_at c) (lines_of ls) (said_of s) (lines_known ls k) (said_known s h))

    -- and so is the first open line
    pub open_stands : (ls : List StoredLine) → AreLinesIn c ls → first_open same_name (lines_at c ls) (lines_at c ls) ≡ first_open nat_eq (lines_of ls) (lines_of ls)
    open_stands ls k =
        rw (lines_named ls)
        (first_stays nat_eq same_name (name_at c) IsName faithful (declaration_at c) (head_at c) (constructor_at c) (recursor_at c) (lines_of ls) (lines_of ls) (lines_known ls k) (lines_known ls k))

    types_named : (ts : List (TypeHead × List Constructor)) → map (type_stated c) ts ≡ map with_its_ctors (map (typed_put (declaration_at c) (head_at c) (constructor_at c) (recursor_at c)) ts)
    types_named [] = refl
    types_named (t ∷ ts) = ap (λ us. type_stated c t ∷ us) (types_named ts)

    unit_named : (u : NumberedUnit) → unit_stated c u ≡ unit_of (unit_renamed (declaration_at c) (head_at c) (constructor_at c) (recursor_at c) u)
    unit_named (one d) = refl
    unit_named (block ts rs) =
        ap (λ us. of_block (record { types = us }) (map (recursor_at c) rs)) (types_named ts)

    units_named : (us : List NumberedUnit) → map (unit_stated c) us ≡ map unit_of (map (unit_renamed (declaration_at c) (head_at c) (constructor_at c) (recursor_at c)) us)
    units_named [] = refl
    units_named (u ∷ us) =
        let a : unit_stated c u ≡ unit_of (unit_renamed (declaration_at c) (head_at c) (constructor_at c) (recursor_at c) u) = unit_named u in
        let b : map (unit_stated c) us ≡ map unit_of (map (unit_renamed (declaration_at c) (head_at c) (constructor_at c) (recursor_at c)) us) = units_named us in
        rw (a, b) refl

    -- the library is that of the units by numbers
    pub library_stands : (ls : List StoredLine) → AreLinesIn c ls → library_stated (lines_at c ls) ≡ map (unit_stated c) (units_of nat_eq (lines_of ls))
    library_stands ls k =
        rw (lines_named ls)
        (ap (map unit_of) (units_stay nat_eq same_name (name_at c) IsName faithful (declaration_at c) (head_at c) (constructor_at c) (recursor_at c) (lines_of ls) (lines_of ls) (lines_known ls k) (lines_known ls k))
        ∙ sym (units_named (units_of nat_eq (lines_of ls))))
