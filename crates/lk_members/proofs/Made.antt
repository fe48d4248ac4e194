-- The parts of a block that are made from a line.
use Rattle.std.proofs.Common.{◌≡◌, ◌<◌, ◌≤◌, ℕ, nat_eq, length, get_or, Bool, true, false, List, [], ◌∷◌, refl, ap, sym, ◌∙◌, subst}
use Rattle.std.specs.Prelude.{◌&&◌, Option, Some, None, IsSome, map, if◌then◌else◌}
use Rattle.std.specs.Prelude.{Box, Vec}
use Rattle.std.specs.declared.alloc.Global.{Global}
use Rattle.std.proofs.lemmas.Option.{slice_get_past}
use Rattle.std.proofs.lemmas.List.{length-map}
use Rattle.std.proofs.lemmas.Bool.{false≢true}
use Rattle.std.proofs.lemmas.List.Elements.{All-cons, All-nil}
use Rattle.lk_store.specs.Contents.{Contents}
use Rattle.lk_env.specs.Units as units
use Rattle.lk_env.specs.Units.{constructor_at, IsConstructorIn, IsTypeIn}
use Rattle.lk_env.specs.declared.unit.BlockType.{BlockType}
use Rattle.lk_env.specs.declared.unit.Recursor.{Recursor}
use Rattle.lk_env.specs.declared.unit.Constructor.{Constructor}
use Rattle.lk_members.specs.declared.line.TypeHead.{TypeHead}
use Rattle.lk_members.specs.declared.line.StoredLine.{StoredLine}
use Rattle.lk_members.specs.declared.line.StoredMember.{StoredMember}
use Rattle.lk_members.specs.declared.line.StoredMember.TheVariants as stored
use Rattle.lk_members.specs.Lines.{ctor_here, recursor_here}
use Rattle.lk_members.specs.Units.{if_any, ctors_listed, with_ctors}
use Rattle.lk_members.specs.Stored.{NumberedLine, said_of, line_of, lines_of, type_stated, IsStoredMemberIn, AreLinesIn}
use Rattle.lk_members.specs.Indices.{recursor_at}
use Rattle.lk_members.specs.Finishing.{IsConstructorCopy, IsTypeCopy, IsRecursorMade, AreConstructorsMade, AreTypesMade, AreRecursorsMade}
use Rattle.lk_members.proofs.Led.{line_at, said_known}
use Rattle.lk_members.proofs.Listing.{stated_here}

-- what a test lets through
pub chosen : {A : Type 0} (b : Bool) (a : A) (found : Option A) → (if b then Some a else None) ≡ found → IsSome found → found ≡ Some a
chosen true a found e some = sym e
chosen {A} false a found e some = absurd (let h : IsSome {T = A} None = subst IsSome (sym e) some in false≢true h)

pub not_none : {A : Type 0} (found : Option A) → None ≡ found → IsSome found → ⊥
not_none {A} found e some = let h : IsSome {T = A} None = subst IsSome (sym e) some in false≢true h

module _ (lines : List StoredLine) (t n : ℕ) (s : StoredMember) (found : Option Constructor) (here : ctor_here nat_eq (said_of s) t n ≡ found) (some : IsSome found) where
  pub ctor_copied : (k : Box Constructor Global) (copy : Constructor) → s ≡ stored.Constructor k → IsConstructorCopy k.value copy → ((c : Contents) → AreLinesIn c lines → IsStoredMemberIn c s) → AreConstructorsMade lines (if_any found) (copy ∷ [])
  ctor_copied k copy is copied known =
      let found_is = chosen (nat_eq k.value.parent t && nat_eq k.value.name n) k.value found (ap (λ (u : StoredMember). ctor_here nat_eq (said_of u) t n) (sym is) ∙ here) some in
      record {
        same = λ c. ap (λ j. j ∷ []) (copied.same c) ∙ ap (λ (o : Option Constructor). map (constructor_at c) (if_any o)) (sym found_is);
        known = λ c all. All-cons (IsConstructorIn c) copy [] (copied.known c (subst (IsStoredMemberIn c) is (known c all))) (All-nil (IsConstructorIn c));
      }

  pub no_ctor : ((k : Box Constructor Global) → s ≡ stored.Constructor k → ⊥) → ⊥
  no_ctor = go s here
    where
      go : (u : StoredMember) → ctor_here nat_eq (said_of u) t n ≡ found → ((k : Box Constructor Global) → u ≡ stored.Constructor k → ⊥) → ⊥
      go (stored.Alone d) h not = not_none found h some
      go (stored.Type head types) h not = not_none found h some
      go (stored.Constructor k) h not = not k refl
      go (stored.Recursor types r) h not = not_none found h some

module _ (lines : List StoredLine) (x : ℕ) (s : StoredMember) (found : Option (TypeHead × List ℕ)) (here : stated_here (said_of s) x ≡ found) (some : IsSome found) where
  pub type_copied : (head : Box TypeHead Global) (types : Vec ℕ Global) (made : List Constructor) (copy : BlockType) → s ≡ stored.Type head types → IsTypeCopy head.value made copy
      → AreConstructorsMade lines (ctors_listed nat_eq (lines_of lines) x head.value.constructors.items) made → ((c : Contents) → AreLinesIn c lines → IsStoredMemberIn c s) → AreTypesMade lines (with_ctors nat_eq (lines_of lines) x found) (copy ∷ [])
  type_copied head types made copy is copied ks known =
      let constructors : Vec ℕ Global = head.value.constructors in
      let found_is : found ≡ Some (head.value, constructors.items) = chosen (nat_eq head.value.name x) (head.value, constructors.items) found (ap (λ (u : StoredMember). stated_here (said_of u) x) (sym is) ∙ here) some in
      record {
        same = λ c. ap (λ t. t ∷ []) (copied.same c (ctors_listed nat_eq (lines_of lines) x constructors.items) (ks.same c)) ∙ ap (λ (o : Option (TypeHead × List ℕ)). map (type_stated c) (with_ctors nat_eq (lines_of lines) x o)) (sym found_is);
        known = λ c all. All-cons (IsTypeIn c) copy [] (copied.known c (subst (IsStoredMemberIn c) is (known c all)).0 (ks.known c all)) (All-nil (IsTypeIn c));
      }

  pub no_type : ((head : Box TypeHead Global) (types : Vec ℕ Global) → s ≡ stored.Type head types → ⊥) → ⊥
  no_type = go s here
    where
      go : (u : StoredMember) → stated_here (said_of u) x ≡ found → ((head : Box TypeHead Global) (types : Vec ℕ Global) → u ≡ stored.Type head types → ⊥) → ⊥
      go (stored.Alone d) h not = not_none found h some
      go (stored.Type head types) h not = not head types refl
      go (stored.Constructor k) h not = not_none found h some
      go (stored.Recursor types r) h not = not_none found h some

-- the recursor at a place
module _ (ls : List StoredLine) (us : List ℕ) (i : ℕ) where
  recs_where : Option NumberedLine → List Recursor
  recs_where o = elim o [ Some l ↦ recursor_here nat_eq l.said us | None ↦ [] ]

  pub placed_recursor : (l : StoredLine) (made : List Recursor) → i < length ls → l ≡ get_or ls i l → IsRecursorMade l.said (recursor_here nat_eq (said_of l.said) us) made → AreRecursorsMade ls (recursor_at (lines_of ls) us i) made
  unfolding recs_where
  placed_recursor l made lt is m = record {
    same = λ c. m.same c ∙ ap (λ o. map (units.recursor_at c) (recs_where o)) (sym (line_at ls i l lt is));
    known = λ c all. m.known c (said_known c ls i l lt is all);
  }

  pub none_placed : length ls ≤ i → AreRecursorsMade ls (recursor_at (lines_of ls) us i) []
  unfolding recs_where
  none_placed le =
      let past : length (lines_of ls) ≤ i = subst (λ n. n ≤ i) (sym (length-map ls line_of)) le in
      record {
        same = λ c. ap (λ o. map (units.recursor_at c) (recs_where o)) (sym (slice_get_past (lines_of ls) i past));
        known = λ c all. All-nil (units.IsRecursorIn c);
      }
