-- Structures by numbers.
use Rattle.std.proofs.Common.{◌≡◌, ℕ, true, false, ◌&&◌, nat_eq, List, [], ◌∷◌, length, map, All, Option, Some, None, refl, sym, ap, subst, ◌∙◌, arith, if◌then◌else◌}
use Rattle.std.proofs.lemmas.Bool.Decides.{nat_tests}
use Rattle.lk_rulebook.specs.Place.{Kind, Block as PlainBlock, BlockType as PlainType, Ctor, type_names, an_axiom, a_def, a_thm, an_opaque, a_quot, a_type, a_ctor, a_rec}
use Rattle.lk_rulebook.specs.Structures.{has_plain_fields_after, is_structure_like}
use Rattle.lk_store.specs.Contents.{Contents, tree_at, Extends}
use Rattle.lk_subst.specs.Numbers.{values-steady}
use Rattle.lk_env.specs.declared.unit.Block.{Block}
use Rattle.lk_env.specs.declared.unit.BlockType.{BlockType}
use Rattle.lk_env.specs.declared.unit.Constructor.{Constructor}
use Rattle.lk_env.specs.Units.{block_at, type_at, constructor_at, IsTypeIn, IsConstructorIn}
use Rattle.lk_mentions.specs.Names.{names_at}
use Rattle.lk_mentions.specs.declared.structures.Structure.{Structure}
use Rattle.lk_env.specs.Lent.{member_in, type_in}
use Rattle.lk_mentions.specs.Structures.{is_alone, structure_by, structure_in, unit_with, unit_by, unit_in, IsStructure, IsStructureIf}
use Rattle.lk_mentions.proofs.TypeNames.{numbers_of, names_are, names_known}

-- the fields are looked at in a store that has grown
pub like_is : (c d : Contents) → Extends c d → (b : Block) (t : BlockType) (k : Constructor) (numbers : List ℕ) → numbers ≡ numbers_of b.types.items → All (IsTypeIn c) b.types.items → IsConstructorIn c k → nat_eq t.indices 0 ≡ true
    → has_plain_fields_after (names_at d numbers) k.parameters k.fields (tree_at d k.ty) ≡ is_structure_like (block_at c b) (type_at c t) (constructor_at c k)
like_is c d x b t k numbers e known known_k none =
    let ts = b.types.items in
    let names : names_at d numbers ≡ type_names (map (type_at c) ts) =
    ap (names_at d) e ∙ values-steady [] c.names d.names (numbers_of ts) x.names (names_known c ts known) ∙ names_are c ts in
    ap (λ ns. has_plain_fields_after ns k.parameters k.fields (tree_at d k.ty)) names
    ∙ ap (has_plain_fields_after (type_names (map (type_at c) ts)) k.parameters k.fields) (x.trees.same k.ty known_k.stated.ty_in)
    ∙ ap (λ z. z && has_plain_fields_after (type_names (map (type_at c) ts)) k.parameters k.fields (tree_at c k.ty)) (sym none)

pub alone_is : (c : Contents) (ks : List Constructor) → is_alone (map (constructor_at c) ks) ≡ nat_eq (length ks) 1
alone_is c [] = refl
alone_is c (k ∷ []) = refl
alone_is c (k ∷ j ∷ ks) = grind (arith, nat_tests)

-- a kind that is a constructor
structure_of_member : (kd : Kind) (b : PlainBlock) (t : PlainType) (k : Ctor) → member_in kd ≡ Some (b, t, k) → structure_in kd ≡ structure_by b t k
structure_of_member (a_ctor B T K) b t k h =
    let same : (B, T, K) ≡ (b, t, k) = cc in
    ap (λ (p : PlainBlock × PlainType × Ctor). structure_by p.0 p.1 p.2) same
structure_of_member an_axiom b t k h = absurd (cc)
structure_of_member (a_def i v) b t k h = absurd (cc)
structure_of_member (a_thm v) b t k h = absurd (cc)
structure_of_member (an_opaque v) b t k h = absurd (cc)
structure_of_member a_quot b t k h = absurd (cc)
structure_of_member (a_type B T) b t k h = absurd (cc)
structure_of_member (a_rec r) b t k h = absurd (cc)

module _ (d : Contents) (kd : Kind) (b : PlainBlock) (t : PlainType) (k : Ctor) (member : member_in kd ≡ Some (b, t, k)) where
  by : (o : Option Structure) (s : Option (PlainType × Ctor)) → structure_by b t k ≡ s → IsStructureIf d o s → IsStructureIf d o (structure_in kd)
  by o s e h = subst (IsStructureIf d o) (sym (structure_of_member kd b t k member ∙ e)) h

  pub not_alone : is_alone t.ctors ≡ false → IsStructureIf d None (structure_in kd)
  not_alone e = by None None (ap (λ z. if z && is_structure_like b t k then Some (t, k) else None) e) tt

  pub not_like : is_alone t.ctors ≡ true → is_structure_like b t k ≡ false → IsStructureIf d None (structure_in kd)
  not_like e f = by None None (ap (λ z. if z && is_structure_like b t k then Some (t, k) else None) e ∙ ap (λ z. if z then Some (t, k) else None) f) tt

  pub both_so : (s : Structure) → is_alone t.ctors ≡ true → is_structure_like b t k ≡ true → IsStructure d s (t, k) → IsStructureIf d (Some s) (structure_in kd)
  both_so s e f h = by (Some s) (Some (t, k)) (ap (λ z. if z && is_structure_like b t k then Some (t, k) else None) e ∙ ap (λ z. if z then Some (t, k) else None) f) h

pub no_member : (d : Contents) (kd : Kind) → member_in kd ≡ None → IsStructureIf d None (structure_in kd)
no_member d (a_ctor B T K) h = absurd (cc)
no_member d an_axiom h = tt
no_member d (a_def i v) h = tt
no_member d (a_thm v) h = tt
no_member d (an_opaque v) h = tt
no_member d a_quot h = tt
no_member d (a_type B T) h = tt
no_member d (a_rec r) h = tt

-- a kind that is a type
pub unit_of_type : (kd : Kind) (b : PlainBlock) (t : PlainType) → type_in kd ≡ Some (b, t) → unit_in kd ≡ unit_by b t t.ctors
unit_of_type (a_type B T) b t h =
    let same : (B, T) ≡ (b, t) = cc in
    ap (λ (p : PlainBlock × PlainType). unit_by p.0 p.1 p.1.ctors) same
unit_of_type an_axiom b t h = absurd (cc)
unit_of_type (a_def i v) b t h = absurd (cc)
unit_of_type (a_thm v) b t h = absurd (cc)
unit_of_type (an_opaque v) b t h = absurd (cc)
unit_of_type a_quot b t h = absurd (cc)
unit_of_type (a_ctor B T K) b t h = absurd (cc)
unit_of_type (a_rec r) b t h = absurd (cc)

pub no_type : (kd : Kind) → type_in kd ≡ None → unit_in kd ≡ None
no_type (a_type B T) h = absurd (cc)
no_type an_axiom h = refl
no_type (a_def i v) h = refl
no_type (a_thm v) h = refl
no_type (an_opaque v) h = refl
no_type a_quot h = refl
no_type (a_ctor B T K) h = refl
no_type (a_rec r) h = refl

-- not just one constructor
pub not_one : (c : Contents) (b : PlainBlock) (t : BlockType) → (length t.constructors.items ≡ 1 → ⊥) → unit_by b (type_at c t) (map (constructor_at c) t.constructors.items) ≡ None
not_one c b t h = go t.constructors.items h
  where
    go : (ks : List Constructor) → (length ks ≡ 1 → ⊥) → unit_by b (type_at c t) (map (constructor_at c) ks) ≡ None
    go [] h = refl
    go (k ∷ []) h = absurd (h refl)
    go (k ∷ j ∷ ks) h = refl

-- just this one
pub one_only : (c : Contents) (b : PlainBlock) (t : BlockType) (k : Constructor) → t.constructors.items ≡ k ∷ [] → unit_with b (type_at c t) (constructor_at c k) ≡ unit_by b (type_at c t) (map (constructor_at c) t.constructors.items)
one_only c b t k e = ap (λ ks. unit_by b (type_at c t) (map (constructor_at c) ks)) (sym e)
