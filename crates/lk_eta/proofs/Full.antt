-- A kind that is a structure's constructor with all its arguments.
use Rattle.std.proofs.Common.{◌≡◌, ◌+◌, Bool, true, false, ◌&&◌, nat_eq, List, [], ◌∷◌, length, Option, Some, None, refl, sym, ap, subst, ◌∙◌, arith, if◌then◌else◌}
use Rattle.std.specs.Prelude.{is_some}
use Rattle.lk_tree.specs.Tree.{Tree}
use Rattle.lk_rulebook.specs.Place.{Kind, BlockType, Ctor, an_axiom, a_def, a_thm, an_opaque, a_quot, a_type, a_ctor, a_rec}
use Rattle.lk_rulebook.specs.Structures.{is_structure_like}
use Rattle.lk_questions.specs.Iota.{has_one_ctor}
use Rattle.lk_store.specs.Contents.{Contents, Extends}
use Rattle.lk_store.specs.Store.{contents_of}
use Rattle.lk_env.specs.declared.unit.BlockType.{BlockType as StoredType}
use Rattle.lk_env.specs.declared.unit.Constructor.{Constructor}
use Rattle.lk_env.specs.Units.{type_at, constructor_at, IsTypeIn}
use Rattle.lk_env.specs.Lent.{constructor_in}
use Rattle.lk_env.specs.StoredLibrary.{StoredLibrary}
use Rattle.lk_mentions.specs.declared.structures.Structure.{Structure}
use Rattle.lk_mentions.specs.Structures.{is_alone, structure_in, IsStructure, IsStructureIf}
use Rattle.lk_eta.specs.Structures.{is_full}

-- what numbers stand for, where they do
pub some_of : (c : Contents) (s : Structure) (o : Option (BlockType × Ctor)) → IsStructureIf c (Some s) o → (q : BlockType × Ctor) × (o ≡ Some q) × IsStructure c s q
some_of c s (Some q) i = (q, refl, i)
some_of c s None i = absurd i

pub none_of : (c : Contents) (o : Option (BlockType × Ctor)) → IsStructureIf c None o → o ≡ None
none_of c None i = refl
none_of c (Some q) i = absurd i

-- a stored constructor with its type, of a library that a store has
pub stored : (l : StoredLibrary) (c : Contents) → Extends (contents_of l.tables) c → (t : StoredType) (k : Constructor) → IsTypeIn (contents_of l.tables) t → (o : Option (BlockType × Ctor))
    → o ≡ Some (type_at (contents_of l.tables) t, constructor_at (contents_of l.tables) k) → IsStructureIf c (Some (record { inductive = t.name; parameters = k.parameters; fields = k.fields })) o
stored l c x t k known o e =
    let small = known.stated.name_in in
    let longer = x.names.longer in
    subst (IsStructureIf c (Some (record { inductive = t.name; parameters = k.parameters; fields = k.fields }))) (sym e)
    (record { inductive_in = omega arith; inductive_is = x.names.same t.name small; parameters_are = refl; fields_are = refl })

pub not_stored : (c : Contents) (o : Option (BlockType × Ctor)) → o ≡ None → IsStructureIf c None o
not_stored c o e = subst (IsStructureIf c None) (sym e) tt

alone_is : (ks : List Ctor) → is_alone ks ≡ has_one_ctor ks
alone_is [] = refl
alone_is (k ∷ []) = refl
alone_is (k ∷ j ∷ ks) = refl

if_some : (q : Bool) (s : BlockType × Ctor) → is_some (if q then Some s else None) ≡ q
if_some true s = refl
if_some false s = refl

-- just as many arguments as the constructor takes
counts : Option (BlockType × Ctor) → List Tree → Bool
counts None xs = false
counts (Some s) xs = nat_eq (length xs) (s.1.parameters + s.1.fields)

full_is : (k : Kind) (xs : List Tree) → (counts (constructor_in k) xs && is_some (structure_in k)) ≡ is_full k xs
unfolding counts
full_is (a_ctor b t k) xs =
    ap (λ q. nat_eq (length xs) (k.parameters + k.fields) && q)
    (if_some (is_alone t.ctors && is_structure_like b t k) (t, k) ∙ ap (λ q. q && is_structure_like b t k) (alone_is t.ctors))
full_is an_axiom xs = refl
full_is (a_def h v) xs = refl
full_is (a_thm v) xs = refl
full_is (an_opaque v) xs = refl
full_is a_quot xs = refl
full_is (a_type b t) xs = refl
full_is (a_rec r) xs = refl

both_are : (p q : Bool) → q ≡ p → (r : Bool) → (p && r) ≡ (q && r)
both_are p q e r = ap (λ z. z && r) (sym e)

module _ (c : Contents) (k : Kind) (xs : List Tree) where
  pub no_constructor : IsStructureIf c None (constructor_in k) → false ≡ is_full k xs
  unfolding counts
  no_constructor i = ap (λ o. counts o xs && is_some (structure_in k)) (sym (none_of c (constructor_in k) i)) ∙ full_is k xs

  module _ (s : Structure) (i : IsStructureIf c (Some s) (constructor_in k)) where
    counted : nat_eq (length xs) (s.parameters + s.fields) ≡ counts (constructor_in k) xs
    unfolding counts
    counted =
        let q = some_of c s (constructor_in k) i in
        ap (λ n. nat_eq (length xs) (n + s.fields)) q.2.parameters_are
        ∙ ap (λ n. nat_eq (length xs) (q.0.1.parameters + n)) q.2.fields_are
        ∙ ap (λ o. counts o xs) (sym q.1)

    -- too few arguments, or too many
    pub other_count : nat_eq (length xs) (s.parameters + s.fields) ≡ false → false ≡ is_full k xs
    other_count n = ap (λ z. z && is_some (structure_in k)) (sym n ∙ counted) ∙ full_is k xs

    -- just as many: whether it is a structure decides
    module _ (many : nat_eq (length xs) (s.parameters + s.fields) ≡ true) where
      all_there : (z : Bool) → is_some (structure_in k) ≡ z → z ≡ is_full k xs
      all_there z e = sym e ∙ ap (λ y. y && is_some (structure_in k)) (sym many ∙ counted) ∙ full_is k xs

      pub is_structure : (t : Structure) → IsStructureIf c (Some t) (structure_in k) → true ≡ is_full k xs
      is_structure t j = all_there true (ap (λ (o : Option (BlockType × Ctor)). is_some o) (some_of c t (structure_in k) j).1)

      pub no_structure : IsStructureIf c None (structure_in k) → false ≡ is_full k xs
      no_structure j = all_there false (ap (λ (o : Option (BlockType × Ctor)). is_some o) (none_of c (structure_in k) j))
