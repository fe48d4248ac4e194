-- Types with exactly one constructor, by numbers.
use Rattle.std.proofs.Common.{◌≡◌, ◌<◌, ℕ, List, [], ◌∷◌, length, map, Option, Some, None}
use Rattle.std.proofs.Common.{refl, ap, sym, subst, ◌∙◌, arith}
use Rattle.std.specs.Prelude.{option_map, option_and_then, slice_get}
use Rattle.lk_tree.specs.Tree.{Name, Level, Tree}
use Rattle.lk_tree.specs.declared.rule.Rule.TheVariants.{BadProjection}
use Rattle.lk_rulebook.specs.Place.{Entry as PlainEntry, Kind as PlainKind, Block as PlainBlock}
use Rattle.lk_rulebook.specs.Place.{BlockType as PlainType, BlockRecursor, Ctor, an_axiom, a_def}
use Rattle.lk_rulebook.specs.Place.{a_thm}
use Rattle.lk_rulebook.specs.Place.{an_opaque, a_quot, a_type, a_ctor, a_rec}
use Rattle.lk_rulebook.specs.Units.{LibraryUnit, of_decl, of_block}
use Rattle.lk_questions.specs.Program.{refuse}
use Rattle.lk_questions.specs.Projections.{of_struct, of_kind}
use Rattle.lk_store.specs.Contents.{Contents, tree_at, Extends}
use Rattle.lk_store.specs.Store.{contents_of}
use Rattle.lk_env.specs.declared.entry.Kind.TheVariants as kind
use Rattle.lk_env.specs.declared.entry.Entry.{Entry}
use Rattle.lk_env.specs.declared.unit.BlockType.{BlockType}
use Rattle.lk_env.specs.declared.unit.Constructor.{Constructor}
use Rattle.lk_env.specs.declared.unit.Unit.{Unit as StoredUnit}
use Rattle.lk_env.specs.Units.{type_at, constructor_at, library_at}
use Rattle.lk_env.specs.Entries.{entry_of, plain_entry}
use Rattle.lk_env.specs.Lent.{type_in}
use Rattle.lk_env.specs.StoredLibrary.{StoredLibrary}
use Rattle.lk_structure.specs.declared.structure.Structure.{Structure}
use Rattle.lk_structure.specs.Structures.{with_one, structure_in, IsStructure, IsStructureIf}

-- the entry of a type's only constructor
abbrev ctor_entry : PlainBlock → PlainType → Ctor → Tree → PlainEntry
ctor_entry b t k T = record { levels = k.levels; type = T; kind = a_ctor b t k }

second_is : (x y : PlainBlock × PlainType) → Some x ≡ Some y → x.1 ≡ y.1
second_is x y h =
    let both : x ≡ y = cc in
    ap (λ (p : PlainBlock × PlainType). p.1) both

-- a type at a place of a block, and the entry of the first constructor there
module _ (c : Contents) (i : ℕ) (T U : Tree) where
  entry_by : (b : PlainBlock) (rs : List BlockRecursor) (g : PlainEntry) (o : Option PlainType)
      → slice_get b.types i ≡ o → option_map
      (λ (t : PlainType). record { levels = t.levels; type = T; kind = a_type b t }) o ≡ Some g
      → (t : PlainType) (k : Ctor) (d : PlainBlock) → type_in g.kind ≡ Some (d, t)
      → t.ctors ≡ k ∷ []
      → entry_of c (of_block b rs) (kind.Constructor i 0) U ≡ Some (ctor_entry b t k U)
  entry_by b rs g None at h t k d is one = absurd (cc)
  entry_by b rs g (Some t₀) at h t k d is one =
      let same : g ≡ record { levels = t₀.levels; type = T; kind = a_type b t₀ } = cc in
      let told : type_in g.kind ≡ Some (b, t₀) = ap (λ (y : PlainEntry). type_in y.kind) same in
      let alike : t₀ ≡ t = second_is (b, t₀) (d, t) (sym told ∙ is) in
      ap (λ o. option_and_then (λ (u : PlainType). option_map (λ (j : Ctor). ctor_entry b u j U)
      (slice_get u.ctors 0)) o) (at ∙ ap (λ u. Some u) alike)
      ∙ ap (λ js. option_map (λ (j : Ctor). ctor_entry b t j U) (slice_get js 0)) one

  in_unit : (u : LibraryUnit) (g : PlainEntry) → entry_of c u (kind.Type i) T ≡ Some g
      → (t : PlainType) (k : Ctor) (d : PlainBlock) → type_in g.kind ≡ Some (d, t)
      → t.ctors ≡ k ∷ []
      → (y : PlainEntry) × (entry_of c u (kind.Constructor i 0) U ≡ Some y) × (y.levels ≡ k.levels)
  in_unit (of_decl d) g h t k b is one = absurd (cc)
  in_unit (of_block b rs) g h t k d is one =
      (ctor_entry b t k U, entry_by b rs g (slice_get b.types i) refl h t k d is one, refl)

-- the entry of the only constructor of a type
ctor_there : (c : Contents) (us : List StoredUnit) (e f : Entry) (g : PlainEntry) (i : ℕ)
    (t : PlainType) (k : Ctor) (d : PlainBlock) → plain_entry c us e ≡ Some g
    → e.kind ≡ kind.Type i → f.kind ≡ kind.Constructor i 0 → e.unit ≡ f.unit
    → type_in g.kind ≡ Some (d, t) → t.ctors ≡ k ∷ []
    → (y : PlainEntry) × (plain_entry c us f ≡ Some y) × (y.levels ≡ k.levels)
ctor_there c us e f g i t k d h of_type of_ctor at is one =
    go (slice_get (library_at c us) e.unit) refl h
  where
    go : (o : Option LibraryUnit) → slice_get (library_at c us) e.unit ≡ o
        → option_and_then (λ u. entry_of c u e.kind (tree_at c e.stated)) o ≡ Some g
        → (y : PlainEntry) × (plain_entry c us f ≡ Some y) × (y.levels ≡ k.levels)
    go None there n = absurd (cc)
    go (Some u) there n =
        let found = in_unit c i (tree_at c e.stated) (tree_at c f.stated) u g
        (ap (λ z. entry_of c u z (tree_at c e.stated)) (sym of_type) ∙ n) t k d is one in (
          found.0,
          ap (λ n. option_and_then (λ u. entry_of c u f.kind (tree_at c f.stated))
              (slice_get (library_at c us) n)) (sym at)
              ∙ ap (option_and_then (λ u. entry_of c u f.kind (tree_at c f.stated))) there
              ∙ ap (λ z. entry_of c u z (tree_at c f.stated)) of_ctor ∙ found.1,
          found.2,
        )

-- what a kind has that is a type
structure_of_type : (kd : PlainKind) (b : PlainBlock) (t : PlainType) → type_in kd ≡ Some (b, t)
    → structure_in kd ≡ with_one t t.ctors
structure_of_type (a_type d u) b t h =
    let same : (d, u) ≡ (b, t) = cc in
    ap (λ (p : PlainBlock × PlainType). with_one p.1 p.1.ctors) same
structure_of_type an_axiom b t h = absurd (cc)
structure_of_type (a_def i v) b t h = absurd (cc)
structure_of_type (a_thm v) b t h = absurd (cc)
structure_of_type (an_opaque v) b t h = absurd (cc)
structure_of_type a_quot b t h = absurd (cc)
structure_of_type (a_ctor d u k) b t h = absurd (cc)
structure_of_type (a_rec r) b t h = absurd (cc)

module _ (l : StoredLibrary) (e : Entry) (g : PlainEntry) (b : PlainBlock)
    (t : BlockType) (i : ℕ) (h : plain_entry (contents_of l.tables) l.units e ≡ Some g)
    (is : type_in g.kind ≡ Some (b, type_at (contents_of l.tables) t)) where
  -- it has just this constructor
  pub with_ctor : (k : Constructor) (s : Structure) → t.constructors.items ≡ k ∷ []
      → e.kind ≡ kind.Type i → s.constructor.kind ≡ kind.Constructor i 0
      → e.unit ≡ s.constructor.unit → s.constructor.stated ≡ k.ty → s.parameters ≡ t.parameters
      → s.indices ≡ t.indices → s.fields ≡ k.fields
      → IsStructureIf l (Some s) (structure_in g.kind)
  with_ctor k s one of_type of_ctor at stated parameters indices fields =
      let c = contents_of l.tables in
      let ctors : map (constructor_at c) t.constructors.items ≡ constructor_at c k ∷ [] =
      ap (map (constructor_at c)) one in
      let there = ctor_there c l.units e s.constructor g i (type_at c t) (constructor_at c k) b h
      of_type of_ctor at is ctors in
      subst (IsStructureIf l (Some s))
      (sym (structure_of_type g.kind b (type_at c t) is ∙ ap (with_one (type_at c t)) ctors))
      (record {
        parameters_are = parameters;
        indices_are = indices;
        fields_are = fields;
        entry = there.0;
        entry_is = there.1;
        levels_are = there.2;
        type_is = ap (tree_at c) stated;
      })

  -- it has not just one
  pub without_ctor : (length t.constructors.items ≡ 1 → ⊥)
      → IsStructureIf l None (structure_in g.kind)
  without_ctor none = subst (IsStructureIf l None)
      (sym (structure_of_type g.kind b (type_at c t) is ∙ go t.constructors.items none)) tt
    where
      c : Contents
      c = contents_of l.tables

      go : (ks : List Constructor) → (length ks ≡ 1 → ⊥)
          → with_one (type_at c t) (map (constructor_at c) ks) ≡ None
      go [] h = refl
      go (k ∷ []) h = absurd (h refl)
      go (k ∷ j ∷ ks) h = refl

-- a kind that is no type
pub no_type : (l : StoredLibrary) (kd : PlainKind) → type_in kd ≡ None
    → IsStructureIf l None (structure_in kd)
no_type l (a_type b t) h = absurd (cc)
no_type l an_axiom h = tt
no_type l (a_def i v) h = tt
no_type l (a_thm v) h = tt
no_type l (an_opaque v) h = tt
no_type l a_quot h = tt
no_type l (a_ctor b t k) h = tt
no_type l (a_rec r) h = tt

-- what the numbers stand for, where they do
pub some_structure : (l : StoredLibrary) (s : Structure) (o : Option (PlainType × Ctor))
    → IsStructureIf l (Some s) o → (p : PlainType × Ctor) × (o ≡ Some p) × IsStructure l s p
some_structure l s (Some p) i = (p, refl, i)
some_structure l s None i = absurd i

pub none_structure : (l : StoredLibrary) (o : Option (PlainType × Ctor))
    → IsStructureIf l None o → o ≡ None
none_structure l None i = refl
none_structure l (Some p) i = absurd i

-- in the library that is lent, whose numbers are those of a store
module _ (l m : StoredLibrary) (c : Contents) (s : Structure) (is : l ≡ m)
    (over : Extends (contents_of m.tables) c) (known : s.constructor.stated < length
    (contents_of l.tables).trees) where
  there : s.constructor.stated < length (contents_of m.tables).trees
  there = subst (λ (k : StoredLibrary).
      s.constructor.stated < length (contents_of k.tables).trees) is known

  pub stated_known : s.constructor.stated < length c.trees
  stated_known = let longer = over.trees.longer in let h = there in omega arith

  pub lent_is : (p : PlainType × Ctor) → IsStructure l s p → IsStructure m s p
  lent_is p h = subst (λ (k : StoredLibrary). IsStructure k s p) is h

  pub stated_is : (p : PlainType × Ctor) → IsStructure l s p
      → tree_at c s.constructor.stated ≡ p.1.type
  stated_is p h = over.trees.same s.constructor.stated there ∙ (lent_is p h).type_is

-- what is asked of a kind
module _ (S : Name) (i : ℕ) (s T : Tree) (ls : List Level) where
  alone : (u : PlainType) (ks : List Ctor) (p : PlainType × Ctor) → with_one u ks ≡ Some p
      → of_struct S i s T ls u ks ≡ of_struct S i s T ls p.0 (p.1 ∷ [])
  alone u [] p h = absurd (cc)
  alone u (k ∷ []) p h =
      let same : (u, k) ≡ p = cc in
      ap (λ (y : PlainType × Ctor). of_struct S i s T ls y.0 (y.1 ∷ [])) same
  alone u (k ∷ j ∷ ks) p h = absurd (cc)

  pub kind_some : (kd : PlainKind) (p : PlainType × Ctor) → structure_in kd ≡ Some p
      → of_kind S i s T ls kd ≡ of_struct S i s T ls p.0 (p.1 ∷ [])
  kind_some (a_type b t) p h = alone t t.ctors p h
  kind_some an_axiom p h = absurd (cc)
  kind_some (a_def x v) p h = absurd (cc)
  kind_some (a_thm v) p h = absurd (cc)
  kind_some (an_opaque v) p h = absurd (cc)
  kind_some a_quot p h = absurd (cc)
  kind_some (a_ctor b t k) p h = absurd (cc)
  kind_some (a_rec r) p h = absurd (cc)

  not_alone : (u : PlainType) (ks : List Ctor) → with_one u ks ≡ None
      → of_struct S i s T ls u ks ≡ refuse BadProjection
  not_alone u [] h = refl
  not_alone u (k ∷ []) h = absurd (cc)
  not_alone u (k ∷ j ∷ ks) h = refl

  pub kind_none : (kd : PlainKind) → structure_in kd ≡ None
      → of_kind S i s T ls kd ≡ refuse BadProjection
  kind_none (a_type b t) h = not_alone t t.ctors h
  kind_none an_axiom h = refl
  kind_none (a_def x v) h = refl
  kind_none (a_thm v) h = refl
  kind_none (an_opaque v) h = refl
  kind_none a_quot h = refl
  kind_none (a_ctor b t k) h = refl
  kind_none (a_rec r) h = refl
