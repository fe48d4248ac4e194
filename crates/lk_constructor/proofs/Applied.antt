-- What an entry and a name mean as a constructor that is applied.
use Rattle.std.proofs.Common.{◌≡◌, List, Option, Some, None, refl, ap, sym, subst, ◌∙◌}
use Rattle.lk_tree.specs.Tree.{Name, Level, Tree}
use Rattle.lk_rulebook.specs.Place.{Place, Entry as PlainEntry, Kind, Block, BlockType as PlainType}
use Rattle.lk_rulebook.specs.Place.{Ctor, an_axiom, a_def, a_thm, an_opaque, a_quot}
use Rattle.lk_rulebook.specs.Place.{a_type, a_ctor, a_rec}
use Rattle.lk_questions.specs.Iota.{CtorApp, ctor_app_by}
use Rattle.lk_store.specs.Contents.{Contents, name_at, Extends}
use Rattle.lk_store.specs.Store.{contents_of}
use Rattle.lk_env.specs.declared.unit.BlockType.{BlockType}
use Rattle.lk_env.specs.declared.unit.Constructor.{Constructor}
use Rattle.lk_env.specs.Units.{type_at, constructor_at, IsTypeIn}
use Rattle.lk_env.specs.Entries.{plain_entry}
use Rattle.lk_env.specs.Lent.{constructor_in}
use Rattle.lk_env.specs.StoredLibrary.{StoredLibrary}
use Rattle.lk_constructor.specs.declared.constructor.AppliedConstructor.{AppliedConstructor}
use Rattle.lk_constructor.specs.Applied.{IsApplied, IsAppliedIf}
use Rattle.lk_constructor.specs.Looking.{ctor_at}

-- what numbers stand for, where they do
pub some_applied : (c : Contents) (l : StoredLibrary) (xs : List Tree)
    (u : AppliedConstructor) (o : Option CtorApp) → IsAppliedIf c l xs (Some u) o
    → (b : CtorApp) × (o ≡ Some b) × IsApplied c l xs u b
some_applied c l xs u (Some b) i = (b, refl, i)
some_applied c l xs u None i = absurd i

pub none_applied : (c : Contents) (l : StoredLibrary) (xs : List Tree)
    (o : Option CtorApp) → IsAppliedIf c l xs None o → o ≡ None
none_applied c l xs None i = refl
none_applied c l xs (Some b) i = absurd i

-- the kind of a constructor
constructor_kind : (k : Kind) (t : PlainType) (j : Ctor) → constructor_in k ≡ Some (t, j)
    → (b : Block) × (k ≡ a_ctor b t j)
constructor_kind (a_ctor b i n) t j h =
    let both : (i, n) ≡ (t, j) = cc in
    (b, ap (λ (p : PlainType × Ctor). a_ctor b p.0 p.1) both)
constructor_kind an_axiom t j h = absurd (cc)
constructor_kind (a_def i v) t j h = absurd (cc)
constructor_kind (a_thm v) t j h = absurd (cc)
constructor_kind (an_opaque v) t j h = absurd (cc)
constructor_kind a_quot t j h = absurd (cc)
constructor_kind (a_type b i) t j h = absurd (cc)
constructor_kind (a_rec r) t j h = absurd (cc)

pub constructor_found : (c : Contents) (l : StoredLibrary) (u : AppliedConstructor)
    (t : BlockType) (k : Constructor) (ks : List Level) (xs : List Tree) (g : PlainEntry)
    → Extends (contents_of l.tables) c → IsTypeIn (contents_of l.tables) t
    → plain_entry (contents_of l.tables) l.units u.entry ≡ Some g
    → constructor_in g.kind ≡ Some (type_at (contents_of l.tables) t, constructor_at (contents_of l.tables) k)
    → u.inductive ≡ t.name → u.parameters ≡ k.parameters → u.fields ≡ k.fields
    → IsAppliedIf c l xs (Some u) (ctor_app_by (name_at c u.name) ks xs g g.kind)
constructor_found c l u t k ks xs g over known entry is inductive parameters fields =
    let base = contents_of l.tables in
    let p = constructor_kind g.kind (type_at base t) (constructor_at base k) is in
    subst (λ (j : Kind). IsAppliedIf c l xs (Some u) (ctor_app_by (name_at c u.name) ks xs g j))
    (sym p.1) (record {
      args_are = refl;
      name_is = refl;
      inductive_is = ap (name_at c) inductive ∙ over.names.same t.name known.stated.name_in;
      parameters_are = parameters;
      fields_are = fields;
      entry_is = entry;
      kind_is = p.1;
    })

pub constructor_missing : (c : Contents) (l : StoredLibrary) (x : Name)
    (ks : List Level) (xs : List Tree) (g : PlainEntry) (kd : Kind) → constructor_in kd ≡ None
    → IsAppliedIf c l xs None (ctor_app_by x ks xs g kd)
constructor_missing c l x ks xs g (a_ctor b i n) h = absurd (cc)
constructor_missing c l x ks xs g an_axiom h = tt
constructor_missing c l x ks xs g (a_def i v) h = tt
constructor_missing c l x ks xs g (a_thm v) h = tt
constructor_missing c l x ks xs g (an_opaque v) h = tt
constructor_missing c l x ks xs g a_quot h = tt
constructor_missing c l x ks xs g (a_type b t) h = tt
constructor_missing c l x ks xs g (a_rec r) h = tt

-- it is the same in an equal library
pub applied_in : (c : Contents) (l k : StoredLibrary) (xs : List Tree)
    (u : Option AppliedConstructor) (o : Option CtorApp) → l ≡ k → IsAppliedIf c l xs u o
    → IsAppliedIf c k xs u o
applied_in c l k xs u o same h =
    subst (λ (m : StoredLibrary). IsAppliedIf c m xs u o) same h

-- what a name means
pub named_is : (w : Place) (x : Name) (ks : List Level) (xs : List Tree) (g : PlainEntry)
    → w.means x ≡ Some g → ctor_at w x ks xs ≡ ctor_app_by x ks xs g g.kind
named_is w x ks xs g means = ap
    (λ (m : Option PlainEntry). elim m [ Some g ↦ ctor_app_by x ks xs g g.kind | None ↦ None ])
    means

pub applied_named : (c : Contents) (l : StoredLibrary) (w : Place)
    (o : Option AppliedConstructor) (x : Name) (ks : List Level) (xs : List Tree) (g : PlainEntry)
    → w.means x ≡ Some g → IsAppliedIf c l xs o (ctor_app_by x ks xs g g.kind)
    → IsAppliedIf c l xs o (ctor_at w x ks xs)
applied_named c l w o x ks xs g means h =
    subst (IsAppliedIf c l xs o) (sym (named_is w x ks xs g means)) h
