-- What an entry by numbers stands for: its type, and the kind of a declaration.
use Rattle.std.proofs.Common.{◌≡◌, List, [], Option, Some, None, refl, ap, sym, subst, ◌∙◌}
use Rattle.std.specs.Prelude.{option_map, option_and_then, slice_get}
use Rattle.lk_tree.specs.Tree.{Tree}
use Rattle.lk_rulebook.specs.Place.{Entry as PlainEntry, Ctor, BlockType, BlockRecursor, a_type, a_ctor, a_rec}
use Rattle.lk_rulebook.specs.Units.{LibraryUnit, of_decl, of_block, kind_of}
use Rattle.lk_store.specs.Contents.{Contents, tree_at}
use Rattle.lk_env.specs.declared.entry.Kind.{Kind}
use Rattle.lk_env.specs.declared.entry.Kind.TheVariants as kind
use Rattle.lk_env.specs.declared.entry.Entry.{Entry}
use Rattle.lk_env.specs.declared.unit.Body.{Body}
use Rattle.lk_env.specs.declared.unit.Unit.{Unit as StoredUnit}
use Rattle.lk_env.specs.Units.{body_at, library_at}
use Rattle.lk_env.specs.Entries.{entry_of, plain_entry}

some_is : {A : Type 0} (x y : A) → Some x ≡ Some y → x ≡ y
some_is x y h = cc

-- what is so of each value of f is so of what comes of an option
of_mapped : {X Y : Type 0} (P : Y → Type 0) (f : X → Y) (o : Option X) (y : Y) → ((x : X) → P (f x)) → option_map f o ≡ Some y → P y
of_mapped P f None y all h = absurd (cc)
of_mapped P f (Some x) y all h = subst P (some_is (f x) y h) (all x)

of_then : {X Y : Type 0} (P : Y → Type 0) (f : X → Option Y) (o : Option X) (y : Y) → ((x : X) → f x ≡ Some y → P y) → option_and_then f o ≡ Some y → P y
of_then P f None y all h = absurd (cc)
of_then P f (Some x) y all h = all x h

stated_in : (c : Contents) (u : LibraryUnit) (k : Kind) (T : Tree) (g : PlainEntry) → entry_of c u k T ≡ Some g → g.type ≡ T
stated_in c (of_decl d) (kind.Declared b) T g h = subst (λ (y : PlainEntry). y.type ≡ T) (some_is _ g h) refl
stated_in c (of_decl d) _ T g h = absurd (cc)
stated_in c (of_block b rs) (kind.Declared x) T g h = absurd (cc)
stated_in c (of_block b rs) (kind.Type i) T g h =
    of_mapped (λ (y : PlainEntry). y.type ≡ T) (λ (t : BlockType). record { levels = t.levels; type = T; kind = a_type b t }) (slice_get b.types i) g (λ t. refl) h
stated_in c (of_block b rs) (kind.Constructor i j) T g h =
    of_then (λ (y : PlainEntry). y.type ≡ T) (λ (t : BlockType). option_map (λ (k : Ctor). record { levels = k.levels; type = T; kind = a_ctor b t k }) (slice_get t.ctors j)) (slice_get b.types i) g
    (λ t i. of_mapped (λ (y : PlainEntry). y.type ≡ T) (λ (k : Ctor). record { levels = k.levels; type = T; kind = a_ctor b t k }) (slice_get t.ctors j) g (λ k. refl) i) h
stated_in c (of_block b rs) (kind.Recursor i) T g h =
    of_mapped (λ (y : PlainEntry). y.type ≡ T) (λ (r : BlockRecursor). record { levels = r.levels; type = T; kind = a_rec r.recursor }) (slice_get rs i) g (λ r. refl) h
stated_in c (of_block b rs) (kind.BareRecursor i) T g h =
    of_mapped (λ (y : PlainEntry). y.type ≡ T) (λ (r : BlockRecursor). record { levels = r.levels; type = T; kind = a_rec (record r.recursor { rules = [] }) }) (slice_get rs i) g (λ r. refl) h

-- its type is what is stated
pub entry_type : (c : Contents) (us : List StoredUnit) (e : Entry) (g : PlainEntry) → plain_entry c us e ≡ Some g → g.type ≡ tree_at c e.stated
entry_type c us e g h =
    of_then (λ (y : PlainEntry). y.type ≡ tree_at c e.stated) (λ u. entry_of c u e.kind (tree_at c e.stated)) (slice_get (library_at c us) e.unit) g
    (λ u i. stated_in c u e.kind (tree_at c e.stated) g i) h

declared_in : (c : Contents) (u : LibraryUnit) (b : Body) (T : Tree) (g : PlainEntry) → entry_of c u (kind.Declared b) T ≡ Some g → g.kind ≡ kind_of (body_at c b)
declared_in c (of_decl d) b T g h = subst (λ (y : PlainEntry). y.kind ≡ kind_of (body_at c b)) (some_is _ g h) refl
declared_in c (of_block t rs) b T g h = absurd (cc)

-- the kind of a declaration is that of its body
pub entry_kind : (c : Contents) (us : List StoredUnit) (e : Entry) (g : PlainEntry) (b : Body) → plain_entry c us e ≡ Some g → e.kind ≡ kind.Declared b → g.kind ≡ kind_of (body_at c b)
entry_kind c us e g b h is =
    of_then (λ (y : PlainEntry). y.kind ≡ kind_of (body_at c b)) (λ u. entry_of c u e.kind (tree_at c e.stated)) (slice_get (library_at c us) e.unit) g
    (λ u i. declared_in c u b (tree_at c e.stated) g (ap (λ k. entry_of c u k (tree_at c e.stated)) (sym is) ∙ i)) h
