-- No name of a library that is read holds a line feed, nor one of a part.
use Rattle.std.proofs.Common.{◌≡◌, ℕ, true, ◌&&◌, List, [], ◌∷◌, ◌++◌, Ok, refl}
use Rattle.std.specs.Prelude.{All}
use Rattle.std.proofs.lemmas.List.Elements.{All-nil, All-cons}
use Rattle.lk_tree.specs.Tree.{Name}
use Rattle.lk_tree.proofs.Scans.{both_true, and_true}
use Rattle.lk_rulebook.specs.Place.{Ctor, BlockType, Block, RecRule, BlockRecursor}
use Rattle.lk_rulebook.specs.Units.{Body, as_axiom, as_def, as_thm, as_opaque, as_quot, LibraryUnit, of_decl, of_block, Library, Members, type_entries, ctor_entries, all_ctor_entries, rec_members, members_of, Trees, body_trees, type_trees, ctor_trees, all_ctor_trees, rule_trees, rec_trees, trees_of}
use Rattle.lk_rulebook.specs.Spelled.{is_spelled, tree_spelled, names_spelled, all_spelled, library_spelled}
use Rattle.lk_units.proofs.Spellings.{Each, IsSpelledBody, IsSpelledCtor, IsSpelledType, IsSpelledRule, IsSpelledRec, IsSpelledUnit, AreSpelledUnits}
use Rattle.lk_book.specs.File.{Export, export_of, rounds_of}
use Rattle.lk_book.specs.Texts.{text_of}
use Rattle.lk_book.proofs.Kept.{export_kept, rounds_kept, text_kept}

body_spelled : (ps : List Name) (v : Body) → IsSpelledBody v → all_spelled (body_trees ps v) ≡ true
body_spelled ps as_axiom b = refl
body_spelled ps (as_def h v) b = and_true (tree_spelled v) true b refl
body_spelled ps (as_thm v) b = and_true (tree_spelled v) true b refl
body_spelled ps (as_opaque v) b = and_true (tree_spelled v) true b refl
body_spelled ps as_quot b = refl

names_append : (xs ys : Members) → names_spelled xs ≡ true → names_spelled ys ≡ true → names_spelled (xs ++ ys) ≡ true
names_append [] ys h g = g
names_append (x ∷ xs) ys h g =
    let e = both_true (is_spelled x.0) (names_spelled xs) h in
    and_true (is_spelled x.0) (names_spelled (xs ++ ys)) e.0 (names_append xs ys e.1 g)

trees_append : (xs ys : Trees) → all_spelled xs ≡ true → all_spelled ys ≡ true → all_spelled (xs ++ ys) ≡ true
trees_append [] ys h g = g
trees_append (x ∷ xs) ys h g =
    let e = both_true (tree_spelled x.1) (all_spelled xs) h in
    and_true (tree_spelled x.1) (all_spelled (xs ++ ys)) e.0 (trees_append xs ys e.1 g)

module _ (b : Block) where
  type_names : (ts : List BlockType) → Each IsSpelledType ts → names_spelled (type_entries b ts) ≡ true
  type_names [] h = refl
  type_names (t ∷ ts) h = and_true (is_spelled t.name) (names_spelled (type_entries b ts)) h.0.0 (type_names ts h.1)

  ctor_names : (t : BlockType) (cs : List Ctor) → Each IsSpelledCtor cs → names_spelled (ctor_entries b t cs) ≡ true
  ctor_names t [] h = refl
  ctor_names t (c ∷ cs) h = and_true (is_spelled c.name) (names_spelled (ctor_entries b t cs)) h.0.0 (ctor_names t cs h.1)

  all_ctor_names : (ts : List BlockType) → Each IsSpelledType ts → names_spelled (all_ctor_entries b ts) ≡ true
  all_ctor_names [] h = refl
  all_ctor_names (t ∷ ts) h = names_append (ctor_entries b t t.ctors) (all_ctor_entries b ts) (ctor_names t t.ctors h.0.2) (all_ctor_names ts h.1)

rec_names : (rs : List BlockRecursor) → Each IsSpelledRec rs → names_spelled (rec_members rs) ≡ true
rec_names [] h = refl
rec_names (r ∷ rs) h = and_true (is_spelled r.name) (names_spelled (rec_members rs)) h.0.0 (rec_names rs h.1)

types_spelled : (ts : List BlockType) → Each IsSpelledType ts → all_spelled (type_trees ts) ≡ true
types_spelled [] h = refl
types_spelled (t ∷ ts) h = and_true (tree_spelled t.type) (all_spelled (type_trees ts)) h.0.1 (types_spelled ts h.1)

ctors_spelled : (cs : List Ctor) → Each IsSpelledCtor cs → all_spelled (ctor_trees cs) ≡ true
ctors_spelled [] h = refl
ctors_spelled (c ∷ cs) h = and_true (tree_spelled c.type) (all_spelled (ctor_trees cs)) h.0.1 (ctors_spelled cs h.1)

all_ctors_spelled : (ts : List BlockType) → Each IsSpelledType ts → all_spelled (all_ctor_trees ts) ≡ true
all_ctors_spelled [] h = refl
all_ctors_spelled (t ∷ ts) h = trees_append (ctor_trees t.ctors) (all_ctor_trees ts) (ctors_spelled t.ctors h.0.2) (all_ctors_spelled ts h.1)

rules_spelled : (ps : List Name) (rs : List RecRule) → Each IsSpelledRule rs → all_spelled (rule_trees ps rs) ≡ true
rules_spelled ps [] h = refl
rules_spelled ps (r ∷ rs) h = and_true (tree_spelled r.value) (all_spelled (rule_trees ps rs)) h.0 (rules_spelled ps rs h.1)

recs_spelled : (rs : List BlockRecursor) → Each IsSpelledRec rs → all_spelled (rec_trees rs) ≡ true
recs_spelled [] h = refl
recs_spelled (r ∷ rs) h =
    and_true (tree_spelled r.type) (all_spelled (rule_trees r.levels r.recursor.rules ++ rec_trees rs)) h.0.1
    (trees_append (rule_trees r.levels r.recursor.rules) (rec_trees rs) (rules_spelled r.levels r.recursor.rules h.0.2) (recs_spelled rs h.1))

unit_spelled : (u : LibraryUnit) → IsSpelledUnit u → (names_spelled (members_of u) && all_spelled (trees_of u)) ≡ true
unit_spelled (of_decl d) b =
    let name = and_true (is_spelled d.name) true b.0 refl in
    let trees = and_true (tree_spelled d.type) (all_spelled (body_trees d.levels d.body)) b.1 (body_spelled d.levels d.body b.2) in
    and_true (names_spelled (members_of (of_decl d))) (all_spelled (trees_of (of_decl d))) name trees
unit_spelled (of_block b rs) h =
    let names = names_append (type_entries b b.types) (all_ctor_entries b b.types ++ rec_members rs) (type_names b b.types h.0) (names_append (all_ctor_entries b b.types) (rec_members rs) (all_ctor_names b b.types h.0) (rec_names rs h.1)) in
    let trees = trees_append (type_trees b.types) (all_ctor_trees b.types ++ rec_trees rs) (types_spelled b.types h.0) (trees_append (all_ctor_trees b.types) (rec_trees rs) (all_ctors_spelled b.types h.0) (recs_spelled rs h.1)) in
    and_true (names_spelled (members_of (of_block b rs))) (all_spelled (trees_of (of_block b rs))) names trees

pub spelled : (us : Library) → AreSpelledUnits us → library_spelled us ≡ true
spelled [] b = refl
spelled (u ∷ us) b = and_true (names_spelled (members_of u) && all_spelled (trees_of u)) (library_spelled us) (unit_spelled u b.0) (spelled us b.1)

pub read_spelled : (bytes : List ℕ) (e : Export) → export_of bytes ≡ Ok e → library_spelled e.units ≡ true
read_spelled bytes e h = spelled e.units (export_kept bytes e h)

each_spelled : (parts : List Library) → Each AreSpelledUnits parts → All (λ us. library_spelled us ≡ true) parts
each_spelled [] h = All-nil (λ us. library_spelled us ≡ true)
each_spelled (us ∷ parts) h = All-cons (λ us. library_spelled us ≡ true) us parts (spelled us h.0) (each_spelled parts h.1)

pub rounds_spelled : (bytes : List ℕ) (parts : List Library) → rounds_of bytes ≡ Ok parts → All (λ us. library_spelled us ≡ true) parts
rounds_spelled bytes parts h = each_spelled parts (rounds_kept bytes parts h)

pub text_spelled : (bytes : List ℕ) (us : Library) → text_of bytes ≡ Ok us → library_spelled us ≡ true
text_spelled bytes us h = spelled us (text_kept bytes us h)
