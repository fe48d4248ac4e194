-- A constructor that is applied, by numbers.
use Rattle.std.specs.Prelude.{◌≡◌, ◌<◌, List, length, Option, Some, None}
use Rattle.lk_tree.specs.Tree.{Tree}
use Rattle.lk_rulebook.specs.Place.{a_ctor}
use Rattle.lk_questions.specs.Iota.{CtorApp}
use Rattle.lk_store.specs.Contents.{Contents, name_at}
use Rattle.lk_env.specs.StoredLibrary.{StoredLibrary}
use Rattle.lk_env.specs.Entries.{library_entry}
use Rattle.lk_constructor.specs.declared.constructor.AppliedConstructor.{AppliedConstructor}

-- its numbers are those of the store
pub record IsKnownConstructor (c : Contents) (u : AppliedConstructor) : Type 0 where
  pub name_in : u.name < length c.names
  pub inductive_in : u.inductive < length c.names

-- the numbers stand for it in a library, and xs are the arguments that it is applied to
pub record IsApplied (c : Contents) (l : StoredLibrary) (xs : List Tree)
    (u : AppliedConstructor) (b : CtorApp) : Type 0 where
  pub args_are : b.args ≡ xs
  pub name_is : name_at c u.name ≡ b.name
  pub inductive_is : name_at c u.inductive ≡ b.ind.name
  pub parameters_are : u.parameters ≡ b.ctor.parameters
  pub fields_are : u.fields ≡ b.ctor.fields
  pub entry_is : library_entry l u.entry ≡ Some b.entry
  pub kind_is : b.entry.kind ≡ a_ctor b.block b.ind b.ctor

-- the one is there exactly where the other is
abbrev pub IsAppliedIf : Contents → StoredLibrary → List Tree
    → Option AppliedConstructor → Option CtorApp → Type 0
IsAppliedIf c l xs None None = Unit {0}
IsAppliedIf c l xs (Some u) (Some b) = IsApplied c l xs u b
IsAppliedIf c l xs (Some u) None = ⊥
IsAppliedIf c l xs None (Some b) = ⊥
