-- What an auxiliary type is made of: its type, the number of its indices, and its constructors, before their occurrences are replaced.
use Rattle.std.specs.Prelude.{ℕ, ◌<◌, List, [], ◌∷◌, map, length, All}
use Rattle.lk_tree.specs.Tree.{Name, Tree}
use Rattle.lk_rulebook.specs.Place.{Ctor}
use Rattle.lk_store.specs.Contents.{Contents, name_at, tree_at}
use Rattle.lk_inductive.specs.Enlarged.{Aux}
use Rattle.lk_enlarge.specs.declared.draft.Draft.{Draft}
use Rattle.lk_enlarge.specs.declared.draft.Outline.{Outline}

-- a constructor of the type that it stands for, whose type has become this one past the parameters
pub record PlainDraft : Type 0 where
  pub name : Name
  pub place : ℕ
  pub fields : ℕ
  pub type : Tree

pub record PlainOutline : Type 0 where
  pub type : Tree
  pub indices : ℕ
  pub ctors : List PlainDraft

abbrev pub drafts_of : List Ctor → List Tree → List PlainDraft
drafts_of (c ∷ cs) (r ∷ rs) = record { name = c.name; place = c.place; fields = c.fields; type = r } ∷ drafts_of cs rs
drafts_of [] rs = []
drafts_of (c ∷ cs) [] = []

abbrev pub outline_of : Aux → PlainOutline
outline_of a = record { type = a.type; indices = a.own.indices; ctors = drafts_of a.own.ctors a.ctors }

-- by the numbers of a store
abbrev pub draft_at : Contents → Draft → PlainDraft
draft_at c d = record { name = name_at c d.name; place = d.place; fields = d.fields; type = tree_at c d.ty }

abbrev pub outline_at : Contents → Outline → PlainOutline
outline_at c o = record { type = tree_at c o.ty; indices = o.indices; ctors = map (draft_at c) o.constructors.items }

pub record IsDraftIn (c : Contents) (d : Draft) : Type 0 where
  pub name_in : d.name < length c.names
  pub ty_in : d.ty < length c.trees

pub record IsOutlineIn (c : Contents) (o : Outline) : Type 0 where
  pub ty_in : o.ty < length c.trees
  pub constructors_in : All (IsDraftIn c) o.constructors.items
