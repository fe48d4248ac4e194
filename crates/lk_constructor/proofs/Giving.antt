-- What is so of the library of whoever looks names up is so where it is lent.
use Rattle.std.proofs.Common.{◌≡◌, Some, sym, subst}
use Rattle.lk_rulebook.specs.Place.{Entry as PlainEntry}
use Rattle.lk_store.specs.Contents.{Contents, Extends}
use Rattle.lk_store.specs.Store.{contents_of}
use Rattle.lk_env.specs.declared.entry.Entry.{Entry}
use Rattle.lk_env.specs.Entries.{plain_entry}
use Rattle.lk_env.specs.StoredLibrary.{StoredLibrary}
use Rattle.lk_ask.specs.Looks.{Basis, entry_at}

-- what an entry stands for in the library that is lent
pub entry_there : {B : Type 0} (b : Basis B) (l : StoredLibrary) (e : Entry)
    (g : PlainEntry) → l ≡ b.library → entry_at b e ≡ Some g
    → plain_entry (contents_of l.tables) l.units e ≡ Some g
entry_there b l e g is h = subst
    (λ (k : StoredLibrary). plain_entry (contents_of k.tables) k.units e ≡ Some g) (sym is) h

pub over_there : {B : Type 0} (b : Basis B) (l : StoredLibrary) (c : Contents)
    → l ≡ b.library → Extends (contents_of b.library.tables) c → Extends (contents_of l.tables) c
over_there b l c is h = subst (λ (k : StoredLibrary). Extends (contents_of k.tables) c)
    (sym is) h
