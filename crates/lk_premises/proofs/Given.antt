-- A name that means something.
use Rattle.std.proofs.Common.{◌≡◌, Option, Some, None, refl, sym, ◌∙◌}
use Rattle.std.specs.Prelude.{IsSome}
use Rattle.lk_tree.specs.Tree.{Name}
use Rattle.lk_rulebook.specs.Place.{Entry as PlainEntry}
use Rattle.lk_store.specs.Store.{contents_of}
use Rattle.lk_env.specs.declared.entry.Entry.{Entry}
use Rattle.lk_env.specs.Entries.{IsMeaning}
use Rattle.lk_ask.specs.Looks.{Basis}
use Rattle.lk_premises.specs.Given.{IsGiven}

pub given_is : {B : Type 0} (b : Basis B) (x : Name) (e : Entry) → IsMeaning (contents_of b.library.tables) b.library.units b.place x e → IsGiven b x e
given_is b x e m = go (b.place.means x) refl m.given
  where
    go : (o : Option PlainEntry) → b.place.means x ≡ o → IsSome o → IsGiven b x e
    go None h s = absurd (cc)
    go (Some g) h s = record { entry = g; is = sym m.means ∙ h; means = h }
