use Rattle.std.proofs.Common.{◌≡◌, ℕ, List, Option, Some, None, refl, sym, subst, ◌∙◌}
use Rattle.std.specs.Prelude.{IsSome}
use Rattle.lk_tree.specs.Tree.{Name}
use Rattle.lk_rulebook.specs.Place.{Place, Entry as PlainEntry}
use Rattle.lk_store.specs.Contents.{Contents}
use Rattle.lk_store.specs.Store.{contents_of}
use Rattle.lk_env.specs.declared.entry.Entry.{Entry}
use Rattle.lk_env.specs.declared.unit.Unit.{Unit as StoredUnit}
use Rattle.lk_env.specs.Entries.{plain_entry, IsMeaning}
use Rattle.lk_env.specs.Scopes.{place_in}
use Rattle.lk_env.specs.Lent.{parameters_in, HasParameters}
use Rattle.lk_env.specs.StoredLibrary.{StoredLibrary}
use Rattle.lk_engine.proofs.parameters.parameters_at.Goals as goal

has_parameters : (c : Contents) (us : List StoredUnit) (w : Place) (x : Name) (e : Entry)
    (count : Option ℕ) → IsMeaning c us w x e
    → ((y : PlainEntry) → plain_entry c us e ≡ Some y → count ≡ parameters_in y.kind)
    → HasParameters w x count
has_parameters c us w x e count m is = go (w.means x) refl m.given
  where
    go : (o : Option PlainEntry) → w.means x ≡ o → IsSome o → HasParameters w x count
    go None h s = absurd cc
    go (Some y) h s = record { entry = y; means = h; count_is = is y (sym m.means ∙ h) }

pub returns-clause-found : goal.returns-clause-found
returns-clause-found g c =
    let l = c.args.lookout.now.scope in
    has_parameters (contents_of l.tables) l.units (place_in l c.args.lookout.now.site) _ c.in_ok-entry.entry
    c.parameter_count.result
    c.in_ok-entry.ensures.answer
    (subst (λ (k : StoredLibrary). (y : PlainEntry)
    → plain_entry (contents_of k.tables) k.units c.in_ok-entry.entry ≡ Some y
    → c.parameter_count.result ≡ parameters_in y.kind) c.scope.ensures.is c.parameter_count.ensures)
