use Rattle.std.proofs.Common.{◌≡◌, Some, subst}
use Rattle.std.specs.Prelude.{IfSome, option_map}
use Rattle.lk_rulebook.specs.Place.{Entry as PlainEntry}
use Rattle.lk_store.specs.Store.{contents_of}
use Rattle.lk_env.specs.Units.{block_at, type_at}
use Rattle.lk_env.specs.Entries.{plain_entry}
use Rattle.lk_env.specs.Lent.{type_in, IsBlockTypeIn}
use Rattle.lk_lit.proofs.shapes.inductive.Goals as goal

pub returns-clause-value : goal.returns-clause-value
returns-clause-value g c =
    subst (λ l. (x : PlainEntry) → plain_entry (contents_of l.tables) l.units c.args.entry ≡ Some x → type_in x.kind
    ≡ option_map (λ p. (block_at (contents_of l.tables) p.0.now, type_at (contents_of l.tables) p.1.now)) c.type_of.result)
    c.scope.ensures.is c.type_of.ensures.value

pub returns-clause-known : goal.returns-clause-known
returns-clause-known g c =
    subst (λ l. IfSome c.type_of.result (λ p. IsBlockTypeIn (contents_of l.tables) p.0.now p.1.now))
    c.scope.ensures.is c.type_of.ensures.known
