use Rattle.std.proofs.Common.{subst}
use Rattle.lk_store.specs.Contents.{Extends}
use Rattle.lk_store.specs.Store.{contents_of}
use Rattle.lk_env.specs.StoredScope.{StoredScope}
use Rattle.lk_env.proofs.scope.Scope.library.Goals as goal

pub returns-clause-over : goal.returns-clause-over
returns-clause-over c = subst (λ (s : StoredScope). Extends (contents_of s.library.tables) (contents_of s.tables)) c.self.view_is c.self.invariant.0
