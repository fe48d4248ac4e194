-- Questions as keys.
use Rattle.std.specs.Prelude.{ℕ, Bool}
use Rattle.lk_ask.specs.declared.query.Query.{Query}
use Rattle.lk_ask.specs.declared.query.Query.TheVariants as query
use Rattle.lk_memo.specs.declared.key.Key.{Key}
use Rattle.lk_memo.specs.declared.key.Kind.{Kind}
use Rattle.lk_memo.specs.declared.key.Kind.TheVariants.{Core, Whnf, Infer, Same}
use Rattle.lk_memo.specs.contracts.key.KeyPartialEq.TheImpl as impl

abbrev pub key_of : Query ℕ → Key
key_of (query.Core e) = record { kind = Core; first = e; second = e }
key_of (query.Whnf e) = record { kind = Whnf; first = e; second = e }
key_of (query.Infer e) = record { kind = Infer; first = e; second = e }
key_of (query.Same a b) = record { kind = Same; first = a; second = b }

abbrev pub kind_number : Kind → ℕ
kind_number Core = 0
kind_number Whnf = 1
kind_number Infer = 2
kind_number Same = 3

abbrev pub same_key : Key → Key → Bool
same_key = impl.ghosts.eq
