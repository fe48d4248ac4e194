use Rattle.std.proofs.Common.{inl, inr}
use Rattle.lru.proofs.CallerLemmas.{Contains-promoted}
use Rattle.lk_memo.specs.Keys.{same_key}
use Rattle.lk_memo.proofs.memo.PrivateMemo.find.Goals as goal

pub returns-in-None-find_outlasting-clause-holds : goal.returns-in-None-find_outlasting-clause-holds
returns-in-None-find_outlasting-clause-holds c = λ k v h. elim h [
  | inl near ↦ inl near
  | inr far ↦ inr (Contains-promoted (same_key c.key_of-key.result) c.args.self.now.cache.entries (k, v)
      (rw c.get.follows.holds-at-none at far))
]
