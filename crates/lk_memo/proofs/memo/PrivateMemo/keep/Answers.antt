use Rattle.std.proofs.Common.{◌≡◌, inl, inr, Some, subst, ap, ◌∙◌}
use Rattle.std.specs.Map.{lookup}
use Rattle.lk_memo.specs.Keys.{same_key}
use Rattle.lk_memo.specs.Entries.{first_of, outlasting_of}
use Rattle.lk_memo.specs.Slots.{found_in}
use Rattle.lk_memo.proofs.Keeping.{found_then}
use Rattle.lk_memo.proofs.memo.PrivateMemo.keep.Goals as goal

pub returns-clause-holds : goal.returns-clause-holds
returns-clause-holds c = λ k v h. elim h [
  | inl near ↦ elim (c.keep.ensures.others k v near) [
    | inl before ↦ inl (inl (subst (λ r. found_in r k ≡ Some v) c.in_ok-keep_long.ensures.recent before))
    | inr this ↦ inr (this.0 ∙ c.key_of-key.ensures, this.1)
  ]
  | inr far ↦ elim (c.in_ok-keep_long.ensures.entries (k, v) far) [
    | inl before ↦ inl (inr before)
    | inr this ↦ inr (ap (λ e. e.0) this ∙ c.key_of-key.ensures, ap (λ e. e.1) this)
  ]
]

pub returns-clause-kept : goal.returns-clause-kept
returns-clause-kept c =
    let memo = c.keep_long.new.self in
    subst (λ k. first_of (found_in c.keep.new.self k)
    (first_of (outlasting_of memo c.args.query) (lookup (same_key k) memo.cache.entries))
    ≡ Some c.args.kept) c.key_of-key.ensures
    (found_then memo.recent c.keep.new.self _ c.key_of-key.result c.args.kept
    c.keep.ensures.kept c.keep.ensures.none
    (rw (← c.in_ok-keep_long.ensures.recent) at c.in_ok-keep_long.ensures.kept))
