use Rattle.std.proofs.Common.{ap, subst, ◌∙◌}
use Rattle.std.specs.Prelude.{◌⊎◌, ◌≡◌, Contains}
use Rattle.lk_memo.proofs.Keeping.{none_found}
use Rattle.lk_memo.proofs.memo.PrivateMemo.keep_long.Goals as goal

pub returns-clause-entries : goal.returns-clause-entries
returns-clause-entries c = λ e h.
    subst (λ m. Contains m.cache.entries e ⊎ (e ≡ (c.args.key, c.args.kept)))
    (c.keep_outlasting.ensures.refused c.if-keep_outlasting.false)
    (c.in_ok-keep_dear.ensures.entries e (rw c.end_outlasting.ensures.cache at h))

pub returns-clause-kept : goal.returns-clause-kept
returns-clause-kept c = λ none.
    let before = ap (λ s. s.slots) c.keep_outlasting.ensures.recent ∙ none in
    let still = ap (λ s. s.slots) c.in_ok-keep_dear.ensures.recent ∙ before in
    none_found c.end_outlasting.new.self c.args.query _ c.args.kept (c.end_outlasting.ensures.none still)
    (rw (← c.end_outlasting.ensures.cache) at (c.in_ok-keep_dear.ensures.kept before))

pub returns-then-keep_outlasting-clause-entries : goal.returns-then-keep_outlasting-clause-entries
returns-then-keep_outlasting-clause-entries c = λ e h.
    subst (λ m. Contains m.entries e ⊎ (e ≡ (c.args.key, c.args.kept))) c.keep_outlasting.ensures.cache
    (c.keep_dear_too.ensures.entries e h)
