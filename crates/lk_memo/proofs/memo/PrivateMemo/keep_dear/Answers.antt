use Rattle.lk_memo.proofs.Keys.{put_key, put_found}
use Rattle.lk_memo.proofs.memo.PrivateMemo.keep_dear.Goals as goal

pub returns-in-Ok-clause-entries : goal.returns-in-Ok-clause-entries
returns-in-Ok-clause-entries c = λ e h. put_key c.args.self.now.cache _ c.args.kept e (rw c.in-Ok.ensures.entries at h)

pub returns-in-Ok-clause-kept : goal.returns-in-Ok-clause-kept
returns-in-Ok-clause-kept c = λ n. rw c.in-Ok.ensures.entries (put_found c.args.self.now.cache _ c.args.kept)
