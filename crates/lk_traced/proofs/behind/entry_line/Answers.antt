use Rattle.std.proofs.Common.{sym, ◌∙◌}
use Rattle.lk_lines.specs.Views.{entry_tag}
use Rattle.lk_traced.proofs.Followed.{entry_stands, entry_refused, entry_fails}
use Rattle.lk_traced.proofs.behind.entry_line.Goals as goal

pub returns-then-stands-clause-follows : goal.returns-then-stands-clause-follows
returns-then-stands-clause-follows g c = λ s h.
    rw (entry_stands (entry_tag c.args.line) _ (sym c.stands_behind-stands.ensures ∙ c.if-stands.true)) (c.in-Ok.ensures.follows s h)

pub returns-else-stands-clause-follows : goal.returns-else-stands-clause-follows
returns-else-stands-clause-follows g c = λ s h.
    let f = c.in-Ok.ensures.follows s h in
    entry_refused (entry_tag c.args.line) _ f.0 (sym c.stands_behind-stands.ensures ∙ c.if-stands.false) f.1

pub returns-in-Err-clause-follows : goal.returns-in-Err-clause-follows
returns-in-Err-clause-follows g c = λ s h. entry_fails (entry_tag c.args.line) _ c.in-Err.error (c.in-Err.ensures.follows s h)
