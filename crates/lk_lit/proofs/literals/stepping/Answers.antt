use Rattle.std.proofs.Common.{None, sym, ap, subst, ◌∙◌}
use Rattle.lk_questions.specs.Erased.{asks, with_tree}
use Rattle.lk_ask.specs.Questions.{query_of, IsKnownQuery}
use Rattle.lk_lit.specs.Literals.{literals_rest}
use Rattle.lk_lit.specs.Sheets.{map_literals, IsKnownLiterals}
use Rattle.lk_lit.proofs.Halves.{waiting_rest, waiting_known}
use Rattle.lk_lit.proofs.literals.stepping.Goals as goal

pub returns-in-Ask-clause-known : goal.returns-in-Ask-clause-known
returns-in-Ask-clause-known c n known left_in right_in =
    let both = rw c.in-Ask.is at known in (
      both.0,
      subst (IsKnownLiterals n) (sym c.waiting.ensures)
          (waiting_known c.args.side n c.args.left c.args.right c.in-Ask.step left_in right_in both.1),
    )

pub returns-in-Ask-clause-steps : goal.returns-in-Ask-clause-steps
returns-in-Ask-clause-steps c p w t last =
    let q = query_of t c.in-Ask.asked in
    rw c.in-Ask.is
    (ap (λ s. asks last q (with_tree (literals_rest p w None (map_literals t s)))) c.waiting.ensures
    ∙ ap (λ r. asks last q (with_tree r))
    (waiting_rest c.args.side p w t c.args.left c.args.right c.in-Ask.step))
