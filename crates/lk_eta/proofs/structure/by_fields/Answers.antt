use Rattle.std.proofs.Common.{sym, subst}
use Rattle.lk_questions.specs.Pairs.{◌or_else◌}
use Rattle.lk_eta.specs.Structures.{fields_line, BuildsUp}
use Rattle.lk_eta.proofs.Full.{some_of}
use Rattle.lk_eta.proofs.structure.by_fields.Goals as goal

pub returns-in-Some : goal.returns-in-Some
returns-in-Some g c =
    let q = some_of (g.L.Terms.contents c.args.looks.now) c.in-Some.found _ (rw c.in-Some.is at c.constructor_again.ensures) in
    subst (λ o. BuildsUp g.L.Terms.contents g.L.Terms.rest g.L.Looks.sight c.args.looks.now c.compare_fields.new.looks c.compare_fields.result
    (λ p t. fields_line (t c.args.a) (t c.args.b) o or_else p (t c.args.a) (t c.args.b)))
    (sym q.1) (c.compare_fields.ensures q.0 q.2)
