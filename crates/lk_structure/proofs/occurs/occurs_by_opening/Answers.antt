use Rattle.lk_structure.proofs.Occurrences.{openings_tell}
use Rattle.lk_structure.proofs.occurs.occurs_by_opening.Goals as goal

pub returns-clause-ok : goal.returns-clause-ok
returns-clause-ok g c =
    let at = g.L.Terms.contents in
    openings_tell (at c.args.looks.now) (at c.make.new.self) (at c.make-2.new.self)
    (at c.open_with.new.terms) (at c.open_with-2.new.terms) c.make.ensures.keeps
    c.make-2.ensures.keeps c.open_with.ensures.keeps c.open_with-2.ensures.keeps c.args.body
    c.requires c.in_ok-zero.zero c.in_ok-one.one c.in_ok-with_zero.with_zero
    c.in_ok-with_one.with_one c.same.result c.in_ok-zero.ensures.ok c.in_ok-one.ensures.ok
    c.in_ok-with_zero.ensures.ok c.in_ok-with_one.ensures.ok c.same.ensures
