use Rattle.std.proofs.Common.{rules, ◌≡◌, ◌≤◌, ◌-◌, true, length, slice_index_or, Some, refl}
use Rattle.lk_type.specs.Marks.{before}
use Rattle.lk_type.proofs.opening.next_number.Goals as goal

pub returns-then-mark_of-count-clause-follows : goal.returns-then-mark_of-count-clause-follows
returns-then-mark_of-count-clause-follows g c =
    let j = c.in-Some.j in
    let marks = c.args.marks.now in
    let all : c.args.all ≡ true = search rules in
    let none : slice_index_or marks (c.args.count - 1) 0 ≡ 0 = search rules in
    let room : c.args.count ≤ length marks = search rules in
    let top : c.args.top ≡ Some j = search rules in
    let mark : c.args.count ≤ slice_index_or marks j 0 = search rules in
    before j all none room top mark refl refl
