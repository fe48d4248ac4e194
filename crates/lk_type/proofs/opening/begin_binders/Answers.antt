use Rattle.std.proofs.Common.{rules, ◌≡◌, ◌≤◌, ◌∷◌, [], true, length, None, refl, ap}
use Rattle.std.specs.Prelude.{IfSome}
use Rattle.lk_tree.specs.Tree.{local}
use Rattle.lk_tree.specs.Bind.{bound}
use Rattle.lk_tree.specs.Loose.{loose}
use Rattle.lk_tree.specs.Putting.{put}
use Rattle.lk_store.specs.Contents.{tree_at, IsTree}
use Rattle.lk_type.specs.Marks.{AreMarks, AreAll, Follows}
use Rattle.lk_type.proofs.Followings.{some_both, following_next}
use Rattle.lk_type.proofs.Marks.{first_body}
use Rattle.lk_type.proofs.Beginning.{first_added, begun}
use Rattle.lk_type.proofs.opening.begin_binders.Goals as goal

pub open_binders-requires-clause-following : goal.open_binders-requires-clause-following
open_binders-requires-clause-following g c =
    let contents = g.L.Terms.contents in
    let first = c.in_ok-_first.ensures in
    let number : c.in-Ok.number ≡ bound (tree_at (contents c.args.looks.now) c.args.e) = search rules in
    let made : IsTree (contents c.add_local.new.looks) c.in_ok-_first._first
    (local c.in-Ok.number (put [] (tree_at (contents c.args.looks.now) c.args.domain))) =
    rw c.new-locals.ensures.items at first.makes.ok in
    let pushed : c.add_local.new.locals.items ≡ c.in_ok-_first._first ∷ [] = rw c.new-locals.ensures.items at first.pushed in
    let e = tree_at (contents c.add_local.new.looks) c.args.e in
    let marks : AreMarks c.args.binders e c.marks_of.new.marks.items = search rules in
    let all : c.in_ok-all.all ≡ true → AreAll c.args.binders e c.marks_of.new.marks.items = search rules in
    let follows : IfSome c.next_number-next.result (Follows c.in-Ok.number 1 c.marks_of.new.marks.items c.in_ok-all.all None) = search rules in
    let closed : IfSome c.next_number-next.result (λ p. loose (tree_at (contents c.add_local.new.looks) c.args.body) ≤ 1) = search rules in
    some_both c.next_number-next.result (λ p. following_next (first_added first.makes.keeps c.requires.binder number made pushed) e 1
    c.marks_of.new.marks.items c.in_ok-all.all None p marks all refl (first_body first.makes.keeps c.requires.e_in c.requires.binder) tt) follows closed

pub open_binders-requires-clause-one : goal.open_binders-requires-clause-one
open_binders-requires-clause-one g c =
    let pushed : c.add_local.new.locals.items ≡ c.in_ok-_first._first ∷ [] = rw c.new-locals.ensures.items at c.in_ok-_first.ensures.pushed in
    ap length pushed

pub open_binders-requires-clause-body_is : goal.open_binders-requires-clause-body_is
open_binders-requires-clause-body_is g c = first_body c.in_ok-_first.ensures.makes.keeps c.requires.e_in c.requires.binder

pub returns : goal.returns
returns g c =
    let contents = g.L.Terms.contents in
    let first = c.in_ok-_first.ensures in
    let number : c.in-Ok.number ≡ bound (tree_at (contents c.args.looks.now) c.args.e) = search rules in
    let made : IsTree (contents c.add_local.new.looks) c.in_ok-_first._first
    (local c.in-Ok.number (put [] (tree_at (contents c.args.looks.now) c.args.domain))) =
    rw c.new-locals.ensures.items at first.makes.ok in
    let pushed : c.add_local.new.locals.items ≡ c.in_ok-_first._first ∷ [] = rw c.new-locals.ensures.items at first.pushed in
    let inside = c.in_ok-inside.ensures in
    begun c.add_local.new.looks c.in_ok-inside.inside c.first_domain.result first.makes.keeps first.makes.stays inside.keeps inside.stays
    c.requires.binder number made (rw pushed at inside.opened) c.requires.e_in (rw c.deref-3.ensures.value at c.first_domain.ensures)
