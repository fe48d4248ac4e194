use Rattle.std.proofs.Common.{Some, None, false, sym, subst, ap, ◌∙◌}
use Rattle.std.specs.Prelude.{option_map}
use Rattle.lk_tree.specs.Tree.{Tree}
use Rattle.lk_rulebook.specs.Place.{Place}
use Rattle.lk_rulebook.specs.Claims.{equals}
use Rattle.lk_questions.specs.Program.{done}
use Rattle.lk_questions.specs.Erased.{truth, erased}
use Rattle.lk_questions.specs.Pairs.{◌or_else◌}
use Rattle.lk_questions.specs.Unfolding.{by_unfolding}
use Rattle.lk_store.specs.Contents.{Contents, tree_at}
use Rattle.lk_ask.specs.Sheets.{map_pair}
use Rattle.lk_lazy.specs.Lazies.{GoesLine}
use Rattle.lk_step.specs.Told.{Leaves}
use Rattle.lk_step.specs.Tests.{ArePair}
use Rattle.lk_step.proofs.Moving.{moved2, back2}
use Rattle.lk_derive_lazy.specs.Turns.{SaysYes, Bears, IsFirst}
use Rattle.lk_derive_lazy.proofs.Telling.{pair_is, none_says, says_yes, bears_tells, bears_known, one_tells, pair_of, leaves_basis}
use Rattle.lk_derive_lazy.proofs.lazy.by_unfolding.Goals as goal

pub returns-then-same_tree-clause-tells : goal.returns-then-same_tree-clause-tells
returns-then-same_tree-clause-tells g c =
    let w : Place = (g.D.Looks.sight (g.D.Terms.rest c.args.derives.now)).basis.place in
    let d : Contents = g.D.Terms.contents c.args.derives.now in
    let a : Tree = tree_at d c.args.a in
    let b : Tree = tree_at d c.args.b in
    one_tells w d (by_unfolding a b) a b c.empty_row.result (sym c.same_tree.ensures ∙ c.if-same_tree.true) c.empty_row.ensures

pub unfolded_row-requires-clause-first : goal.unfolded_row-requires-clause-first
unfolded_row-requires-clause-first g c =
    let before = g.D.Looks.sight (g.D.Terms.rest c.args.derives.now) in
    let after = g.D.Looks.sight (g.D.Terms.rest c.begin.new.looks) in
    let w : Place = before.basis.place in
    let d : Contents = g.D.Terms.contents c.args.derives.now in
    let n : Contents = g.D.Terms.contents c.begin.new.looks in
    let a : Tree = tree_at d c.args.a in
    let b : Tree = tree_at d c.args.b in
    let l : Leaves g.D.Terms.contents g.D.Terms.rest g.D.Looks.sight c.args.derives.now c.begin.new.looks = leaves_basis g.D.Terms.contents g.D.Terms.rest g.D.Looks.sight c.args.derives.now c.begin.new.looks c.in_ok-begun.ensures.keeps c.in_ok-begun.ensures.stays in
    let goes : GoesLine w (tree_at n) before.last after.last (by_unfolding a b) (Some c.in-Some.next) = subst (λ o. GoesLine w (tree_at n) before.last after.last (by_unfolding a b) o) c.in-Some.is c.in_ok-begun.ensures.goes in
    let pair = option_map (map_pair (tree_at n)) c.next_pair.result in
    let first : IsFirst w a b pair = record {
      last = before.last;
      is = ap (option_map (map_pair (tree_at n))) c.next_pair.ensures ∙ pair_is w (tree_at n) after.last c.in-Some.next (erased w truth before.last (by_unfolding a b or_else done false)) (goes (done false));
    } in
    moved2 l (λ w e f. IsFirst w e f pair) c.args.a c.args.b c.requires.a_in c.requires.b_in first

pub unfolded_row-requires-clause-two : goal.unfolded_row-requires-clause-two
unfolded_row-requires-clause-two g c =
    let w : Place = (g.D.Looks.sight (g.D.Terms.rest c.args.derives.now)).basis.place in
    let d : Contents = g.D.Terms.contents c.args.derives.now in
    let l : Leaves g.D.Terms.contents g.D.Terms.rest g.D.Looks.sight c.args.derives.now c.begin.new.looks = leaves_basis g.D.Terms.contents g.D.Terms.rest g.D.Looks.sight c.args.derives.now c.begin.new.looks c.in_ok-begun.ensures.keeps c.in_ok-begun.ensures.stays in
    moved2 l (λ w e f. ArePair w e f) c.args.a c.args.b c.requires.a_in c.requires.b_in (pair_of w (tree_at d c.args.a) (tree_at d c.args.b) c.requires.pair (sym c.same_tree.ensures ∙ c.if-same_tree.false))

pub unfolded_row-requires-clause-yes : goal.unfolded_row-requires-clause-yes
unfolded_row-requires-clause-yes g c =
    let before = g.D.Looks.sight (g.D.Terms.rest c.args.derives.now) in
    let after = g.D.Looks.sight (g.D.Terms.rest c.begin.new.looks) in
    let w : Place = before.basis.place in
    let d : Contents = g.D.Terms.contents c.args.derives.now in
    let n : Contents = g.D.Terms.contents c.begin.new.looks in
    let a : Tree = tree_at d c.args.a in
    let b : Tree = tree_at d c.args.b in
    let l : Leaves g.D.Terms.contents g.D.Terms.rest g.D.Looks.sight c.args.derives.now c.begin.new.looks = leaves_basis g.D.Terms.contents g.D.Terms.rest g.D.Looks.sight c.args.derives.now c.begin.new.looks c.in_ok-begun.ensures.keeps c.in_ok-begun.ensures.stays in
    let goes : GoesLine w (tree_at n) before.last after.last (by_unfolding a b) (Some c.in-Some.next) = subst (λ o. GoesLine w (tree_at n) before.last after.last (by_unfolding a b) o) c.in-Some.is c.in_ok-begun.ensures.goes in
    moved2 l (λ w e f. SaysYes w (by_unfolding e f) c.args.enough) c.args.a c.args.b c.requires.a_in c.requires.b_in
    (says_yes w a b c.args.enough (tree_at n) before.last after.last c.in-Some.next goes c.requires.run c.requires.never_no)

pub returns-in_ok-row-in-Some-clause-known : goal.returns-in_ok-row-in-Some-clause-known
returns-in_ok-row-in-Some-clause-known g c =
    let before = g.D.Looks.sight (g.D.Terms.rest c.args.derives.now) in
    let after = g.D.Looks.sight (g.D.Terms.rest c.begin.new.looks) in
    let w : Place = before.basis.place in
    let d : Contents = g.D.Terms.contents c.args.derives.now in
    let n : Contents = g.D.Terms.contents c.begin.new.looks in
    let m : Contents = g.D.Terms.contents c.unfolded_row.new.derives in
    let a : Tree = tree_at d c.args.a in
    let b : Tree = tree_at d c.args.b in
    let l : Leaves g.D.Terms.contents g.D.Terms.rest g.D.Looks.sight c.args.derives.now c.begin.new.looks = leaves_basis g.D.Terms.contents g.D.Terms.rest g.D.Looks.sight c.args.derives.now c.begin.new.looks c.in_ok-begun.ensures.keeps c.in_ok-begun.ensures.stays in
    let goes : GoesLine w (tree_at n) before.last after.last (by_unfolding a b) (Some c.in-Some.next) = subst (λ o. GoesLine w (tree_at n) before.last after.last (by_unfolding a b) o) c.in-Some.is c.in_ok-begun.ensures.goes in
    let said : SaysYes w (by_unfolding a b) c.args.enough = says_yes w a b c.args.enough (tree_at n) before.last after.last c.in-Some.next goes c.requires.run c.requires.never_no in
    bears_known w m (by_unfolding a b) (equals a b) c.in_ok-row-in-Some.row c.args.enough said
    (back2 l (λ w e f. Bears w m (by_unfolding e f) (equals e f) c.in_ok-row-in-Some.row) c.args.a c.args.b c.requires.a_in c.requires.b_in c.in_ok-row-in-Some.ensures.bears)

pub returns-in_ok-row-in-Some-clause-tells : goal.returns-in_ok-row-in-Some-clause-tells
returns-in_ok-row-in-Some-clause-tells g c =
    let before = g.D.Looks.sight (g.D.Terms.rest c.args.derives.now) in
    let after = g.D.Looks.sight (g.D.Terms.rest c.begin.new.looks) in
    let w : Place = before.basis.place in
    let d : Contents = g.D.Terms.contents c.args.derives.now in
    let n : Contents = g.D.Terms.contents c.begin.new.looks in
    let m : Contents = g.D.Terms.contents c.unfolded_row.new.derives in
    let a : Tree = tree_at d c.args.a in
    let b : Tree = tree_at d c.args.b in
    let l : Leaves g.D.Terms.contents g.D.Terms.rest g.D.Looks.sight c.args.derives.now c.begin.new.looks = leaves_basis g.D.Terms.contents g.D.Terms.rest g.D.Looks.sight c.args.derives.now c.begin.new.looks c.in_ok-begun.ensures.keeps c.in_ok-begun.ensures.stays in
    let goes : GoesLine w (tree_at n) before.last after.last (by_unfolding a b) (Some c.in-Some.next) = subst (λ o. GoesLine w (tree_at n) before.last after.last (by_unfolding a b) o) c.in-Some.is c.in_ok-begun.ensures.goes in
    let said : SaysYes w (by_unfolding a b) c.args.enough = says_yes w a b c.args.enough (tree_at n) before.last after.last c.in-Some.next goes c.requires.run c.requires.never_no in
    bears_tells w m (by_unfolding a b) (equals a b) c.in_ok-row-in-Some.row c.args.enough said
    (back2 l (λ w e f. Bears w m (by_unfolding e f) (equals e f) c.in_ok-row-in-Some.row) c.args.a c.args.b c.requires.a_in c.requires.b_in c.in_ok-row-in-Some.ensures.bears)

pub returns-in-None-clause-tells : goal.returns-in-None-clause-tells
returns-in-None-clause-tells g c =
    let before = g.D.Looks.sight (g.D.Terms.rest c.args.derives.now) in
    let after = g.D.Looks.sight (g.D.Terms.rest c.begin.new.looks) in
    let w : Place = before.basis.place in
    let d : Contents = g.D.Terms.contents c.args.derives.now in
    let n : Contents = g.D.Terms.contents c.begin.new.looks in
    let a : Tree = tree_at d c.args.a in
    let b : Tree = tree_at d c.args.b in
    let goes : GoesLine w (tree_at n) before.last after.last (by_unfolding a b) None = subst (λ o. GoesLine w (tree_at n) before.last after.last (by_unfolding a b) o) c.in-None.is c.in_ok-begun.ensures.goes in
    λ says cost h. none_says w a b says cost h (tree_at n) before.last after.last goes
