use Rattle.std.proofs.Common.{◌≡◌, sym, subst, ap, ◌∙◌}
use Rattle.lk_tree.specs.Tree.{Tree, Name}
use Rattle.lk_rulebook.specs.Place.{Place}
use Rattle.lk_rulebook.specs.WellStated.{WellStated}
use Rattle.lk_store.specs.Contents.{Contents, name_at, tree_at, Extends}
use Rattle.lk_store.proofs.Extending.{Extends-trans}
use Rattle.lk_trace.specs.Meaning.{reduction_rule_of}
use Rattle.lk_derive_quot.specs.declared.eliminators.Eliminator.{Eliminator}
use Rattle.lk_derive_quot.specs.Eliminators.{reach, eliminator_rule}
use Rattle.lk_derive_quot.specs.Quotients.{AreEnds, AtStep}
use Rattle.lk_derive_quot.proofs.QuotientRows.{at_step, step_moved}
use Rattle.lk_derive_quot.proofs.rows.element_row.Goals as goal

pub step_row-requires-clause-stated : goal.step_row-requires-clause-stated
step_row-requires-clause-stated g c =
    subst WellStated (sym (ap (λ z. (g.D.Looks.sight z).basis.place) (c.ends_of.ensures.rest ∙ c.eliminator_of.ensures.rest))) c.requires.stated

pub step_row-requires-clause-at : goal.step_row-requires-clause-at
step_row-requires-clause-at g c =
    let old : Contents = g.D.Terms.contents c.args.derives.now in
    let m : Contents = g.D.Terms.contents c.eliminator_of.new.terms in
    let d : Contents = g.D.Terms.contents c.ends_of.new.terms in
    let w : Place = (g.D.Looks.sight (g.D.Terms.rest c.args.derives.now)).basis.place in
    let w2 : Place = (g.D.Looks.sight (g.D.Terms.rest c.ends_of.new.terms)).basis.place in
    let t = tree_at old in
    let u = tree_at d in
    let f : Name = name_at old c.args.name in
    let x : Eliminator = c.in_ok-eliminator.eliminator in
    let front : Tree = u c.in_ok-ends.ends.front in
    let short : Tree = u c.in_ok-ends.ends.short in
    let grown : Extends old d = Extends-trans old m d c.eliminator_of.ensures.keeps c.ends_of.ensures.keeps in
    let e1 : tree_at m c.args.e ≡ t c.args.e = c.eliminator_of.ensures.keeps.trees.same c.args.e c.requires.e_in in
    let form_stays : tree_at m c.args.form ≡ t c.args.form = c.eliminator_of.ensures.keeps.trees.same c.args.form c.requires.form_in in
    let ends : AreEnds (reach x) (t c.args.e) (t c.args.form) front short c.in_ok-ends.ends.behind =
    subst (λ z. AreEnds (reach x) (t c.args.e) z front short c.in_ok-ends.ends.behind) form_stays
    (subst (λ z. AreEnds (reach x) z (tree_at m c.args.form) front short c.in_ok-ends.ends.behind) e1 c.in_ok-ends.ensures.are.are) in
    let a : AtStep w d c.args.row.now c.args.enough (eliminator_rule x) (t c.args.e) (t c.args.major) (t c.args.form) (t c.args.next) front short c.in_ok-ends.ends.behind =
    at_step w old c.args.row.now c.args.enough f (t c.args.e) (t c.args.major) (t c.args.form) (t c.args.next) front short c.in_ok-ends.ends.behind c.requires.at x c.in_ok-eliminator.ensures.is d grown ends in
    step_moved w w2 d c.args.row.now c.args.enough (eliminator_rule x) (reduction_rule_of c.rule_of.result) (t c.args.e) (u c.args.e) (t c.args.major) (u c.args.major) (t c.args.form) (u c.args.form) (t c.args.next) (u c.args.next) front short c.in_ok-ends.ends.behind
    (ap (λ z. (g.D.Looks.sight z).basis.place) (c.ends_of.ensures.rest ∙ c.eliminator_of.ensures.rest)) c.rule_of.ensures
    (grown.trees.same c.args.e c.requires.e_in) (grown.trees.same c.args.major c.requires.major_in) (grown.trees.same c.args.form c.requires.form_in) (grown.trees.same c.args.next c.requires.next_in) a
