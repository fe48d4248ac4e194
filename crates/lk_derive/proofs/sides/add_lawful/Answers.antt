use Rattle.std.proofs.Common.{map, option_map, sym, ap, subst, ◌∙◌}
use Rattle.std.specs.Prelude.{OnOk}
use Rattle.lk_questions.specs.NumberLaws.{lawful_op}
use Rattle.lk_store.specs.Contents.{name_at, tree_at}
use Rattle.lk_laws.specs.Operations.{op_at}
use Rattle.lk_laws.specs.Sides.{law_at}
use Rattle.lk_derive.specs.Sides.{AddsPairs}
use Rattle.lk_derive.proofs.LawsMade.{lawful_some, no_pairs}
use Rattle.lk_derive.proofs.sides.add_lawful.Goals as goal

pub returns-in-Some-clause-adds : goal.returns-in-Some-clause-adds
returns-in-Some-clause-adds g c =
    let s = g.T.Terms.contents c.args.terms.now in
    let v = tree_at s c.args.value in
    let named = ap (option_map op_at) (sym c.in-Some.is) ∙ c.operation_named.ensures in
    let same = lawful_some (lawful_op (name_at s c.args.name)) (op_at c.in-Some.op) v (map (law_at v) c.laws_of.result.now) named (c.laws_of.ensures v) in
    subst (λ cs. OnOk c.add_laws.result (AddsPairs s (g.T.Terms.contents c.add_laws.new.terms) c.args.sides.now.items c.add_laws.new.sides.items cs)) same c.add_laws.ensures.adds

pub returns-in-None-clause-adds : goal.returns-in-None-clause-adds
returns-in-None-clause-adds g c =
    let s = g.T.Terms.contents c.args.terms.now in
    no_pairs s c.args.sides.now.items (lawful_op (name_at s c.args.name)) (tree_at s c.args.value) c.requires.pairs_in (ap (option_map op_at) (sym c.in-None.is) ∙ c.operation_named.ensures)
