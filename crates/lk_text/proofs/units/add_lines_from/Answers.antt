use Rattle.std.proofs.Common.{rules, refl}
use Rattle.std.proofs.lemmas.List.Elements.{All-rest}
use Rattle.lk_store.specs.Store.{contents_of}
use Rattle.lk_env.specs.Units.{library_of, IsUnitIn}
use Rattle.lk_text.proofs.Shown.{text_more}
use Rattle.lk_text.proofs.Listed.{is_left, is_listed, listed}
use Rattle.lk_text.proofs.units.add_lines_from.Goals as goal

pub of-requires : goal.of-requires
of-requires c =
    let stands = is_left c.args.library.now.units c.loop-unit.left.now c.in-Some.more.now c.in-Some.unit.now c.loop-unit.number c.in-Some.ensures.cases.0 c.loop-unit.invariant.few in
    is_listed c.args.library.now c.args.axioms.now c.loop-unit.number c.loop-unit.number c.requires.axioms refl stands

pub loop-unit-preserved : goal.loop-unit-preserved
loop-unit-preserved c =
    let at = contents_of c.args.library.now.tables in
    let stands = is_left c.args.library.now.units c.loop-unit.left.now c.in-Some.more.now c.in-Some.unit.now c.loop-unit.number c.in-Some.ensures.cases.0 c.loop-unit.invariant.few in
    record {
      text = text_more (library_of c.args.library.now) at _ _ _ c.loop-unit.number _ c.loop-unit.left.now c.in-Some.more.now c.in-Some.unit.now c.loop-unit.said.now c.in-Some-split_first.others.now c.in-Some-split_first.v.now
          c.in-Some.ensures.cases.0 c.in-Some-split_first.ensures.cases.0 (listed c.args.library.now c.args.axioms.now c.loop-unit.number c.loop-unit.number c.of.result.now c.requires.axioms refl stands c.of.ensures) c.in_ok-add_unit.ensures
          c.loop-unit.invariant.text;
      known = All-rest (IsUnitIn at) c.in-Some.unit.now c.in-Some.more.now c.loop-unit.left.now c.in-Some.ensures.cases.0 c.loop-unit.invariant.known;
      few = search rules;
      fits = search rules;
    }
