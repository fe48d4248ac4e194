use Rattle.std.proofs.lemmas.Result.{IfOk-weaker}
use Rattle.lk_trace.specs.declared.sections.Section.{Section}
use Rattle.lk_env.specs.Units.{declaration_at}
use Rattle.lk_derive.specs.Sections.{IsSectionOf}
use Rattle.lk_derive.specs.Parts.{parts_at}
use Rattle.lk_derive.specs.Units.{IsUnitSection}
use Rattle.lk_derive.proofs.PartsAdded.{parts_moved}
use Rattle.lk_derive.proofs.UnitDone.{unit_section}
use Rattle.lk_derive.proofs.unit.section_of_unit.Goals as goal

pub add_parts-requires : goal.add_parts-requires
add_parts-requires g c =
    let s = c.args.rows.now in
    record {
      declaration_in = c.requires.declaration_in;
      parts_are = c.new-parts.ensures.are (g.R.Rows.place s) (g.R.Rows.contents s);
      yes = c.requires.yes;
      sides_are = c.requires.sides;
    }

pub end_with-requires : goal.end_with-requires
end_with-requires g c =
    let s = c.args.rows.now in
    let t = c.add_parts.new.rows in
    parts_moved (g.R.Rows.place s) (g.R.Rows.place t) (g.R.Rows.contents t) c.add_parts.new.parts c.add_parts.ensures.stays.place_stays (c.in_ok-add_parts.ensures.adds c.requires.yes.parts).parts

pub returns-clause-section : goal.returns-clause-section
returns-clause-section g c =
    let s = c.args.rows.now in
    let t = c.add_parts.new.rows in
    let d = declaration_at (g.R.Rows.contents s) c.args.declaration.now in
    IfOk-weaker c.end_with.result (IsSectionOf (g.R.Rows.place t) (g.R.Rows.contents t) c.args.unit (parts_at (g.R.Rows.contents t) c.add_parts.new.parts)) (IsUnitSection (g.R.Rows.place s) (g.R.Rows.contents t) c.args.unit d)
    (λ (x : Section) h. unit_section (g.R.Rows.place s) (g.R.Rows.place t) (g.R.Rows.most s) (g.R.Rows.contents s) (g.R.Rows.contents t) c.args.unit d c.requires.yes.parts c.new-parts.result c.add_parts.new.parts
    c.add_parts.ensures.stays.place_stays c.new-parts.ensures.none (c.in_ok-add_parts.ensures.adds c.requires.yes.parts) x h)
    c.end_with.ensures
