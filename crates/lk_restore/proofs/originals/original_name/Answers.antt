use Rattle.std.proofs.Common.{Some, None, sym, ap, ◌∙◌}
use Rattle.lk_store.specs.Contents.{name_at}
use Rattle.lk_restore.specs.Marks.{mark_at}
use Rattle.lk_restore.proofs.Firsts.{back_name, name_found}
use Rattle.lk_restore.proofs.originals.original_name.Goals as goal

pub returns-in-None-clause-is : goal.returns-in-None-clause-is
returns-in-None-clause-is g c = let s = g.T.Terms.contents c.args.terms.now in name_found s (name_at s c.args.name) c.args.originals.now None c.in-None.ensures.is

pub returns-in-Some-Applied-clause-is : goal.returns-in-Some-Applied-clause-is
returns-in-Some-Applied-clause-is g c =
    let s = g.T.Terms.contents c.args.terms.now in
    let n = name_at s c.args.name in
    let x = c.in-Some-Applied in
    ap (λ o. back_name n (Some (mark_at s o))) (sym x.field-0-is) ∙ name_found s n c.args.originals.now (Some x.field-0) x.ensures.is

pub returns-in-Some-Renamed-clause-is : goal.returns-in-Some-Renamed-clause-is
returns-in-Some-Renamed-clause-is g c =
    let s = g.T.Terms.contents c.args.terms.now in
    let n = name_at s c.args.name in
    let x = c.in-Some-Renamed in
    ap (λ o. back_name n (Some (mark_at s o))) (sym x.field-0-is) ∙ name_found s n c.args.originals.now (Some x.field-0) x.ensures.is
