use Rattle.std.proofs.Common.{refl, Ok}
use Rattle.lk_store.specs.Contents.{tree_at}
use Rattle.lk_written.specs.Line as written
use Rattle.lk_units.specs.Numbering.{entry}
use Rattle.lk_traced.proofs.Derive.{found_line, lost_fails}
use Rattle.lk_traced.proofs.derived.iota_derived.Goals as goal

pub returns-in-Ok-clause-made : goal.returns-in-Ok-clause-made
returns-in-Ok-clause-made g c k s mean same =
    found_line (entry c.args.places.now) mean (g.N.FileNumber.view.values c.args.premises.now) same (λ js. Ok (written.rd (written.iota_rule c.args.place) (tree_at k c.args.left) (tree_at k c.args.right) js)) c.in-Ok.premises.items _ c.in-Ok.ensures refl

pub returns-in-Err-clause-made : goal.returns-in-Err-clause-made
returns-in-Err-clause-made g c k s mean same =
    lost_fails (entry c.args.places.now) mean (g.N.FileNumber.view.values c.args.premises.now) same (λ js. Ok (written.rd (written.iota_rule c.args.place) (tree_at k c.args.left) (tree_at k c.args.right) js)) c.in-Err.error c.in-Err.ensures
