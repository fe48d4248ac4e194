use Rattle.std.proofs.Common.{Bool, None, Some, sym, subst, ◌∙◌, if◌then◌else◌}
use Rattle.lk_questions.specs.Program.{done, ◌>>=◌}
use Rattle.lk_store.specs.Contents.{tree_at}
use Rattle.lk_iota.specs.Expansions.{at_ctor, expansion}
use Rattle.lk_iota.specs.Iotas.{Reduces}
use Rattle.lk_iota.proofs.structure.by_level.Goals as goal

pub returns-else-level_is_zero : goal.returns-else-level_is_zero
returns-else-level_is_zero g c p k is only =
    let d = g.L.Terms.contents c.args.looks.now in
    let e = tree_at d c.args.e in
    let x = expansion (tree_at d c.args.m) k (tree_at d c.args.ty) in
    subst (λ (b : Bool). Reduces g.L.Terms.contents g.L.Terms.rest g.L.Looks.sight c.args.looks.now
    c.expand.new.looks c.expand.result
    (λ t. (if b then done None else done (Some x)) >>= at_ctor e p))
    (sym c.if-level_is_zero.false ∙ c.level_is_zero.ensures) (c.expand.ensures p k is only)
