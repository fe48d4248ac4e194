use Rattle.std.proofs.Common.{[], map, All, ap, sym, subst, ◌∙◌}
use Rattle.std.specs.Prelude.{Vec}
use Rattle.std.specs.declared.alloc.Global.{Global}
use Rattle.lk_env.specs.declared.unit.Recursor.{Recursor}
use Rattle.std.proofs.lemmas.List.Elements.{All-nil}
use Rattle.lk_env.specs.Units.{block_at, recursor_at, IsTypeIn, IsRecursorIn}
use Rattle.lk_inductive.proofs.NothingNested.{nothing_added}
use Rattle.lk_block.specs.Parts.{parts_at}
use Rattle.lk_block.specs.Stages.{shape_stage}
use Rattle.lk_declaration.specs.Checked.{IsCheckOutcome}
use Rattle.leancheck.specs.Larger.{IsEnlargedTo}
use Rattle.leancheck.proofs.Itself.{none_read, enlarged_itself}
use Rattle.leancheck.proofs.larger.check_itself.Goals as goal

pub check_from_shape-requires-clause-types_in : goal.check_from_shape-requires-clause-types_in
check_from_shape-requires-clause-types_in g c = subst (All (IsTypeIn (g.A.Terms.contents c.args.asks.now))) (sym c.deref.ensures.value) c.requires.types_in

pub check_from_shape-requires-clause-stated_in : goal.check_from_shape-requires-clause-stated_in
check_from_shape-requires-clause-stated_in g c = subst (All (IsRecursorIn (g.A.Terms.contents c.args.asks.now))) (sym (c.deref-3.ensures.value ∙ ap (λ (v : Vec Recursor Global). v.items) c.deref-2.ensures)) c.requires.stated_in

pub check_from_shape-requires-clause-aux_in : goal.check_from_shape-requires-clause-aux_in
check_from_shape-requires-clause-aux_in g c = All-nil (IsTypeIn (g.A.Terms.contents c.args.asks.now))

pub check_from_shape-requires-clause-originals_are : goal.check_from_shape-requires-clause-originals_are
check_from_shape-requires-clause-originals_are g c = none_read (g.A.Terms.contents c.args.asks.now) _ c.args.parts.parameters.items

pub returns-clause-outcome : goal.returns-clause-outcome
returns-clause-outcome g c fuel enough =
    let at = g.A.Terms.contents c.args.asks.now in
    let s = g.A.Asks.standing c.args.asks.now in
    let left = g.A.Asks.left c.args.asks.now in
    let b = block_at at c.args.block.now in
    let parts = parts_at at c.args.parts in
    let recursors = c.deref-3.ensures.value ∙ ap (λ (v : Vec Recursor Global). v.items) c.deref-2.ensures in
    subst (λ rs. IsCheckOutcome (shape_stage s.table (g.A.Asks.places s.basis) fuel b (map (recursor_at at) rs) parts (nothing_added b.types) left) c.check_from_shape.result) recursors
    (c.check_from_shape.ensures.outcome fuel b parts (nothing_added b.types) enough
    (subst (λ ts. IsEnlargedTo at b parts (nothing_added b.types) ts c.args.parts [] []) (sym c.deref.ensures.value) (enlarged_itself at c.args.block.now.types.items c.args.parts)))
