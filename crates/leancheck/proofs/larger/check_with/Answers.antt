use Rattle.std.proofs.Common.{map, ap, sym, subst, All, ◌∙◌, arith}
use Rattle.std.proofs.lemmas.List.{map-append}
use Rattle.lk_store.specs.Contents.{tree_at}
use Rattle.std.specs.Prelude.{Vec}
use Rattle.std.specs.declared.alloc.Global.{Global}
use Rattle.lk_env.specs.declared.unit.Recursor.{Recursor}
use Rattle.lk_env.specs.Units.{block_at, type_at, recursor_at, IsTypeIn}
use Rattle.lk_inductive.specs.Block.{levels_of, AreLocals}
use Rattle.lk_inductive.specs.Enlarged.{setting_of}
use Rattle.lk_auxiliary.specs.Auxiliaries.{auxs_at, IsAuxiliaryIn}
use Rattle.lk_declaration.specs.Checked.{IsCheckOutcome}
use Rattle.lk_enlarge.specs.Larger.{larger_at}
use Rattle.lk_block.specs.Parts.{parts_at}
use Rattle.lk_block.specs.Stages.{shape_stage}
use Rattle.lk_block.specs.Wholes.{block_of}
use Rattle.leancheck.specs.Larger.{setting_here}
use Rattle.leancheck.proofs.LargerParts.{behind_is, with_indices}
use Rattle.leancheck.proofs.StageMoves.{stand_aside, read_over}
use Rattle.leancheck.proofs.larger.check_with.Goals as goal

pub check_beside-requires-clause-parts_in : goal.check_beside-requires-clause-parts_in
check_beside-requires-clause-parts_in g c =
    let at = g.A.Terms.contents c.args.asks.now in
    c.in_ok-parts.ensures.known at c.requires.parts_in (subst (All (IsAuxiliaryIn at)) (sym c.deref.ensures.value) c.requires.larger_in.stand_in)

pub check_beside-requires-clause-aux_in : goal.check_beside-requires-clause-aux_in
check_beside-requires-clause-aux_in g c =
    let at = g.A.Terms.contents c.args.asks.now in
    subst (All (IsTypeIn at)) (sym (c.split_at.ensures.back ∙ behind_is c.args.larger.own.items c.args.larger.auxiliary.items c.deref-2.result.now c.len-count.result (let e = c.len-count.ensures in let f = c.args.larger.own.ok.0 in omega arith) (c.deref-2.ensures.value ∙ c.in_ok-types.ensures))) c.requires.larger_in.auxiliary_in

pub check_beside-requires-clause-originals_are : goal.check_beside-requires-clause-originals_are
check_beside-requires-clause-originals_are g c =
    let at = g.A.Terms.contents c.args.asks.now in
    let params = c.args.parts.parameters.items in
    let all = ap (map (type_at at)) (c.deref-3.ensures.value ∙ c.in_ok-types.ensures) ∙ map-append (type_at at) c.args.larger.own.items c.args.larger.auxiliary.items in
    record {
      known = c.requires.originals_in;
      standing = stand_aside at (setting_of (block_at at c.args.block.now) (map (tree_at at) params)) (setting_here at c.deref-3.result.now c.in_ok-parts.parts.parameters.items)
          (sym c.requires.levels ∙ sym (ap (λ us. levels_of (block_of us)) all)) (sym (ap (map (tree_at at)) c.in_ok-parts.ensures.parameters)) c.args.originals.now c.requires.standing;
      over = read_over c.args.originals.now (map (tree_at at) c.in_ok-parts.parts.parameters.items) (subst (λ ps. AreLocals (map (tree_at at) ps)) (sym c.in_ok-parts.ensures.parameters) c.requires.locals);
    }

pub returns-clause-outcome : goal.returns-clause-outcome
returns-clause-outcome g c fuel enough =
    let at = g.A.Terms.contents c.args.asks.now in
    let s = g.A.Asks.standing c.args.asks.now in
    let b = block_at at c.args.block.now in
    let ts = parts_at at c.args.parts in
    let lg = larger_at at c.args.larger in
    let behind = c.split_at.ensures.back ∙ behind_is c.args.larger.own.items c.args.larger.auxiliary.items c.deref-2.result.now c.len-count.result (let e = c.len-count.ensures in let f = c.args.larger.own.ok.0 in omega arith) (c.deref-2.ensures.value ∙ c.in_ok-types.ensures) in
    let recursors = c.deref-5.ensures.value ∙ ap (λ (v : Vec Recursor Global). v.items) c.deref-4.ensures in
    subst (λ rs. IsCheckOutcome (shape_stage s.table (g.A.Asks.places s.basis) fuel b (map (recursor_at at) rs) ts lg (g.A.Asks.left c.args.asks.now)) c.check_beside.result) recursors
    (c.check_beside.ensures.outcome fuel b ts lg enough (record {
      types = ap (map (type_at at)) (c.deref-3.ensures.value ∙ c.in_ok-types.ensures) ∙ map-append (type_at at) c.args.larger.own.items c.args.larger.auxiliary.items;
      parts = c.in_ok-parts.ensures.value at ∙ ap (λ as_. with_indices ts (auxs_at at as_)) c.deref.ensures.value;
      auxiliary = ap (map (type_at at)) behind;
      originals = c.requires.originals_are;
      levels = c.requires.levels;
    }))
