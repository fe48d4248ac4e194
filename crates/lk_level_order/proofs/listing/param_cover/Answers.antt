use Rattle.std.proofs.Common.{take, length, get_or, [], false, refl, sym, subst, arith}
use Rattle.std.proofs.lemmas.Result.{IfOk-weaker}
use Rattle.lk_tree.specs.Tree.{Name, param}
use Rattle.lk_level_order.specs.Covers.{IsCover}
use Rattle.lk_level_order.specs.declared.listing.Cover.{Cover}
use Rattle.lk_level_order.proofs.Names.{different_take}
use Rattle.lk_level_order.proofs.Listed.{listed_stays, cover_other, cover_param, take_length, take_at, behind_first}
use Rattle.lk_level_order.proofs.listing.param_cover.Goals as goal

pub returns-then-n-rights-clause-cover : goal.returns-then-n-rights-clause-cover
returns-then-n-rights-clause-cover c =
    IfOk-weaker c.one_case.result _ _
    (λ v h d different few count. cover_other (take c.args.rights d.names) c.one_case.new.rows v (get_or d.names c.args.n [])
    (behind_first c.args.rights d.names c.args.n different c.if-n-rights.true (let l = c.if-n-count.false in omega arith)) h)
    c.one_case.ensures.cover

pub returns-clause-cover : goal.returns-clause-cover
returns-clause-cover c d different few count =
    let k = c.args.rights in
    let n = c.args.n in
    let ns = take k d.names in
    let old = c.add.new.rows in
    let new = c.add-2.new.rows in
    let first = c.len-first.result in
    let cover : Cover = record { cases = record { first = first; end = c.len.result }; support = record { surely = false; by = c.put_digit-with.result } } in
    let grows = c.in_ok-add-2.ensures.grows in
    let more = grows.longer in
    let end = c.len.ensures.len in
    let size = take_length k d.names few in
    let below = c.if-n-rights.false in
    let zero = listed_stays old new first (length old) c.len.result 0 grows (omega arith) c.in_ok-add.ensures.listed in
    let with = rw (sym end, c.put_digit-with.ensures) at c.in_ok-add-2.ensures.listed in
    subst (λ (p : Name). IsCover ns new cover (param p)) (take_at k d.names n [] below)
    (cover_param ns new cover n (different_take k d.names different) (omega arith) zero with refl c.put_digit-with.ensures)
