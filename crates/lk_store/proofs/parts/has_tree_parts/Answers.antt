use Rattle.std.proofs.Common.{◌<◌, length, arith}
use Rattle.lk_store.specs.Store.{names_by, names_of, levels_by, levels_of, lists_by, lists_of}
use Rattle.lk_store.proofs.Columns.{length-values_of}
use Rattle.lk_store.proofs.parts.has_tree_parts.Goals as goal

pub returns-in-Sort : goal.returns-in-Sort
returns-in-Sort c = λ h.
    let e = length-values_of (levels_by (names_of c.args.store.now)) c.args.store.now.levels in
    let l : c.in-Sort.l < length (levels_of c.args.store.now) = rw c.in-Sort.is at h in
    c.is_below.ensures.1 (let n = c.len.ensures.len in omega arith)

pub returns-then-is_below : goal.returns-then-is_below
returns-then-is_below c = λ h.
    let e = length-values_of (lists_by (levels_of c.args.store.now)) c.args.store.now.lists in
    let l : c.in-Const.ls < length (lists_of c.args.store.now) = (rw c.in-Const.is at h).1 in
    c.is_below-then-is_below.ensures.1 (let n = c.len-then-is_below.ensures.len in omega arith)

pub returns-else-is_below : goal.returns-else-is_below
returns-else-is_below c = λ h.
    let e = length-values_of (names_by c.args.store.now.texts) c.args.store.now.names in
    let l : c.in-Const.n < length (names_of c.args.store.now) = (rw c.in-Const.is at h).0 in
    c.is_below-in-Const.ensures.1 (let n = c.len-in-Const.ensures.len in omega arith)

pub returns-else-is_below-4 : goal.returns-else-is_below-4
returns-else-is_below-4 c = λ h.
    let e = length-values_of (names_by c.args.store.now.texts) c.args.store.now.names in
    let l : c.in-Proj.n < length (names_of c.args.store.now) = (rw c.in-Proj.is at h).0 in
    c.is_below-in-Proj.ensures.1 (let n = c.len-in-Proj.ensures.len in omega arith)
