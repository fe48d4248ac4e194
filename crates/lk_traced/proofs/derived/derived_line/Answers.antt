use Rattle.lk_store.specs.Contents.{tree_at}
use Rattle.lk_units.proofs.Holding.{found, failing}
use Rattle.lk_traced.proofs.Derive.{left_fails, right_fails, said_plain, said_beside}
use Rattle.lk_traced.proofs.derived.derived_line.Goals as goal

pub returns-in-Err-clause-made : goal.returns-in-Err-clause-made
returns-in-Err-clause-made g c k s mean n same =
    let view = g.N.FileNumber.view in
    let l = c.args.line.now in
    left_fails s mean view l.rule (view.value l.left) (view.value l.right) (view.values l.premises.items) l.beside c.in-Err.error
    (failing c.args.trees.now (tree_at k) s.trees (view.value l.left) c.in-Err.error n c.in-Err.ensures.err c.in-Err.ensures.absent)

pub returns-in-Err-known-clause-made : goal.returns-in-Err-known-clause-made
returns-in-Err-known-clause-made g c k s mean n same =
    let view = g.N.FileNumber.view in
    let l = c.args.line.now in
    right_fails s mean view l.rule (view.value l.left) (view.value l.right) (view.values l.premises.items) l.beside c.in-Err-known.error (tree_at k c.in-Ok.left)
    (found c.args.trees.now (tree_at k) s.trees (view.value l.left) c.in-Ok.left n c.in-Ok.ensures.ok)
    (failing c.args.trees.now (tree_at k) s.trees (view.value l.right) c.in-Err-known.error n c.in-Err-known.ensures.err c.in-Err-known.ensures.absent)

pub returns-in-None-clause-made : goal.returns-in-None-clause-made
returns-in-None-clause-made g c k s mean n same =
    let view = g.N.FileNumber.view in
    let l = c.args.line.now in
    rw (said_plain s mean view l.rule (view.value l.left) (view.value l.right) (view.values l.premises.items) l.beside (tree_at k c.in-Ok.left) (tree_at k c.in-Ok-known.right) c.in-None.is
    (found c.args.trees.now (tree_at k) s.trees (view.value l.left) c.in-Ok.left n c.in-Ok.ensures.ok)
    (found c.args.trees.now (tree_at k) s.trees (view.value l.right) c.in-Ok-known.right n c.in-Ok-known.ensures.ok))
    (rw c.deref.ensures.value at c.plain_derived.ensures.made k s mean same)

pub returns-in-Some-clause-made : goal.returns-in-Some-clause-made
returns-in-Some-clause-made g c k s mean n same =
    let view = g.N.FileNumber.view in
    let l = c.args.line.now in
    rw (said_beside s mean view l.rule (view.value l.left) (view.value l.right) (view.values l.premises.items) l.beside c.in-Some.beside (tree_at k c.in-Ok.left) (tree_at k c.in-Ok-known.right) c.in-Some.is
    (found c.args.trees.now (tree_at k) s.trees (view.value l.left) c.in-Ok.left n c.in-Ok.ensures.ok)
    (found c.args.trees.now (tree_at k) s.trees (view.value l.right) c.in-Ok-known.right n c.in-Ok-known.ensures.ok))
    (rw c.deref-in-Some.ensures.value at c.beside_derived.ensures.made k s mean n same)
