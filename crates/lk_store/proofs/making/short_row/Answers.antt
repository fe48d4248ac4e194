use Rattle.std.proofs.Common.{inl, inr}
use Rattle.lk_store.specs.Store.{over}
use Rattle.lk_store.proofs.Joined.{app_row, lam_row, pi_row}
use Rattle.lk_store.proofs.making.short_row.Goals as goal

pub returns-in-App : goal.returns-in-App
returns-in-App c =
    let r = over c.args.base.now c.args.own.now in
    rw c.in-App.is
    (app_row r c.tree_row.result c.tree_row-second.result c.args.key c.in-App.f c.in-App.a
    c.tree_row.ensures c.tree_row-second.ensures c.joined.result c.joined.ensures
    (rw c.in-App.is at c.requires.key))

pub returns-in-Lam : goal.returns-in-Lam
returns-in-Lam c =
    let r = over c.args.base.now c.args.own.now in
    let joined = rw c.saturating_sub-loose.ensures at c.joined-in-Lam.ensures in
    elim c.in-Lam.is [
      | inl is ↦ rw is
          (lam_row r c.tree_row-in-Lam.result c.tree_row-second-in-Lam.result c.args.key c.in-Lam.t c.in-Lam.b
          c.tree_row-in-Lam.ensures c.tree_row-second-in-Lam.ensures c.joined-in-Lam.result joined (rw is at c.requires.key))
      | inr is ↦ rw is
          (pi_row r c.tree_row-in-Lam.result c.tree_row-second-in-Lam.result c.args.key c.in-Lam.t c.in-Lam.b
          c.tree_row-in-Lam.ensures c.tree_row-second-in-Lam.ensures c.joined-in-Lam.result joined (rw is at c.requires.key))
    ]
