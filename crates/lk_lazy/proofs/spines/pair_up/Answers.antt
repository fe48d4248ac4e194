use Rattle.std.proofs.Common.{rules, ◌≡◌, ◌++◌, ◌∷◌, [], refl, ℕ}
use Rattle.lk_ask.specs.declared.sheet.Pair.{Pair}
use Rattle.lk_lazy.proofs.Walks.{walk_down, walk_left_on, walk_right_on, walk_ends}
use Rattle.lk_lazy.proofs.spines.pair_up.Goals as goal

pub down-preserved : goal.down-preserved
down-preserved g c =
    let p : Pair ℕ = record { left = c.in-App.x; right = c.in-App-view.y } in
    let pushed : c.push.new.self.items ≡ c.down.pairs.items ++ p ∷ [] = search rules in
    rw pushed (walk_down c.down.invariant c.in-App.f c.in-App.x c.in-App-view.g c.in-App-view.y c.in-App.ensures.known c.in-App-view.ensures.known c.in-App.ensures.tree c.in-App-view.ensures.tree)

pub returns-in_default-view : goal.returns-in_default-view
returns-in_default-view g c = walk_left_on c.down.invariant c.in-App.f c.in-App.x c.in-App.ensures.tree c.view-in-App.result c.in_default-view.not-App c.view-in-App.ensures.tree

pub returns-in-App-view-2 : goal.returns-in-App-view-2
returns-in-App-view-2 g c = walk_right_on c.down.invariant c.in-App-view-2.field-0 c.in-App-view-2.field-1 c.in-App-view-2.ensures.tree c.view.result c.in_default.not-App c.view.ensures.tree

pub returns : goal.returns
returns g c = walk_ends c.down.invariant _ refl refl refl c.view.result c.in_default.not-App c.view.ensures.tree c.view-2.result c.in_default-view-2.not-App c.view-2.ensures.tree
