use Rattle.std.proofs.Common.{ℕ, ◌≡◌, ◌<◌, ◌∙◌, ◌∷◌, ◌++◌, [], map, length, ap, arith}
use Rattle.std.specs.Prelude.{Vec}
use Rattle.std.specs.declared.alloc.Global.{Global}
use Rattle.std.proofs.lemmas.List.{length-map}
use Rattle.lk_needs.specs.Followers.{with_follower}
use Rattle.lk_needs.proofs.Following.{follower_set}
use Rattle.lk_needs.proofs.followers.Followers.add.Goals as goal

pub returns : goal.returns
returns c =
    let view : length (map (λ (v : Vec ℕ Global). v.items) c.self.inside.lists.items) ≡ length c.args.self.now = ap length c.self.view_is in
    let inside : c.args.name < length c.self.inside.lists.items = (let count = length-map c.self.inside.lists.items (λ (v : Vec ℕ Global). v.items) in omega (arith, view, count, c.requires)) in
    follower_set c.self.inside.lists.items c.args.name c.args.follower c.push.new.self c.index_mut.result.now inside (c.in_ok-push.ensures.items ∙ ap (λ (g : Vec ℕ Global). g.items ++ c.args.follower ∷ []) c.index_mut.ensures.value)
    ∙ ap (λ ls. with_follower ls c.args.name c.args.follower) c.self.view_is
