use Rattle.std.proofs.Common.{◌∙◌, ◌∷◌, ◌++◌, [], ap}
use Rattle.std.specs.Prelude.{Vec}
use Rattle.std.proofs.Common.{ℕ}
use Rattle.std.specs.declared.alloc.Global.{Global}
use Rattle.lk_members.proofs.Placing.{place_set}
use Rattle.lk_members.proofs.places.add_place.Goals as goal

pub returns : goal.returns
returns c = place_set c.args.groups.now.items c.args.group c.args.place c.push.new.self c.index_mut.result.now c.requires (c.in_ok-push.ensures.items ∙ ap (λ (g : Vec ℕ Global). g.items ++ c.args.place ∷ []) c.index_mut.ensures.value)
