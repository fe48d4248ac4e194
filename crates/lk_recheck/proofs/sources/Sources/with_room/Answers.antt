use Rattle.std.proofs.Common.{rules, ℕ, ◌≡◌, ◌-◌, ◌++◌, length, take, replicate}
use Rattle.lk_recheck.proofs.Room.{with_room, kept_padded}
use Rattle.lk_recheck.proofs.sources.Sources.with_room.Goals as goal

pub returns : goal.returns
returns c =
    let xs = c.args.self.now.last.items in
    let copied : c.in_ok-last.last.items ≡ xs = search rules in
    let padded : c.resize.new.self.items ≡ take c.args.things c.in_ok-last.last.items ++ replicate {A = ℕ} (c.args.things - length c.in_ok-last.last.items) 0 = search rules in
    let links : c.in_ok-from_slice.field-0.items ≡ c.args.self.now.links.items = search rules in
    with_room c.args.things c.args.self.now _ c.requires.linked c.requires.room links (kept_padded c.args.things xs c.in_ok-last.last.items c.resize.new.self.items c.requires.room copied padded)
