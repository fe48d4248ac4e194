use Rattle.std.proofs.Common.{ap, sym, ◌∙◌}
use Rattle.lk_store.specs.Contents.{name_at}
use Rattle.lk_store.specs.Store.{contents_of}
use Rattle.lk_env.specs.Units.{library_of}
use Rattle.lk_env.specs.Places.{position_below}
use Rattle.lk_env.proofs.Before.{position_before_is}
use Rattle.lk_env.proofs.library.Library.position_before.Goals as goal

pub returns : goal.returns
returns c =
    c.position_among.ensures ∙ ap (position_below c.args.units) c.position_of.ensures
    ∙ sym (position_before_is (name_at (contents_of c.args.self.now.tables) c.args.name) (library_of c.args.self.now) c.args.units)
