use Rattle.lk_ask.proofs.MadeBefore.{lookout_stays}
use Rattle.lk_engine.proofs.Shared.{shared_here}
use Rattle.lk_store.specs.Layers.{layers_contents}
use Rattle.lk_engine.proofs.sharing.look_up.Goals as goal

pub invariant_of-lookout : goal.invariant_of-lookout
invariant_of-lookout c = lookout_stays c.look.ensures.keeps c.lookout.invariant

pub returns-clause-found : goal.returns-clause-found
returns-clause-found c =
    shared_here c.requires.shares (layers_contents c.look.new.terms)
    c.args.query c.look.result c.look.ensures.found
