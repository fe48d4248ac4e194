use Rattle.std.proofs.Common.{refl}
use Rattle.lk_store.specs.Store.{contents_of}
use Rattle.lk_env.specs.Units.{block_at}
use Rattle.lk_structure.proofs.Structured.{no_type}
use Rattle.lk_structure.proofs.structure.structure_of.Goals as goal

pub returns-in-Some-clause-known : goal.returns-in-Some-clause-known
returns-in-Some-clause-known g c =
    c.structure_by.ensures.known (contents_of (g.L.Lends.lent c.args.library.now).tables) c.in-Some.ensures.known.type_in

pub returns-in-Some-clause-is : goal.returns-in-Some-clause-is
returns-in-Some-clause-is g c e h =
    c.structure_by.ensures.is (g.L.Lends.lent c.args.library.now) c.args.entry e
    (block_at (contents_of (g.L.Lends.lent c.args.library.now).tables) c.in-Some.field-0-0.now) h
    (c.in-Some.ensures.value e h) c.in-Type.is refl

pub returns-in-None-clause-is : goal.returns-in-None-clause-is
returns-in-None-clause-is g c e h =
    no_type (g.L.Lends.lent c.args.library.now) e.kind (c.in-None.ensures.value e h)
