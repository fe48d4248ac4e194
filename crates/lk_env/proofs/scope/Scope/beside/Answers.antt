use Rattle.std.proofs.Common.{length, ap, subst, arith}
use Rattle.lk_store.specs.Store.{contents_of}
use Rattle.lk_store.specs.Layers.{layers_contents}
use Rattle.lk_env.specs.Units.{AreUnitsIn}
use Rattle.lk_env.proofs.Scoped.{all_alone, alone_known, alone_give}
use Rattle.lk_env.proofs.scope.Scope.beside.Goals as goal

pub invariant_of-result : goal.invariant_of-result
invariant_of-result c =
    let made = c.in_ok-auxiliary.ensures in (
      rw c.of.ensures c.requires.over,
      subst (AreUnitsIn (contents_of c.args.library.now.tables)) c.units.ensures.value c.units.ensures.known,
      rw c.of.ensures (alone_known (layers_contents c.args.store.now) c.args.types.now c.in_ok-auxiliary.auxiliary.items made c.requires.types_in),
      all_alone c.args.types.now c.in_ok-auxiliary.auxiliary.items made,
      (λ some. let small = c.if-count-ge4294967296.false in let sum = c.in-Some.ensures.1 in let units = ap length c.units.ensures.value in let count = c.len.ensures in omega (arith, small, sum, units, count)),
    )

pub returns-clause-auxiliary : goal.returns-clause-auxiliary
returns-clause-auxiliary c = alone_give (layers_contents c.args.store.now) c.args.types.now c.in_ok-auxiliary.auxiliary.items c.in_ok-auxiliary.ensures
