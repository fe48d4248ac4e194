use Rattle.std.proofs.Common.{ap, sym, refl}
use Rattle.std.proofs.lemmas.Option.{slice_get_read}
use Rattle.lk_env.specs.declared.unit.Constructor.{Constructor}
use Rattle.lk_env.proofs.member.constructor_entry.Goals as goal

pub returns-then-rest-constructors-clause-found : goal.returns-then-rest-constructors-clause-found
returns-then-rest-constructors-clause-found c = record {
  parent = c.loop-i.i;
  number = c.loop-i.rest;
  type = c.index-types-i.result;
  constructor = c.index-constructors-rest.result;
  kind_is = refl;
  type_is = slice_get_read c.args.types.now _ c.loop-i.i c.index-types-i.result refl c.loop-i-test.true c.index-types-i.is;
  constructor_is =
      rw (← c.as_slice-constructors.ensures.value)
      (slice_get_read c.as_slice-constructors.result.now _ c.loop-i.rest c.index-constructors-rest.result refl c.if-rest-constructors.true c.index-constructors-rest.is);
  stated_is = ap (λ (k : Constructor). k.ty) (sym c.index-constructors-rest.is);
  place_is = c.loop-i.invariant;
}
