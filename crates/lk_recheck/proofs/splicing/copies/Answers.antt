use Rattle.std.proofs.Common.{◌≡◌, ℕ, List, ap, sym}
use Rattle.std.specs.List.{AllZip}
use Rattle.std.proofs.lemmas.List.Elements.{same_from_all_zip}
use Rattle.lk_env.specs.contracts.unit.UnitClone.TheImpl.{by_variants}
use Rattle.lk_env.specs.declared.unit.Unit.{Unit as StoredUnit}
use Rattle.lk_env.specs.declared.unit.Unit.TheVariants as unit
use Rattle.lk_recheck.specs.Same.{SameConstructor, SameType, SameRule, SameRecursor, SameUnit}
use Rattle.lk_recheck.proofs.Copies.{same_units, zip_weaker}
use Rattle.lk_recheck.proofs.splicing.copies.Goals as goal

same_numbers : (xs ys : List ℕ) → AllZip (λ x y. y ≡ x) xs ys → ys ≡ xs
same_numbers xs ys z = same_from_all_zip (λ x y. y ≡ x) xs ys z (λ x y e. e)

clone_same : (a b : StoredUnit) → by_variants a b → SameUnit a b
clone_same (unit.Declaration a) (unit.Declaration b) h = record { name = sym h.0; levels = sym (ap (λ v. v.items) h.1.1.0); ty = sym h.1.0; body = sym h.1.1.1 }
clone_same (unit.Block a) (unit.Block b) h = record {
  types = zip_weaker _ SameType a.types.items b.types.items h.0.0 (λ x y k. record {
    name = sym k.0;
    levels = sym (same_numbers x.levels.items y.levels.items k.1.0.0);
    ty = sym k.1.1.0;
    parameters = sym k.1.1.1.0;
    indices = sym k.1.1.1.1.0;
    constructors = zip_weaker _ SameConstructor x.constructors.items y.constructors.items k.1.1.1.1.1.0 (λ v w j. record {
      name = sym j.0;
      levels = sym (same_numbers v.levels.items w.levels.items j.1.0.0);
      ty = sym j.1.1.0;
      parent = sym j.1.1.1.0;
      place = sym j.1.1.1.1.0;
      parameters = sym j.1.1.1.1.1.0;
      fields = sym j.1.1.1.1.1.1;
    });
  });
  recursors = zip_weaker _ SameRecursor a.recursors.value.items b.recursors.value.items h.1.0 (λ x y k. record {
    name = sym k.0;
    levels = sym (same_numbers x.levels.items y.levels.items k.1.0.0);
    ty = sym k.1.1.0;
    parameters = sym k.1.1.1.0;
    indices = sym k.1.1.1.1.0;
    motives = sym k.1.1.1.1.1.0;
    minors = sym k.1.1.1.1.1.1.0;
    k = sym k.1.1.1.1.1.1.1.0;
    rules = zip_weaker _ SameRule x.rules.items y.rules.items k.1.1.1.1.1.1.1.1.0 (λ v w j. record {
      constructor = ap (λ r. r.constructor) (sym j);
      fields = ap (λ r. r.fields) (sym j);
      value = ap (λ r. r.value) (sym j);
    });
  });
}
clone_same (unit.Declaration a) (unit.Block b) h = absurd h
clone_same (unit.Block a) (unit.Declaration b) h = absurd h

pub returns : goal.returns
returns c = λ d known. same_units d c.args.units.now c.in_ok-to_vec.field-0.items (zip_weaker _ SameUnit c.args.units.now c.in_ok-to_vec.field-0.items c.in_ok-to_vec.ensures.ok clone_same) known
