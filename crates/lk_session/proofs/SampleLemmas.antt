-- Units of the tests' reader.
use Rattle.std.proofs.Common.{◌≡◌, List, [], ◌∷◌, sym, subst, All}
use Rattle.lk_store.specs.Contents.{Contents}
use Rattle.lk_env.specs.declared.unit.Unit.{Unit as StoredUnit}
use Rattle.lk_env.specs.Units.{AreUnitsIn, IsUnitIn}
use Rattle.lk_session.proofs.Prefixes.{all_cons, all_none}

pub known_one : (c : Contents) (a : StoredUnit) (us : List StoredUnit) → us ≡ a ∷ [] → IsUnitIn c a → AreUnitsIn c us
known_one c a us e k = subst (λ (l : List StoredUnit). All (IsUnitIn c) l) (sym e) (all_cons (IsUnitIn c) a [] k (all_none (IsUnitIn c)))
