-- A list behind a part is spelled where the list before it and the part are.
use Rattle.std.proofs.Common.{◌≡◌, Bool, true, false, ◌&&◌, [], ◌∷◌}
use Rattle.std.specs.Prelude.{if◌then◌else◌}
use Rattle.std.proofs.lemmas.Bool.{and_parts}
use Rattle.lk_tree.proofs.Scans.{and_true}
use Rattle.lk_rulebook.specs.Units.{LibraryUnit, Library, members_of, trees_of}
use Rattle.lk_rulebook.specs.Spelled.{all_spelled, names_spelled, library_spelled}
use Rattle.lk_recheck.specs.Spliced.{unit_name, are_same, put_unit, spliced, next_list}

abbrev unit_spelled : LibraryUnit → Bool
unit_spelled u = names_spelled (members_of u) && all_spelled (trees_of u)

one_spelled : (u : LibraryUnit) (us : Library) → unit_spelled u ≡ true → library_spelled us ≡ true → library_spelled (u ∷ us) ≡ true
one_spelled u us h k = and_true (unit_spelled u) (library_spelled us) h k

spelled_parts : (u : LibraryUnit) (us : Library) → library_spelled (u ∷ us) ≡ true → (unit_spelled u ≡ true) × (library_spelled us ≡ true)
spelled_parts u us h = and_parts (unit_spelled u) (library_spelled us) h

put_spelled : (us : Library) (v : LibraryUnit) → library_spelled us ≡ true → unit_spelled v ≡ true → library_spelled (put_unit us v) ≡ true
put_spelled [] v h k = one_spelled v [] k h
put_spelled (u ∷ us) v h k =
    let parts = spelled_parts u us h in
    go (are_same (unit_name u) (unit_name v)) (one_spelled v us k parts.1) (one_spelled u (put_unit us v) parts.0 (put_spelled us v parts.1 k))
  where
    go : (b : Bool) → library_spelled (v ∷ us) ≡ true → library_spelled (u ∷ put_unit us v) ≡ true
        → library_spelled (if b then v ∷ us else u ∷ put_unit us v) ≡ true
    go true there later = there
    go false there later = later

spliced_spelled : (us vs : Library) → library_spelled us ≡ true → library_spelled vs ≡ true → library_spelled (spliced us vs) ≡ true
spliced_spelled us [] h k = h
spliced_spelled us (v ∷ vs) h k =
    let parts = spelled_parts v vs k in
    spliced_spelled (put_unit us v) vs (put_spelled us v h parts.0) parts.1

pub next_spelled : (begun : Bool) (us vs : Library) → library_spelled us ≡ true → library_spelled vs ≡ true → library_spelled (next_list begun us vs) ≡ true
next_spelled true us vs h k = spliced_spelled us vs h k
next_spelled false us vs h k = k
