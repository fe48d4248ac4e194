-- The two constructors of a block are not equal at the place after it.
use Rattle.std.proofs.Common.{◌≡◌, [], ◌∷◌, refl}
use Rattle.lk_tree.specs.Decide.{list_discrete, both_discrete}
use Rattle.lk_tree.specs.Tree.{name_discrete, part_discrete}
use Rattle.lk_rulebook.specs.Place.{Ctor}
use Rattle.lk_rulebook.specs.Names.{named}
use Rattle.lk_rulebook.specs.Rules.{IsDefEq}
use Rattle.lk_meaning.specs.Rigid.{IsDataName}
use Rattle.lk_meaning.specs.Families.{IsChoice}
use Rattle.lk_meaning.specs.Booleans.{b_name, yes_name, no_name, yes_ctor, no_ctor, b_type, b_block, b_entry, yes_entry, no_entry, after_b, after_again}
use Rattle.lk_meaning.proofs.Apart.{choices}
use native.Mathlib.Decide.{ℕ_discrete}

two_not_one : (x : Ctor) → yes_ctor ∷ no_ctor ∷ [] ≡ x ∷ [] → ⊥
two_not_one x e = absurd cc

b_data : IsDataName after_b b_name
unfolding name_discrete list_discrete part_discrete both_discrete ℕ_discrete
b_data = record { entry = b_entry; block = b_block; own = b_type; given = refl; kind = refl; above_prop = λ σ e. absurd cc; no_unit = λ x e z. two_not_one x e }

yes_choice : IsChoice after_b yes_name
unfolding name_discrete list_discrete part_discrete both_discrete ℕ_discrete
yes_choice = record { entry = yes_entry; block = b_block; own = b_type; it = yes_ctor; given = refl; kind = refl; not_alone = two_not_one; type = (b_name, b_data, refl) }

no_choice : IsChoice after_b no_name
unfolding name_discrete list_discrete part_discrete both_discrete ℕ_discrete
no_choice = record { entry = no_entry; block = b_block; own = b_type; it = no_ctor; given = refl; kind = refl; not_alone = two_not_one; type = (b_name, b_data, refl) }

b_still : IsDataName after_again b_name
unfolding name_discrete list_discrete part_discrete both_discrete ℕ_discrete
b_still = record { entry = b_entry; block = b_block; own = b_type; given = refl; kind = refl; above_prop = λ σ e. absurd cc; no_unit = λ x e z. two_not_one x e }

yes_still : IsChoice after_again yes_name
unfolding name_discrete list_discrete part_discrete both_discrete ℕ_discrete
yes_still = record { entry = yes_entry; block = b_block; own = b_type; it = yes_ctor; given = refl; kind = refl; not_alone = two_not_one; type = (b_name, b_still, refl) }

no_still : IsChoice after_again no_name
unfolding name_discrete list_discrete part_discrete both_discrete ℕ_discrete
no_still = record { entry = no_entry; block = b_block; own = b_type; it = no_ctor; given = refl; kind = refl; not_alone = two_not_one; type = (b_name, b_still, refl) }

apart : yes_name ≡ no_name → ⊥
apart e = absurd cc

pub not_equal : IsDefEq after_b (named yes_name) (named no_name) → ⊥
not_equal e = apart (choices after_b yes_name no_name (named yes_name) (named no_name) yes_choice no_choice e refl refl)

pub still_not_equal : IsDefEq after_again (named yes_name) (named no_name) → ⊥
still_not_equal e = apart (choices after_again yes_name no_name (named yes_name) (named no_name) yes_still no_still e refl refl)
