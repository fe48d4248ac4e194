-- What a kind is, by what it is with its block.
use Rattle.std.proofs.Common.{◌≡◌, refl}
use Rattle.std.specs.Prelude.{option_map}
use Rattle.lk_rulebook.specs.Place.{Kind, Block, BlockType, Ctor, an_axiom, a_def, a_thm, an_opaque, a_quot, a_type, a_ctor, a_rec}
use Rattle.lk_env.specs.Lent.{constructor_in, member_in, type_in, parameters_in}

pub constructor_is : (k : Kind) → constructor_in k ≡ option_map (λ (p : Block × BlockType × Ctor). (p.1, p.2)) (member_in k)
constructor_is (a_ctor b t c) = refl
constructor_is an_axiom = refl
constructor_is (a_def h v) = refl
constructor_is (a_thm v) = refl
constructor_is (an_opaque v) = refl
constructor_is a_quot = refl
constructor_is (a_type b t) = refl
constructor_is (a_rec r) = refl

pub parameters_are : (k : Kind) → parameters_in k ≡ option_map (λ (p : Block × BlockType). p.1.parameters) (type_in k)
parameters_are (a_type b t) = refl
parameters_are an_axiom = refl
parameters_are (a_def h v) = refl
parameters_are (a_thm v) = refl
parameters_are (an_opaque v) = refl
parameters_are a_quot = refl
parameters_are (a_ctor b t c) = refl
parameters_are (a_rec r) = refl
