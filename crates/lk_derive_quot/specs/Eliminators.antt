-- Quot.lift and Quot.ind.
use Rattle.std.specs.Prelude.{ℕ, Bool, true, false}
use Rattle.lk_written.specs.Line.{ReductionRule, lift_rule, ind_rule}
use Rattle.lk_derive_quot.specs.declared.eliminators.Eliminator.{Eliminator}
use Rattle.lk_derive_quot.specs.declared.eliminators.Eliminator.TheVariants.{Lift, Induction}

-- the one or the other, by whether the name is that of Quot.lift
abbrev pub eliminator_if : Bool → Eliminator
eliminator_if true = Lift
eliminator_if false = Induction

-- how many arguments it takes, up to its major premise
abbrev pub reach : Eliminator → ℕ
reach Lift = 6
reach Induction = 5

abbrev pub eliminator_rule : Eliminator → ReductionRule
eliminator_rule Lift = lift_rule
eliminator_rule Induction = ind_rule
