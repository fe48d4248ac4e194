use Rattle.std.proofs.Common.{codes, ℕ, subst}
use Rattle.std.specs.Prelude.{IfNone, IfSome, ◌-◌, ◌^◌, Some}
use Rattle.clap.specs.Words.{found_of}
use Rattle.clap.proofs.WalkLemmas.{first_value-rows}
use Rattle.lk_command.specs.Words.{HasValue}
use Rattle.lk_command.proofs.words.steps_of.Goals as goal

pub returns-clause-some : goal.returns-clause-some
returns-clause-some c =
    subst (λ t. IfSome c.value_of.result (HasValue 1 (2 ^ 64 - 1) (Some (2 ^ 100)) t))
    (first_value-rows (found_of c.args.matches.now) (codes "steps")) c.value_of.ensures.some

pub returns-clause-none : goal.returns-clause-none
returns-clause-none c =
    subst (λ t. IfNone c.value_of.result ((n : ℕ) → HasValue 1 (2 ^ 64 - 1) (Some (2 ^ 100)) t n → ⊥))
    (first_value-rows (found_of c.args.matches.now) (codes "steps")) c.value_of.ensures.none
