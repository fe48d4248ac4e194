use Rattle.std.proofs.Common.{ap, sym, ◌∙◌}
use Rattle.std.specs.Prelude.{option_map}
use Rattle.lk_rulebook.specs.Place.{Block, BlockType}
use Rattle.lk_env.proofs.Parents.{parameters_are}
use Rattle.lk_env.proofs.lent.parameter_count.Goals as goal

pub returns-in-Some : goal.returns-in-Some
returns-in-Some g c p h = sym (parameters_are p.kind ∙ ap (option_map (λ (q : Block × BlockType). q.1.parameters)) (c.in-Some.ensures.value p h))

pub returns-in-None : goal.returns-in-None
returns-in-None g c p h = sym (parameters_are p.kind ∙ ap (option_map (λ (q : Block × BlockType). q.1.parameters)) (c.in-None.ensures.value p h))
