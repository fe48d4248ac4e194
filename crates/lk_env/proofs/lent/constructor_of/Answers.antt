use Rattle.std.proofs.Common.{ap, ◌∙◌}
use Rattle.std.specs.Prelude.{option_map}
use Rattle.lk_rulebook.specs.Place.{Block, BlockType, Ctor}
use Rattle.lk_env.proofs.Parents.{constructor_is}
use Rattle.lk_env.proofs.lent.constructor_of.Goals as goal

pub returns-in-Some-clause-value : goal.returns-in-Some-clause-value
returns-in-Some-clause-value g c p h = constructor_is p.kind ∙ ap (option_map (λ (q : Block × BlockType × Ctor). (q.1, q.2))) (c.in-Some.ensures.value p h)

pub returns-in-None-clause-value : goal.returns-in-None-clause-value
returns-in-None-clause-value g c p h = constructor_is p.kind ∙ ap (option_map (λ (q : Block × BlockType × Ctor). (q.1, q.2))) (c.in-None.ensures.value p h)
