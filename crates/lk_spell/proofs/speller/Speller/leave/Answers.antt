use Rattle.std.proofs.Common.{rules}
use Rattle.lk_spell.proofs.Spelling.{spells}
use Rattle.std.proofs.lemmas.Result.{on_ok_weaker}
use Rattle.std.specs.Prelude.{OnOk}
use Rattle.lk_spell.specs.Spelling.{Spells}
use Rattle.lk_spell.specs.Moved.{moved}
use Rattle.lk_spell.specs.Opened.{part_of}
use Rattle.lk_spell.specs.Standing.{own_node}
use Rattle.lk_store.specs.Layers.{layers_contents}
use Rattle.lk_spell.proofs.speller.Speller.leave.Goals as goal

pub returns-clause-spells : goal.returns-clause-spells
returns-clause-spells c = λ b h.
    let now = layers_contents c.args.terms.now in
    let old = c.args.self.now in
    let new = c.add.new.self in
    let this : OnOk c.add.result (Spells old new (part_of c.args.opened) (moved old.numbers (own_node now c.args.opened))) = search rules in
    on_ok_weaker c.add.result (λ s. spells b now old new c.args.opened c.requires.opened c.requires.done s h) this
