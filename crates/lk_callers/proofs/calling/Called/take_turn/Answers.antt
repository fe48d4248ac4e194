use Rattle.std.proofs.Common.{◌≡◌, ◌∙◌, sym, true, false}
use Rattle.lk_callers.proofs.Owning.{other_passes}
use Rattle.lk_callers.specs.Owned.{bytes_in}
use Rattle.lk_callers.proofs.calling.Called.take_turn.Goals as goal
use Rattle.lk_callers.proofs.calling.Called.take_turn.Goals.{then-self-via-then-self, then-self-via-else-self+then-pass_of-self}

pub returns-then-self : goal.returns-then-self
returns-then-self g c =
    let i = c.requires.called in
    record {
      number_is = i.number_is;
      passes = i.passes;
      added = other_passes (bytes_in c.args.texts.now) g.T.Reads.stated c.args.turns c.args.self.now.number c.args.text c.args.self.now.full c.args.self.now.pass.known (λ ready turn. elim c.then-self.branch [ then-self-via-then-self w ↦ (let e : true ≡ false = sym w.if-self.true ∙ ready in absurd cc) | then-self-via-else-self+then-pass_of-self w ↦ w.if-pass_of-self.true (w.pass_of.ensures ∙ turn) ]) i.added;
      right = i.right;
    }
