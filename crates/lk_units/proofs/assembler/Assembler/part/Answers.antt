use Rattle.std.proofs.Common.{refl, ap, ◌∙◌, ◌++◌, ◌∷◌, []}
use Rattle.lk_members.specs.declared.members.Members.{Members}
use Rattle.lk_units.specs.State.{take_item, next_part}
use Rattle.lk_units.proofs.Parting.{part_holds, part_known}
use Rattle.lk_units.proofs.assembler.Assembler.part.Goals.{in-Ok, in-Err}
use Rattle.lk_units.proofs.assembler.Assembler.part.Goals as goal

pub returns-clause-known : goal.returns-clause-known
returns-clause-known c = elim c.match-push.branch [
  | in-Ok w ↦ rw w.result-is (λ store k.
      let pushed = w.in-Ok.ensures.items ∙ ap (λ (m : Members). c.args.self.now.parts.items ++ m ∷ []) c.replace-members.ensures.value in
      let none = ap (λ (m : Members). m.lines.items) c.replace-members.ensures.after ∙ c.new.ensures.lines in
      part_known c.args.self.now store c.push.new.self c.replace-members.new.dest pushed none (rw c.replace-members.ensures.after c.new.ensures.indexed) k)
  | in-Err w ↦ rw w.result-is tt
]

pub returns-clause-follows : goal.returns-clause-follows
unfolding take_item
returns-clause-follows c = elim c.match-push.branch [
  | in-Ok w ↦ rw w.result-is (λ store number s h.
      let pushed = w.in-Ok.ensures.items ∙ ap (λ (m : Members). c.args.self.now.parts.items ++ m ∷ []) c.replace-members.ensures.value in
      let none = ap (λ (m : Members). m.lines.items) c.replace-members.ensures.after ∙ c.new.ensures.lines in
      (next_part s, refl, part_holds c.args.self.now store c.push.new.self c.replace-members.new.dest pushed none s h))
  | in-Err w ↦ rw w.result-is (λ store number s h. tt)
]
