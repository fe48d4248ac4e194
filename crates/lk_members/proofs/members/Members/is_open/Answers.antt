use Rattle.std.proofs.Common.{nat_eq, ap, sym, ◌∙◌}
use Rattle.std.specs.Prelude.{not}
use Rattle.lk_members.specs.Faults.{is_open}
use Rattle.lk_members.specs.Stored.{said_of, lines_of}
use Rattle.lk_members.proofs.members.Members.is_open.Goals as goal

pub returns-in-Constructor : goal.returns-in-Constructor
returns-in-Constructor c =
    let k = c.in-Constructor.k.value in
    let listed = rw (c.deref-in-Constructor.ensures, c.deref-in-Constructor-2.ensures) at c.contains.ensures in
    ap not (listed ∙ c.requires.listed (record { under = k.parent; name = k.name })) ∙ ap (λ s. is_open nat_eq (lines_of c.args.self.now.lines.items) (said_of s)) (sym c.in-Constructor.is)
