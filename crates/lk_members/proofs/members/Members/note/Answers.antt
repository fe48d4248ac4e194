use Rattle.std.proofs.Common.{◌≡◌, ◌∙◌, length, refl, ap, sym, subst, arith}
use Rattle.std.specs.Prelude.{nat_eq}
use Rattle.std.proofs.lemmas.List.{length-map}
use Rattle.lk_members.specs.declared.line.TypeHead.{TypeHead}
use Rattle.lk_members.specs.declared.line.StoredMember.{StoredMember}
use Rattle.lk_members.specs.Faults.{fault_of}
use Rattle.lk_members.specs.Stored.{line_of, lines_of, said_of}
use Rattle.lk_members.specs.Indices.{IsIndexOf}
use Rattle.lk_members.specs.Taking.{Takes, with_line}
use Rattle.lk_members.proofs.Indexing.{alone_noted, groups_are}
use Rattle.lk_members.proofs.members.Members.note.Goals as goal

pub returns-in-Alone-clause-indexed : goal.returns-in-Alone-clause-indexed
returns-in-Alone-clause-indexed c = λ number.
    let m = c.args.self.now in
    let lines = lines_of m.lines.items in
    let len : length lines ≡ length m.lines.items = length-map m.lines.items line_of in
    subst (λ (s : StoredMember). IsIndexOf m (with_line lines number (said_of s))) (sym c.in-Alone.is)
    (alone_noted m m lines number c.requires.indexed (omega arith) (λ n. refl) (λ q. refl) (λ n. refl) c.in-Alone.field-0 (groups_are m lines c.requires.indexed))

pub returns-in-Type-clause-fault : goal.returns-in-Type-clause-fault
returns-in-Type-clause-fault c =
    let lines = lines_of c.args.self.now.lines.items in
    let constructors = c.deref-in-Type-3.ensures.value ∙ ap (λ (t : TypeHead). t.constructors.items) (c.deref-in-Type-2.ensures ∙ sym c.deref.ensures) in
    rw (c.in-Type.is, ← c.deref.ensures, ← c.deref-in-Type.ensures.value, ← constructors) (c.note_type.ensures.fault c.deref.result.now)

pub returns-in-Constructor-clause-fault : goal.returns-in-Constructor-clause-fault
returns-in-Constructor-clause-fault c =
    let lines = lines_of c.args.self.now.lines.items in
    subst (λ (s : StoredMember). Takes c.note_constructor.result (fault_of nat_eq lines (said_of s))) (sym c.in-Constructor.is) (rw (c.deref-in-Constructor.ensures, c.deref-in-Constructor-2.ensures) at (c.note_constructor.ensures.fault c.in-Constructor.constructor.value))

pub returns-in-Recursor-clause-fault : goal.returns-in-Recursor-clause-fault
returns-in-Recursor-clause-fault c =
    rw (c.in-Recursor.is, ← c.deref-in-Recursor.ensures.value, ← c.deref-in-Recursor-2.ensures) (c.note_recursor.ensures.fault c.deref-in-Recursor-2.result.now)
