use Rattle.std.proofs.Common.{◌≡◌, true, false, length, refl, ap, sym, subst, ◌∙◌, arith}
use Rattle.std.specs.Prelude.{Vec, nat_eq}
use Rattle.std.specs.declared.alloc.Global.{Global}
use Rattle.std.proofs.lemmas.List.{length-map}
use Rattle.lk_members.specs.declared.line.StoredLine.{StoredLine}
use Rattle.lk_members.specs.declared.members.Members.{Members}
use Rattle.lk_members.specs.Lines.{a_recursor, has_recursor}
use Rattle.lk_members.specs.Stored.{line_of, lines_of}
use Rattle.lk_members.specs.Indices.{IsIndexOf}
use Rattle.lk_members.specs.Taking.{with_line}
use Rattle.lk_members.proofs.Grouping.{group_within}
use Rattle.lk_members.proofs.Indexing.{recursor_noted}
use Rattle.lk_members.proofs.members.Members.note_recursor.Goals as goal

pub returns-then-contains-clause-fault : goal.returns-then-contains-clause-fault
returns-then-contains-clause-fault c = λ r.
    let has = λ (v : Vec StoredLine Global). has_recursor nat_eq (lines_of v.items) c.args.types.now c.args.name in
    let told : has c.args.self.now.lines ≡ true = sym (ap has c.in_ok-list.ensures.lines) ∙ sym (c.in_ok-list.ensures.indexed.names c.in_ok-list.list c.args.name c.args.types.now c.in_ok-list.ensures.listed) ∙ sym c.contains.ensures ∙ c.if-contains.true in
    rw told refl

pub add_place-requires : goal.add_place-requires
add_place-requires c = group_within c.list_number.new.self.lists (length c.list_number.new.self.recursors.items) c.in_ok-list.list c.args.types.now c.in_ok-list.ensures.indexed.grouped c.in_ok-list.ensures.listed

pub returns-clause-indexed : goal.returns-clause-indexed
returns-clause-indexed c = λ number r.
    let m = c.list_number.new.self in
    let new : Members = record { lines = m.lines; types = m.types; constructors = m.constructors; blocks = m.blocks; lists = m.lists; recursors = c.add_place.new.groups; recursor_names = c.add_member.new.members } in
    let same = ap (λ (v : Vec StoredLine Global). length v.items) c.in_ok-list.ensures.lines in
    let len : length (lines_of m.lines.items) ≡ length m.lines.items = length-map m.lines.items line_of in
    subst (λ (v : Vec StoredLine Global). IsIndexOf new (with_line (lines_of v.items) number (a_recursor c.args.types.now c.args.name r))) c.in_ok-list.ensures.lines
    (recursor_noted m new (lines_of m.lines.items) number c.in_ok-list.ensures.indexed (omega arith) (λ n. refl) (λ q. refl) (λ n. refl) _ c.in_ok-list.list c.args.name c.args.types.now r
    (omega arith) refl c.in_ok-list.ensures.listed c.in_ok-add_member.ensures c.in_ok-add_place.ensures)

pub returns-clause-fault : goal.returns-clause-fault
returns-clause-fault c = λ r.
    let has = λ (v : Vec StoredLine Global). has_recursor nat_eq (lines_of v.items) c.args.types.now c.args.name in
    let told : has c.args.self.now.lines ≡ false = sym (ap has c.in_ok-list.ensures.lines) ∙ sym (c.in_ok-list.ensures.indexed.names c.in_ok-list.list c.args.name c.args.types.now c.in_ok-list.ensures.listed) ∙ sym c.contains.ensures ∙ c.if-contains.false in
    rw told refl
