use Rattle.std.proofs.Common.{◌≡◌, nat_eq, Some, rules}
use Rattle.std.specs.HashMap as hash_map
use Rattle.lk_members.specs.Lines.{type_of}
use Rattle.lk_members.specs.Stored.{NumberedMember, lines_of}
use Rattle.lk_members.proofs.Led.{led_within, led_to, led_some, said_known}
use Rattle.lk_members.proofs.Listing.{stated_here}
use Rattle.lk_members.proofs.Made.{type_copied, no_type}
use Rattle.lk_members.proofs.members.Members.type_made.Goals as goal

pub returns-in_ok-copy-in-Type : goal.returns-in_ok-copy-in-Type
returns-in_ok-copy-in-Type c =
    let m = c.args.self.now in
    let ls = m.lines.items in
    let n = c.args.name in
    let here = λ (s : NumberedMember). stated_here s n in
    let i = c.in-Some.place.now in
    let o = hash_map.get nat_eq m.types n in
    let found = type_of nat_eq (lines_of ls) n in
    let is : o ≡ Some i = search rules in
    let l = c.index.result.now in
    type_copied ls n l.said found (led_to here ls i o found (c.requires.types n) is l c.index.ensures) (led_some here ls i o found (c.requires.types n) is) c.in-Type.head c.in-Type.types c.in_ok-made-in-Type.made.items c.in_ok-copy-in-Type.copy
    c.in-Type.is (rw c.deref-in-Type-2.ensures at c.in_ok-copy-in-Type.ensures) (rw c.deref.ensures at (rw c.deref-in-Type.ensures.value at c.in_ok-made-in-Type.ensures))
    (λ d known. said_known d ls i l (led_within here ls i o found (c.requires.types n) is) c.index.ensures known)

pub returns-in_default-said : goal.returns-in_default-said
returns-in_default-said c =
    let m = c.args.self.now in
    let ls = m.lines.items in
    let n = c.args.name in
    let here = λ (s : NumberedMember). stated_here s n in
    let i = c.in-Some.place.now in
    let o = hash_map.get nat_eq m.types n in
    let found = type_of nat_eq (lines_of ls) n in
    let is : o ≡ Some i = search rules in
    let l = c.index.result.now in
    absurd (no_type ls n l.said found (led_to here ls i o found (c.requires.types n) is l c.index.ensures) (led_some here ls i o found (c.requires.types n) is) c.in_default-said.not-Type)
