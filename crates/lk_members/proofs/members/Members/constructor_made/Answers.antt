use Rattle.std.proofs.Common.{◌≡◌, nat_eq, Some, rules}
use Rattle.std.specs.HashMap as hash_map
use Rattle.lk_members.specs.declared.members.Key.{Key}
use Rattle.lk_members.specs.Lines.{ctor_here, ctor_of}
use Rattle.lk_members.specs.Stored.{NumberedMember, lines_of}
use Rattle.lk_members.specs.Indices.{key_eq}
use Rattle.lk_members.proofs.Led.{led_within, led_to, led_some, said_known}
use Rattle.lk_members.proofs.Made.{ctor_copied, no_ctor}
use Rattle.lk_members.proofs.members.Members.constructor_made.Goals as goal

pub index-requires : goal.index-requires
index-requires c =
    let m = c.args.self.now in
    let t = c.args.under in
    let n = c.args.name in
    let q : Key = record { under = t; name = n } in
    let is : hash_map.get key_eq m.constructors q ≡ Some c.in-Some.place.now = search rules in
    let lt = led_within (λ s. ctor_here nat_eq s t n) m.lines.items c.in-Some.place.now (hash_map.get key_eq m.constructors q) (ctor_of nat_eq (lines_of m.lines.items) t n) (c.requires.ctors t n) is in
    search rules

pub returns-in_ok-copy-in-Constructor : goal.returns-in_ok-copy-in-Constructor
returns-in_ok-copy-in-Constructor c =
    let m = c.args.self.now in
    let ls = m.lines.items in
    let t = c.args.under in
    let n = c.args.name in
    let here = λ (s : NumberedMember). ctor_here nat_eq s t n in
    let i = c.in-Some.place.now in
    let q : Key = record { under = t; name = n } in
    let o = hash_map.get key_eq m.constructors q in
    let found = ctor_of nat_eq (lines_of ls) t n in
    let is : o ≡ Some i = search rules in
    let l = c.index.result.now in
    ctor_copied ls t n l.said found (led_to here ls i o found (c.requires.ctors t n) is l c.index.ensures) (led_some here ls i o found (c.requires.ctors t n) is) c.in-Constructor.k c.in_ok-copy-in-Constructor.copy c.in-Constructor.is (rw c.deref.ensures at c.in_ok-copy-in-Constructor.ensures)
    (λ d known. said_known d ls i l (led_within here ls i o found (c.requires.ctors t n) is) c.index.ensures known)

pub returns-in_default-said : goal.returns-in_default-said
returns-in_default-said c =
    let m = c.args.self.now in
    let ls = m.lines.items in
    let t = c.args.under in
    let n = c.args.name in
    let here = λ (s : NumberedMember). ctor_here nat_eq s t n in
    let i = c.in-Some.place.now in
    let q : Key = record { under = t; name = n } in
    let o = hash_map.get key_eq m.constructors q in
    let found = ctor_of nat_eq (lines_of ls) t n in
    let is : o ≡ Some i = search rules in
    let l = c.index.result.now in
    absurd (no_ctor ls t n l.said found (led_to here ls i o found (c.requires.ctors t n) is l c.index.ensures) (led_some here ls i o found (c.requires.ctors t n) is) c.in_default-said.not-Constructor)
