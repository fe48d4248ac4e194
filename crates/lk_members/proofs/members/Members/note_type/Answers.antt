use Rattle.std.proofs.Common.{refl, arith, ◌≡◌, length}
use Rattle.std.proofs.lemmas.List.{length-map}
use Rattle.lk_members.specs.Stored.{line_of, lines_of}
use Rattle.lk_members.proofs.Indexing.{type_noted, groups_are}
use Rattle.lk_members.proofs.members.Members.note_type.Goals as goal

pub returns-clause-indexed : goal.returns-clause-indexed
returns-clause-indexed c =
    let lines = lines_of c.args.self.now.lines.items in
    let len : length lines ≡ length c.args.self.now.lines.items = length-map c.args.self.now.lines.items line_of in
    λ number t. type_noted c.args.self.now _ lines number _ c.requires.indexed (omega arith) (omega arith) (λ q. refl) c.args.name c.args.types.now c.args.constructors.now t c.in_ok-put_first.ensures c.in_ok-put_each.ensures (groups_are c.args.self.now lines c.requires.indexed)
