use Rattle.std.proofs.Common.{◌≡◌, ◌∷◌, ◌++◌, [], ap, sym, subst, ◌∙◌}
use Rattle.std.specs.Prelude.{Vec}
use Rattle.std.specs.declared.alloc.Global.{Global}
use Rattle.std.proofs.lemmas.List.{map-append}
use Rattle.lk_members.specs.declared.line.StoredLine.{StoredLine}
use Rattle.lk_members.specs.Stored.{line_of, lines_of, said_of}
use Rattle.lk_members.specs.Indices.{IsIndexOf}
use Rattle.lk_members.specs.Taking.{with_line}
use Rattle.lk_members.proofs.Indexing.{lines_put}
use Rattle.lk_members.proofs.members.Members.take.Goals as goal

pub returns-clause-indexed : goal.returns-clause-indexed
returns-clause-indexed c =
    let m = c.note.new.self in
    let line : StoredLine = record { number = c.args.number; said = c.args.said } in
    let is : lines_of c.push_line.new.lines.items ≡ with_line (lines_of c.args.self.now.lines.items) c.args.number (said_of c.args.said) =
    ap lines_of c.in_ok-push_line.ensures ∙ map-append line_of m.lines.items (line ∷ []) ∙ ap (λ (v : Vec StoredLine Global). lines_of v.items ++ line_of line ∷ []) c.in_ok-note.ensures.lines in
    subst (IsIndexOf (record m { lines = c.push_line.new.lines })) (sym is)
    (lines_put m c.push_line.new.lines (with_line (lines_of c.args.self.now.lines.items) c.args.number (said_of c.args.said)) (c.in_ok-note.ensures.indexed c.args.number))
