use Rattle.std.proofs.Common.{ap, sym, ◌∙◌}
use Rattle.lk_tree.specs.Mentions.{same_name}
use Rattle.lk_store.specs.Contents.{name_at}
use Rattle.lk_restore.specs.Originals.{IsOriginalIn}
use Rattle.lk_restore.specs.Marks.{mark_at, marks_at, first}
use Rattle.lk_restore.proofs.Firsts.{rest_have, marked_at, first_next}
use Rattle.lk_restore.proofs.originals.first.Goals as goal

pub originals-preserved : goal.originals-preserved
originals-preserved g c =
    let s = g.T.Terms.contents c.args.terms.now in
    let n = name_at s c.args.name in
    let o = c.in-Some.original.now in
    let more = c.in-Some.more.now in
    let split = c.in-Some.ensures.cases.0 in
    let named = marked_at s o ∙ ap (name_at s) (sym c.name_of.ensures) in
    record {
      rest_in = rest_have (IsOriginalIn s) c.originals.rest.now o more split c.originals.invariant.rest_in;
      same = c.originals.invariant.same ∙ ap (λ os. first (marks_at s os) n) split
          ∙ first_next (mark_at s o) (marks_at s more) n (ap (λ m. same_name m n) named ∙ sym c.names_equal.ensures ∙ c.if-names_equal.false);
    }
