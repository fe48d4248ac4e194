use Rattle.std.proofs.Common.{◌≡◌, length}
use Rattle.lk_store.specs.Contents.{tree_at}
use Rattle.lk_type.specs.Marks.{body_at, AreMarks, IsSubterm, AreSubterms}
use Rattle.lk_type.proofs.Marks.{IsPassed}
use Rattle.lk_type.proofs.Openings.{binders_in}
use Rattle.lk_type.proofs.marking.begin.Given as goal

abbrev pub invariant-binders : goal.invariant-binders
invariant-binders g l =
    let now = g.L.Terms.contents l.looks in
    record {
      inside_is : tree_at now l.inside ≡ body_at l.binders l.count (tree_at now l.e);
      inside : IsSubterm now l.binders (tree_at now l.e) (record { e = l.inside; depth = l.count; count = l.count });
      subterms : AreSubterms now l.binders (tree_at now l.e) l.subterms.items;
      marks : AreMarks l.binders (tree_at now l.e) l.marks.items;
      many : length l.marks.items ≡ l.count;
      passed : IsPassed now l.binders (tree_at now l.e) l.count l.inside l.subterms.items;
    }

abbrev pub decreases-binders : goal.decreases-binders
decreases-binders g l = binders_in l.binders (tree_at (g.L.Terms.contents l.looks) l.inside)
