use Rattle.lk_store.specs.Contents.{tree_at}
use Rattle.lk_type.specs.Marks.{AreMarks, AreSubterms, AreFound}
use Rattle.lk_type.proofs.marking.walk.Given as goal

abbrev pub invariant-subterms : goal.invariant-subterms
invariant-subterms g l =
    let now = g.L.Terms.contents l.looks in
    record {
      subterms : AreSubterms now l.binders (tree_at now l.e) l.subterms.items;
      marks : AreMarks l.binders (tree_at now l.e) l.marks.items;
      found : AreFound now l.binders (tree_at now l.e) l.marks.items l.subterms.items;
    }

abbrev pub decreases-subterms : goal.decreases-subterms
decreases-subterms g l = l.left
