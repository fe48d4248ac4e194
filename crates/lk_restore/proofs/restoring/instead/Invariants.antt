use Rattle.std.proofs.Common.{◌≡◌, length}
use Rattle.lk_store.specs.Contents.{tree_at}
use Rattle.lk_restore.specs.Originals.{AreOriginalsIn}
use Rattle.lk_restore.specs.Marks.{marks_at, instead}
use Rattle.lk_restore.proofs.restoring.instead.Given as goal

abbrev pub invariant-originals : goal.invariant-originals
invariant-originals g l =
    let c = g.T.Terms.contents l.terms in
    record {
      rest_in : AreOriginalsIn c l.rest;
      same : instead (marks_at c l.fn.originals) (marks_at c l.fn.originals) (tree_at c l.fn.e) ≡ instead (marks_at c l.fn.originals) (marks_at c l.rest) (tree_at c l.fn.e);
    }

abbrev pub decreases-originals : goal.decreases-originals
decreases-originals g l = length l.rest
