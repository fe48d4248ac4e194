use Rattle.std.proofs.Common.{◌≡◌, length}
use Rattle.lk_store.specs.Contents.{name_at}
use Rattle.lk_restore.specs.Originals.{AreOriginalsIn}
use Rattle.lk_restore.specs.Marks.{marks_at, first}
use Rattle.lk_restore.proofs.originals.first.Given as goal

abbrev pub invariant-originals : goal.invariant-originals
invariant-originals g l =
    let c = g.T.Terms.contents l.terms in
    record {
      rest_in : AreOriginalsIn c l.rest;
      same : first (marks_at c l.fn.originals) (name_at c l.fn.name) ≡ first (marks_at c l.rest) (name_at c l.fn.name);
    }

abbrev pub decreases-originals : goal.decreases-originals
decreases-originals g l = length l.rest
