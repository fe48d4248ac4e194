use Rattle.std.proofs.Common.{◌+◌, ◌*◌, vec_len}
use Rattle.lk_store.specs.Contents.{tree_at}
use Rattle.lk_ask.specs.Questions.{query_of}
use Rattle.lk_engine.specs.Lookouts.{place_of, AreTrueAt, Stays}
use Rattle.lk_engine.proofs.Links.{IsLinked}
use Rattle.lk_engine.proofs.answering.work.Given as goal

abbrev pub invariant-work : goal.invariant-work
invariant-work g l =
    let contents = g.T.Terms.contents in
    let began = l.fn.lookout in
    record {
      stays : Stays contents g.T.Terms.rest began l.lookout;
      entries : AreTrueAt began (contents l.lookout.terms) l.memo;
      linked : IsLinked (place_of began) (query_of (tree_at (contents began.terms)) l.fn.query)
          began.meter.left (contents l.lookout.terms) l.stack.frames.items l.asked l.budget l.next
          l.lookout.meter.left
          l.lookout.meter.last;
    }

-- each question takes from the budget, and each answer one frame from the stack
abbrev pub decreases-work : goal.decreases-work
decreases-work g l = 2 * l.lookout.meter.left + vec_len l.stack.frames
