use Rattle.std.proofs.Common.{rules, sym, subst}
use Rattle.lk_rulebook.specs.WellStated.{WellStated}
use Rattle.leancheck.proofs.Inside.{answered_inside}
use Rattle.leancheck.proofs.deriver.DeriverRows.answer.Goals as goal

pub answer-requires : goal.answer-requires
answer-requires g c = record {
  known = search rules;
  answered = answered_inside g.D.Terms.contents (λ d. (g.D.Looks.sight (g.D.Terms.rest d)).basis.place)
      (record { derives = c.self.inside.derives; enough = c.self.inside.enough }) c.args.self.now c.args.query c.self.view_is c.requires.answered;
}

pub invariant_of-self : goal.invariant_of-self
invariant_of-self g c = subst WellStated (sym c.answer.ensures.leaves.place) c.self.invariant
