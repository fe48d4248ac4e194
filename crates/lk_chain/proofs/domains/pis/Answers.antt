use Rattle.std.proofs.Common.{rules, ◌≡◌, ◌++◌, ◌∷◌, [], ◌∙◌, ◌<◌, length}
use Rattle.lk_store.proofs.Extending.{Extends-trans}
use Rattle.lk_chain.proofs.Closed.{front_of_append}
use Rattle.lk_chain.proofs.Innermost.{pis_step}
use Rattle.lk_chain.proofs.domains.pis.Goals as goal

pub domains-preserved : goal.domains-preserved
domains-preserved g c =
    let inv = c.domains.invariant in
    let parts : c.domains.left.now ≡ c.in-Some.others.now ++ c.in-Some.domain.now ∷ [] =
    search rules in
    let made = c.in_ok-made.ensures in
    record {
      keeps = Extends-trans _ _ _ inv.keeps made.keeps;
      stays = made.rest ∙ inv.stays;
      left_in = front_of_append (λ x. x < length (g.L.Terms.contents c.args.looks.now).trees)
          c.in-Some.others.now (c.in-Some.domain.now ∷ []) (rw parts at inv.left_in);
      made_in = made.ok.known;
      same = pis_step inv.keeps c.domains.left.now c.in-Some.others.now c.in-Some.domain.now
          c.domains.made c.in_ok-made.made
          parts inv.left_in made.ok ∙ inv.same;
    }
