use Rattle.std.proofs.Common.{rules, ◌≡◌, ◌++◌, ◌∷◌, [], ◌∙◌, ◌<◌, length}
use Rattle.lk_store.proofs.Extending.{Extends-trans}
use Rattle.lk_chain.proofs.Closed.{front_of_append}
use Rattle.lk_chain.proofs.Pushing.{lets_step}
use Rattle.lk_chain.proofs.lets.all_lets.Goals as goal

pub heads-preserved : goal.heads-preserved
heads-preserved g c =
    let inv = c.heads.invariant in
    let parts : c.heads.left.now ≡ c.in-Some.others.now ++ c.in-Some.head.now ∷ [] = search rules in
    let made = c.in_ok-made.ensures in
    record {
      keeps = Extends-trans _ _ _ inv.keeps made.keeps;
      stays = made.stays ∙ inv.stays;
      left_in = front_of_append (λ x. x < length (g.L.Terms.contents c.args.looks.now).trees) c.in-Some.others.now (c.in-Some.head.now ∷ []) (rw parts at inv.left_in);
      made_in = made.ok.known;
      same = lets_step inv.keeps c.heads.left.now c.in-Some.others.now c.in-Some.head.now c.heads.made c.in_ok-made.made
          parts inv.left_in made.ok ∙ inv.same;
    }
