use Rattle.std.proofs.Common.{◌≡◌, [], ◌∷◌, ◌++◌, sym, ap, ◌∙◌, rules}
use Rattle.leancheck.proofs.SectionsBelow.{one_more}
use Rattle.leancheck.proofs.tracing.all_numbers.Goals as goal

pub loop-n-preserved : goal.loop-n-preserved
loop-n-preserved c =
    let n = c.loop-n.n in
    let pushed : c.push.new.self.items ≡ c.loop-n.numbers.items ++ n ∷ [] = search rules in
    pushed ∙ ap (λ xs. xs ++ n ∷ []) c.loop-n.invariant ∙ sym (one_more n)
