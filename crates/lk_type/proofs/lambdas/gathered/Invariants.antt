use Rattle.std.proofs.Common.{◌≡◌, ◌<◌, ◌++◌, length, map}
use Rattle.std.specs.Prelude.{All}
use Rattle.lk_store.specs.Contents.{tree_at}
use Rattle.lk_type.specs.declared.sheet.Binders.TheVariants.{Lambdas}
use Rattle.lk_type.specs.Telescopes.{domains_of, numbers_of}
use Rattle.lk_type.proofs.Openings.{binders_in}
use Rattle.lk_type.proofs.lambdas.gathered.Given as goal

abbrev pub invariant-lambdas : goal.invariant-lambdas
invariant-lambdas g l =
    let now = g.L.Terms.contents l.looks in
    let t = tree_at now in
    record {
      inside_in : l.inside < length now.trees;
      left_in : l.left < length now.trees;
      known : All (λ x. x < length now.trees) l.domains.items;
      domains : map t l.domains.items ++ domains_of (t l.inside) (t l.left) ≡ domains_of (t l.fn.e) (t l.fn.locals);
      numbers : l.numbers.items ++ numbers_of (t l.inside) (t l.left) ≡ numbers_of (t l.fn.e) (t l.fn.locals);
    }

abbrev pub decreases-lambdas : goal.decreases-lambdas
decreases-lambdas g l = binders_in Lambdas (tree_at (g.L.Terms.contents l.looks) l.inside)
