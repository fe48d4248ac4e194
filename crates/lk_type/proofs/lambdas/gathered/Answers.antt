use Rattle.std.proofs.Common.{rules, ◌≡◌, ◌++◌, ◌∷◌, [], sym, ◌∙◌}
use Rattle.std.proofs.lemmas.List.Elements.{All-push}
use Rattle.std.specs.Prelude.{◌<◌, length}
use Rattle.lk_store.specs.Contents.{tree_at}
use Rattle.lk_type.specs.declared.sheet.Binders.TheVariants.{Lambdas}
use Rattle.lk_type.specs.Openings.{IsBinder}
use Rattle.lk_type.proofs.ClosedRuns.{domain_gathered, number_gathered}
use Rattle.lk_type.proofs.lambdas.gathered.Goals as goal

pub lambdas-preserved : goal.lambdas-preserved
lambdas-preserved g c =
    let inv = c.lambdas.invariant in
    let now = g.L.Terms.contents c.args.looks.now in
    let t = tree_at now in
    let binder : IsBinder now Lambdas c.lambdas.inside (c.in-Some.domain, c.in-Some.body) = search rules in
    let app = sym c.in-App.ensures.tree in
    let domains : c.push.new.self.items ≡ c.lambdas.domains.items ++ c.in-Some.domain ∷ [] = search rules in
    let numbers : c.push-in-App.new.self.items ≡ c.lambdas.numbers.items ++ c.number_of.result ∷ [] = search rules in
    record {
      inside_in = binder.body_in;
      left_in = c.in-App.ensures.known.1;
      known = rw domains (All-push (λ x. x < length now.trees) c.lambdas.domains.items c.in-Some.domain inv.known binder.domain_in);
      domains = domain_gathered t c.lambdas.domains.items c.push.new.self.items c.in-Some.domain (t c.in-Some.body) (t c.lambdas.inside) (t c.in-App.x)
          (t c.in-App.others) (t c.lambdas.left) domains binder.is app ∙ inv.domains;
      numbers = number_gathered c.lambdas.numbers.items c.push-in-App.new.self.items c.number_of.result (t c.in-Some.domain) (t c.in-Some.body) (t c.lambdas.inside)
          (t c.in-App.x) (t c.in-App.others) (t c.lambdas.left) numbers c.number_of.ensures binder.is app ∙ inv.numbers;
    }
