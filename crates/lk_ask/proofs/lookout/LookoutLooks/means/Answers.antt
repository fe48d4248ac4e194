use Rattle.std.proofs.Common.{rules, ◌≡◌, None, subst}
use Rattle.std.specs.Prelude.{IfErr}
use Rattle.lk_store.specs.Contents.{name_at}
use Rattle.lk_store.specs.Store.{contents_of}
use Rattle.lk_env.specs.Entries.{IsAnswer}
use Rattle.lk_env.specs.StoredScope.{lent_by}
use Rattle.lk_env.specs.Scopes.{place_in}
use Rattle.lk_ask.proofs.Looking.{refused_means}
use Rattle.lk_ask.proofs.lookout.LookoutLooks.means.Goals as goal

pub returns : goal.returns
returns g c = record {
  over = search rules;
  known = search rules;
  answer =
      subst (λ s. IsAnswer (contents_of s.scope.tables) s.scope.units (place_in s.scope s.site)
      (name_at (g.T.Terms.contents s.terms) c.args.name) c.means.result)
      c.self.view_is c.means.ensures.answer;
  refused =
      subst (λ s. IfErr c.means.result (λ r. (place_in s.scope s.site).means
      (name_at (g.T.Terms.contents s.terms) c.args.name) ≡ None))
      c.self.view_is (refused_means (lent_by c.self.inside.scope) (place_in c.self.inside.scope c.self.inside.site) _ c.means.result c.means.ensures.answer);
}
