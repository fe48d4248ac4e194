use Rattle.std.proofs.Common.{rules, ap, subst, ◌∙◌}
use Rattle.std.specs.Prelude.{IfOk, IfErr}
use Rattle.lk_store.specs.Contents.{name_at}
use Rattle.lk_env.specs.StoredScope.{lent_by}
use Rattle.lk_env.specs.Scopes.{place_in}
use Rattle.lk_ask.specs.Constants.{IsFound, IsRefusedBy}
use Rattle.lk_ask.proofs.lookout.LookoutLooks.look.Goals as goal

pub returns : goal.returns
returns g c = record {
  contents = search rules;
  stays =
      let inside = c.self.inside in
      ap (λ n. record { library = lent_by inside.scope; place = place_in inside.scope inside.site; left = n; beside = (inside.scope, inside.site, g.T.Terms.rest inside.terms) }) c.look_up.ensures.left
      ∙ ap (λ s. record { library = lent_by s.scope; place = place_in s.scope s.site; left = s.meter.left; beside = (s.scope, s.site, g.T.Terms.rest s.terms) }) c.self.view_is;
  over = search rules;
  known = search rules;
  found =
      subst (λ s. IfOk c.look_up.result (λ e. IsFound (lent_by s.scope) (place_in s.scope s.site) (name_at (g.T.Terms.contents s.terms) c.args.name) s.meter.last e c.look_up.new.meter.last))
      c.self.view_is c.look_up.ensures.found;
  refused =
      subst (λ s. IfErr c.look_up.result (IsRefusedBy c.args.missing (place_in s.scope s.site) (name_at (g.T.Terms.contents s.terms) c.args.name))) c.self.view_is c.look_up.ensures.refused;
}
