use Rattle.std.proofs.Common.{rules, ◌≡◌, Some, subst}
use Rattle.std.specs.Prelude.{IfOk}
use Rattle.lk_rulebook.specs.Place.{Entry as PlainEntry}
use Rattle.lk_store.specs.Contents.{list_at, tree_at}
use Rattle.lk_store.specs.Layers.{layers_contents, Layers}
use Rattle.lk_store.specs.Store.{contents_of}
use Rattle.lk_env.specs.Entries.{plain_entry}
use Rattle.lk_ask.specs.Constants.{IsAtLevels}
use Rattle.lk_ask.specs.Outlook.{Outlook}
use Rattle.lk_engine.proofs.Lookouts.{made_stands}
use Rattle.lk_engine.proofs.derivations.EngineEngineCalls.at_levels.Goals as goal

pub invariant_of-self : goal.invariant_of-self
invariant_of-self g c = made_stands c.at_levels.ensures.rest c.at_levels.ensures.keeps
    c.self.invariant

pub returns : goal.returns
returns g c = record {
  keeps = search rules;
  rest = search rules;
  known = search rules;
  ok =
      let after = layers_contents c.at_levels.new.self.terms in
      subst (λ (s : Outlook Layers). IfOk c.at_levels.result (λ r. (x : PlainEntry)
      → plain_entry (contents_of s.scope.tables) s.scope.units c.args.entry ≡ Some x
      → IsAtLevels after x.levels (list_at (layers_contents s.terms) c.args.levels)
      (tree_at (layers_contents s.terms) c.args.e) r)) c.self.view_is c.at_levels.ensures.ok;
}
