use Rattle.std.proofs.Common.{◌≡◌, ◌≤◌, ◌-◌, map, All}
use Rattle.lk_env.specs.Units.{type_at, IsTypeIn}
use Rattle.lk_store.specs.Contents.{Extends}
use Rattle.lk_auxiliary.specs.Auxiliaries.{auxs_at}
use Rattle.lk_auxiliary.specs.Settings.{setting_at}
use Rattle.lk_enlarge.specs.Occurrences.{AreOccurrences}
use Rattle.lk_enlarge.proofs.Drafts.{LeadsTypes}
use Rattle.lk_enlarge.proofs.auxiliary_types.auxiliary_types.Given as goal

abbrev pub invariant-types : goal.invariant-types
invariant-types g l =
    let before = g.F.Terms.contents l.fn.asks in
    let now = g.F.Terms.contents l.asks in
    let w = (g.F.Asks.standing l.fn.asks).place in
    let plain = setting_at before l.fn.setting in
    record {
      keeps : Extends before now;
      same_rest : g.F.Terms.rest l.asks ≡ g.F.Terms.rest l.fn.asks;
      met : AreOccurrences w plain now l.fn.setting l.met;
      made_in : All (IsTypeIn now) l.made.items;
      within : l.number ≤ 1025;
      leads : LeadsTypes w plain 1025 (auxs_at before l.fn.met.auxs.items) (map (type_at now) l.made.items) (1025 - l.number) l.number (auxs_at now l.met.auxs.items);
    }

abbrev pub decreases-types : goal.decreases-types
decreases-types g l = 1025 - l.number
