use Rattle.std.proofs.Common.{◌≡◌, length, map, All}
use Rattle.lk_env.specs.Units.{type_at, IsTypeIn}
use Rattle.lk_store.specs.Contents.{Extends}
use Rattle.lk_auxiliary.specs.Auxiliaries.{auxs_at}
use Rattle.lk_auxiliary.specs.Settings.{setting_at}
use Rattle.lk_enlarge.specs.Occurrences.{AreOccurrences}
use Rattle.lk_enlarge.specs.Owns.{own_type}
use Rattle.lk_enlarge.proofs.Each.{LeadsEach}
use Rattle.lk_enlarge.proofs.types.own_types.Given as goal

abbrev pub invariant-types : goal.invariant-types
invariant-types g l =
    let before = g.F.Terms.contents l.fn.asks in
    let now = g.F.Terms.contents l.asks in
    let w = (g.F.Asks.standing l.fn.asks).place in
    let plain = setting_at before l.fn.setting in
    record {
      keeps : Extends before now;
      same_rest : g.F.Terms.rest l.asks ≡ g.F.Terms.rest l.fn.asks;
      met : AreOccurrences w plain now l.fn.setting l.met;
      made_in : All (IsTypeIn now) l.made.items;
      left_in : All (IsTypeIn before) l.left;
      leads : LeadsEach w (own_type plain) (map (type_at before) l.fn.stated) (auxs_at before l.fn.met.auxs.items)
          (map (type_at now) l.made.items) (map (type_at before) l.left) (auxs_at now l.met.auxs.items);
    }

abbrev pub decreases-types : goal.decreases-types
decreases-types g l = length l.left
