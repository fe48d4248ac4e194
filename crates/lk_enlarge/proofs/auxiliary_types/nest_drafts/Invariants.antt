use Rattle.std.proofs.Common.{◌≡◌, length, map, All}
use Rattle.lk_env.specs.Units.{constructor_at, IsConstructorIn}
use Rattle.lk_store.specs.Contents.{Extends}
use Rattle.lk_auxiliary.specs.Auxiliaries.{auxs_at}
use Rattle.lk_auxiliary.specs.Settings.{setting_at}
use Rattle.lk_enlarge.specs.Occurrences.{AreOccurrences}
use Rattle.lk_enlarge.specs.Drafts.{draft_at, IsDraftIn}
use Rattle.lk_enlarge.specs.DraftsNested.{nest_draft}
use Rattle.lk_enlarge.proofs.Each.{LeadsEach}
use Rattle.lk_enlarge.proofs.auxiliary_types.nest_drafts.Given as goal

abbrev pub invariant-constructors : goal.invariant-constructors
invariant-constructors g l =
    let before = g.F.Terms.contents l.fn.asks in
    let now = g.F.Terms.contents l.asks in
    let w = (g.F.Asks.standing l.fn.asks).place in
    let plain = setting_at before l.fn.setting in
    record {
      keeps : Extends before now;
      same_rest : g.F.Terms.rest l.asks ≡ g.F.Terms.rest l.fn.asks;
      met : AreOccurrences w plain now l.fn.setting l.met;
      made_in : All (IsConstructorIn now) l.made.items;
      left_in : All (IsDraftIn before) l.left;
      leads : LeadsEach w (nest_draft plain l.fn.number) (map (draft_at before) l.fn.drafts) (auxs_at before l.fn.met.auxs.items)
          (map (constructor_at now) l.made.items) (map (draft_at before) l.left) (auxs_at now l.met.auxs.items);
    }

abbrev pub decreases-constructors : goal.decreases-constructors
decreases-constructors g l = length l.left
