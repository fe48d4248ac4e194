use Rattle.std.proofs.Common.{◌≡◌, List, [], length, All}
use Rattle.lk_inductive.specs.Restore.{all_stand}
use Rattle.lk_store.specs.Contents.{Contents, name_at, Extends}
use Rattle.lk_restore.specs.declared.originals.Original.{Original}
use Rattle.lk_auxiliary.specs.Auxiliaries.{auxs_at, IsAuxiliaryIn}
use Rattle.lk_auxiliary.specs.Settings.{setting_at}
use Rattle.lk_enlarge.specs.Originals.{Adds}
use Rattle.lk_enlarge.proofs.originals.originals_of.Given as goal

-- what adds those that are left, behind those that were added, adds all
abbrev pub invariant-auxs : goal.invariant-auxs
invariant-auxs g l =
    let before = g.T.Terms.contents l.fn.terms in
    let now = g.T.Terms.contents l.terms in
    let s = setting_at before l.fn.setting in
    let first = name_at before l.fn.first in
    record {
      keeps : Extends before now;
      same_rest : g.T.Terms.rest l.terms ≡ g.T.Terms.rest l.fn.terms;
      left_in : All (IsAuxiliaryIn before) l.left;
      leads : (d : Contents) (ns : List Original) → Adds now d s l.originals.items ns (all_stand first l.number (auxs_at before l.left))
          → Adds before d s [] ns (all_stand first 0 (auxs_at before l.fn.stand));
    }

abbrev pub decreases-auxs : goal.decreases-auxs
decreases-auxs g l = length l.left
