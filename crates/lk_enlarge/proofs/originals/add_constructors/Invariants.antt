use Rattle.std.proofs.Common.{◌≡◌, List, length, map, All}
use Rattle.lk_env.specs.Units.{constructor_at, IsConstructorIn}
use Rattle.lk_inductive.specs.Restore.{ctors_stand}
use Rattle.lk_store.specs.Contents.{Contents, Extends}
use Rattle.lk_restore.specs.declared.originals.Original.{Original}
use Rattle.lk_auxiliary.specs.Auxiliaries.{aux_at}
use Rattle.lk_auxiliary.specs.Settings.{setting_at}
use Rattle.lk_enlarge.specs.Originals.{Adds}
use Rattle.lk_enlarge.proofs.originals.add_constructors.Given as goal

-- what adds those that are left, behind those that were added, adds all
abbrev pub invariant-constructors : goal.invariant-constructors
invariant-constructors g l =
    let before = g.T.Terms.contents l.fn.terms in
    let now = g.T.Terms.contents l.terms in
    let s = setting_at before l.fn.setting in
    let stand = ctors_stand l.fn.number (aux_at before l.fn.aux) in
    record {
      keeps : Extends before now;
      same_rest : g.T.Terms.rest l.terms ≡ g.T.Terms.rest l.fn.terms;
      left_in : All (IsConstructorIn before) l.left;
      leads : (d : Contents) (ns : List Original) → Adds now d s l.originals.items ns (stand (map (constructor_at before) l.left))
          → Adds before d s l.fn.originals.items ns (stand (map (constructor_at before) l.fn.aux.own.constructors.items));
    }

abbrev pub decreases-constructors : goal.decreases-constructors
decreases-constructors g l = length l.left
