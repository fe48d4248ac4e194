-- The lines of units state these units, without a fault.
use Rattle.std.proofs.Common.{◌≡◌, List, None, ap, subst, sym, ◌∙◌, map}
use Rattle.std.specs.List.{AllByRecursion}
use Rattle.lk_tree.specs.Mentions.{same_name}
use Rattle.lk_rulebook.specs.Units.{Library}
use Rattle.lk_members.specs.Faults.{first_open}
use Rattle.lk_members.specs.Units.{units_from}
use Rattle.lk_members.specs.Plain.{PlainLine, unit_of, library_stated}
use Rattle.lk_readback.specs.Statable.{AreStatable}
use Rattle.lk_readback.specs.Stated.{all_stated, said_by, AreFaultless}
use Rattle.lk_readback.proofs.Belonging.{statable_units, statable_apart}
use Rattle.lk_readback.proofs.LookedUp.{all_found}
use Rattle.lk_readback.proofs.Faultless.{clear_faultless, units_sound, units_clear}
use Rattle.lk_readback.proofs.Closed.{IsClosed, all_closed, none_open}
use Rattle.lk_readback.proofs.Again.{lines, units_said, units_again}

pub stated_faultless : (us : Library) → AreStatable us → AreFaultless (all_stated us)
stated_faultless us statable =
    let units = statable_units us statable in
    clear_faultless (all_stated us) (units_sound us units)
    (units_clear us units (statable_apart us statable))

pub stated_closed : (us : Library) (ls : List PlainLine) → AreStatable us
    → said_by ls ≡ all_stated us → first_open same_name ls ls ≡ None
stated_closed us ls statable said =
    let units = statable_units us statable in
    let found = all_found us ls units (statable_apart us statable) said in
    none_open ls ls
    (subst (AllByRecursion (IsClosed ls)) (sym said) (all_closed ls us units found))

pub stated_again : (us : Library) (ls : List PlainLine) → AreStatable us
    → said_by ls ≡ all_stated us → library_stated ls ≡ us
stated_again us ls statable said =
    let units = statable_units us statable in
    let apart = statable_apart us statable in
    ap (map unit_of)
    (units_said ls ls ∙ ap (λ ms. units_from same_name ls (lines ms)) said)
    ∙ units_again ls us units apart (all_found us ls units apart said)
