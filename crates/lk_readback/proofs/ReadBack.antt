-- The canonical text of units spells these units.
use Rattle.std.proofs.Common.{◌≡◌, ℕ, List, ap, sym, subst, ◌∙◌}
use Rattle.std.specs.Prelude.{All, Ok, Some, slice_get}
use Rattle.lk_rulebook.specs.Units.{Library}
use Rattle.lk_env.specs.Budgets.{StatedBudget}
use Rattle.lk_uses.specs.Listed.{units_at}
use Rattle.lk_book.specs.File.{Export, after, closed, export_stated, export_of}
use Rattle.lk_trim.specs.Whole.{kept_of, canonical_text}
use Rattle.lk_readback.specs.Statable.{AreStatable, IsBudget}
use Rattle.lk_readback.specs.Within.{IsWithinLimits}
use Rattle.lk_readback.specs.Stated.{kept_units, kept_budgets}
use Rattle.lk_readback.proofs.Writing.{canonical_is_read}
use Rattle.lk_readback.proofs.Families.{stated_faultless, stated_closed, stated_again}
use Rattle.lk_readback.proofs.Picked.{kept_units_are, picked_statable, kept_budgets_are}

abbrev export : Library → List StatedBudget → Export
export us bs = record { units = us; budgets = bs }

pub read_back : (us : Library) (bs : List StatedBudget) (ns : List ℕ) → AreStatable us
    → All IsBudget bs
    → ((i j n : ℕ) → slice_get ns i ≡ Some n → slice_get ns j ≡ Some n → i ≡ j)
    → IsWithinLimits (kept_of us bs ns)
    → export_of (canonical_text (kept_of us bs ns))
    ≡ Ok (record { units = units_at us ns; budgets = kept_budgets (kept_of us bs ns) })
read_back us bs ns statable budgets apart within =
    let ks = kept_of us bs ns in
    let kept : AreStatable (kept_units ks) =
    subst AreStatable (sym (kept_units_are us bs ns))
    (picked_statable us ns statable (record { apart = apart })) in
    let whole =
    canonical_is_read ks kept.each (kept_budgets_are us bs ns statable budgets)
    (stated_faultless (kept_units ks) kept) within in
    let s = whole.course.state in
    let again =
    stated_again (kept_units ks) s.lines kept whole.lines ∙ kept_units_are us bs ns in
    ap (λ r. after r (λ c. export_stated c.state)) whole.read
    ∙ ap (λ o. after (closed o s.lines) (λ x. Ok (export x s.budgets)))
    (stated_closed (kept_units ks) s.lines kept whole.lines)
    ∙ ap (λ x. Ok (export x s.budgets)) again
    ∙ ap (λ x. Ok (export (units_at us ns) x)) whole.budgets
