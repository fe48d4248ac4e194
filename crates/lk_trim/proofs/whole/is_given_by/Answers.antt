use Rattle.std.proofs.Common.{ℕ, sym, ap, ◌∙◌}
use Rattle.std.specs.Prelude.{option_map}
use Rattle.lk_store.specs.Contents.{name_at}
use Rattle.lk_store.specs.Store.{contents_of}
use Rattle.lk_env.specs.Units.{library_of}
use Rattle.lk_env.proofs.Given.{unit_is}
use Rattle.lk_trim.specs.Whole.{is_unit}
use Rattle.lk_trim.proofs.whole.is_given_by.Goals as goal

pub returns-in-Some : goal.returns-in-Some
returns-in-Some c =
    let x = name_at (contents_of c.args.library.now.tables) c.args.name in
    ap (is_unit c.args.unit) (sym (unit_is (library_of c.args.library.now) x ∙ ap (option_map (λ (p : ℕ × ℕ). p.0)) (sym c.in-Some.ensures)))

pub returns-in-None : goal.returns-in-None
returns-in-None c =
    let x = name_at (contents_of c.args.library.now.tables) c.args.name in
    ap (is_unit c.args.unit) (sym (unit_is (library_of c.args.library.now) x ∙ ap (option_map (λ (p : ℕ × ℕ). p.0)) (sym c.in-None.ensures)))
