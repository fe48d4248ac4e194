use Rattle.std.proofs.Common.{sym, ap, ◌∙◌, subst}
use Rattle.std.proofs.lemmas.Result.{err_from_is_err_and}
use Rattle.lk_store.specs.Contents.{Extends}
use Rattle.lk_store.specs.Store.{contents_of}
use Rattle.lk_env.specs.StoredLibrary.{StoredLibrary}
use Rattle.lk_env.specs.Units.{library_of}
use Rattle.lk_book.proofs.TextsRead.{units_same, budgets_same, library_same, text_added}
use Rattle.lk_book.proofs.text.add_text.Goals as goal

pub returns-in_err-units-clause-budgets : goal.returns-in_err-units-clause-budgets
returns-in_err-units-clause-budgets c =
    let e = c.in_err-units.ensures in
    budgets_same c.args.library.now c.text_units.new.store e.keeps e.rest c.units-units.result.now c.units-units.ensures.value c.units-units.ensures.known ∙ c.requires

pub returns-in_err-units-clause-units_stay : goal.returns-in_err-units-clause-units_stay
returns-in_err-units-clause-units_stay c =
    let e = c.in_err-units.ensures in
    let p = err_from_is_err_and c.from_residual.result c.from_residual.ensures.1 in
    rw p.1 (units_same c.args.library.now c.text_units.new.store e.keeps e.rest c.units-units.result.now c.units-units.ensures.value c.units-units.ensures.known)

pub returns-in_err-units-clause-library_stays : goal.returns-in_err-units-clause-library_stays
returns-in_err-units-clause-library_stays c =
    let e = c.in_err-units.ensures in
    let p = err_from_is_err_and c.from_residual.result c.from_residual.ensures.1 in
    rw p.1 (library_same c.args.library.now c.text_units.new.store e.keeps e.rest c.units-units.result.now c.units-units.ensures.value c.units-units.ensures.known)

pub add_units-requires-clause-budgets : goal.add_units-requires-clause-budgets
add_units-requires-clause-budgets c =
    let e = c.in_ok-units.ensures in
    budgets_same c.args.library.now c.text_units.new.store e.keeps e.rest c.units-units.result.now c.units-units.ensures.value c.units-units.ensures.known ∙ c.requires

pub returns-in-Ok-clause-keeps : goal.returns-in-Ok-clause-keeps
returns-in-Ok-clause-keeps c =
    subst (λ (l : StoredLibrary). Extends (contents_of c.args.library.now.tables) (contents_of l.tables)) (sym c.in-Ok.ensures.ok) c.in_ok-units.ensures.keeps

pub returns-in-Ok-clause-budgets : goal.returns-in-Ok-clause-budgets
returns-in-Ok-clause-budgets c =
    let e = c.in_ok-units.ensures in
    ap (λ (l : StoredLibrary). l.budgets) c.in-Ok.ensures.ok ∙ budgets_same c.args.library.now c.text_units.new.store e.keeps e.rest c.units-units.result.now c.units-units.ensures.value c.units-units.ensures.known ∙ c.requires

pub returns-in-Ok-clause-ok : goal.returns-in-Ok-clause-ok
returns-in-Ok-clause-ok c =
    let e = c.in_ok-units.ensures in
    text_added c.args.library.now c.text_units.new.store e.keeps e.rest c.units-units.result.now c.units-units.ensures.value c.units-units.ensures.known c.add_units.new.self c.in_ok-units.units.items c.args.text.now c.in-Ok.ensures.ok e.units

pub returns-in-Err-clause-keeps : goal.returns-in-Err-clause-keeps
returns-in-Err-clause-keeps c =
    subst (λ (l : StoredLibrary). Extends (contents_of c.args.library.now.tables) (contents_of l.tables)) (sym c.in-Err.ensures.err) c.in_ok-units.ensures.keeps

pub returns-in-Err-clause-budgets : goal.returns-in-Err-clause-budgets
returns-in-Err-clause-budgets c =
    let e = c.in_ok-units.ensures in
    ap (λ (l : StoredLibrary). l.budgets) c.in-Err.ensures.err ∙ budgets_same c.args.library.now c.text_units.new.store e.keeps e.rest c.units-units.result.now c.units-units.ensures.value c.units-units.ensures.known ∙ c.requires

pub returns-in-Err-clause-units_stay : goal.returns-in-Err-clause-units_stay
returns-in-Err-clause-units_stay c =
    let e = c.in_ok-units.ensures in
    ap (λ (l : StoredLibrary). l.units) c.in-Err.ensures.err ∙ units_same c.args.library.now c.text_units.new.store e.keeps e.rest c.units-units.result.now c.units-units.ensures.value c.units-units.ensures.known

pub returns-in-Err-clause-library_stays : goal.returns-in-Err-clause-library_stays
returns-in-Err-clause-library_stays c =
    let e = c.in_ok-units.ensures in
    ap library_of c.in-Err.ensures.err ∙ library_same c.args.library.now c.text_units.new.store e.keeps e.rest c.units-units.result.now c.units-units.ensures.value c.units-units.ensures.known
