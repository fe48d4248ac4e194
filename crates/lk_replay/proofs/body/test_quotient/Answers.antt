use Rattle.std.proofs.Common.{rules, ◌≡◌, ℕ, map, refl, sym, ap, ◌∙◌}
use Rattle.std.specs.Prelude.{Vec}
use Rattle.std.specs.declared.alloc.Global.{Global}
use Rattle.lk_questions.specs.QuotientUnits.{quot_steps}
use Rattle.lk_store.specs.Contents.{name_at, tree_at}
use Rattle.lk_env.specs.Units.{declaration_at}
use Rattle.lk_replay.proofs.QuotientTests.{quotient_met, quotient_refused}
use Rattle.lk_replay.proofs.body.test_quotient.Goals as goal

pub returns-in-Ok : goal.returns-in-Ok
returns-in-Ok g c =
    let k = g.L.Terms.contents c.args.looks.now in
    let sight = g.L.Looks.sight (g.L.Terms.rest c.args.looks.now) in
    let last = (g.L.Looks.sight (g.L.Terms.rest c.check.new.looks)).last in
    let d = declaration_at k c.args.declaration.now in
    let levels = c.deref-2.ensures.value ∙ ap (λ (v : Vec ℕ Global). v.items) c.deref.ensures in
    let program : quot_steps (name_at k c.from-name.result) (map (name_at k) c.deref-2.result.now) (tree_at k c.from-ty.result) ≡ quot_steps d.name d.levels d.type =
    rw (c.from-name.ensures, levels, c.from-ty.ensures) refl in
    let met = rw c.in-Ok.is at c.in_ok-check.ensures.comes_to in
    record {
      keeps = search rules;
      stays = search rules;
      ok = c.ended.ensures ∙ sym (quotient_met sight.basis.place c.args.left.now d _ program sight.last last tt met);
    }

pub returns-in-Err : goal.returns-in-Err
returns-in-Err g c =
    let k = g.L.Terms.contents c.args.looks.now in
    let sight = g.L.Looks.sight (g.L.Terms.rest c.args.looks.now) in
    let d = declaration_at k c.args.declaration.now in
    let levels = c.deref-2.ensures.value ∙ ap (λ (v : Vec ℕ Global). v.items) c.deref.ensures in
    let program : quot_steps (name_at k c.from-name.result) (map (name_at k) c.deref-2.result.now) (tree_at k c.from-ty.result) ≡ quot_steps d.name d.levels d.type =
    rw (c.from-name.ensures, levels, c.from-ty.ensures) refl in
    let fails = rw c.in-Err.is at c.in_ok-check.ensures.comes_to in
    record {
      keeps = search rules;
      stays = search rules;
      ok = sym (quotient_refused sight.basis.place c.args.left.now d _ program sight.last c.in-Err.field-0 fails);
    }
