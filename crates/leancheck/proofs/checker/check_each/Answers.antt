use Rattle.std.proofs.Common.{◌≡◌, ◌+◌, ◌++◌, ◌∷◌, [], ◌∙◌, Some, length, slice_index_or, rules, sym, subst, ap, arith}
use Rattle.std.specs.Prelude.{slice_get}
use Rattle.std.proofs.lemmas.List.{length_push}
use Rattle.std.proofs.lemmas.Option.{slice_get-get_or}
use Rattle.lk_env.specs.Units.{library_of}
use Rattle.leancheck.proofs.Changes.{AreChecks, checked_more, checked_all}
use Rattle.leancheck.proofs.InOrder.{plain_held}
use Rattle.leancheck.proofs.checker.check_each.Goals as goal

pub loop-i-preserved : goal.loop-i-preserved
loop-i-preserved g c =
    let l = c.args.library.now in
    let units = c.args.units.now in
    let i = c.loop-i.i in
    let number = slice_index_or units i 0 in
    let held = c.loop-i.verdicts.items in
    let said = c.check_unit-verdict.result in
    let lt = c.loop-i-test.true in
    let at : slice_get units (length held) ≡ Some number = ap (slice_get units) c.loop-i.invariant.as_many ∙ slice_get-get_or units i 0 lt in
    let right = plain_held l c.args.steps number said (c.requires.units i 0 lt) c.check_unit-verdict.ensures.right in
    let grown : c.push.new.self.items ≡ held ++ said ∷ [] = search rules in
    record {
      library = c.check_unit-verdict.ensures.library ∙ c.loop-i.invariant.library;
      as_many = ap length grown ∙ length_push held said ∙ ap (λ k. k + 1) c.loop-i.invariant.as_many;
      checks = subst (AreChecks (library_of l) c.args.steps units) (sym grown)
          (checked_more (library_of l) c.args.steps units held said number c.loop-i.invariant.checks at right);
    }

pub returns : goal.returns
returns g c =
    let i_is : c.loop-i.i ≡ length c.args.units.now = omega (arith, c.loop-i-test.false, c.loop-i.auto.i-end) in
    checked_all (library_of c.args.library.now) c.args.steps c.args.units.now c.loop-i.verdicts.items (c.loop-i.invariant.as_many ∙ i_is) c.loop-i.invariant.checks
