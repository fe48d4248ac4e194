use Rattle.std.proofs.Common.{◌≡◌, ◌+◌, ◌<◌, ◌∙◌, Some, map, length, slice_index_or, sym, subst, ap, arith}
use Rattle.std.specs.Prelude.{slice_get, option_map}
use Rattle.std.proofs.lemmas.List.{length-map, map-set}
use Rattle.std.proofs.lemmas.Option.{slice_get-map, slice_get-get_or}
use Rattle.lk_verdict.specs.Held.{verdict}
use Rattle.lk_verdict.specs.declared.verdict.Verdict.TheVariants.{Yes}
use Rattle.lk_recheck.specs.Plans.{ArePutTo}
use Rattle.lk_recheck.proofs.Plans.{one_put}
use Rattle.lk_recheck.proofs.recheck.put_verdicts.Goals as goal

pub loop-i-preserved : goal.loop-i-preserved
loop-i-preserved c =
    let i = c.loop-i.i in
    let numbers = c.args.numbers.now in
    let answers = c.args.answers.now in
    let old = c.args.verdicts.now.items in
    let held = c.loop-i.verdicts.items in
    let number = slice_index_or numbers i 0 in
    let answer = slice_index_or answers i Yes in
    let lt = c.loop-i-test.true in
    let here : i < length answers = omega (arith, lt, c.requires.as_many) in
    let count = length-map old verdict in
    let low = c.requires.within i 0 lt in
    let within : number < length (map verdict old) = omega (arith, count, low) in
    let at_answer : slice_get (map verdict answers) i ≡ Some (verdict answer) = slice_get-map verdict answers i ∙ ap (option_map verdict) (slice_get-get_or answers i Yes here) in
    subst (λ vs. ArePutTo numbers (map verdict answers) (i + 1) (map verdict old) vs) (sym (map-set verdict held number answer))
    (one_put numbers (map verdict answers) (map verdict old) (map verdict held) i number (verdict answer) c.requires.rising within (slice_get-get_or numbers i 0 lt) at_answer c.loop-i.invariant)
