use Rattle.std.proofs.Common.{rules, ◌≡◌, map, option_map, ap, sym, ◌∙◌}
use Rattle.lk_questions.specs.Tests.{passes}
use Rattle.lk_written.specs.Section.{laws_read}
use Rattle.lk_store.specs.Contents.{tree_at}
use Rattle.lk_store.proofs.Extending.{Extends-trans}
use Rattle.lk_laws.specs.Sides.{law_at}
use Rattle.lk_premises.specs.Claims.{claims_at}
use Rattle.lk_premises.proofs.Staying.{claims_known, claims_same}
use Rattle.lk_replay.specs.Laws.{law_read}
use Rattle.lk_replay.proofs.LawForms.{law_on, law_stops}
use Rattle.lk_replay.proofs.laws.test_each.Goals as goal

pub laws-preserved : goal.laws-preserved
laws-preserved g c =
    let start = g.L.Terms.contents c.args.looks.now in
    let before = g.L.Terms.contents c.laws.looks in
    let after = g.L.Terms.contents c.after_law.new.looks in
    let w = (g.L.Looks.sight (g.L.Terms.rest c.args.looks.now)).basis.place in
    let was = c.laws.invariant in
    let once = c.in_ok-after.ensures in
    let law = c.in-Some.law.now in
    let more = c.in-Some.more.now in
    let split = c.in-Some.ensures.cases.0 in
    let ps = claims_at start c.args.claims.now in
    let v = tree_at start c.args.value in
    let js = c.laws.premises.now in
    let value = was.grown.trees.same c.args.value c.requires.value_in in
    let stated = claims_same start before was.grown c.args.claims.now c.requires.claims_in in
    let read : law_read w ps js (law_at v law) ≡ option_map (λ r. r.now) c.in_ok-after.field-0 =
    sym (ap (λ b. law_read b.place (claims_at before c.args.claims.now) js (law_at (tree_at before c.args.value) law)) was.stays
    ∙ ap (λ x. law_read w x js (law_at (tree_at before c.args.value) law)) stated
    ∙ ap (λ t. law_read w ps js (law_at t law)) value)
    ∙ once.read in
    let some = rw c.in-Some-2.is at read in
    let on = law_on w ps (law_at v law) (map (law_at v) more) js c.in-Some-2.after.now some in
    record {
      grown = Extends-trans _ _ _ was.grown once.keeps;
      stays = once.stays ∙ was.stays;
      claims_in = claims_known before after once.keeps c.args.claims.now was.claims_in;
      value_in = search rules;
      is = sym on ∙ ap (λ zs. laws_read w ps js (map (law_at v) zs)) (sym split) ∙ was.is;
    }

pub returns-in-None : goal.returns-in-None
returns-in-None g c =
    let start = g.L.Terms.contents c.args.looks.now in
    let before = g.L.Terms.contents c.laws.looks in
    let w = (g.L.Looks.sight (g.L.Terms.rest c.args.looks.now)).basis.place in
    let was = c.laws.invariant in
    let once = c.in_ok-after.ensures in
    let law = c.in-Some.law.now in
    let more = c.in-Some.more.now in
    let split = c.in-Some.ensures.cases.0 in
    let ps = claims_at start c.args.claims.now in
    let v = tree_at start c.args.value in
    let js = c.laws.premises.now in
    let value = was.grown.trees.same c.args.value c.requires.value_in in
    let stated = claims_same start before was.grown c.args.claims.now c.requires.claims_in in
    let read : law_read w ps js (law_at v law) ≡ option_map (λ r. r.now) c.in_ok-after.field-0 =
    sym (ap (λ b. law_read b.place (claims_at before c.args.claims.now) js (law_at (tree_at before c.args.value) law)) was.stays
    ∙ ap (λ x. law_read w x js (law_at (tree_at before c.args.value) law)) stated
    ∙ ap (λ t. law_read w ps js (law_at t law)) value)
    ∙ once.read in
    let none = rw c.in-None.is at read in
    record {
      keeps = Extends-trans _ _ _ was.grown once.keeps;
      stays = once.stays ∙ was.stays;
      ok = sym (ap passes (sym was.is ∙ ap (λ zs. laws_read w ps js (map (law_at v) zs)) split
          ∙ law_stops w ps (law_at v law) (map (law_at v) more) js none));
    }
