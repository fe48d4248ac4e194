use Rattle.std.proofs.Common.{◌≡◌, Option, ap, sym, subst, ◌∙◌}
use Rattle.std.specs.Prelude.{IfOk}
use Rattle.lk_questions.specs.Tests.{passes}
use Rattle.lk_written.specs.Equal.{eq_str_left}
use Rattle.lk_store.specs.Contents.{text_at, tree_at}
use Rattle.lk_premises.specs.Claims.{claims_at}
use Rattle.lk_replay_equal.specs.Texts.{text_and}
use Rattle.lk_replay_equal.proofs.Expanding.{text_left}
use Rattle.lk_replay_equal.proofs.texts.test_text_left.Goals as goal

pub returns-in-Str : goal.returns-in-Str
returns-in-Str g c =
    let start = g.L.Terms.contents c.args.looks.now in
    let w = (g.L.Looks.sight (g.L.Terms.rest c.args.looks.now)).basis.place in
    let ps = claims_at start c.args.claims.now in
    let js = c.args.left.now in
    let s = text_at start c.in-Str.text in
    let b = tree_at start c.args.b in
    let read : eq_str_left w ps js (tree_at start c.args.a) b ≡ text_and w ps js s b = ap (λ t. eq_str_left w ps js t b) (sym c.in-Str.ensures.tree) ∙ text_left w ps js s b in
    let t = c.expansion_equals.ensures in
    record {
      keeps = t.keeps;
      stays = t.stays;
      ok = subst (λ (o : Option (Unit {0})). IfOk c.expansion_equals.result (λ r. r ≡ passes o)) (sym read) t.ok;
    }
