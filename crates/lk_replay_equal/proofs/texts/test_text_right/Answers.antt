use Rattle.std.proofs.Common.{◌≡◌, Option, ap, sym, subst, ◌∙◌}
use Rattle.std.specs.Prelude.{IfOk}
use Rattle.lk_questions.specs.Tests.{passes}
use Rattle.lk_written.specs.Equal.{eq_str_right}
use Rattle.lk_store.specs.Contents.{text_at, tree_at}
use Rattle.lk_premises.specs.Claims.{claims_at}
use Rattle.lk_replay_equal.specs.Texts.{and_text}
use Rattle.lk_replay_equal.proofs.Expanding.{text_right}
use Rattle.lk_replay_equal.proofs.texts.test_text_right.Goals as goal

pub returns-in-Str : goal.returns-in-Str
returns-in-Str g c =
    let start = g.L.Terms.contents c.args.looks.now in
    let w = (g.L.Looks.sight (g.L.Terms.rest c.args.looks.now)).basis.place in
    let ps = claims_at start c.args.claims.now in
    let js = c.args.left.now in
    let s = text_at start c.in-Str.text in
    let a = tree_at start c.args.a in
    let read : eq_str_right w ps js a (tree_at start c.args.b) ≡ and_text w ps js a s = ap (λ t. eq_str_right w ps js a t) (sym c.in-Str.ensures.tree) ∙ text_right w ps js s a in
    let t = c.equals_expansion.ensures in
    record {
      keeps = t.keeps;
      stays = t.stays;
      ok = subst (λ (o : Option (Unit {0})). IfOk c.equals_expansion.result (λ r. r ≡ passes o)) (sym read) t.ok;
    }
