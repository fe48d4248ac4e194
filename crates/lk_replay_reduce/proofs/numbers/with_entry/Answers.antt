use Rattle.std.proofs.Common.{◌≡◌, true, false, Some, option_map, refl, sym, ap, subst, ◌∙◌, IfOk}
use Rattle.lk_rulebook.specs.Literals.{may_give}
use Rattle.lk_questions.specs.Tests.{passes}
use Rattle.lk_written.specs.Reducing.{no_levels}
use Rattle.lk_store.specs.Contents.{name_at, list_at, tree_at}
use Rattle.lk_store.specs.Store.{contents_of}
use Rattle.lk_store.proofs.Extending.{Extends-trans}
use Rattle.lk_lit.specs.Operations.{named_op}
use Rattle.lk_premises.specs.Claims.{claims_at}
use Rattle.lk_premises.proofs.Staying.{claims_same}
use Rattle.lk_replay_reduce.specs.Numbers.{shaped_read, entry_read}
use Rattle.lk_replay_reduce.specs.Operations.{operation_at}
use Rattle.lk_replay_reduce.proofs.NumberForms.{entry_is}
use Rattle.lk_replay_reduce.proofs.numbers.with_entry.Goals as goal

pub returns-then-not-may_give : goal.returns-then-not-may_give
returns-then-not-may_give g c y h =
    let d = g.L.Terms.contents c.args.looks.now in
    let t = tree_at d in
    let old = (g.L.Looks.sight (g.L.Terms.rest c.args.looks.now)).basis in
    let made = c.in_ok-operation.ensures.made in
    let name = name_at d c.args.front.name in
    let ls = list_at d c.args.front.levels in
    let op = operation_at c.in-Some.operation in
    let empty : passes (no_levels ls) ≡ true = sym c.is_empty.ensures ∙ c.if-not-is_empty.false in
    let is : named_op name ≡ Some op = sym c.in_ok-operation.ensures.ok ∙ ap (option_map operation_at) c.in-Some.is in
    let may : may_give op y.kind ≡ false =
    sym (c.may_give.ensures (contents_of old.library.tables) old.library.units c.args.front.entry y refl h) ∙ c.if-not-may_give.true in
    record {
      keeps = made.keeps;
      stays = ap (λ r. (g.L.Looks.sight r).basis) made.stays;
      ok = sym (entry_is old.place (claims_at d c.args.claims.now) c.args.left.now name ls y.kind (t c.args.a) (t c.args.b) op false empty is may);
    }

pub returns-else-not-may_give : goal.returns-else-not-may_give
returns-else-not-may_give g c y h =
    let d = g.L.Terms.contents c.args.looks.now in
    let e = g.L.Terms.contents c.named_operation.new.terms in
    let t = tree_at d in
    let old = (g.L.Looks.sight (g.L.Terms.rest c.args.looks.now)).basis in
    let new = (g.L.Looks.sight (g.L.Terms.rest c.named_operation.new.terms)).basis in
    let made = c.in_ok-operation.ensures.made in
    let ps = claims_at d c.args.claims.now in
    let js = c.args.left.now in
    let name = name_at d c.args.front.name in
    let ls = list_at d c.args.front.levels in
    let op = operation_at c.in-Some.operation in
    let empty : passes (no_levels ls) ≡ true = sym c.is_empty.ensures ∙ c.if-not-is_empty.false in
    let is : named_op name ≡ Some op = sym c.in_ok-operation.ensures.ok ∙ ap (option_map operation_at) c.in-Some.is in
    let may : may_give op y.kind ≡ true =
    sym (c.may_give.ensures (contents_of old.library.tables) old.library.units c.args.front.entry y refl h) ∙ c.if-not-may_give.false in
    let same : new ≡ old = ap (λ r. (g.L.Looks.sight r).basis) made.stays in
    let claims = claims_same d e made.keeps c.args.claims.now c.requires.claims_in in
    let first = made.keeps.trees.same c.args.a c.requires.a_in in
    let second = made.keeps.trees.same c.args.b c.requires.b_in in
    let whole : passes (shaped_read new.place (claims_at e c.args.claims.now) js op (tree_at e c.args.a) (tree_at e c.args.b)) ≡ passes (entry_read old.place ps js name ls y.kind (t c.args.a) (t c.args.b)) =
    ap (λ z. passes (shaped_read z.place (claims_at e c.args.claims.now) js op (tree_at e c.args.a) (tree_at e c.args.b))) same
    ∙ ap (λ z. passes (shaped_read old.place z js op (tree_at e c.args.a) (tree_at e c.args.b))) claims
    ∙ ap (λ z. passes (shaped_read old.place ps js op z (tree_at e c.args.b))) first
    ∙ ap (λ z. passes (shaped_read old.place ps js op (t c.args.a) z)) second
    ∙ sym (entry_is old.place ps js name ls y.kind (t c.args.a) (t c.args.b) op true empty is may) in
    let done = c.with_operation.ensures in
    record {
      keeps = Extends-trans d e (g.L.Terms.contents c.with_operation.new.looks) made.keeps done.keeps;
      stays = done.stays ∙ same;
      ok = subst (λ z. IfOk c.with_operation.result (λ r. r ≡ z)) whole done.ok;
    }
