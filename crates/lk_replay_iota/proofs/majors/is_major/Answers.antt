use Rattle.std.proofs.Common.{◌≡◌, true, ◌&&◌, Some, length, sym, ap, ◌∙◌}
use Rattle.lk_tree.specs.Spine.{head, args}
use Rattle.lk_questions.specs.Steps.{is_same_tree}
use Rattle.lk_questions.specs.Tests.{◌>>=◌, test, passes, reads}
use Rattle.lk_written.specs.Premises.{ends, reduced}
use Rattle.lk_written.specs.Reducing.{major_of}
use Rattle.lk_store.specs.Contents.{tree_at}
use Rattle.lk_premises.specs.Claims.{claims_at}
use Rattle.lk_premises.specs.Reading.{read_at}
use Rattle.lk_replay_iota.specs.Majors.{major_read}
use Rattle.lk_premises.proofs.Passing.{behind}
use Rattle.lk_replay_iota.proofs.majors.is_major.Goals as goal

pub returns : goal.returns
returns g c =
    let d = g.L.Terms.contents c.args.looks.now in
    let t = tree_at d in
    let w = (g.L.Looks.sight (g.L.Terms.rest c.args.looks.now)).basis.place in
    let ps = claims_at d c.args.claims.now in
    let js = c.args.left.now in
    let f = t c.args.f in
    let form = c.reduced-form.result in
    let found = c.in_ok-is_read_as.ensures in
    let before : passes (major_of w (head f) (length (args f))) ≡ true = sym c.is_recursor.ensures ∙ c.if-not-is_recursor.false in
    let same : is_same_tree (t c.args.g) f ≡ true = sym c.same_tree.ensures ∙ c.if-not-same_tree.false in
    let both : (passes (major_of w (head f) (length (args f))) && is_same_tree (t c.args.g) f) ≡ true =
    ap (λ z. z && is_same_tree (t c.args.g) f) before ∙ same in
    let so : passes (reads w (t form.tree) (t c.args.n)) ≡ true = sym found.ok ∙ c.if-not-branch.false in
    let read : reduced ps js (t c.args.e) ≡ Some (read_at d form) = c.reduced-form.ensures.read in
    let whole : passes (major_read w ps js f (t c.args.e) (t c.args.g) (t c.args.n)) ≡ passes (ends form.after.now) =
    ap (λ z. passes (test z >>= λ u. reduced ps js (t c.args.e) >>= λ m. reads w m.0 (t c.args.n) >>= λ v. ends m.1)) both
    ∙ ap (λ o. passes (o >>= λ m. reads w m.0 (t c.args.n) >>= λ v. ends m.1)) read
    ∙ behind (reads w (t form.tree) (t c.args.n)) (ends form.after.now) so in
    record { keeps = found.keeps; stays = found.stays; ok = c.ended.ensures ∙ sym whole }
