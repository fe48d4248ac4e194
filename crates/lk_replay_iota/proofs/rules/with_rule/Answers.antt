use Rattle.std.proofs.Common.{◌≡◌, true, nat_eq, length, sym, subst, ◌∙◌}
use Rattle.lk_tree.specs.Spine.{args}
use Rattle.lk_questions.specs.Tests.{◌>>=◌, test}
use Rattle.lk_store.specs.Contents.{list_at, tree_at}
use Rattle.lk_premises.specs.Testing.{Tests}
use Rattle.lk_replay_iota.specs.Recursors.{ruled_at}
use Rattle.lk_replay_iota.specs.Rules.{major_read}
use Rattle.lk_replay_iota.proofs.rules.with_rule.Goals as goal

pub returns : goal.returns
returns g c y i =
    let d = g.L.Terms.contents c.args.looks.now in
    let t = tree_at d in
    let w = (g.L.Looks.sight (g.L.Terms.rest c.args.looks.now)).basis.place in
    let counted : nat_eq (length (args (t c.args.f))) c.args.ruled.before ≡ true = sym c.has_arguments.ensures ∙ c.if-not-has_arguments.false in
    subst (λ z. Tests g.L.Terms.contents g.L.Terms.rest c.args.looks.now c.with_major.new.looks c.with_major.result
    (test z >>= λ x. major_read w c.args.left.now (list_at d c.args.levels) y.levels (t c.args.f) (t c.args.e) (t c.args.b) (ruled_at d c.args.ruled)))
    (sym counted) (c.with_major.ensures y i)
