use Rattle.std.proofs.Common.{◌≡◌, ℕ, true, ◌&&◌, ◌+◌, nat_eq, length, sym, ap, subst, ◌∙◌}
use Rattle.lk_tree.specs.Mentions.{same_name}
use Rattle.lk_tree.specs.Spine.{args}
use Rattle.lk_questions.specs.Tests.{◌>>=◌, test}
use Rattle.lk_store.specs.Contents.{name_at, list_at, tree_at}
use Rattle.lk_premises.specs.Testing.{Tests}
use Rattle.lk_replay_iota.specs.Recursors.{ruled_at}
use Rattle.lk_replay_iota.specs.Rules.{value_read, constructor_read}
use Rattle.lk_replay_iota.proofs.rules.with_constructor.Goals as goal

pub returns : goal.returns
returns g c y k i h =
    let d = g.L.Terms.contents c.args.looks.now in
    let t = tree_at d in
    let u = ruled_at d c.args.ruled in
    let name = name_at d c.args.ruled.rule.constructor in
    let n = length (args (t c.args.e)) in
    let fields = c.args.ruled.rule.fields in
    let named : same_name name k.name ≡ true =
    ap (same_name name) (sym h.name_is) ∙ sym c.same_name.ensures ∙ c.if-not-same_name.false in
    let counted : nat_eq n (k.ctor.parameters + fields) ≡ true =
    ap (λ p. nat_eq n (p + fields)) (sym (c.from.ensures ∙ h.parameters_are))
    ∙ ap (λ q. nat_eq n (c.from.result + q)) (sym c.from-2.ensures)
    ∙ sym c.has_arguments.ensures ∙ c.if-not-has_arguments.false in
    let both : (same_name name k.name && nat_eq n (k.ctor.parameters + fields)) ≡ true =
    ap (λ z. z && nat_eq n (k.ctor.parameters + fields)) named ∙ counted in
    let value = λ (p : ℕ). value_read c.args.left.now (list_at d c.args.levels) y.levels u (t c.args.f) p (t c.args.e) (t c.args.b) in
    let is : value c.args.found.parameters ≡ constructor_read c.args.left.now (list_at d c.args.levels) y.levels u (t c.args.f) (t c.args.e) (t c.args.b) k =
    ap value h.parameters_are ∙ sym (ap (λ z. test z >>= λ x. value k.ctor.parameters) both) in
    subst (λ z. Tests g.L.Terms.contents g.L.Terms.rest c.args.looks.now c.with_value.new.looks c.with_value.result z) is (c.with_value.ensures y i)
