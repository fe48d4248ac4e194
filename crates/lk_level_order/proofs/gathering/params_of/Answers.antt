use Rattle.std.proofs.Common.{◌≡◌, ◌<◌, ℕ, List, [], map, ap, ◌∙◌, All, length}
use Rattle.std.proofs.lemmas.Result.{IfOk-weaker}
use Rattle.lk_tree.specs.LevelTest.{params_of}
use Rattle.lk_store.specs.Contents.{name_at, level_at}
use Rattle.lk_level_order.specs.Parameters.{numbers, with_names}
use Rattle.lk_level_order.proofs.Gathered.{no_parameters}
use Rattle.lk_level_order.proofs.Ordered.{listed, names_by_numbers, numbers_known}
use Rattle.lk_level_order.proofs.gathering.params_of.Goals as goal

pub returns-clause-known : goal.returns-clause-known
returns-clause-known g c =
    let t = g.T.Terms.contents c.args.terms.now in
    IfOk-weaker c.numbers_of.result (λ v. v.items ≡ numbers c.gather.new.names) (λ v. All (λ (n : ℕ). n < length t.names) v.items)
    (λ v e. rw e (numbers_known t c.gather.new.names (c.in_ok-gather.ensures.gathers.fine (no_parameters t c.new-names.result c.new-names.ensures)))) c.numbers_of.ensures

pub returns-clause-names : goal.returns-clause-names
returns-clause-names g c =
    let t = g.T.Terms.contents c.args.terms.now in
    let all = params_of (level_at t c.args.level) in
    let is = listed t c.new-names.result c.gather.new.names all c.new-names.ensures c.in_ok-gather.ensures.order in
    IfOk-weaker c.numbers_of.result (λ v. v.items ≡ numbers c.gather.new.names) (λ v. map (name_at t) v.items ≡ with_names [] all)
    (λ v e. ap (λ (ns : List ℕ). map (name_at t) ns) e ∙ names_by_numbers t c.gather.new.names ∙ is) c.numbers_of.ensures
