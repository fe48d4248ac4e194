use Rattle.std.proofs.Common.{ℕ, List, Some, None, Ok, Err, Result, map, sym, ap, subst, ◌∙◌}
use Rattle.std.specs.Prelude.{OnOk}
use Rattle.lk_tree.specs.Tree.{Tree, const}
use Rattle.lk_tree.specs.Spine.{apply}
use Rattle.lk_inductive.specs.Enlarged.{Aux, aux_name}
use Rattle.lk_inductive.specs.Nested.{may_nest, aux_at}
use Rattle.lk_nested.specs.Findings.{found}
use Rattle.lk_store.specs.Contents.{tree_at}
use Rattle.lk_auxiliary.specs.Auxiliaries.{auxs_at}
use Rattle.lk_enlarge.specs.Met.{IsMadeFor, IsNumbered}
use Rattle.lk_auxiliary.specs.Settings.{setting_at}
use Rattle.lk_enlarge.specs.declared.visited.Visited.{Visited}
use Rattle.lk_enlarge.specs.Occurrences.{IsVisited}
use Rattle.lk_enlarge.proofs.Grown.{visited_stays}
use Rattle.lk_enlarge.proofs.Meetings.{met_again, met_first}
use Rattle.lk_auxiliary.proofs.Others.{auxs_stay, auxs_known}
use Rattle.lk_enlarge.proofs.meet.meet.Goals as goal

always : {A B : Type 0} (r : Result A B) (P : Type 0) → P → OnOk r P
always (Ok v) P h = h
always (Err e) P h = tt

pub returns-in-Some-clause-known : goal.returns-in-Some-clause-known
returns-in-Some-clause-known g c =
    auxs_known (g.F.Terms.contents c.args.asks.now) (g.F.Terms.contents c.auxiliary_applied.new.terms) c.in_ok-auxiliary_applied-in-Some.ensures.keeps c.args.auxs.now.items c.requires.auxs_in

pub returns-in-Some-clause-meets : goal.returns-in-Some-clause-meets
returns-in-Some-clause-meets g c =
    let s = g.F.Terms.contents c.args.asks.now in
    let after = g.F.Terms.contents c.auxiliary_applied.new.terms in
    let w = (g.F.Asks.standing c.args.asks.now).place in
    let plain = setting_at s c.args.setting.now in
    let auxs = auxs_at s c.args.auxs.now.items in
    let e = tree_at s c.args.e in
    let i = c.in-Some.number in
    let may = ap (may_nest plain.params) (sym c.in_ok-arguments.ensures.are ∙ ap (map (tree_at s)) (sym c.deref.ensures.value)) ∙ sym c.in_ok-may_nest.ensures.nest ∙ c.if-not-branch.false in
    let number : IsNumbered e auxs (Some i) = λ J ls bs is. sym c.in-Some.is ∙ c.in_ok-number.ensures J ls bs is ∙ ap (λ x. aux_at 0 (auxs_at s x) J ls bs) c.deref-2.ensures.value in
    let grown = c.in_ok-auxiliary_applied-in-Some.ensures.keeps in
    let levels = ap (λ ls. apply (const (aux_name i) ls) plain.params) c.requires.setting_in.own_levels_are.is in
    met_again w plain e auxs c.requires.occurs may i number
    ∙ ap (λ (t : Tree). found (t, auxs)) (sym (c.in_ok-auxiliary_applied-in-Some.ensures.ok.is ∙ levels))
    ∙ ap (λ (x : List Aux). found (tree_at after c.in_ok-auxiliary_applied-in-Some.field-0, x)) (sym (auxs_stay s after grown c.args.auxs.now.items c.requires.auxs_in))

pub returns-clause-meets : goal.returns-clause-meets
returns-clause-meets g c =
    let s = g.F.Terms.contents c.args.asks.now in
    let after = g.F.Terms.contents c.make_for.new.asks in
    let w = (g.F.Asks.standing c.args.asks.now).place in
    let plain = setting_at s c.args.setting.now in
    let auxs = auxs_at s c.args.auxs.now.items in
    let e = tree_at s c.args.e in
    let value : ℕ → Tree × List Aux = λ r. (tree_at after r, auxs_at after c.make_for.new.auxs.items) in
    let may = ap (may_nest plain.params) (sym c.in_ok-arguments.ensures.are ∙ ap (map (tree_at s)) (sym c.deref.ensures.value)) ∙ sym c.in_ok-may_nest.ensures.nest ∙ c.if-not-branch.false in
    let number : IsNumbered e auxs None = λ J ls bs is. sym c.in-None.is ∙ c.in_ok-number.ensures J ls bs is ∙ ap (λ x. aux_at 0 (auxs_at s x) J ls bs) c.deref-2.ensures.value in
    let arguments = ap (map (tree_at s)) c.deref-in-None.ensures.value ∙ c.in_ok-arguments.ensures.are in
    met_first w plain e auxs c.requires.occurs value c.make_for.result may number
    (subst (λ xs. IsMadeFor w plain e xs auxs value c.make_for.result) arguments c.make_for.ensures.made)

pub returns-in-Some-clause-visited_in : goal.returns-in-Some-clause-visited_in
returns-in-Some-clause-visited_in g c =
    visited_stays (g.F.Terms.contents c.args.asks.now) (g.F.Terms.contents c.auxiliary_applied.new.terms) c.in_ok-auxiliary_applied-in-Some.ensures.keeps c.args.setting.now c.requires.setting_in
    (record { marks = c.args.visited.now.marks; own = c.may_nest.new.met }) (record { marks = c.requires.visited_in.marks; own = c.in_ok-may_nest.ensures.met })

pub returns-clause-visited_in : goal.returns-clause-visited_in
returns-clause-visited_in g c =
    let before = g.F.Terms.contents c.args.asks.now in
    let after = g.F.Terms.contents c.make_for.new.asks in
    let visited : Visited = record { marks = c.args.visited.now.marks; own = c.may_nest.new.met } in
    always c.make_for.result (IsVisited after c.args.setting.now visited)
    (visited_stays before after c.make_for.ensures.keeps c.args.setting.now c.requires.setting_in visited (record { marks = c.requires.visited_in.marks; own = c.in_ok-may_nest.ensures.met }))
