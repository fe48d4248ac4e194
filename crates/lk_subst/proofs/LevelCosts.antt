-- Facts on the stack of levels.
use Rattle.std.proofs.Common.{◌≡◌, ◌+◌, ◌<◌, List, [], ◌∷◌, ◌++◌, arith, length, Bool, true, false}
use Rattle.std.specs.Prelude.{Some}
use Rattle.std.proofs.lemmas.List.Sums.{sum_by_push}
use Rattle.std.proofs.lemmas.List.Elements.{All-pop}
use Rattle.lk_tree.specs.Tree.{Level, zero_level, succ_level, max_level, imax_level, param}
use Rattle.lk_store.specs.Contents.{Contents, level_at}
use Rattle.lk_subst.specs.declared.parts.Visit.{Visit}
use Rattle.lk_subst.specs.Parts.{cost, cost_where, visit_cost, visits_cost, AreVisits}

pub cost_positive : (l : Level) → 0 < cost l
cost_positive zero_level = omega arith
cost_positive (succ_level l) = omega arith
cost_positive (max_level l m) = omega arith
cost_positive (imax_level l m) = omega arith
cost_positive (param n) = omega arith

pub popped_cost : (c : Contents) (stack stack' : List Visit) (v : Visit) → stack ≡ stack' ++ v ∷ [] → visits_cost c stack ≡ visits_cost c stack' + visit_cost c v
popped_cost c stack stack' v popped = rw popped (sum_by_push (visit_cost c) stack' v)

pub cost_where_positive : (b : Bool) (l : Level) → 0 < cost_where b l
cost_where_positive true l = omega arith
cost_where_positive false l = cost_positive l

pub popped_less : (c : Contents) (stack stack' : List Visit) (v : Visit) → stack ≡ stack' ++ v ∷ [] → visits_cost c stack' < visits_cost c stack
popped_less c stack stack' v popped =
    let p = popped_cost c stack stack' v popped in
    let q = cost_where_positive v.opened (level_at c v.level) in
    omega arith

pub popped_known : (c : Contents) (stack stack' : List Visit) (v : Visit) → stack ≡ stack' ++ v ∷ [] → AreVisits c stack → AreVisits c stack' × (v.level < length c.levels)
popped_known c stack stack' v popped h = All-pop (λ (v : Visit). v.level < length c.levels) stack stack' (Some v) popped h
