use Rattle.std.proofs.Common.{◌≡◌, [], None, refl, ap, sym, subst, ◌∙◌}
use Rattle.lk_questions.specs.Settled.{comes, settle}
use Rattle.lk_questions.specs.Iota.{only_ctor}
use Rattle.lk_store.proofs.Made.{Extends-self}
use Rattle.lk_constructor.specs.Applied.{IsAppliedIf}
use Rattle.lk_constructor.specs.Looking.{LooksUp}
use Rattle.lk_iota.specs.OnlyRule.{only_at}
use Rattle.lk_iota.proofs.OnlyRule.{only_is, none_at, none_looked}
use Rattle.lk_iota.proofs.only.look_only.Goals as goal

pub returns-in-Some-clause-finds : goal.returns-in-Some-clause-finds
returns-in-Some-clause-finds g c p r h kind =
    let w = (g.L.Looks.sight (g.L.Terms.rest c.args.looks.now)).basis.place in
    only_is (g.L.Terms.contents c.args.looks.now) c.rules_of.result.now r.rules
    (c.rules_of.ensures.value p r h kind) c.in-Some.rule c.in-Some.ensures
    (λ rs. LooksUp g.L.Terms.contents g.L.Terms.rest g.L.Looks.sight c.args.looks.now
    c.look_constructor.new.looks c.look_constructor.result [] (only_at w rs) (only_ctor rs))
    (c.look_constructor.ensures.finds [] [])

pub returns-in-None-clause-finds : goal.returns-in-None-clause-finds
returns-in-None-clause-finds g c p r h kind =
    let sight = g.L.Looks.sight (g.L.Terms.rest c.args.looks.now) in
    let d = g.L.Terms.contents c.args.looks.now in
    let w = sight.basis.place in
    let rules = c.rules_of.result.now in
    let are = c.rules_of.ensures.value p r h kind in
    let none : only_at w r.rules ≡ None = none_at d rules r.rules are w c.in-None.ensures in
    record {
      settles = record {
        keeps = Extends-self d;
        stays = refl;
        comes_to = ap (settle w sight.last) (none_looked d rules r.rules are c.in-None.ensures)
            ∙ ap (comes sight.last) (sym none);
      };
      is = subst (IsAppliedIf d sight.basis.library [] None) (sym none) tt;
    }
