use Rattle.std.proofs.Common.{◌≡◌, map, ap, subst, ◌∙◌, IfOk}
use Rattle.lk_env.specs.Units.{type_at}
use Rattle.lk_inductive.specs.Restore.{first_name as plain_first, all_stand}
use Rattle.lk_auxiliary.specs.Auxiliaries.{auxs_at}
use Rattle.lk_auxiliary.proofs.Others.{auxs_stay, auxs_known}
use Rattle.lk_enlarge.proofs.Grown.{setting_stays, setting_known}
use Rattle.lk_restore.specs.Originals.{originals_at, AreStanding}
use Rattle.leancheck.proofs.larger.originals_between.Goals as goal

pub returns-in_err-first-clause-left : goal.returns-in_err-first-clause-left
returns-in_err-first-clause-left g c = (g.met.A.Asks.decided c.first_name.new.terms c.args.asks.now c.first_name.ensures.rest).1

pub originals_of-requires-clause-setting_in : goal.originals_of-requires-clause-setting_in
originals_of-requires-clause-setting_in g c =
    setting_known (g.A.Terms.contents c.args.asks.now) (g.A.Terms.contents c.first_name.new.terms) c.first_name.ensures.keeps c.args.setting.now c.requires.setting_in

pub originals_of-requires-clause-stand_in : goal.originals_of-requires-clause-stand_in
originals_of-requires-clause-stand_in g c =
    auxs_known (g.A.Terms.contents c.args.asks.now) (g.A.Terms.contents c.first_name.new.terms) c.first_name.ensures.keeps c.args.stand.now c.requires.stand_in

pub returns-clause-left : goal.returns-clause-left
returns-clause-left g c = (g.met.A.Asks.decided c.originals_of.new.terms c.args.asks.now (c.originals_of.ensures.rest ∙ c.first_name.ensures.rest)).1

pub returns-clause-are : goal.returns-clause-are
returns-clause-are g c =
    let at = g.A.Terms.contents c.args.asks.now in
    let grown = g.A.Terms.contents c.first_name.new.terms in
    let after = g.A.Terms.contents c.originals_of.new.terms in
    let stand = c.args.stand.now in
    subst (λ ms. IfOk c.originals_of.result (λ os. originals_at after os.items ≡ ms))
    (ap (λ n. all_stand n 0 (auxs_at grown stand)) (c.in_ok-first.ensures.ok.is ∙ ap (λ us. plain_first (map (type_at at) us)) c.deref.ensures.value)
    ∙ ap (all_stand (plain_first (map (type_at at) c.args.block.now.types.items)) 0) (auxs_stay at grown c.first_name.ensures.keeps stand c.requires.stand_in))
    c.originals_of.ensures.are

pub returns-clause-standing : goal.returns-clause-standing
returns-clause-standing g c =
    let at = g.A.Terms.contents c.args.asks.now in
    let grown = g.A.Terms.contents c.first_name.new.terms in
    let after = g.A.Terms.contents c.originals_of.new.terms in
    subst (λ z. IfOk c.originals_of.result (λ os. AreStanding after z os.items)) (setting_stays at grown c.first_name.ensures.keeps c.args.setting.now c.requires.setting_in) c.originals_of.ensures.standing
