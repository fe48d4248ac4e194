use Rattle.std.proofs.Common.{rules, ◌∙◌}
use Rattle.lk_store.proofs.Extending.{Extends-trans}
use Rattle.lk_type.proofs.Openings.{telescope_is}
use Rattle.lk_type.proofs.Beginning.{asked_first}
use Rattle.lk_type.proofs.opening.first_domain.Goals as goal

pub returns : goal.returns
returns g c =
    let first = c.in_ok-opened-in-Some.ensures in
    let second = c.in_ok-gathered-in-Some.ensures in
    asked_first c.args.binders c.args.e c.args.domain c.args.locals.now c.in-Some.first.now c.args.inside c.in-Some.others.now _
    (search rules) (Extends-trans _ _ _ first.keeps second.keeps) (second.stays ∙ first.stays) c.requires.domain_in
    (telescope_is first.keeps second.keeps c.args.binders c.args.e c.in-Some.others.now c.in-Some.first.now c.args.inside
    c.in_ok-opened-in-Some.opened c.in_ok-gathered-in-Some.gathered _ c.requires.e_in (search rules) (search rules) first.ok second.ok)
    c.ask_domain.ensures
