use Rattle.std.proofs.Common.{sym, ap, ◌∙◌, arith}
use Rattle.lk_env.specs.Units.{type_at}
use Rattle.lk_questions.specs.Program.{done}
use Rattle.lk_store.specs.Contents.{name_at}
use Rattle.lk_store.proofs.Extending.{Extends-trans}
use Rattle.lk_subst.specs.Numbers.{trees-known}
use Rattle.lk_env.proofs.Stays.{type_in_stays}
use Rattle.lk_auxiliary.specs.Parts.{parts_at, aux_with}
use Rattle.lk_auxiliary.specs.Places.{levels_of, arguments_of}
use Rattle.lk_auxiliary.proofs.Families.{parts_stay, parts_known, aux_steady, instance_stays}
use Rattle.lk_auxiliary.proofs.PartsMade.{aux_is}
use Rattle.lk_auxiliary.proofs.family.aux_of.Goals as goal

pub returns-clause-known : goal.returns-clause-known
returns-clause-known g c =
    let before = g.T.Terms.contents c.args.terms.now in
    let mid = g.T.Terms.contents c.parts_at_args.new.terms in
    let after = g.T.Terms.contents c.instance_of.new.terms in
    let first = c.in_ok-parts.ensures.keeps in
    let second = c.in_ok-instance.ensures.keeps in
    let whole = Extends-trans before mid after first second in
    let arguments = c.args.at.now.arguments.now in
    let names = first.names.longer in
    let lists = first.lists.longer in
    let name_in = c.requires.name_in in
    let list_in = c.requires.at_in.list_in in
    c.in_ok-auxiliary_with.ensures.known after (let l = whole.names.longer in omega arith) (type_in_stays before after whole c.args.own.now c.requires.own_in) (let l = whole.lists.longer in omega arith)
    (trees-known before after arguments whole c.requires.at_in.arguments_in)
    (instance_stays mid after second c.args.name c.args.at.now.list c.in_ok-instance.instance arguments (omega arith) (omega arith) (trees-known before mid arguments first c.requires.at_in.arguments_in) c.in_ok-instance.ensures.ok)
    (parts_known mid after second c.in_ok-parts.parts c.in_ok-parts.ensures.known)

pub returns-clause-aux : goal.returns-clause-aux
returns-clause-aux g c =
    let before = g.T.Terms.contents c.args.terms.now in
    let mid = g.T.Terms.contents c.parts_at_args.new.terms in
    let after = g.T.Terms.contents c.instance_of.new.terms in
    let first = c.in_ok-parts.ensures.keeps in
    let second = c.in_ok-instance.ensures.keeps in
    let whole = Extends-trans before mid after first second in
    let at = c.args.at.now in
    let own = c.args.own.now in
    let ls = levels_of before at in
    let bs = arguments_of before at in
    let parts = c.in_ok-parts.parts in
    aux_is c.args.at.now.first ls bs (type_at before own) (name_at before c.args.name) (parts_at mid parts) c.in_ok-parts.ensures.parts
    ∙ ap done (sym (c.in_ok-auxiliary_with.ensures.value after
    ∙ aux_steady before after whole at c.requires.at_in own c.requires.own_in c.args.name parts c.requires.name_in
    ∙ ap (aux_with ls bs (name_at before c.args.name) (type_at before own)) (parts_stay mid after second parts c.in_ok-parts.ensures.known)))
