use Rattle.std.proofs.Common.{◌∙◌, sym}
use Rattle.lk_store.specs.Store.{contents_of}
use Rattle.lk_scan.proofs.Numbers.{one_of_known, any_same}
use Rattle.lk_scan.proofs.declared.is_declared.Goals as goal

pub returns-in-Some : goal.returns-in-Some
returns-in-Some c =
    c.has.ensures ∙ (rw c.in-Some.is at c.requires.declared.is_set) c.args.name
    ∙ sym (one_of_known (contents_of c.args.base.now) c.args.declared.now.numbers.items c.args.name c.count_names-names.ensures.apart c.requires.declared.known c.requires.name_in)

pub returns-in-None : goal.returns-in-None
returns-in-None c =
    (rw c.deref.ensures.value at c.contains.ensures.value) ∙ any_same c.args.name c.args.declared.now.numbers.items
    ∙ sym (one_of_known (contents_of c.args.base.now) c.args.declared.now.numbers.items c.args.name c.count_names-names.ensures.apart c.requires.declared.known c.requires.name_in)
