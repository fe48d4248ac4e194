use Rattle.std.proofs.Common.{◌<◌, ◌∙◌, length, map, sym, subst, rules}
use Rattle.std.specs.Prelude.{All}
use Rattle.std.specs.List.{list_all}
use Rattle.lk_tree.specs.Scan.{none_twice}
use Rattle.lk_rulebook.specs.Units.{members_of}
use Rattle.lk_rulebook.specs.Scan.{are_new}
use Rattle.lk_store.specs.Contents.{name_at}
use Rattle.lk_store.specs.Store.{contents_of}
use Rattle.lk_env.specs.Units.{unit_at, library_of}
use Rattle.lk_env.specs.Index.{member_names}
use Rattle.lk_env.proofs.Members.{members_known}
use Rattle.lk_scan.specs.Names.{number_is_new}
use Rattle.lk_scan.proofs.Given.{numbers_new, one_given, none_given}
use Rattle.lk_scan.proofs.names.are_new.Goals as goal

pub none_given-requires : goal.none_given-requires
none_given-requires c =
    let d = contents_of c.args.library.now.tables in
    subst (All (λ n. n < length d.names)) (sym (c.deref.ensures.value ∙ c.in_ok-names.ensures)) (members_known d c.args.unit.now c.requires)

pub returns-then-not-none_given : goal.returns-then-not-none_given
returns-then-not-none_given c =
    let d = contents_of c.args.library.now.tables in
    let us = library_of c.args.library.now in
    let n = c.args.number in
    let u = c.args.unit.now in
    one_given (are_new us n (members_of (unit_at d u))) (list_all (number_is_new c.args.library.now n) (member_names u)) (none_twice (map (name_at d) (member_names u))) c.none_given.result
    (numbers_new d us n u) (rw (c.deref.ensures.value ∙ c.in_ok-names.ensures) at c.none_given.ensures) (search rules)

pub none_twice-requires : goal.none_twice-requires
none_twice-requires c =
    let d = contents_of c.args.library.now.tables in
    rw c.base.ensures (subst (All (λ n. n < length d.names)) (sym (c.deref-2.ensures.value ∙ c.in_ok-names.ensures)) (members_known d c.args.unit.now c.requires))

pub returns : goal.returns
returns c =
    let d = contents_of c.args.library.now.tables in
    let us = library_of c.args.library.now in
    let n = c.args.number in
    let u = c.args.unit.now in
    none_given (are_new us n (members_of (unit_at d u))) (list_all (number_is_new c.args.library.now n) (member_names u)) (none_twice (map (name_at d) (member_names u))) c.none_given.result c.in_ok-different.different
    (numbers_new d us n u) (rw (c.deref.ensures.value ∙ c.in_ok-names.ensures) at c.none_given.ensures) (search rules)
    (rw (c.base.ensures, c.deref-2.ensures.value ∙ c.in_ok-names.ensures) at c.in_ok-different.ensures)
