use Rattle.std.proofs.Common.{◌≡◌, ap, sym, length, nat_eq, true, ◌∙◌, arith}
use Rattle.std.proofs.lemmas.Bool.Decides.{nat_tests}
use Rattle.std.proofs.lemmas.List.{length-map}
use Rattle.lk_tree.specs.Spine.{args}
use Rattle.lk_store.specs.Contents.{tree_at}
use Rattle.lk_ask.proofs.Steps.{gives_now}
use Rattle.lk_iota.proofs.Expanding.{sort_asked}
use Rattle.lk_iota.proofs.structure.ask_sort.Goals as goal

pub returns : goal.returns
returns g c p k ls at only levels =
    let sight = g.L.Looks.sight (g.L.Terms.rest c.args.looks.now) in
    let d = g.L.Terms.contents c.args.looks.now in
    let ty = tree_at d c.args.ty in
    let items = c.in_ok-arguments.arguments.items in
    let count : length (args ty) ≡ length items =
    sym (ap length c.in_ok-arguments.ensures.are) ∙ length-map items (tree_at d) in
    let parameters = only.stands.parameters_are in
    let same = c.if-len-constructor.false in
    let many : nat_eq (length (args ty)) k.ctor.parameters ≡ true = grind (arith, nat_tests) in
    gives_now c.args.looks.now _ _
    (c.requires.ty_in, (c.requires.e_in, c.requires.m_in, c.requires.ty_in))
    (sort_asked sight.basis.place sight.last (tree_at d c.args.e) p (tree_at d c.args.m) k at
    only.only ty ls levels many)
