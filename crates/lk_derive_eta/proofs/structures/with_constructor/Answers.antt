use Rattle.std.proofs.Common.{◌≡◌, sym, ◌∙◌, subst}
use Rattle.lk_tree.specs.Tree.{Tree}
use Rattle.lk_tree.specs.Spine.{head, args}
use Rattle.lk_rulebook.specs.Place.{a_ctor}
use Rattle.lk_store.specs.Contents.{Contents, tree_at}
use Rattle.lk_constructor.specs.Looking.{app_at}
use Rattle.lk_constructor.proofs.Applied.{some_applied}
use Rattle.lk_eta.specs.Structures.{is_full}
use Rattle.lk_derive_eta.proofs.StructureLine.{struct_other}
use Rattle.lk_derive_eta.proofs.structures.with_constructor.Goals as goal

pub returns-then-not-branch-clause-tells : goal.returns-then-not-branch-clause-tells
returns-then-not-branch-clause-tells g c =
    let basis = (g.D.Looks.sight (g.D.Terms.rest c.args.derives.now)).basis in
    let d : Contents = g.D.Terms.contents c.args.derives.now in
    let a : Tree = tree_at d c.args.a in
    let b : Tree = tree_at d c.args.b in
    let q = some_applied d basis.library (args b) c.args.found (app_at basis.place (head b) (args b)) c.requires.found_is in
    let k = q.0 in
    let test : c.in_ok-is_full.field-0 ≡ is_full (a_ctor k.block k.ind k.ctor) (args b) = subst (λ z. c.in_ok-is_full.field-0 ≡ is_full z (args b)) q.2.kind_is (c.in_ok-is_full.ensures k.entry q.2.entry_is) in
    λ says cost h. struct_other basis.place a b k q.1 (sym test ∙ c.if-not-branch.true) says cost h

pub by_types-requires-clause-full : goal.by_types-requires-clause-full
by_types-requires-clause-full g c =
    let basis = (g.D.Looks.sight (g.D.Terms.rest c.args.derives.now)).basis in
    let d : Contents = g.D.Terms.contents c.args.derives.now in
    let b : Tree = tree_at d c.args.b in
    let q = some_applied d basis.library (args b) c.args.found (app_at basis.place (head b) (args b)) c.requires.found_is in
    let k = q.0 in
    let test : c.in_ok-is_full.field-0 ≡ is_full (a_ctor k.block k.ind k.ctor) (args b) = subst (λ z. c.in_ok-is_full.field-0 ≡ is_full z (args b)) q.2.kind_is (c.in_ok-is_full.ensures k.entry q.2.entry_is) in
    record {
      ctor = k;
      full = record { is = q.1; full = sym test ∙ c.if-not-branch.false };
      inductive_in = c.requires.found_in.inductive_in;
      inductive_is = q.2.inductive_is;
      parameters_are = q.2.parameters_are;
    }
