use Rattle.std.proofs.Common.{Bool, true, false, sym, subst}
use Rattle.std.specs.Prelude.{IfOk}
use Rattle.lk_tree.specs.Tree.{Tree}
use Rattle.lk_rulebook.specs.Place.{Place}
use Rattle.lk_questions.specs.Query.{infer, same}
use Rattle.lk_questions.specs.Eta.{by_structure_eta}
use Rattle.lk_store.specs.Contents.{Contents, tree_at}
use Rattle.lk_step.specs.Told.{IsAnsweredWithin, IsType, IsSame}
use Rattle.lk_step.specs.Tests.{IsRun, AreReduced}
use Rattle.lk_step.specs.Tells.{Tells}
use Rattle.lk_step.proofs.Moving.{moved1, moved2, back1, back2, leaves_on, tree_stays, tree_in}
use Rattle.lk_derive_eta.specs.Structures.{claim_by}
use Rattle.lk_derive_eta.proofs.StructureLine.{struct_type, struct_right, struct_same, types_differ}
use Rattle.lk_derive_eta.proofs.FieldPairs.{full_on, typed_on}
use Rattle.lk_derive_eta.proofs.structures.by_types.Goals as goal

pub type_of-requires-clause-answered : goal.type_of-requires-clause-answered
type_of-requires-clause-answered g c =
    let w : Place = (g.D.Looks.sight (g.D.Terms.rest c.args.derives.now)).basis.place in
    let d : Contents = g.D.Terms.contents c.args.derives.now in
    let f = c.requires.full in
    struct_type w (tree_at d c.args.a) (tree_at d c.args.b) f.ctor f.full c.args.enough c.requires.run

pub type_of-requires-2-clause-answered : goal.type_of-requires-2-clause-answered
type_of-requires-2-clause-answered g c =
    let w : Place = (g.D.Looks.sight (g.D.Terms.rest c.args.derives.now)).basis.place in
    let d : Contents = g.D.Terms.contents c.args.derives.now in
    let f = c.requires.full in
    let A : Tree = tree_at (g.D.Terms.contents c.type_of.new.derives) c.in_ok-left.left in
    moved1 c.in_ok-left.ensures.leaves (λ w x. IsAnsweredWithin w (infer x) c.args.enough) c.args.b c.requires.b_in
    (struct_right w (tree_at d c.args.a) (tree_at d c.args.b) f.ctor f.full A c.in_ok-left.ensures.told c.args.enough c.requires.run)

pub are_same-requires-clause-answered : goal.are_same-requires-clause-answered
are_same-requires-clause-answered g c =
    let w : Place = (g.D.Looks.sight (g.D.Terms.rest c.args.derives.now)).basis.place in
    let d : Contents = g.D.Terms.contents c.args.derives.now in
    let f = c.requires.full in
    let l1 = c.in_ok-left.ensures.leaves in
    let l2 = c.in_ok-right.ensures.leaves in
    let A : Tree = tree_at (g.D.Terms.contents c.type_of.new.derives) c.in_ok-left.left in
    let B : Tree = tree_at (g.D.Terms.contents c.type_of-2.new.derives) c.in_ok-right.right in
    let u : IsType w (tree_at d c.args.b) B = back1 l1 (λ w x. IsType w x B) c.args.b c.requires.b_in c.in_ok-right.ensures.told in
    moved1 l2 (λ w x. IsAnsweredWithin w (same x B) c.args.enough) c.in_ok-left.left c.in_ok-left.ensures.known
    (subst (λ w. IsAnsweredWithin w (same A B) c.args.enough) (sym l1.place)
    (struct_same w (tree_at d c.args.a) (tree_at d c.args.b) f.ctor f.full A c.in_ok-left.ensures.told B u c.args.enough c.requires.run))

pub returns-then-not-branch-clause-tells : goal.returns-then-not-branch-clause-tells
returns-then-not-branch-clause-tells g c =
    let w : Place = (g.D.Looks.sight (g.D.Terms.rest c.args.derives.now)).basis.place in
    let d : Contents = g.D.Terms.contents c.args.derives.now in
    let f = c.requires.full in
    let l1 = c.in_ok-left.ensures.leaves in
    let l2 = c.in_ok-right.ensures.leaves in
    let A : Tree = tree_at (g.D.Terms.contents c.type_of.new.derives) c.in_ok-left.left in
    let B : Tree = tree_at (g.D.Terms.contents c.type_of-2.new.derives) c.in_ok-right.right in
    let y : Bool = c.in_ok-are_same.field-0 in
    let u : IsType w (tree_at d c.args.b) B = back1 l1 (λ w x. IsType w x B) c.args.b c.requires.b_in c.in_ok-right.ensures.told in
    let s : IsSame w A B y = subst (λ w. IsSame w A B y) l1.place (back1 l2 (λ w x. IsSame w x B y) c.in_ok-left.left c.in_ok-left.ensures.known c.in_ok-are_same.ensures.told) in
    let unequal : IsSame w A B false = subst (λ y. IsSame w A B y) c.if-not-branch.true s in
    λ says cost h. types_differ w (tree_at d c.args.a) (tree_at d c.args.b) f.ctor f.full A c.in_ok-left.ensures.told B u unequal says cost h

pub by_fields-requires-clause-full : goal.by_fields-requires-clause-full
by_fields-requires-clause-full g c =
    let l1 = c.in_ok-left.ensures.leaves in
    let l2 = c.in_ok-right.ensures.leaves in
    let l3 = c.in_ok-are_same.ensures.leaves in
    full_on (leaves_on l1 (leaves_on l2 l3)) c.args.b c.args.found c.requires.b_in c.requires.full

pub by_fields-requires-clause-typed : goal.by_fields-requires-clause-typed
by_fields-requires-clause-typed g c =
    let d : Contents = g.D.Terms.contents c.args.derives.now in
    let m : Contents = g.D.Terms.contents c.type_of-2.new.derives in
    let l1 = c.in_ok-left.ensures.leaves in
    let l2 = c.in_ok-right.ensures.leaves in
    let l3 = c.in_ok-are_same.ensures.leaves in
    let w2 : Place = (g.D.Looks.sight (g.D.Terms.rest c.type_of-2.new.derives)).basis.place in
    let left = c.in_ok-left.left in
    let right = c.in_ok-right.right in
    let B : Tree = tree_at m right in
    let equal : IsSame w2 (tree_at m left) B true = subst (λ y. IsSame w2 (tree_at m left) B y) c.if-not-branch.false c.in_ok-are_same.ensures.told in
    let left_typed : IsType w2 (tree_at m c.args.a) (tree_at m left) = moved1 l2 (λ w x. IsType w x (tree_at m left)) c.args.a (tree_in l1 c.args.a c.requires.a_in)
    (moved1 l1 (λ w x. IsType w x (tree_at m left)) c.args.a c.requires.a_in (subst (λ z. IsType (g.D.Looks.sight (g.D.Terms.rest c.args.derives.now)).basis.place (tree_at d c.args.a) z) (sym (tree_stays l2 left c.in_ok-left.ensures.known)) c.in_ok-left.ensures.told)) in
    let right_typed : IsType w2 (tree_at m c.args.b) B = moved1 l2 (λ w x. IsType w x B) c.args.b (tree_in l1 c.args.b c.requires.b_in) c.in_ok-right.ensures.told in
    typed_on l3 c.args.a c.args.b (record { left = left; right = right }) (tree_in (leaves_on l1 l2) c.args.a c.requires.a_in) (tree_in (leaves_on l1 l2) c.args.b c.requires.b_in)
    (record { left_in = tree_in l2 left c.in_ok-left.ensures.known; right_in = c.in_ok-right.ensures.known; left = left_typed; right = right_typed; same = equal })

pub by_fields-requires-clause-pair : goal.by_fields-requires-clause-pair
by_fields-requires-clause-pair g c =
    let l1 = c.in_ok-left.ensures.leaves in
    let l2 = c.in_ok-right.ensures.leaves in
    let l3 = c.in_ok-are_same.ensures.leaves in
    moved2 (leaves_on l1 (leaves_on l2 l3)) (λ w x y. AreReduced w x y) c.args.a c.args.b c.requires.a_in c.requires.b_in c.requires.pair

pub by_fields-requires-clause-run : goal.by_fields-requires-clause-run
by_fields-requires-clause-run g c =
    let l1 = c.in_ok-left.ensures.leaves in
    let l2 = c.in_ok-right.ensures.leaves in
    let l3 = c.in_ok-are_same.ensures.leaves in
    moved2 (leaves_on l1 (leaves_on l2 l3)) (λ w x y. IsRun w (by_structure_eta x y) c.args.enough) c.args.a c.args.b c.requires.a_in c.requires.b_in c.requires.run

pub returns-clause-tells : goal.returns-clause-tells
returns-clause-tells g c =
    let n : Contents = g.D.Terms.contents c.by_fields.new.derives in
    let l1 = c.in_ok-left.ensures.leaves in
    let l2 = c.in_ok-right.ensures.leaves in
    let l3 = c.in_ok-are_same.ensures.leaves in
    back2 (leaves_on l1 (leaves_on l2 l3)) (λ w x y. IfOk c.by_fields.result (Tells w n (by_structure_eta x y) (claim_by c.args.way x y))) c.args.a c.args.b c.requires.a_in c.requires.b_in c.by_fields.ensures.tells
