use Rattle.std.specs.Prelude.{IfOk}
use Rattle.lk_rulebook.specs.Place.{Place}
use Rattle.lk_questions.specs.Eta.{by_structure_eta}
use Rattle.lk_store.specs.Contents.{Contents, tree_at}
use Rattle.lk_step.specs.Told.{Leaves}
use Rattle.lk_step.specs.Tests.{IsRun, AreReduced}
use Rattle.lk_step.specs.Tells.{Tells}
use Rattle.lk_step.proofs.Moving.{moved2, back2, leaves_made}
use Rattle.lk_derive_eta.specs.Structures.{claim_by, AreFields}
use Rattle.lk_derive_eta.proofs.FieldPairs.{fields_there, typed_on}
use Rattle.lk_derive_eta.proofs.structures.by_fields.Goals as goal

pub compare_fields-requires-clause-fields : goal.compare_fields-requires-clause-fields
compare_fields-requires-clause-fields g c =
    let w : Place = (g.D.Looks.sight (g.D.Terms.rest c.args.derives.now)).basis.place in
    let d : Contents = g.D.Terms.contents c.args.derives.now in
    let m : Contents = g.D.Terms.contents c.pairs_of.new.terms in
    let l : Leaves g.D.Terms.contents g.D.Terms.rest g.D.Looks.sight c.args.derives.now c.pairs_of.new.terms = leaves_made g.D.Terms.contents g.D.Terms.rest g.D.Looks.sight c.args.derives.now c.pairs_of.new.terms c.pairs_of.ensures.keeps c.pairs_of.ensures.rest in
    rw c.deref.ensures.value (moved2 l (λ w x y. AreFields w x y m c.in_ok-pairs.pairs.items) c.args.a c.args.b c.requires.a_in c.requires.b_in
    (fields_there w d m (tree_at d c.args.a) (tree_at d c.args.b) c.args.found c.requires.full c.in_ok-pairs.pairs.items c.in_ok-pairs.ensures.ok))

pub compare_fields-requires-clause-typed : goal.compare_fields-requires-clause-typed
compare_fields-requires-clause-typed g c =
    let l : Leaves g.D.Terms.contents g.D.Terms.rest g.D.Looks.sight c.args.derives.now c.pairs_of.new.terms = leaves_made g.D.Terms.contents g.D.Terms.rest g.D.Looks.sight c.args.derives.now c.pairs_of.new.terms c.pairs_of.ensures.keeps c.pairs_of.ensures.rest in
    typed_on l c.args.a c.args.b c.args.typed c.requires.a_in c.requires.b_in c.requires.typed

pub compare_fields-requires-clause-pair : goal.compare_fields-requires-clause-pair
compare_fields-requires-clause-pair g c =
    let l : Leaves g.D.Terms.contents g.D.Terms.rest g.D.Looks.sight c.args.derives.now c.pairs_of.new.terms = leaves_made g.D.Terms.contents g.D.Terms.rest g.D.Looks.sight c.args.derives.now c.pairs_of.new.terms c.pairs_of.ensures.keeps c.pairs_of.ensures.rest in
    moved2 l (λ w x y. AreReduced w x y) c.args.a c.args.b c.requires.a_in c.requires.b_in c.requires.pair

pub compare_fields-requires-clause-run : goal.compare_fields-requires-clause-run
compare_fields-requires-clause-run g c =
    let l : Leaves g.D.Terms.contents g.D.Terms.rest g.D.Looks.sight c.args.derives.now c.pairs_of.new.terms = leaves_made g.D.Terms.contents g.D.Terms.rest g.D.Looks.sight c.args.derives.now c.pairs_of.new.terms c.pairs_of.ensures.keeps c.pairs_of.ensures.rest in
    moved2 l (λ w x y. IsRun w (by_structure_eta x y) c.args.enough) c.args.a c.args.b c.requires.a_in c.requires.b_in c.requires.run

pub returns-clause-tells : goal.returns-clause-tells
returns-clause-tells g c =
    let n : Contents = g.D.Terms.contents c.compare_fields.new.derives in
    let l : Leaves g.D.Terms.contents g.D.Terms.rest g.D.Looks.sight c.args.derives.now c.pairs_of.new.terms = leaves_made g.D.Terms.contents g.D.Terms.rest g.D.Looks.sight c.args.derives.now c.pairs_of.new.terms c.pairs_of.ensures.keeps c.pairs_of.ensures.rest in
    back2 l (λ w x y. IfOk c.compare_fields.result (Tells w n (by_structure_eta x y) (claim_by c.args.way x y))) c.args.a c.args.b c.requires.a_in c.requires.b_in c.compare_fields.ensures.tells
