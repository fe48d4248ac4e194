use Rattle.std.proofs.Common.{◌≡◌, ◌<◌, length, ap, ◌∙◌}
use Rattle.std.proofs.lemmas.List.Elements.{All-same}
use Rattle.lk_tree.specs.Tree.{Tree, app, pi}
use Rattle.lk_tree.specs.Bind.{close}
use Rattle.lk_tree.specs.Spine.{apply}
use Rattle.lk_store.specs.Contents.{tree_at}
use Rattle.lk_subst.specs.Numbers.{trees-known}
use Rattle.lk_inductive.specs.Block.{domain}
use Rattle.lk_inductive.specs.Recursors.{number, major, motive_of}
use Rattle.lk_block.specs.Shapes.{shape_at, type_shape_at}
use Rattle.lk_recursor.proofs.Applied.{motive_same}
use Rattle.lk_recursor.proofs.Steady.{heads-steady}
use Rattle.lk_recursor.proofs.recursor.end_of.Goals as goal

pub motive_at-requires-clause-heads_are : goal.motive_at-requires-clause-heads_are
motive_at-requires-clause-heads_are g c =
    heads-steady (g.T.Terms.contents c.args.terms.now) (g.T.Terms.contents c.major_of.new.terms) c.in_ok-major.ensures.keeps c.args.shape.now c.args.front.now.heads c.requires.shape_in c.requires.front_is.heads_are

pub motive_at-requires-clause-indices_in : goal.motive_at-requires-clause-indices_in
motive_at-requires-clause-indices_in g c =
    let before = g.T.Terms.contents c.args.terms.now in
    let first = g.T.Terms.contents c.major_of.new.terms in
    let indices = c.args.of.now.indices.items in
    All-same (λ e. e < length first.trees) c.deref.result.now indices c.deref.ensures.value (trees-known before first indices c.in_ok-major.ensures.keeps c.requires.type_in.indices_in)

pub returns-clause-ok : goal.returns-clause-ok
returns-clause-ok g c =
    let before = g.T.Terms.contents c.args.terms.now in
    let first = g.T.Terms.contents c.major_of.new.terms in
    let second = g.T.Terms.contents c.motive_at.new.terms in
    let s = c.args.shape.now in
    let of = c.args.of.now in
    let p = shape_at before s in
    let t = type_shape_at before of in
    let M = major p t in
    let E = app (apply (motive_of p t.name) t.indices) M in
    let first_made = c.in_ok-major.ensures in
    let end = c.in_ok-end.ensures in
    let made = c.in_ok-made.ensures.ok in
    let M_is : tree_at second c.in_ok-major.major ≡ M = end.keeps.trees.same c.in_ok-major.major first_made.ok.known ∙ first_made.ok.is in
    let E_is : tree_at second c.in_ok-end.end ≡ E =
    end.ok.is ∙ motive_same before first first_made.keeps s c.requires.shape_in of.name c.requires.type_in.name_in c.deref.result.now of.indices.items c.deref.ensures.value c.requires.type_in.indices_in (tree_at first c.in_ok-major.major) M first_made.ok.is in
    record {
      known = made.known;
      is = made.is ∙ ap (λ (m : Tree). pi (domain m) (close (number m) (tree_at second c.in_ok-end.end))) M_is ∙ ap (λ (e : Tree). pi (domain M) (close (number M) e)) E_is;
    }
