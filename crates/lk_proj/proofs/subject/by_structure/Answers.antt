use Rattle.std.proofs.Common.{◌≡◌, true, length, map, reverse, ap, ◌∙◌, rules, arith}
use Rattle.std.specs.Prelude.{option_map}
use Rattle.lk_tree.specs.Spine.{args}
use Rattle.lk_store.specs.Contents.{name_at, list_at, tree_at}
use Rattle.lk_subst.specs.Numbers.{trees-steady}
use Rattle.lk_structure.proofs.Fitting.{fits_is}
use Rattle.lk_proj.proofs.Subjects.{waiting_type, ctor_type_is, type_asked, stacked}
use Rattle.lk_proj.proofs.subject.by_structure.Goals as goal

pub returns : goal.returns
returns g c ind k h type =
    let a = c.args in
    let before = g.L.Terms.contents a.looks.now in
    let after = g.L.Terms.contents c.at_levels.new.self in
    let sight = g.L.Looks.sight (g.L.Terms.rest a.looks.now) in
    let w = sight.basis.place in
    let grows = c.at_levels.ensures.keeps in
    let arguments = c.in_ok-arguments.arguments.items in
    let T = tree_at before a.ty in
    let long : c.len.result ≡ length arguments = omega (arith, c.in_ok-arguments.arguments.ok.0) in
    let told = fits_is before arguments (args T) c.len.result a.p.field a.structure.parameters
    ind.parameters
    a.structure.indices ind.indices a.structure.fields k.fields c.fits.result true
    c.in_ok-arguments.ensures long
    h.parameters_are h.indices_are h.fields_are c.fits.ensures (search rules) in
    let bs : reverse (map (tree_at after) c.reverse.new.self.items) ≡ args T =
    ap (λ xs. reverse (map (tree_at after) xs)) c.reverse.ensures.items
    ∙ stacked (tree_at after) arguments
    ∙ trees-steady before after arguments grows c.in_ok-arguments.ensures.known
    ∙ c.in_ok-arguments.ensures.are in
    record {
      keeps = search rules;
      stays = search rules;
      known = search rules;
      steps = ap (λ r. waiting_type w (g.L.Looks.sight r).last (tree_at after a.p.whole)
          (tree_at after a.ty)
          (map (tree_at after) c.reverse.new.self.items) a.structure.parameters
          (option_map (tree_at after) c.in_ok-constructor.constructor)) c.at_levels.ensures.rest
          ∙ type_asked w sight.last (name_at before a.p.structure) a.p.field
          (tree_at before a.p.subject) T
          (list_at before a.levels) ind k (tree_at after a.p.whole) (tree_at after a.ty)
          (map (tree_at after) c.reverse.new.self.items) a.structure.parameters
          (option_map (tree_at after) c.in_ok-constructor.constructor) told
          (grows.trees.same a.p.whole c.requires.p_in.whole_in ∙ c.requires.p_in.is)
          (grows.trees.same a.ty c.requires.ty_in) bs h.parameters_are
          (ctor_type_is after h.entry.levels k.levels (list_at before a.levels)
          (tree_at before a.structure.constructor.stated) k.type c.in_ok-constructor.constructor
          h.levels_are type
          (c.in_ok-constructor.ensures.ok h.entry h.entry_is));
    }
