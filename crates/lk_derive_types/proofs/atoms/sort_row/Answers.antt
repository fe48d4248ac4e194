use Rattle.std.proofs.Common.{refl, ap, subst, ◌∙◌}
use Rattle.lk_tree.specs.Tree.{sort, succ_level}
use Rattle.lk_written.specs.Line.{sort_rule}
use Rattle.lk_store.specs.Contents.{level_at, tree_at}
use Rattle.lk_store.proofs.Extending.{Extends-trans}
use Rattle.lk_trace.specs.declared.rules.TypingRule.TheVariants.{Sort}
use Rattle.lk_derive_types.specs.TypeRows.{HasType}
use Rattle.lk_derive_types.proofs.Leaving.{leaves_made}
use Rattle.lk_derive_types.proofs.NoQuestions.{sort_typed, atom_by}
use Rattle.lk_derive_types.proofs.atoms.sort_row.Goals as goal

pub returns : goal.returns
returns g c =
    let old = g.D.Terms.contents c.args.derives.now in
    let mid = g.D.Terms.contents c.make_level.new.self in
    let new = g.D.Terms.contents c.make.new.self in
    let w = (g.D.Looks.sight (g.D.Terms.rest c.args.derives.now)).basis.place in
    let l = level_at old c.args.level in
    let x = Extends-trans old mid new c.make_level.ensures.keeps c.make.ensures.keeps in
    let above = c.in_ok-above.ensures.ok in
    let ty = c.in_ok-ty.ensures.ok in
    record {
      leaves = leaves_made g.D.Terms.contents g.D.Terms.rest g.D.Looks.sight c.args.derives.now c.make.new.self x (c.make.ensures.rest ∙ c.make_level.ensures.rest);
      row = c.typing_row.ensures w new (tree_at old c.args.e) (atom_by w old new Sort c.args.e c.in_ok-ty.ty c.new.result sort_rule (sort l) (sort (succ_level l)) x tt refl c.requires.e_in c.requires.e_is
          (record { known = ty.known; is = ty.is ∙ ap sort above.is }) c.new.ensures (sort_typed w l (subst (HasType w) c.requires.e_is c.requires.answered)));
    }
