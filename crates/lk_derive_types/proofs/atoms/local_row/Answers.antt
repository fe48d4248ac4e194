use Rattle.std.proofs.Common.{refl, subst}
use Rattle.lk_tree.specs.Tree.{local}
use Rattle.lk_tree.specs.WellFormed.{IsWellFormed}
use Rattle.lk_written.specs.Line.{local_rule}
use Rattle.lk_store.specs.Contents.{tree_at}
use Rattle.lk_store.proofs.Made.{Extends-self}
use Rattle.lk_trace.specs.declared.rules.TypingRule.TheVariants.{Local}
use Rattle.lk_derive_types.specs.TypeRows.{HasType}
use Rattle.lk_derive_types.proofs.Leaving.{leaves_made}
use Rattle.lk_derive_types.proofs.NoQuestions.{local_typed, atom_by}
use Rattle.lk_derive_types.proofs.atoms.local_row.Goals as goal

pub returns : goal.returns
returns g c =
    let old = g.D.Terms.contents c.args.derives.now in
    let w = (g.D.Looks.sight (g.D.Terms.rest c.args.derives.now)).basis.place in
    let T = tree_at old c.args.ty in
    let x = Extends-self old in
    record {
      leaves = leaves_made g.D.Terms.contents g.D.Terms.rest g.D.Looks.sight c.args.derives.now c.args.derives.now x refl;
      row = c.typing_row.ensures w old (tree_at old c.args.e) (atom_by w old old Local c.args.e c.args.ty c.new.result local_rule (local c.args.number T) T x tt refl c.requires.e_in c.requires.e_is
          (record { known = c.requires.ty_in; is = refl }) c.new.ensures
          (local_typed w c.args.number T (subst IsWellFormed c.requires.e_is c.requires.askable) (subst (HasType w) c.requires.e_is c.requires.answered)));
    }
