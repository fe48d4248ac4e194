use Rattle.std.proofs.Common.{refl, subst}
use Rattle.lk_tree.specs.Tree.{str}
use Rattle.lk_rulebook.specs.Names.{named, string}
use Rattle.lk_written.specs.Line.{str_rule}
use Rattle.lk_store.specs.Contents.{text_at, tree_at}
use Rattle.lk_trace.specs.declared.rules.TypingRule.TheVariants.{TextLiteral}
use Rattle.lk_derive_types.specs.TypeRows.{HasType}
use Rattle.lk_derive_types.proofs.Leaving.{leaves_made}
use Rattle.lk_derive_types.proofs.Constant.{str_typed}
use Rattle.lk_derive_types.proofs.NoQuestions.{atom_by}
use Rattle.lk_derive_types.proofs.literals.text_row.Goals as goal

pub returns : goal.returns
returns g c =
    let old = g.D.Terms.contents c.args.derives.now in
    let new = g.D.Terms.contents c.string.new.looks in
    let w = (g.D.Looks.sight (g.D.Terms.rest c.args.derives.now)).basis.place in
    let s = text_at old c.args.text in
    record {
      leaves = leaves_made g.D.Terms.contents g.D.Terms.rest g.D.Looks.sight c.args.derives.now c.string.new.looks c.string.ensures.keeps c.string.ensures.stays;
      row = c.typing_row.ensures w new (tree_at old c.args.e) (atom_by w old new TextLiteral c.args.e c.in_ok-ty.ty c.new.result str_rule (str s) (named string) c.string.ensures.keeps tt refl c.requires.e_in c.requires.e_is
          c.in_ok-ty.ensures.ok c.new.ensures (str_typed w s (subst (HasType w) c.requires.e_is c.requires.answered)));
    }
