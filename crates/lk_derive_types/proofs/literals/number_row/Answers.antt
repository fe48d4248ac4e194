use Rattle.std.proofs.Common.{refl, subst}
use Rattle.lk_tree.specs.Tree.{lit}
use Rattle.lk_tree.specs.WellFormed.{IsWellFormed}
use Rattle.lk_rulebook.specs.Names.{named, nat}
use Rattle.lk_written.specs.Line.{lit_rule}
use Rattle.lk_store.specs.Contents.{tree_at}
use Rattle.lk_trace.specs.declared.rules.TypingRule.TheVariants.{NatLiteral}
use Rattle.lk_derive_types.specs.TypeRows.{HasType}
use Rattle.lk_derive_types.proofs.Leaving.{leaves_made}
use Rattle.lk_derive_types.proofs.Constant.{lit_typed}
use Rattle.lk_derive_types.proofs.NoQuestions.{atom_by}
use Rattle.lk_derive_types.proofs.literals.number_row.Goals as goal

pub returns : goal.returns
returns g c =
    let old = g.D.Terms.contents c.args.derives.now in
    let new = g.D.Terms.contents c.nat.new.looks in
    let w = (g.D.Looks.sight (g.D.Terms.rest c.args.derives.now)).basis.place in
    let n = c.args.number in
    record {
      leaves = leaves_made g.D.Terms.contents g.D.Terms.rest g.D.Looks.sight c.args.derives.now c.nat.new.looks c.nat.ensures.keeps c.nat.ensures.stays;
      row = c.typing_row.ensures w new (tree_at old c.args.e) (atom_by w old new NatLiteral c.args.e c.in_ok-ty.ty c.new.result lit_rule (lit n) (named nat) c.nat.ensures.keeps tt refl c.requires.e_in c.requires.e_is
          c.in_ok-ty.ensures.ok c.new.ensures (lit_typed w n (subst IsWellFormed c.requires.e_is c.requires.askable) (subst (HasType w) c.requires.e_is c.requires.answered)));
    }
