use Rattle.std.proofs.Common.{refl, subst, ap, ◌∙◌}
use Rattle.lk_tree.specs.Tree.{const}
use Rattle.lk_tree.specs.Levels.{put_levels}
use Rattle.lk_written.specs.Line.{const_rule}
use Rattle.lk_store.specs.Contents.{name_at, list_at, tree_at}
use Rattle.lk_store.specs.Store.{contents_of}
use Rattle.lk_ask.specs.Constants.{IsAtLevels}
use Rattle.lk_trace.specs.declared.rules.TypingRule.TheVariants.{Constant}
use Rattle.lk_derive_types.specs.TypeRows.{HasType}
use Rattle.lk_derive_types.proofs.Leaving.{leaves_made}
use Rattle.lk_derive_types.proofs.Constant.{const_typed, const_levels, stated_at}
use Rattle.lk_derive_types.proofs.NoQuestions.{atom_by}
use Rattle.lk_derive_types.proofs.constants.stated_row.Goals as goal

pub unreachable-requires : goal.unreachable-requires
unreachable-requires g c =
    let old = g.D.Terms.contents c.args.derives.now in
    let new = g.D.Terms.contents c.at_levels.new.self in
    let w = (g.D.Looks.sight (g.D.Terms.rest c.args.derives.now)).basis.place in
    let given = c.requires.given in
    let ls = list_at old c.args.levels in
    let at = c.in_ok-ty.ensures.ok given.entry given.is in
    const_levels w c.requires.stated (name_at old c.args.name) ls (subst (HasType w) c.requires.e_is c.requires.answered) given.entry given.means
    (subst (λ o. IsAtLevels new given.entry.levels ls (tree_at old c.args.entry.stated) o) c.in-None.is at)

pub returns : goal.returns
returns g c =
    let old = g.D.Terms.contents c.args.derives.now in
    let new = g.D.Terms.contents c.at_levels.new.self in
    let basis = (g.D.Looks.sight (g.D.Terms.rest c.args.derives.now)).basis in
    let w = basis.place in
    let given = c.requires.given in
    let x = name_at old c.args.name in
    let ls = list_at old c.args.levels in
    let at = subst (λ o. IsAtLevels new given.entry.levels ls (tree_at old c.args.entry.stated) o) c.in-Some.is (c.in_ok-ty.ensures.ok given.entry given.is) in
    let same = stated_at (contents_of basis.library.tables) old basis.library.units c.args.entry given.entry c.requires.over c.requires.entry_in.stated_in given.is in
    let row = (const_typed w c.requires.stated x ls (subst (HasType w) c.requires.e_is c.requires.answered) given.entry given.means).1 in
    record {
      leaves = leaves_made g.D.Terms.contents g.D.Terms.rest g.D.Looks.sight c.args.derives.now c.at_levels.new.self c.at_levels.ensures.keeps c.at_levels.ensures.rest;
      row = c.typing_row.ensures w new (tree_at old c.args.e) (atom_by w old new Constant c.args.e c.in-Some.ty c.new.result const_rule (const x ls) (put_levels given.entry.levels ls given.entry.type) c.at_levels.ensures.keeps tt refl
          c.requires.e_in c.requires.e_is (record { known = at.1.known; is = at.1.is ∙ ap (put_levels given.entry.levels ls) same }) c.new.ensures row);
    }
