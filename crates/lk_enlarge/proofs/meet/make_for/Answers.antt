use Rattle.std.proofs.Common.{List, map, sym, ap, subst, ◌∙◌}
use Rattle.std.specs.Prelude.{option_map}
use Rattle.lk_declaration.specs.Courses.{Settles}
use Rattle.lk_env.specs.Units.{type_at}
use Rattle.lk_family.specs.Families.{family_at}
use Rattle.lk_inductive.specs.Enlarged.{Aux}
use Rattle.lk_mentions.specs.Names.{names_at}
use Rattle.lk_questions.specs.Program.{Program}
use Rattle.lk_rulebook.specs.Place.{Block, BlockType}
use Rattle.lk_store.specs.Contents.{name_at, list_at, tree_at}
use Rattle.lk_tree.specs.Tree.{Tree}
use Rattle.lk_auxiliary.specs.Auxiliaries.{auxs_at}
use Rattle.lk_auxiliary.specs.Made.{made_form}
use Rattle.lk_auxiliary.specs.Settings.{setting_at}
use Rattle.lk_enlarge.proofs.Occurring.{told_is, some_is}
use Rattle.lk_enlarge.proofs.meet.make_for.Goals as goal

pub returns-clause-made : goal.returns-clause-made
returns-clause-made g c = λ J ls b t is.
    let s = g.F.Terms.contents c.args.asks.now in
    let after = g.F.Terms.contents c.make.new.terms in
    let w = (g.F.Asks.standing c.args.asks.now).place in
    let ns = names_at s c.args.setting.now.names.now in
    let x = name_at s c.in-Const.name in
    let ms = list_at s c.in-Const.list in
    let family = c.in-Some.family in
    let told = c.in_ok-family-in-Const.ensures.family in
    let known = told_is w ns (tree_at s c.args.e) c.requires.occurs J ls b t is x ms (c.in-Const.ensures.tree ∙ c.head-start.ensures.is) (option_map (family_at s) c.in_ok-family-in-Const.field-0) told.0 told.1 told.2 in
    let pair = some_is (family_at s family) (b, t) (sym (ap (option_map (family_at s)) c.in-Some.is) ∙ known.2) in
    let plain = setting_at s c.args.setting.now in
    let auxs = auxs_at s c.args.auxs.now.items in
    let xs = map (tree_at s) c.args.arguments.now in
    subst (λ (p : Program (Tree × List Aux)). Settles p (λ r. (tree_at after r, auxs_at after c.make.new.auxs.items)) c.make.result)
    (ap (λ n. made_form plain auxs n ms xs (map (type_at s) family.types.items) (type_at s family.own)) known.0
    ∙ ap (λ l. made_form plain auxs J l xs (map (type_at s) family.types.items) (type_at s family.own)) known.1
    ∙ ap (λ (y : Block × BlockType). made_form plain auxs J ls xs (y.0).types y.1) pair)
    c.make.ensures.made
