use Rattle.std.proofs.Common.{◌<◌, length, map, ap, sym, ◌∙◌}
use Rattle.std.proofs.lemmas.List.Elements.{All-same}
use Rattle.lk_tree.specs.Tree.{param}
use Rattle.lk_questions.specs.Declarations.{checked}
use Rattle.lk_store.specs.Contents.{name_at, level_at}
use Rattle.lk_env.specs.Units.{recursor_at}
use Rattle.lk_inductive.specs.Compare.{rec_steps}
use Rattle.lk_block.specs.Shapes.{shape_at}
use Rattle.lk_recursor.specs.Fronts.{read_by}
use Rattle.lk_recursor.specs.Comparisons.{own_at}
use Rattle.lk_env.proofs.Stays.{recursor_in_stays, names_stay}
use Rattle.lk_recursor.proofs.Compared.{shared-known, own-known}
use Rattle.lk_recursor.proofs.Checked.{pair-steady}
use Rattle.lk_declaration.proofs.Moves.{gives_moved}
use Rattle.lk_recursor.proofs.comparing.check_found.Goals as goal

pub check_pair-requires : goal.check_pair-requires
check_pair-requires g c =
    let before = g.A.Terms.contents c.args.asks.now in
    let between = g.A.Terms.contents c.levels_between.new.asks in
    let grown = c.in_ok-levels.ensures.keeps in
    let stated = c.args.stated.now in
    record {
      shared_is = shared-known before between grown c.args.shared.now c.requires.shared_is;
      own_is = own-known before between grown c.args.own c.requires.own_is;
      stated_in = recursor_in_stays before between grown stated c.requires.stated_in;
      levels_in = All-same (λ l. l < length between.levels) c.deref-2.result.now c.in_ok-levels.levels.items c.deref-2.ensures.value c.in_ok-levels.ensures.known;
      levels_are = ap (map (level_at between)) c.deref-2.ensures.value ∙ c.in_ok-levels.ensures.ok ∙ ap (λ ns. map param (map (name_at before) ns)) c.deref.ensures.value
          ∙ ap (map param) (sym (names_stay before between grown stated.levels.items c.requires.stated_in.stated.levels_in));
    }

pub returns-clause-outcome : goal.returns-clause-outcome
returns-clause-outcome g c =
    let before = g.A.Terms.contents c.args.asks.now in
    let between = g.A.Terms.contents c.levels_between.new.asks in
    let shape = c.args.shared.now.shape.now in
    let front = c.args.shared.now.front.now in
    let made = c.in_ok-levels.ensures in
    gives_moved (g.A.Asks.standing c.args.asks.now) (g.A.Asks.standing c.levels_between.new.asks) made.stays
    (rec_steps (recursor_at before c.args.stated.now) (own_at before (read_by before shape front) (shape_at before shape) c.args.own))
    (rec_steps (recursor_at between c.args.stated.now) (own_at between (read_by between shape front) (shape_at between shape) c.args.own))
    (pair-steady before between made.keeps shape front c.requires.shared_is.shape_in c.requires.shared_is.front_is c.args.stated.now c.args.own c.requires.stated_in c.requires.own_is)
    (g.A.Asks.left c.args.asks.now) (g.A.Asks.left c.levels_between.new.asks) made.left (λ u. checked) (g.A.Asks.left c.check_pair.new.asks) c.check_pair.result c.check_pair.ensures.outcome
