use Rattle.std.proofs.Common.{◌<◌, length, map, ap, ◌∙◌}
use Rattle.std.proofs.lemmas.List.Elements.{All-same}
use Rattle.lk_questions.specs.Declarations.{checked}
use Rattle.lk_store.specs.Contents.{name_at}
use Rattle.lk_env.specs.Units.{recursor_at}
use Rattle.lk_recursor.specs.Fronts.{own_recursors}
use Rattle.lk_inductive.specs.Compare.{compare_steps}
use Rattle.lk_block.proofs.Shaping.{shape-known}
use Rattle.lk_recursor.proofs.Steady.{front-steady}
use Rattle.lk_recursor.proofs.Checked.{compare-steady}
use Rattle.lk_declaration.proofs.Moves.{gives_moved}
use Rattle.lk_recursor.proofs.comparing.compare_with.Goals as goal

pub check_all-requires-clause-shared_is : goal.check_all-requires-clause-shared_is
check_all-requires-clause-shared_is g c =
    let before = g.A.Terms.contents c.args.asks.now in
    let between = g.A.Terms.contents c.names_between.new.asks in
    let grown = c.in_ok-names.ensures.keeps in
    let shape = c.args.shape.now in
    record {
      shape_in = shape-known before between grown shape c.requires.shape_in;
      front_is = front-steady before between grown shape c.args.front.now c.requires.shape_in c.requires.front_is;
      names_are = record {
        known = All-same (λ n. n < length between.names) c.deref.result.now c.in_ok-names.names.items c.deref.ensures.value c.in_ok-names.ensures.ok.known;
        are = ap (map (name_at between)) c.deref.ensures.value ∙ c.in_ok-names.ensures.ok.are;
      };
      k_is = c.by_k-k.ensures;
    }

pub returns-clause-outcome : goal.returns-clause-outcome
returns-clause-outcome g c =
    let before = g.A.Terms.contents c.args.asks.now in
    let between = g.A.Terms.contents c.names_between.new.asks in
    let shape = c.args.shape.now in
    let made = c.in_ok-names.ensures in
    gives_moved (g.A.Asks.standing c.args.asks.now) (g.A.Asks.standing c.names_between.new.asks) made.stays
    (compare_steps (own_recursors before shape c.args.front.now) (map (recursor_at before) c.args.stated.now)) (compare_steps (own_recursors between shape c.args.front.now) (map (recursor_at between) c.args.stated.now))
    (compare-steady before between made.keeps shape c.args.front.now c.requires.shape_in c.requires.front_is c.args.stated.now c.requires.stated_in)
    (g.A.Asks.left c.args.asks.now) (g.A.Asks.left c.names_between.new.asks) made.left (λ u. checked) (g.A.Asks.left c.check_all.new.asks) c.check_all.result c.check_all.ensures.outcome
