use Rattle.std.proofs.Common.{◌≡◌, true, false, sym, ap, ◌∙◌}
use Rattle.lk_tree.specs.Mentions.{same_name}
use Rattle.lk_rulebook.specs.Names.{nat}
use Rattle.lk_questions.specs.Literals.{ops}
use Rattle.lk_store.specs.Contents.{name_at}
use Rattle.lk_lit.specs.Operations.{op_of_word}
use Rattle.lk_lit.proofs.Operations.{word_names, other_parent, number_names_none, empty_names_none}
use Rattle.lk_replay_reduce.proofs.operations.operation_named.Goals as goal

pub returns-then-same_name : goal.returns-then-same_name
returns-then-same_name g c =
    let p = name_at (g.T.Terms.contents c.args.terms.now) c.in-Text.parent in
    let behind : true ≡ same_name p nat = sym c.if-same_name.true ∙ c.same_name.ensures ∙ ap (same_name p) c.requires.nat_is in
    c.operation_of.ensures ∙ ap (op_of_word ops) (c.as_bytes.ensures ∙ c.text.ensures)
    ∙ word_names _ _ _ c.in-Text.ensures.name behind

pub returns-else-same_name : goal.returns-else-same_name
returns-else-same_name g c =
    let p = name_at (g.T.Terms.contents c.args.terms.now) c.in-Text.parent in
    let other : false ≡ same_name p nat = sym c.if-same_name.false ∙ c.same_name.ensures ∙ ap (same_name p) c.requires.nat_is in
    other_parent _ _ _ c.in-Text.ensures.name other

pub returns-in-Number : goal.returns-in-Number
returns-in-Number g c = number_names_none _ _ _ c.in-Number.ensures.name

pub returns-in-Anonymous : goal.returns-in-Anonymous
returns-in-Anonymous g c = empty_names_none _ c.in-Anonymous.ensures.name
