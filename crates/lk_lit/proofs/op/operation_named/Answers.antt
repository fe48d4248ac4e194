use Rattle.std.proofs.Common.{ap, ◌∙◌}
use Rattle.lk_questions.specs.Literals.{ops}
use Rattle.lk_lit.specs.Operations.{op_of_word}
use Rattle.lk_lit.proofs.Operations.{word_names, other_parent, number_names_none, empty_names_none}
use Rattle.lk_lit.proofs.op.operation_named.Goals as goal

pub returns-then-is_builtin : goal.returns-then-is_builtin
returns-then-is_builtin g c =
    c.operation_of.ensures ∙ ap (op_of_word ops) (c.as_bytes.ensures ∙ c.text.ensures)
    ∙ word_names _ _ _ c.in-Text.ensures.name c.if-is_builtin.ensures

pub returns-else-is_builtin : goal.returns-else-is_builtin
returns-else-is_builtin g c = other_parent _ _ _ c.in-Text.ensures.name c.if-is_builtin.ensures

pub returns-in-Number : goal.returns-in-Number
returns-in-Number g c = number_names_none _ _ _ c.in-Number.ensures.name

pub returns-in-Anonymous : goal.returns-in-Anonymous
returns-in-Anonymous g c = empty_names_none _ c.in-Anonymous.ensures.name
