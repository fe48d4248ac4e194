use Rattle.std.proofs.Common.{ap, ◌∙◌}
use Rattle.lk_tree.specs.Level.{is_zero_level}
use Rattle.lk_derive_types.proofs.subjects.note_whether_prop.Goals as goal

pub level_is_zero-requires : goal.level_is_zero-requires
level_is_zero-requires g c = c.in_ok-sorted.ensures.sorted.level_is.known

pub returns : goal.returns
returns g c =
    record {
      leaves = c.sort_of.ensures.leaves;
      noted = record {
        noted = record { sorted = c.in_ok-sorted.sorted; first = c.note_type.new.self; read = c.in_ok-sorted.ensures.sorted; typed = c.in_ok-note_type.ensures; form = c.in_ok-note_form.ensures };
        prop_is = c.level_is_zero.ensures ∙ ap is_zero_level c.in_ok-sorted.ensures.sorted.level_is.is;
      };
    }
