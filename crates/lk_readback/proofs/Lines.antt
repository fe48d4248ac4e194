-- What a reader makes of each line of a canonical text.
use Rattle.std.specs.Prelude.{ℕ, ◌≢◌, ◌-◌, List, ◌∷◌, ◌++◌, length, decimal}
use Rattle.lk_tree.specs.Tree.{Name, Part, Level, zero_level, Tree}
use Rattle.lk_rulebook.specs.Place.{Ctor, BlockType, RecRule, BlockRecursor}
use Rattle.lk_rulebook.specs.Units.{Decl}
use Rattle.lk_env.specs.Budgets.{StatedBudget}
use Rattle.lk_trim.specs.Written.{Written}
use Rattle.lk_trim.specs.Names.{name_fields}
use Rattle.lk_trim.specs.Levels.{level_fields}
use Rattle.lk_trim.specs.Trees.{tree_fields}
use Rattle.lk_trim.specs.Units.{decl_line, type_line, ctor_line, rule_line, rec_line}
use Rattle.lk_trim.specs.Whole.{budget_line}
use Rattle.lk_readback.specs.Statable.{IsSmall, IsPart, IsTree, IsDecl, IsType, IsCtor, IsRule}
use Rattle.lk_readback.specs.Statable.{IsRecursor, IsBudget}
use Rattle.lk_readback.specs.Items.{name_item, level_item, tree_item, decl_item, type_item}
use Rattle.lk_readback.specs.Items.{ctor_item, rule_item, rec_item, budget_item}
pub use Rattle.lk_readback.proofs.WholeLine.{IsLine, AreFew}
use Rattle.lk_readback.proofs.NameLines.{name_line, level_line}
use Rattle.lk_readback.proofs.TreeLines.{tree_line}
use Rattle.lk_readback.proofs.UnitLines.{decl_line_said, type_line_said, ctor_line_said}
use Rattle.lk_readback.proofs.UnitLines.{rule_line_said, rec_line_said, budget_line_said}

pub name_is_line : (own : ℕ) (w : Written) (p : Part) (ps : List Part) → IsSmall own → AreFew w
    → IsPart p → IsLine (decimal own ++ name_fields w (p ∷ ps)) (name_item own w (p ∷ ps))
name_is_line own w p ps small few part = name_line own w p ps small few part

pub level_is_line : (own : ℕ) (w : Written) (l : Level) → IsSmall own → AreFew w → l ≢ zero_level
    → IsLine (decimal own ++ level_fields w l) (level_item own w l)
level_is_line own w l small few other = level_line own w l small few other

pub tree_is_line : (own : ℕ) (w : Written) (e : Tree) → IsSmall own → AreFew w → IsTree e
    → IsLine (decimal own ++ tree_fields w e) (tree_item own w e)
tree_is_line own w e small few tree = tree_line own w e small few tree

pub decl_is_line : (d : Decl) (w : Written) → AreFew w → IsDecl d
    → IsLine (decl_line d w) (decl_item d w)
decl_is_line d w few decl = decl_line_said d w few decl

pub type_is_line : (family : List Name) (t : BlockType) (w : Written) → AreFew w
    → IsSmall (length family) → IsType t → IsLine (type_line family t w) (type_item family t w)
type_is_line family t w few small type = type_line_said family t w few small type

pub ctor_is_line : (parent : Name) (c : Ctor) (w : Written) → AreFew w → IsCtor parent c
    → IsLine (ctor_line c w) (ctor_item c w)
ctor_is_line parent c w few ctor = ctor_line_said parent c w few ctor

pub rule_is_line : (r : RecRule) (w : Written) → AreFew w → IsSmall w.rules → IsRule r
    → IsLine (rule_line r w) (rule_item r w)
rule_is_line r w few small rule = rule_line_said r w few small rule

pub rec_is_line : (family : List Name) (first : ℕ) (r : BlockRecursor) (w : Written) → AreFew w
    → IsSmall (length family) → IsSmall (w.rules - first) → IsRecursor r
    → IsLine (rec_line family first r w) (rec_item family first r w)
rec_is_line family first r w few small since recursor =
    rec_line_said family first r w few small since recursor

pub budget_is_line : (b : StatedBudget) (w : Written) → AreFew w → IsBudget b
    → IsLine (budget_line b w) (budget_item b w)
budget_is_line b w few budget = budget_line_said b w few budget
