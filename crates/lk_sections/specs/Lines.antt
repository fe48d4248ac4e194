-- The lines of a section, behind those of their trees.
use Rattle.std.specs.Prelude.{ℕ, ◌+◌, List, [], ◌∷◌, ◌++◌, map, decimal}
use Rattle.lk_lines.specs.declared.rules.RuleTag.{RuleTag}
use Rattle.lk_lines.specs.declared.tags.Tag.TheVariants.{Derivation}
use Rattle.lk_lines.specs.Rules.{rule_word, family_of}
use Rattle.lk_lines.specs.Tags.{tag_word}
use Rattle.lk_written.specs.Line.{Line}
use Rattle.lk_trim.specs.Written.{Written, File, fields, line}
use Rattle.lk_trim.specs.Trees.{tree_number, write_tree}
use Rattle.lk_sections.specs.Rules.{Extra, bare, with_local, with_place, LineFields, line_fields}

-- the lines of a Local
abbrev pub write_extra : Extra → File → File
write_extra bare f = f
write_extra (with_local x) f = write_tree x f
write_extra (with_place i) f = f

-- the lines of the trees of a line
abbrev pub write_trees : LineFields → File → File
write_trees d f = write_tree d.right (write_tree d.left (write_extra d.extra f))

-- the numbers of the lines that have these places in a section whose first line has number `first`
abbrev pub numbers_from : ℕ → List ℕ → List ℕ
numbers_from first ps = map (λ p. first + p) ps

-- the tag of the rule's family, and the rule
abbrev pub rule_fields : RuleTag → List ℕ
rule_fields t = 32 ∷ (tag_word (Derivation (family_of t)) ++ 32 ∷ rule_word t)

abbrev pub extra_fields : Written → Extra → List ℕ
extra_fields w bare = []
extra_fields w (with_local x) = fields (tree_number w x ∷ [])
extra_fields w (with_place i) = fields (i ∷ [])

-- the two trees, what stands beside them, and the premises
unfoldable pub claim_fields : ℕ → LineFields → Written → List ℕ
claim_fields first d w =
    fields (tree_number w d.left ∷ tree_number w d.right ∷ []) ++
    (extra_fields w d.extra ++ fields (numbers_from first d.premises))

abbrev pub line_text : ℕ → ℕ → LineFields → Written → List ℕ
line_text first number d w = decimal number ++ (rule_fields d.rule ++ claim_fields first d w)

-- a line of this number, in a section whose first line has number `first`
abbrev pub write_line : ℕ → ℕ → Line → File → File
write_line first number l f =
    line (line_text first number (line_fields l)) (write_trees (line_fields l) f)

-- lines one after another, from this number on
abbrev pub write_lines : ℕ → ℕ → List Line → File → File
write_lines first number [] f = f
write_lines first number (l ∷ ls) f =
    write_lines first (number + 1) ls (write_line first number l f)
