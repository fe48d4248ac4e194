-- The lines of trees.
use Rattle.std.proofs.Common.{◌≡◌, ℕ, ◌^◌, List, [], ◌∷◌, ◌++◌, map, refl, sym, ap, subst, arith}
use Rattle.std.specs.Prelude.{decimal, codes, IsUtf8}
use Rattle.std.specs.Fmt.{digits}
use Rattle.std.proofs.lemmas.Fmt.{decimal_is_IsNumeral_wide}
use Rattle.lk_tree.specs.Tree.{Name, Level, Tree, var, sort, const, app, lam, pi, let_in}
use Rattle.lk_tree.specs.Tree.{proj, lit, wide, str, local}
use Rattle.lk_num.specs.declared.numeral.Nat.TheVariants as nats
use Rattle.lk_lines.specs.declared.line.BinderInfo.TheVariants.{Default}
use Rattle.lk_lines.specs.declared.tags.EntryTag.TheVariants as entry
use Rattle.lk_lines.specs.Values.{Number, Literal, OfInfo, Numbers, Bytes}
use Rattle.lk_lines.specs.Spelling.{IsLiteral}
use Rattle.lk_trim.specs.Written.{Written}
use Rattle.lk_trim.specs.Names.{name_number}
use Rattle.lk_trim.specs.Levels.{level_number}
use Rattle.lk_trim.specs.Trees.{tree_number, tree_fields}
use Rattle.lk_readback.specs.Statable.{IsSmall, IsTree}
use Rattle.lk_readback.specs.Items.{tree_item}
use Rattle.lk_readback.proofs.Joined.{spaced}
use Rattle.lk_readback.proofs.Spelled.{nothing_due, known, plain_number, literal, default_info}
use Rattle.lk_readback.proofs.Spelled.{zero_known, rest_due, hex_due}
use Rattle.lk_readback.proofs.Spelled.{numerals, spaced_numerals, decimal_field, decimal_numbers}
use Rattle.lk_readback.proofs.Spelled.{numeral_field}
use Rattle.lk_readback.proofs.WholeLine.{IsLine, AreFew, numbered_line, line_again}
use Rattle.lk_readback.proofs.Sizes.{name_small, level_small, tree_small, map_small}
use Rattle.lk_readback.proofs.HexPairs.{utf8_bytes, hex_pairs, pairs_spaced, pairs_are}
use Rattle.lk_readback.proofs.HexPairs.{pairs_fields}

-- 2 ^ 128, the number that is written of every literal above 2 ^ 128 - 1
abbrev wide_word : List ℕ
wide_word = codes "340282366920938463463374607431768211456"

wide_is : decimal (2 ^ 128) ≡ wide_word
unfolding digits
wide_is = refl

wide_literal : IsLiteral wide_word nats.Wide
wide_literal =
    let h = decimal_is_IsNumeral_wide (2 ^ 128) (omega arith) in
    subst (λ (word : List ℕ). IsLiteral word nats.Wide) wide_is (h.0, (let e = h.1 in omega arith))

const_line : (own : ℕ) (w : Written) (n : Name) (ls : List Level) → IsSmall own → AreFew w
    → IsLine (decimal own ++ tree_fields w (const n ls)) (tree_item own w (const n ls))
const_line own w n ls small few =
    line_again (decimal own ++ tree_fields w (const n ls))
    (decimal own ++ spaced (codes "#EC" ∷ numerals (name_number w n ∷ map (level_number w) ls)))
    (tree_item own w (const n ls))
    (ap (λ more. decimal own ++ (codes " #EC" ++ more))
    (sym (spaced_numerals (name_number w n ∷ map (level_number w) ls))))
    (numbered_line own entry.Constant (numerals (name_number w n ∷ map (level_number w) ls))
    (Number (name_number w n) ∷ Numbers (map (level_number w) ls) ∷ []) small
    (λ t. known (name_number w n) (name_small w few n)
    (rest_due (map (level_number w) ls) (map_small (level_number w) (level_small w few) ls))))

str_line : (own : ℕ) (w : Written) (bytes : List ℕ) → IsSmall own → IsUtf8 bytes
    → IsLine (decimal own ++ tree_fields w (str bytes)) (tree_item own w (str bytes))
str_line own w bytes small utf8 =
    let are = utf8_bytes bytes utf8 in
    line_again (decimal own ++ tree_fields w (str bytes))
    (decimal own ++ spaced (codes "#ELS" ∷ hex_pairs bytes))
    (tree_item own w (str bytes))
    (ap (λ more. decimal own ++ (codes " #ELS" ++ more)) (pairs_spaced bytes))
    (numbered_line own entry.TextLiteral (hex_pairs bytes) (Bytes bytes ∷ []) small
    (λ t. hex_due (hex_pairs bytes) bytes (pairs_are bytes are) utf8 (pairs_fields bytes are)))

wide_line : (own : ℕ) (w : Written) → IsSmall own
    → IsLine (decimal own ++ tree_fields w wide) (tree_item own w wide)
wide_line own w small =
    numbered_line own entry.NatLiteral (wide_word ∷ []) (Literal nats.Wide ∷ []) small
    (λ t. literal wide_word nats.Wide (numeral_field wide_word wide_literal.0) wide_literal
    (nothing_due t))

pub tree_line : (own : ℕ) (w : Written) (e : Tree) → IsSmall own → AreFew w → IsTree e
    → IsLine (decimal own ++ tree_fields w e) (tree_item own w e)
tree_line own w (var i) small few tree =
    numbered_line own entry.Variable (decimal i ∷ []) (Number i ∷ []) small
    (λ t. plain_number i tree (nothing_due t))
tree_line own w (sort l) small few tree =
    numbered_line own entry.Sort (decimal (level_number w l) ∷ [])
    (Number (level_number w l) ∷ []) small
    (λ t. known (level_number w l) (level_small w few l) (nothing_due t))
tree_line own w (const n ls) small few tree = const_line own w n ls small few
tree_line own w (app f a) small few tree =
    numbered_line own entry.Apply (decimal (tree_number w f) ∷ decimal (tree_number w a) ∷ [])
    (Number (tree_number w f) ∷ Number (tree_number w a) ∷ []) small
    (λ t. known (tree_number w f) (tree_small w few f)
    (known (tree_number w a) (tree_small w few a) (nothing_due t)))
tree_line own w (lam A b) small few tree =
    numbered_line own entry.Lambda
    (codes "#BD" ∷ codes "0" ∷ decimal (tree_number w A) ∷ decimal (tree_number w b) ∷ [])
    (OfInfo Default ∷ Number 0 ∷ Number (tree_number w A) ∷ Number (tree_number w b) ∷ []) small
    (λ t. default_info (zero_known
    (known (tree_number w A) (tree_small w few A)
    (known (tree_number w b) (tree_small w few b) (nothing_due t)))))
tree_line own w (pi A B) small few tree =
    numbered_line own entry.Pi
    (codes "#BD" ∷ codes "0" ∷ decimal (tree_number w A) ∷ decimal (tree_number w B) ∷ [])
    (OfInfo Default ∷ Number 0 ∷ Number (tree_number w A) ∷ Number (tree_number w B) ∷ []) small
    (λ t. default_info (zero_known
    (known (tree_number w A) (tree_small w few A)
    (known (tree_number w B) (tree_small w few B) (nothing_due t)))))
tree_line own w (let_in A v b) small few tree =
    numbered_line own entry.Let
    (codes "0" ∷ decimal (tree_number w A) ∷ decimal (tree_number w v) ∷ decimal
    (tree_number w b) ∷ [])
    (Number 0 ∷ Number (tree_number w A) ∷ Number (tree_number w v) ∷ Number
    (tree_number w b) ∷ []) small
    (λ t. zero_known (known (tree_number w A) (tree_small w few A)
    (known (tree_number w v) (tree_small w few v)
    (known (tree_number w b) (tree_small w few b) (nothing_due t)))))
tree_line own w (proj S i s) small few tree =
    numbered_line own entry.Project
    (decimal (name_number w S) ∷ decimal i ∷ decimal (tree_number w s) ∷ [])
    (Number (name_number w S) ∷ Number i ∷ Number (tree_number w s) ∷ []) small
    (λ t. known (name_number w S) (name_small w few S)
    (plain_number i tree.1.0 (known (tree_number w s) (tree_small w few s) (nothing_due t))))
tree_line own w (lit n) small few tree =
    numbered_line own entry.NatLiteral (decimal n ∷ []) (Literal (nats.Fits n) ∷ []) small
    (λ t. literal (decimal n) (nats.Fits n) (decimal_field n tree)
    (decimal_numbers (2 ^ 128) n (omega arith) tree)
    (nothing_due t))
tree_line own w wide small few tree = wide_line own w small
tree_line own w (str bytes) small few tree = str_line own w bytes small tree
tree_line own w (local k T) small few tree = absurd tree
