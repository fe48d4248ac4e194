-- The lines of names and levels.
use Rattle.std.proofs.Common.{◌≢◌, ◌^◌, ℕ, false, List, [], ◌∷◌, ◌++◌, refl, sym, subst}
use Rattle.std.specs.Prelude.{decimal, codes, reverse, IsUtf8}
use mathlib.Core.List.{append-nil}
use Rattle.lk_tree.specs.Tree.{Part, text, number, Level, zero_level, succ_level, max_level}
use Rattle.lk_tree.specs.Tree.{imax_level, param}
use Rattle.lk_token.specs.Fields.{fields_of}
use Rattle.lk_token.specs.Lines.{HasNoLineFeed}
use Rattle.lk_lines.specs.declared.tags.Dialect.TheVariants as dialects
use Rattle.lk_lines.specs.declared.tags.Tag.TheVariants.{Entry}
use Rattle.lk_lines.specs.declared.tags.EntryTag.TheVariants as entry
use Rattle.lk_lines.specs.Values.{Number, Bytes}
use Rattle.lk_lines.specs.Items.{SpellsItem}
use Rattle.lk_lines.specs.Says.{OfItem}
use Rattle.lk_lines.proofs.SaidLaws.{said_again}
use Rattle.lk_trim.specs.Written.{Written}
use Rattle.lk_trim.specs.Names.{name_number, name_fields}
use Rattle.lk_trim.specs.Levels.{level_number, level_fields}
use Rattle.lk_readback.specs.Statable.{IsSmall, IsPart}
use Rattle.lk_readback.specs.Items.{defines, name_item, level_item}
use Rattle.lk_readback.proofs.Joined.{three_fields, text_behind-three, three_feed}
use Rattle.lk_readback.proofs.Spelled.{nothing_due, known, long_number, small_field, small_numbers}
use Rattle.lk_readback.proofs.WholeLine.{IsLine, AreFew, word_field, numbered_among, numbered_line}
use Rattle.lk_readback.proofs.Sizes.{name_small, level_small}

-- The bytes of a text may hold spaces, and then its fields are not those of the line.
text_spells : (own n : ℕ) (bytes : List ℕ) (more : List (List ℕ)) → IsSmall own → IsSmall n
    → IsUtf8 bytes
    → SpellsItem (2 ^ 32) dialects.Export (defines own entry.NameText (Number n ∷ Bytes bytes ∷ [])) bytes
    (decimal own ∷ codes "#NS" ∷ decimal n ∷ more)
text_spells own n bytes more small parent utf8 = (
  codes "#NS" ∷ decimal n ∷ more,
  (decimal own, refl, small_numbers own small),
  (
    numbered_among entry.NameText,
    decimal n ∷ more,
    refl,
    (
      Number n,
      more,
      Bytes bytes ∷ [],
      refl,
      (n, refl, (decimal n, refl, small_numbers n parent)),
      (Bytes bytes, [], [], refl, (refl, utf8, refl), (refl, refl)),
    ),
  ),
)

text_line : (own n : ℕ) (bytes : List ℕ) → IsSmall own → IsSmall n → IsUtf8 bytes
    → HasNoLineFeed bytes
    → IsLine (decimal own ++ 32 ∷ (codes "#NS" ++ 32 ∷ (decimal n ++ 32 ∷ bytes)))
    (defines own entry.NameText (Number n ∷ Bytes bytes ∷ []))
text_line own n bytes small parent utf8 one =
    let a = small_field own small in
    let b = word_field (Entry entry.NameText) in
    let c = small_field n parent in
    let line : List ℕ = decimal own ++ 32 ∷ (codes "#NS" ++ 32 ∷ (decimal n ++ 32 ∷ bytes)) in
    let behind = text_behind-three (decimal own) (codes "#NS") (decimal n) bytes a b c in
    let parts = three_fields (decimal own) (codes "#NS") (decimal n) bytes a b c in
    record {
      said = said_again (2 ^ 32) dialects.Export false line
          (OfItem (defines own entry.NameText (Number n ∷ Bytes bytes ∷ [])))
          (subst (λ t. SpellsItem (2 ^ 32) dialects.Export
          (defines own entry.NameText (Number n ∷ Bytes bytes ∷ [])) t (fields_of line))
          (sym behind)
          (subst (λ fs. SpellsItem (2 ^ 32) dialects.Export
          (defines own entry.NameText (Number n ∷ Bytes bytes ∷ [])) bytes fs)
          (sym parts) (text_spells own n bytes (fields_of bytes) small parent utf8)));
      one = three_feed (decimal own) (codes "#NS") (decimal n) bytes a b c one;
    }

pub name_line : (own : ℕ) (w : Written) (p : Part) (ps : List Part) → IsSmall own → AreFew w
    → IsPart p → IsLine (decimal own ++ name_fields w (p ∷ ps)) (name_item own w (p ∷ ps))
name_line own w (text bytes) ps small few part =
    let parent = name_small w few (reverse ps) in
    rw (append-nil (decimal (name_number w (reverse ps))))
    (text_line own (name_number w (reverse ps)) bytes small parent part.0 part.1)
name_line own w (number k) ps small few part =
    numbered_line own entry.NameNumber (decimal (name_number w (reverse ps)) ∷ decimal k ∷ [])
    (Number (name_number w (reverse ps)) ∷ Number k ∷ []) small
    (λ t. known (name_number w (reverse ps)) (name_small w few (reverse ps))
    (long_number k part (nothing_due t)))

pub level_line : (own : ℕ) (w : Written) (l : Level) → IsSmall own → AreFew w → l ≢ zero_level
    → IsLine (decimal own ++ level_fields w l) (level_item own w l)
level_line own w zero_level small few other = absurd (other refl)
level_line own w (succ_level l) small few other =
    numbered_line own entry.Successor (decimal (level_number w l) ∷ [])
    (Number (level_number w l) ∷ []) small
    (λ t. known (level_number w l) (level_small w few l) (nothing_due t))
level_line own w (max_level l m) small few other =
    numbered_line own entry.Max (decimal (level_number w l) ∷ decimal (level_number w m) ∷ [])
    (Number (level_number w l) ∷ Number (level_number w m) ∷ []) small
    (λ t. known (level_number w l) (level_small w few l)
    (known (level_number w m) (level_small w few m) (nothing_due t)))
level_line own w (imax_level l m) small few other =
    numbered_line own entry.Imax (decimal (level_number w l) ∷ decimal (level_number w m) ∷ [])
    (Number (level_number w l) ∷ Number (level_number w m) ∷ []) small
    (λ t. known (level_number w l) (level_small w few l)
    (known (level_number w m) (level_small w few m) (nothing_due t)))
level_line own w (param n) small few other =
    numbered_line own entry.Parameter (decimal (name_number w n) ∷ [])
    (Number (name_number w n) ∷ []) small
    (λ t. known (name_number w n) (name_small w few n) (nothing_due t))
