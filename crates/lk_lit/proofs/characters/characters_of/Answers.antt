use Rattle.std.proofs.Common.{rules, ◌≡◌, ℕ, List, Bool, true, false, refl}
use Rattle.std.specs.Str.{is_utf8, IsUtf8}
use Rattle.std.proofs.lemmas.Str.{IsUtf8-from_is_utf8, is_utf8-from_IsUtf8, chars_from_encodes}
use Rattle.lk_lit.proofs.characters.characters_of.Goals as goal

pub returns-in_ok-collect-in-Ok : goal.returns-in_ok-collect-in-Ok
returns-in_ok-collect-in-Ok c = (
  is_utf8-from_IsUtf8 c.args.bytes.now c.in-Ok.ensures.cases.1,
  search (rules, chars_from_encodes),
)

is_utf8-false : (bs : List ℕ) → (IsUtf8 bs → ⊥) → is_utf8 bs ≡ false
is_utf8-false bs other = go (is_utf8 bs) refl
  where
    go : (b : Bool) → is_utf8 bs ≡ b → b ≡ false
    go true h = absurd (other (IsUtf8-from_is_utf8 bs h))
    go false h = refl

pub returns-in-Err : goal.returns-in-Err
returns-in-Err c = is_utf8-false c.args.bytes.now c.in-Err.ensures.cases.0
