-- The text of a name is a piece of its line, so it holds no line feed.
use Rattle.std.proofs.Common.{◌≡◌, ◌≢◌, ℕ, ◌==◌, Bool, true, false, List, [], ◌∷◌, Ok, refl, sym, subst, inl, inr}
use Rattle.std.specs.List.{position_or_len}
use Rattle.std.proofs.lemmas.List.Elements.{All-tail, All-drop}
use Rattle.lk_token.specs.Lines.{HasNoLineFeed}
use Rattle.lk_token.specs.Fields.{skip_spaces, skip_field, text_behind}
use Rattle.lk_lines.specs.declared.tags.Dialect.{Dialect}
use Rattle.lk_lines.specs.declared.line.EntryLine.TheVariants as entries
use Rattle.lk_lines.specs.declared.line.Statement.{Statement}
use Rattle.lk_lines.specs.declared.line.Statement.TheVariants as statement
use Rattle.lk_lines.specs.declared.dues.Due.TheVariants as due
use Rattle.lk_lines.specs.declared.dues.Numbering.TheVariants.{Names}
use Rattle.lk_lines.specs.Values.{Number, Bytes}
use Rattle.lk_lines.specs.Spelling.{SpellsDues}
use Rattle.lk_lines.specs.Says.{Says, said_below, SpellsSaid}
use Rattle.lk_lines.specs.FileNumbers.{NumberView}
use Rattle.lk_lines.specs.Views.{says_of}
use Rattle.lk_lines.specs.LineFeeds.{NamesHaveNoLineFeed}
use Rattle.lk_lines.proofs.SaidLaws.{said_outcome}

spaces_step : (x : ℕ) (xs : List ℕ) → HasNoLineFeed (x ∷ xs) → HasNoLineFeed (skip_spaces xs) → (b : Bool) → (x == 32) ≡ b → HasNoLineFeed (skip_spaces (x ∷ xs))
spaces_step x xs h ih true e = rw e ih
spaces_step x xs h ih false e = rw e h

behind_spaces : (xs : List ℕ) → HasNoLineFeed xs → HasNoLineFeed (skip_spaces xs)
behind_spaces [] h = h
behind_spaces (x ∷ xs) h = spaces_step x xs h (behind_spaces xs (All-tail (λ b. b ≢ 10) x xs h)) (x == 32) refl

behind_field : (xs : List ℕ) → HasNoLineFeed xs → HasNoLineFeed (skip_field xs)
behind_field xs h = All-drop (λ b. b ≢ 10) (position_or_len (λ b. b == 32) xs) xs h

behind_one : (xs : List ℕ) → HasNoLineFeed xs → HasNoLineFeed (skip_field (skip_spaces xs))
behind_one xs h = behind_field (skip_spaces xs) (behind_spaces xs h)

pub text_has_none : (bytes : List ℕ) → HasNoLineFeed bytes → HasNoLineFeed (text_behind bytes)
unfolding text_behind
text_has_none bytes h =
    let one = skip_field (skip_spaces bytes) in
    let two = skip_field (skip_spaces one) in
    All-drop (λ b. b ≢ 10) 1 (skip_field (skip_spaces two)) (behind_one two (behind_one one (behind_one bytes h)))

-- the text of a name is the text behind the third field
pub text_lem : (limit : ℕ) (behind text : List ℕ) (parent : ℕ) (fields : List (List ℕ)) → SpellsDues limit (due.Known Names ∷ due.Text ∷ []) behind fields (Number parent ∷ Bytes text ∷ []) → text ≡ behind
text_lem limit behind text parent fields (v, rest, more, is, known, (u, end, none, as_text, taken, done)) =
    let first = is in let second = as_text in let third = taken.0 in cc

pub said_spelled : (limit : ℕ) (d : Dialect) (first : Bool) (bytes : List ℕ) (says : Says) → said_below limit d first bytes ≡ Ok says → SpellsSaid limit d first bytes says
said_spelled limit d first bytes says e = elim (said_outcome limit d first bytes) [
  | inl (other, is, s) ↦ let same : other ≡ says = (let both = is in cc) in let P : Says → Type 0 = λ o. SpellsSaid limit d first bytes o in subst P same s
  | inr (w, is, h) ↦ absurd (let both = is in cc)
]

pub names_lem : {N : Type 0} → (view : NumberView N) (d : Dialect) (first : Bool) (bytes : List ℕ) (s : Statement N) → HasNoLineFeed bytes → said_below view.limit d first bytes ≡ Ok (says_of view s) → NamesHaveNoLineFeed s
names_lem view d first bytes (statement.Entry own (entries.NameText parent text)) h e =
    let s = said_spelled view.limit d first bytes _ e in
    let same : text.now ≡ text_behind bytes = text_lem view.limit (text_behind bytes) text.now (view.value parent) _ s.2.3 in
    let P : List ℕ → Type 0 = λ xs. HasNoLineFeed xs in
    subst P (sym same) (text_has_none bytes h)
names_lem view d first bytes s h e = tt
