-- The line that a place leads to.
use Rattle.std.proofs.Common.{◌≡◌, ℕ, ◌<◌, List, length, get_or, ap, sym, ◌∙◌, subst}
use Rattle.std.specs.Prelude.{Option, Some, IsSome, option_map, slice_get}
use Rattle.std.proofs.lemmas.Option.{slice_get-map, slice_get_within, slice_get-get_or}
use Rattle.std.proofs.lemmas.List.{length-map}
use Rattle.lk_store.specs.Contents.{Contents}
use Rattle.lk_members.specs.declared.line.StoredLine.{StoredLine}
use Rattle.lk_members.specs.Stored.{NumberedMember, NumberedLine, said_of, line_of, lines_of, IsStoredMemberIn, AreLinesIn}
use Rattle.lk_members.specs.Indices.{IsLed}

pub line_at : (ls : List StoredLine) (i : ℕ) (l : StoredLine) → i < length ls → l ≡ get_or ls i l → slice_get (lines_of ls) i ≡ Some (line_of l)
line_at ls i l lt is = slice_get-map line_of ls i ∙ ap (option_map line_of) (slice_get-get_or ls i l lt ∙ ap Some (sym is))

module _ {A : Type 0} (here : NumberedMember → Option A) (ls : List StoredLine) (i : ℕ) (o : Option ℕ) (found : Option A) (leads : IsLed here (lines_of ls) o found) (is : o ≡ Some i) where
  led : IsLed here (lines_of ls) (Some i) found
  led = subst (λ p. IsLed here (lines_of ls) p found) is leads

  pub led_within : i < length ls
  led_within = subst (λ n. i < n) (length-map ls line_of) (slice_get_within (lines_of ls) i led.0 led.1)

  pub led_some : IsSome found
  led_some = led.3

  pub led_to : (l : StoredLine) → l ≡ get_or ls i l → here (said_of l.said) ≡ found
  led_to l is_line =
      let same : Some (line_of l) ≡ Some led.0 = sym (line_at ls i l led_within is_line) ∙ led.1 in
      let same_line : line_of l ≡ led.0 = cc in
      ap (λ (k : NumberedLine). here k.said) same_line ∙ led.2

pub said_known : (c : Contents) (ls : List StoredLine) (i : ℕ) (l : StoredLine) → i < length ls → l ≡ get_or ls i l → AreLinesIn c ls → IsStoredMemberIn c l.said
said_known c ls i l lt is known = subst (λ (k : StoredLine). IsStoredMemberIn c k.said) (sym is) (known i l lt)
