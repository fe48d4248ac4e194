-- Places that lead to what a search finds, with a line more.
use Rattle.std.proofs.Common.{◌≡◌, ℕ, List, [], ◌∷◌, ◌++◌, length, Option, Some, None, refl, sym, subst}
use Rattle.std.specs.Prelude.{is_some, IsSome, if◌then◌else◌}
use Rattle.lk_members.specs.Lines.{or_next}
use Rattle.lk_members.specs.Stored.{NumberedMember, NumberedLine}
use Rattle.lk_members.specs.Indices.{IsLed}
use Rattle.lk_members.proofs.Appending.{get_before, get_last}

-- the place of a line that is at the end, where this is found in it
abbrev pub here_at : {A : Type 0} → Option A → ℕ → Option ℕ
here_at o i = if is_some o then Some i else None

module _ {A : Type 0} (here : NumberedMember → Option A) (lines : List NumberedLine) (l : NumberedLine) where
  led_new : (o : Option A) → here l.said ≡ o → IsLed here (lines ++ l ∷ []) (here_at o (length lines)) o
  led_new None e = refl
  led_new (Some a) e = (l, get_last lines l, e, refl)

  led_next : (p : Option ℕ) (found o : Option A) → here l.said ≡ o → IsLed here lines p found → IsLed here (lines ++ l ∷ []) (or_next p (here_at o (length lines))) (or_next found o)
  led_next None None o e h = led_new o e
  led_next None (Some a) o e h = absurd (cc)
  led_next (Some i) None o e h = absurd (let s : IsSome {T = A} None = h.3 in cc)
  led_next (Some i) (Some a) o e h = (h.0, get_before lines l i h.0 h.1, h.2, refl)

  pub led_more : (p q : Option ℕ) (found new : Option A) → IsLed here lines p found → q ≡ or_next p (here_at (here l.said) (length lines)) → new ≡ or_next found (here l.said) → IsLed here (lines ++ l ∷ []) q new
  led_more p q found new h placed is =
      subst (λ x. IsLed here (lines ++ l ∷ []) x new) (sym placed)
      (subst (λ x. IsLed here (lines ++ l ∷ []) (or_next p (here_at (here l.said) (length lines))) x) (sym is) (led_next p found (here l.said) refl h))
