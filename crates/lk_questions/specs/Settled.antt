-- Programs that ask nothing: they look names up, and come to a value or are refused at once.
use Rattle.std.specs.Prelude.{ℕ, Option, Some, None}
use Rattle.lk_tree.specs.declared.rule.Rule.{Rule}
use Rattle.lk_rulebook.specs.Place.{Place, Entry}
use Rattle.lk_questions.specs.Program.{Program, done, refuse, ask, look}
use Rattle.lk_questions.specs.Answer.{later, refusal}

-- what such a program comes to, with the last unit that was looked at
pub data Settled (A : Type 0) : Type 0 where
  comes : Option ℕ → A → Settled A
  fails : Rule → Settled A
  asks_first : Settled A

-- a look-up at this unit, after those that end at t
abbrev pub settle_look : {A : Type 0} → Rule → Option ℕ → Option Entry → ℕ → Option Rule → (Option ℕ → Entry → Settled A) → Settled A
settle_look r t None unit flaw next = fails (refusal r flaw)
settle_look r t (Some e) unit flaw next = next (later t (Some unit)) e

-- where t is the last unit that was looked at before
abbrev pub settle : {A : Type 0} → Place → Option ℕ → Program A → Settled A
settle w t (done v) = comes t v
settle w t (refuse r) = fails r
settle w t (ask q k) = asks_first
settle w t (look r c k) = settle_look r t (w.means c) (w.origin c) (w.flaw c) (λ u e. settle w u (k e))
