-- What names mean while a unit is at work.
use Rattle.std.specs.Prelude.{◌≡◌}
use Rattle.lk_rulebook.specs.Place.{Place}
use Rattle.lk_rulebook.specs.Units.{Members}
use Rattle.lk_ask.specs.Asking.{Standing}
use Rattle.lk_env.specs.declared.entry.Partial.{Partial}

-- they mean what they mean where so much of the unit is partial, and auxiliary types beside
abbrev pub StandsAt : {B : Type 0} → (B → Partial → Members → Place) → Standing B → Partial → Members → Type 0
StandsAt places s partial aux = s.place ≡ places s.basis partial aux
