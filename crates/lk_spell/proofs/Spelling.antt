-- A part is spelled.
use Rattle.std.proofs.Common.{◌≡◌, ℕ, refl, sym, subst, ◌∙◌, inl, inr}
use Rattle.lk_store.specs.Contents.{Contents}
use Rattle.lk_spell.proofs.Growing.{extends_grown, grown_push, own_push, count_push, stands, sizes_grown, same_after}
use Rattle.lk_spell.proofs.Moving.{moves}
use Rattle.lk_spell.specs.Moved.{AreDone, moved}
use Rattle.lk_spell.specs.Numbers.{Translates}
use Rattle.lk_spell.specs.Opened.{part_of, parts_back, IsOpenedIn}
use Rattle.lk_spell.specs.Parts.{IsSame, number_of}
use Rattle.lk_spell.specs.Sizes.{next_part}
use Rattle.lk_spell.specs.Spelled.{grown, grown_by, IsOwnIn}
use Rattle.lk_spell.specs.Spelling.{IsSpeller, Spells}
use Rattle.lk_spell.specs.Standing.{own_parts, own_node, IsNumberOf}
use Rattle.lk_spell.specs.declared.numbers.Numbers.{Numbers}
use Rattle.lk_spell.specs.declared.open.Opened.{Opened}
use Rattle.lk_spell.specs.declared.open.Opened.TheVariants.{Name, Text, Level, List as Levels, Term}
use Rattle.lk_spell.specs.declared.speller.Speller.{Speller}
use Rattle.lk_spell.specs.declared.spelled.OwnNode.{OwnNode}

-- a number that stands for the node of an opened part is one of the part
opened_same : (c d : Contents) (o : Opened) (n : ℕ) → IsOpenedIn c o → IsNumberOf c d (own_node c o) n → IsSame c d (part_of o) n
opened_same c d (Name k x) n h is = (h.0, record { known = is.known; is = is.is ∙ h.2 })
opened_same c d (Text s) n h is = (h, is)
opened_same c d (Level k x) n h is = (h.0, record { known = is.known; is = is.is ∙ h.2 })
opened_same c d (Levels k x) n h is = (h.0, record { known = is.known; is = is.is ∙ h.2 })
opened_same c d (Term k x) n h is = (h.0, record { known = is.known; is = is.is ∙ h.2 })

opened_done : (c : Contents) (m : Numbers) (o : Opened) → AreDone m (parts_back o) → AreDone m (own_parts (own_node c o))
opened_done c m (Name k x) h = h
opened_done c m (Text s) h = h
opened_done c m (Level k x) h = h
opened_done c m (Levels k x) h = h
opened_done c m (Term k x) h = h

module _ (b c : Contents) (old new : Speller) (o : Opened) (opened : IsOpenedIn c o) (done : AreDone old.numbers (parts_back o))
    (s : Spells old new (part_of o) (moved old.numbers (own_node c o))) (h : IsSpeller b c old) where
  abbrev d : Contents
  d = grown_by b old.own.items

  abbrev node : OwnNode
  node = moved old.numbers (own_node c o)

  after : grown_by b new.own.items ≡ grown d node
  after = subst (λ xs. grown_by b xs ≡ grown d node) (sym s.own) (grown_push b old.own.items node)

  step : IsOwnIn d node × ((d' : Contents) (k : ℕ) → IsNumberOf d d' node k → IsNumberOf c d' (own_node c o) k)
  step = moves c d old.numbers h.numbers (own_node c o) (opened_done c old.numbers o done)

  this : IsSame c (grown d node) (part_of o) (number_of (next_part old.sizes node))
  this = opened_same c (grown d node) o (number_of (next_part old.sizes node)) opened
      (step.1 (grown d node) (number_of (next_part old.sizes node)) (stands d old.sizes node h.sizes))

  numbers : Translates c (grown d node) new.numbers
  numbers q r is = elim (s.numbers.came q r is) [
    | inl was ↦ same_after c d (grown d node) q r (extends_grown d node) (h.numbers q r was)
    | inr now ↦ rw (now.0, now.1) this
  ]

  pub spells : IsSpeller b c new
  spells = record {
    own = rw s.own (own_push b old.own.items node h.own step.0);
    sizes = rw (after, s.sizes) (sizes_grown d old.sizes node h.sizes);
    numbers = rw after numbers;
    counted = rw (s.counted, s.own, count_push old.own.items node, h.counted) refl;
    few = s.few;
  }
