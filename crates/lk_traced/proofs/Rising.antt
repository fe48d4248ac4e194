-- The units of sections rise.
use Rattle.std.proofs.Common.{◌≡◌, ℕ, ◌+◌, ◌<◌, ◌≤◌, Bool, true, List, [], ◌∷◌, ◌++◌, arith}
use Rattle.std.specs.Prelude.{All, Some, slice_get}
use Rattle.std.proofs.lemmas.List.Elements.{All-weaker, All-head, All-tail, All-push}
use Rattle.lk_trace.specs.declared.traced.FileSection.{FileSection}
use Rattle.lk_trace.specs.Files.{AreAbove, AreRising}
use Rattle.lk_traced.specs.Begun.{AreOrdered, IsLast}
use Rattle.lk_traced.specs.declared.sections.BegunSection.{BegunSection}

abbrev AreBelow : ℕ → List FileSection → Type 0
AreBelow n ss = All (λ (s : FileSection). s.section.unit < n) ss

still_below : (m n : ℕ) → m ≤ n → (ss : List FileSection) → AreBelow m ss → AreBelow n ss
still_below m n le ss h =
    All-weaker (λ (s : FileSection). s.section.unit < m) (λ (s : FileSection). s.section.unit < n) (λ s l. omega arith) ss h

above_push : (n : ℕ) (ss : List FileSection) (s : FileSection) → n < s.section.unit → AreAbove n ss → AreBelow s.section.unit ss → AreAbove n (ss ++ s ∷ [])
above_push n [] s lt h b = (lt, tt)
above_push n (x ∷ ss) s lt h b =
    let P : FileSection → Type 0 = λ y. y.section.unit < s.section.unit in
    (h.0, above_push x.section.unit ss s (All-head P x ss b) h.1 (All-tail P x ss b))

rising_push : (ss : List FileSection) (s : FileSection) → AreRising ss → AreBelow s.section.unit ss → AreRising (ss ++ s ∷ [])
rising_push [] s h b = tt
rising_push (x ∷ ss) s h b =
    let P : FileSection → Type 0 = λ y. y.section.unit < s.section.unit in
    above_push x.section.unit ss s (All-head P x ss b) h (All-tail P x ss b)

-- the next section is begun
pub begun_last : (kinds : List Bool) (least : ℕ) (ss : List FileSection) (o : BegunSection) (u n : ℕ) → o.unit ≡ u → n ≡ u + 1 → AreOrdered kinds least ss → least ≤ u → slice_get kinds u ≡ Some true
    → IsLast kinds n ss o
begun_last kinds least ss o u n e is h le alone = record {
  ordered = record { rising = h.rising; below = still_below least o.unit (omega arith) ss h.below; alone = h.alone };
  below = omega arith;
  alone = rw e alone;
}

-- and goes on
pub same_last : (kinds : List Bool) (least : ℕ) (ss : List FileSection) (o n : BegunSection) → n.unit ≡ o.unit → IsLast kinds least ss o → IsLast kinds least ss n
same_last kinds least ss o n e h = record { ordered = rw e h.ordered; below = rw e h.below; alone = rw e h.alone }

-- and is ended
pub ended_last : (kinds : List Bool) (least : ℕ) (ss : List FileSection) (o : BegunSection) (s : FileSection) → s.section.unit ≡ o.unit → IsLast kinds least ss o → AreOrdered kinds least (ss ++ s ∷ [])
ended_last kinds least ss o s e h =
    let lt : o.unit < least = h.below in
    record {
      rising = rising_push ss s h.ordered.rising (rw e h.ordered.below);
      below = All-push (λ (x : FileSection). x.section.unit < least) ss s (still_below o.unit least (omega arith) ss h.ordered.below) (rw e lt);
      alone = All-push (λ (x : FileSection). slice_get kinds x.section.unit ≡ Some true) ss s h.ordered.alone (rw e h.alone);
    }
