-- What is written over a store is the same over one with more.
use Rattle.std.proofs.Common.{◌≡◌, ℕ, ◌<◌, List, [], ◌∷◌, map, length, refl, ap, ◌∙◌, arith}
use Rattle.std.specs.Prelude.{All, slice_index_or}
use Rattle.std.proofs.lemmas.List.Elements.{All-head, All-tail, All-weaker}
use Rattle.lk_tree.specs.Tree.{Name, Level, zero_level, Tree, wide}
use Rattle.lk_store.specs.Values.{Keeps, AreApart}
use Rattle.lk_store.specs.Contents.{Contents, Extends, name_at, level_at, tree_at}
use Rattle.lk_trim.specs.declared.numbers.Numbers.{Numbers}
use Rattle.lk_trim.specs.declared.numbers.Writer.{Writer}
use Rattle.lk_trim.specs.Written.{File}
use Rattle.lk_trim.specs.Whole.{Kept}
use Rattle.lk_trim.specs.Stored.{file_at, IsInterned, AreNumbersIn}
use Rattle.lk_sections.specs.declared.trace.TraceWriter.{TraceWriter}
use Rattle.lk_sections.specs.Sections.{UnitSection}
use Rattle.lk_sections.specs.Stored.{HasWritten}

module _ {X : Type 0} (none : X) (xs ys : List X) (k : Keeps none xs ys) where
  kept_below : (ns : List ℕ) → All (λ n. n < length xs) ns → All (λ n. n < length ys) ns
  kept_below ns h = All-weaker (λ n. n < length xs) (λ n. n < length ys) (λ n l. let longer = k.longer in omega arith) ns h

  kept_map : (ns : List ℕ) → All (λ n. n < length xs) ns → map (λ n. slice_index_or ys n none) ns ≡ map (λ n. slice_index_or xs n none) ns
  kept_map [] h = refl
  kept_map (n ∷ ns) h =
      ap (λ x. x ∷ map (λ m. slice_index_or ys m none) ns) (k.same n (All-head (λ m. m < length xs) n ns h))
      ∙ ap (λ l. slice_index_or xs n none ∷ l) (kept_map ns (All-tail (λ m. m < length xs) n ns h))

module _ (c d : Contents) (e : Extends c d) where
  pub numbers_larger : (n : Numbers) → IsInterned d → AreApart [] d.names → AreNumbersIn c n → AreNumbersIn d n
  numbers_larger n i a h = record {
    interned = i;
    names_apart = a;
    names_in = kept_below [] c.names d.names e.names n.names h.names_in;
    levels_in = kept_below zero_level c.levels d.levels e.levels n.levels h.levels_in;
    trees_in = kept_below wide c.trees d.trees e.trees n.trees h.trees_in;
  }

  pub file_larger : (w : Writer) → AreNumbersIn c w.numbers → file_at d w ≡ file_at c w
  file_larger w h =
      let n = w.numbers in
      ap (λ ns. file_of ns (map (level_at d) n.levels) (map (tree_at d) n.trees)) (kept_map [] c.names d.names e.names n.names h.names_in)
      ∙ ap (λ ls. file_of (map (name_at c) n.names) ls (map (tree_at d) n.trees)) (kept_map zero_level c.levels d.levels e.levels n.levels h.levels_in)
      ∙ ap (file_of (map (name_at c) n.names) (map (level_at c) n.levels)) (kept_map wide c.trees d.trees e.trees n.trees h.trees_in)
    where
      file_of : List Name → List Level → List Tree → File
      file_of ns ls es = record {
        text = w.out.items;
        written = record { names = [] ∷ ns; levels = zero_level ∷ ls; trees = es; rules = w.numbers.rules };
      }

  pub trace_larger : (ks : List Kept) (ss : List UnitSection) (t : TraceWriter) → IsInterned d → AreApart [] d.names → HasWritten c ks ss t → HasWritten d ks ss t
  trace_larger ks ss t i a h = record {
    numbers = numbers_larger t.writer.numbers i a h.numbers;
    next = h.next;
    file = file_larger t.writer h.numbers ∙ h.file;
  }
