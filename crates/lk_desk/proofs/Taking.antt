-- What a Take that found 0 tells.
use Rattle.std.proofs.Common.{◌≡◌, ℕ, ◌+◌, ◌-◌, List, ◌∷◌, Some, sym, ap, ◌∙◌, subst, arith}
use mathlib.Core.Option.{none}
use Rattle.atomic_table.specs.Table.{Me, step, rest}
use Rattle.lk_desk.specs.declared.view.View.{View}
use Rattle.lk_desk.specs.declared.shard.Shard.{Shard}
use Rattle.lk_desk.specs.Truth.{AreTrue, entries_of}
use Rattle.lk_desk.specs.Rule.{Slot}
use Rattle.lk_desk.specs.Steps.{Took, saw}

pub took : (slots k n : ℕ) (me after : Me Slot View) → n ≡ 0 → Took (step slots (k + 2) 1 0 none) me n after
    → (x : Shard) × (after.0 ≡ saw k x me.0) × (after.1 ≡ (k, Some x) ∷ me.1) × AreTrue me.0.job (entries_of x)
took slots k n me after zero-is told =
    let t = subst (λ (m : ℕ). Took (step slots (k + 2) 1 0 none) me m after) zero-is told in
    let here : k + 2 - 2 ≡ k = omega arith in
    let knows : Me Slot View → View = λ m. m.0 in
    let holds : Me Slot View → List (ℕ × Slot) = λ m. m.1 in
    (t.0, ap knows t.1 ∙ ap (λ (j : ℕ). saw j t.0 me.0) here, ap holds t.1 ∙ ap (λ (j : ℕ). let l : List (ℕ × Slot) = (j, Some t.0) ∷ me.1 in l) here, t.2)

pub head_rest : (l xs : List (ℕ × Slot)) (y : ℕ × Slot) → l ≡ y ∷ xs → l ≡ y ∷ rest l
head_rest l xs y e = e ∙ ap (λ (m : List (ℕ × Slot)). y ∷ m) (sym (ap rest e))
