-- What a question that claims something says of its term.
use Rattle.std.proofs.Common.{ℕ, ◌≡◌, ◌<◌, subst, sym, arith}
use Rattle.lk_tree.specs.Tree.{Tree, var, app, wide}
use Rattle.lk_tree.specs.WellFormed.{IsWellFormed}
use Rattle.lk_rulebook.specs.Place.{Place}
use Rattle.lk_questions.specs.Query.{infer}
use Rattle.lk_step.specs.Rows.{IsClaim}
use Rattle.lk_step.specs.Told.{IsAnsweredWithin}
use Rattle.lk_derive_types.specs.Spines.{IsApplied}
use Rattle.lk_derive_types.specs.TypeRows.{HasType}

pub claim_typed : (w : Place) (e : Tree) (most : ℕ) → IsClaim w (infer e) most → HasType w e
claim_typed w e most h = (h.answer, h.cost, h.answered)

pub claim_within : (w : Place) (e : Tree) (most : ℕ) → IsClaim w (infer e) most → IsAnsweredWithin w (infer e) most
claim_within w e most h = (h.answer, h.cost, h.answered, h.within)

pub is_applied : (e f a : Tree) → app f a ≡ e → IsApplied e
is_applied e f a i = subst IsApplied i tt

pub not_loose : (w : Place) (e : Tree) (most i : ℕ) → IsClaim w (infer e) most → var i ≡ e → ⊥
not_loose w e most i h p = let f : i < 0 = subst IsWellFormed (sym p) h.askable in absurd (omega (arith, f))

pub not_wide : (w : Place) (e : Tree) (most : ℕ) → IsClaim w (infer e) most → wide ≡ e → ⊥
not_wide w e most h p = subst IsWellFormed (sym p) h.askable
