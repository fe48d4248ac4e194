-- Types and their weak head forms.
use Rattle.std.proofs.Common.{ℕ, ◌≡◌, ◌+◌, ◌∷◌, sym, subst, arith}
use Rattle.lk_tree.specs.Tree.{Tree}
use Rattle.lk_rulebook.specs.Place.{Place}
use Rattle.lk_rulebook.specs.Claims.{types, reduces}
use Rattle.lk_questions.specs.Query.{whnf, infer}
use Rattle.lk_store.specs.Contents.{Contents}
use Rattle.lk_step.specs.declared.step.Row.{Row}
use Rattle.lk_step.specs.Rows.{IsAnswered}
use Rattle.lk_step.specs.Runs.{AreOne}
use Rattle.lk_step.specs.Told.{IsAnsweredWithin, IsType, IsForm}
use Rattle.lk_step.specs.Parts.{IsPartIn, AsksType, AsksForm}
use Rattle.lk_step.proofs.Runs.{one_answer}
use Rattle.lk_derive_iota.specs.Taken.{HasForm, IsTypedWithin, AsksTyped}

pub type_within : {w : Place} {e : Tree} {most : ℕ} → IsTypedWithin w e most → IsAnsweredWithin w (infer e) most
type_within h = (h.has.stated, h.has.first, h.has.typed, h.first_within)

pub form_within : {w : Place} {e : Tree} {most : ℕ} (h : IsTypedWithin w e most) (S : Tree) (n : ℕ) → IsAnswered w (infer e) S n → IsAnsweredWithin w (whnf S) most
form_within {w = w} {e = e} h S n a =
    let one : AreOne h.has.stated S h.has.first n = one_answer w (infer e) h.has.stated S h.has.first n h.has.typed a in
    (h.form, h.has.second, subst (λ z. IsAnswered w (whnf z) h.form h.has.second) one.answer h.has.formed, h.second_within)

pub has_form : {w w' : Place} {e S T : Tree} → w' ≡ w → IsType w e S → IsForm w' S T → HasForm w e T
has_form {S = S} {T = T} ew t f = record { stated = S; first = t.cost; second = f.cost; typed = t.answered; formed = subst (λ z. IsAnswered z (whnf S) T f.cost) ew f.answered }

pub asks_typed : {w w' : Place} {c m d : Contents} {old mid new : Row} {e S S' T : Tree} → w' ≡ w → S' ≡ S → AsksType w c m old mid e S → AsksForm w' m d mid new S T → AsksTyped w c d old new e S' T
asks_typed {w = w} {w' = w'} {c = c} {m = m} {d = d} {old = old} {mid = mid} {new = new} {e = e} {S = S} {S' = S'} {T = T} ew es t f' =
    let f : AsksForm w m d mid new S T = subst (λ z. AsksForm z m d mid new S T) ew f' in
    let there : AsksTyped w c d old new e S T = record {
      first = t.cost;
      second = f.cost;
      typed = t.answered;
      formed = f.answered;
      asks = λ fe fs xs n p.
          let sum : n + t.cost + f.cost ≡ n + (t.cost + f.cost) = omega arith in
          subst (λ k. IsPartIn w d new (reduces S T ∷ types e S ∷ xs) k) sum (f.asks fs (types e S ∷ xs) (n + t.cost) (t.asks fe xs n p));
    } in
    subst (λ z. AsksTyped w c d old new e z T) (sym es) there
