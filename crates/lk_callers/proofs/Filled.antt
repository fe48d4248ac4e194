-- Verdicts of replies, put at the places of their units.
use Rattle.std.proofs.Common.{◌≡◌, ℕ, zero, suc, ◌+◌, ◌<◌, List, [], ◌∷◌, length, map, get_or, slice_get, slice_set, Some, sym, ap, subst, arith, zero-add}
use Rattle.lk_verdict.specs.Held.{verdict}
use Rattle.lk_verdict.specs.Told.{IsPlainVerdict}
use Rattle.lk_verdict.specs.declared.verdict.Verdict.{Verdict as HeldVerdict}
use Rattle.lk_session.specs.declared.reply.Reply.{Reply}
use Rattle.lk_session.specs.declared.view.Submission.{Submission}
use Rattle.lk_session.specs.Texts.{Says, units_of}
use Rattle.lk_session.specs.Answers.{AreFrom}
use Rattle.lk_session.proofs.Verdicts.{put_from}
use Rattle.lk_callers.specs.Answered.{IsRight}

held_at : (vs : List HeldVerdict) (k : ℕ) (x : HeldVerdict) → k < length vs → x ≡ get_or vs k x → slice_get (map verdict vs) k ≡ Some (verdict x)
held_at [] k x lt e = absurd (omega arith)
held_at (v ∷ vs) zero x lt e = ap (λ (y : HeldVerdict). Some (verdict y)) (sym e)
held_at (v ∷ vs) (suc k) x lt e = held_at vs k x (omega arith) e

pub put_one : (stated : Says) (budget : ℕ) (list : List Submission) (r : Reply) (vs : List HeldVerdict) (k : ℕ) (x : HeldVerdict) → IsRight stated budget list r → k < length r.verdicts.items → x ≡ get_or r.verdicts.items k x
    → AreFrom (units_of stated list) budget 0 (map verdict vs) → AreFrom (units_of stated list) budget 0 (map verdict (slice_set vs (r.first + k) x))
put_one stated budget list r vs k x i lt e all =
    put_from (units_of stated list) budget 0 vs (r.first + k) x
    (subst (λ (n : ℕ). IsPlainVerdict (units_of stated list) budget n (verdict x)) (sym (zero-add (r.first + k))) (i.each k (verdict x) (held_at r.verdicts.items k x lt e))) all
