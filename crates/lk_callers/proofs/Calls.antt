-- What a pass came to, after one call more.
use Rattle.std.proofs.Common.{◌≡◌, ℕ, ◌+◌, ◌<◌, Bool, true, false, List, [], ◌∷◌, ◌++◌, Ok, Err, Result, length, get_or, sym, ap, ◌∙◌, subst, arith}
use Rattle.std.specs.Prelude.{Vec, IfErr}
use Rattle.std.specs.declared.alloc.Global.{Global}
use Rattle.std.proofs.lemmas.List.{get_or-map, length-map}
use Rattle.std.proofs.lemmas.List.Elements.{All-push}
use mathlib.Core.List.{IsPrefix}
use Rattle.lk_lines.specs.declared.line.Fault.{Fault as LineFault}
use Rattle.lk_session.specs.declared.view.View.{View}
use Rattle.lk_session.specs.declared.view.Submission.{Submission}
use Rattle.lk_session.specs.declared.reply.Reply.{Reply}
use Rattle.lk_session.specs.declared.error.SubmitError.{SubmitError}
use Rattle.lk_session.specs.declared.error.SubmitError.TheVariants.{Fault, Full}
use Rattle.lk_session.specs.Texts.{Says, units_in, IsFaultless, AreFaultless}
use Rattle.lk_session.specs.Answers.{IsSubmitted, IsRefused}
use Rattle.lk_session.proofs.Prefixes.{prefix_more}
use Rattle.lk_callers.specs.declared.turns.Turns.{Turns}
use Rattle.lk_callers.specs.Turns.{pass_of}
use Rattle.lk_callers.specs.Owned.{bytes_in, text_at, call_of, HasAdded}
use Rattle.lk_callers.specs.Answered.{AreRight, IsRight}
use Rattle.lk_callers.proofs.Owning.{text_added, full_is}
use Rattle.lk_callers.proofs.Replies.{reply_right, rights_grow}

-- the bytes of a text that is one of these
pub text_is : (texts : List (Vec ℕ Global)) (k : ℕ) (v : Vec ℕ Global) (bytes : List ℕ) → k < length texts → v ≡ get_or texts k v → bytes ≡ v.items → bytes ≡ text_at (bytes_in texts) k
text_is texts k v bytes lt at is = is ∙ (ap (λ (t : Vec ℕ Global). t.items) at ∙ sym (get_or-map (λ (t : Vec ℕ Global). t.items) texts k v [] lt))

pub within : (texts : List (Vec ℕ Global)) (k : ℕ) → k < length texts → k < length (bytes_in texts)
within texts k lt = omega (arith, lt, length-map texts (λ (t : Vec ℕ Global). t.items))

pub text_faultless : (stated : Says) (texts : List (Vec ℕ Global)) (k : ℕ) → AreFaultless stated (bytes_in texts) → k < length texts → IsFaultless stated (text_at (bytes_in texts) k)
text_faultless stated texts k all lt = all k [] (within texts k lt)

pub on_error : {A E : Type 0} (P : E → Type 0) (r : Result A E) (e : E) → r ≡ Err e → IfErr r P → P e
on_error P r e is h = subst (λ x. IfErr x P) is h

-- a text without a fault is not refused for one
pub no_fault : (stated : Says) (text given : List ℕ) (v w : View) (e : SubmitError) (f : LineFault) → given ≡ text → IsFaultless stated text → e ≡ Fault f → IsRefused stated given v w e → ⊥
no_fault stated text given v w e f same ok is h =
    let a : (stated given ≡ Err f) × (w ≡ v) = subst (IsRefused stated given v w) is h in
    let b : stated text ≡ Err f = ap stated (sym same) ∙ a.0 in
    let c : Ok (units_in stated text) ≡ Err f = sym ok ∙ b in
    absurd cc

module _ (stated : Says) (texts : List (List ℕ)) (t : Turns) (budget n k : ℕ) (given : List ℕ) (v w : View) (same : given ≡ text_at texts k) (turn : pass_of t k ≡ n) where
  module _ (r : Reply) (s : IsSubmitted stated budget (record { tag = k; text = given }) v w r) where
    called : IsSubmitted stated budget (call_of texts k) v w r
    called = subst (λ (b : List ℕ). IsSubmitted stated budget (record { tag = k; text = b }) v w r) same s

    grown : IsPrefix v.seen w.seen
    grown = let a = called.is_added in subst (λ (l : List Submission). IsPrefix v.seen l) (sym a.last) (prefix_more v.seen called.earlier (call_of texts k ∷ []) a.order)

    pub added_one : (full : Bool) → full ≡ false → HasAdded stated texts t n (n + 1) k full v → HasAdded stated texts t n (n + 1) (k + 1) full w
    added_one full ready h =
        let a = called.is_added in
        subst (λ (b : Bool). HasAdded stated texts t n (n + 1) (k + 1) b w) (sym ready)
        (text_added texts t n k v w called.earlier turn h.own a.order a.last a.mine stated (h.all ready))

    pub right_one : (rs more : List Reply) → more ≡ rs ++ r ∷ [] → AreRight stated budget v.seen rs → AreRight stated budget w.seen more
    right_one rs more is all =
        subst (AreRight stated budget w.seen) (sym is)
        (All-push (IsRight stated budget w.seen) rs r (rights_grow stated budget v.seen w.seen rs grown all) (reply_right stated budget called.earlier w.seen (call_of texts k) r called.is_added.last called.reply))

    pub passes_one : w.passes ≡ v.passes
    passes_one = ap (λ (x : View). x.passes) called.is_added.rest

  pub full_one : (full : Bool) (units : ℕ) → full ≡ false → k < length texts → HasAdded stated texts t n (n + 1) k full v → IsRefused stated given v w (Full units) → HasAdded stated texts t n (n + 1) (k + 1) true w
  full_one full units ready within h r =
      full_is texts stated t n k units v w turn within (subst (λ (b : Bool). HasAdded stated texts t n (n + 1) k b v) ready h) r.1 (ap (λ (x : View). x.mine) r.4) r.2
      (subst (λ (b : List ℕ). 65536 < units + length (units_in stated b)) same r.3)
