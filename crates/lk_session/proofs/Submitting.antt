-- What is so after a call that was added and answered.
use Rattle.std.proofs.Common.{◌≡◌, ℕ, ◌+◌, ◌≤◌, List, length, map, min, sym, ap, ◌∙◌, subst, arith}
use Rattle.lk_verdict.specs.Held.{verdict}
use Rattle.lk_session.specs.declared.view.View.{View}
use Rattle.lk_session.specs.declared.view.Submission.{Submission}
use Rattle.lk_session.specs.declared.found.Offer.{Offer}
use Rattle.lk_session.specs.declared.found.Entered.{Entered}
use Rattle.lk_session.specs.declared.reply.Reply.{Reply}
use Rattle.lk_session.specs.Texts.{Says, bytes_of, units_in, units_of}
use Rattle.lk_session.specs.Answers.{AreFrom, IsEntered, IsSubmitted, offered}
use Rattle.lk_session.proofs.Adding.{length_more}

pub submitted : (stated : Says) (budget read : ℕ) (o : Offer) (text : List ℕ) (before entered after : View) (e : Entered) (r : Reply) (n : ℕ)
    → IsEntered stated read (offered o) before entered e → bytes_of o.text ≡ text → o.count ≡ length (units_in stated text)
    → after ≡ entered → r.first ≡ e.first → length r.verdicts.items ≡ n → n ≡ min o.count 65536
    → AreFrom (units_of stated entered.seen) budget r.first (map verdict r.verdicts.items)
    → IsSubmitted stated budget (record { tag = o.tag; text = text }) before after r
submitted stated budget read o text before entered after e r n i is_text is_count is_after is_first is_n is_min each =
    let call : Submission = offered o in
    let a = i.is_added in
    let few : length (units_of stated entered.seen) ≤ 65536 = a.few in
    let all : length (units_of stated entered.seen) ≡ length (units_of stated i.earlier) + length (units_in stated (bytes_of o.text)) = ap (λ (l : List Submission). length (units_of stated l)) a.last ∙ length_more stated i.earlier call in
    let count : o.count ≡ length (units_in stated (bytes_of o.text)) = is_count ∙ ap (λ (t : List ℕ). length (units_in stated t)) (sym is_text) in
    let as_many : length r.verdicts.items ≡ length (units_in stated (bytes_of o.text)) = omega arith in
    let core : IsSubmitted stated budget call before entered r = record {
      earlier = i.earlier;
      is_added = a;
      reply = record {
        first_is = is_first ∙ i.first_is;
        as_many = as_many;
        each = subst (λ (l : List Submission). AreFrom (units_of stated l) budget r.first (map verdict r.verdicts.items)) a.last each;
      };
    } in
    subst (λ (t : List ℕ). IsSubmitted stated budget (record { tag = o.tag; text = t }) before after r) is_text
    (subst (λ (v : View). IsSubmitted stated budget call before v r) (sym is_after) core)
