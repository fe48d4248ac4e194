-- Rows that ask nothing.
use Rattle.std.proofs.Common.{ℕ, suc, ◌≡◌, ◌<◌, [], length, refl, subst, sym, arith}
use Rattle.lk_tree.specs.Tree.{Tree, Level, sort, succ_level, local}
use Rattle.lk_tree.specs.WellFormed.{IsWellFormed}
use Rattle.lk_rulebook.specs.Place.{Place}
use Rattle.lk_questions.specs.Query.{infer}
use Rattle.lk_written.specs.Line as written
use Rattle.lk_store.specs.Contents.{Contents, tree_at, Extends, IsTree}
use Rattle.lk_trace.specs.declared.rules.TypingRule.{TypingRule}
use Rattle.lk_trace.specs.Meaning.{typing_rule_of, IsTypingRuleIn}
use Rattle.lk_step.specs.Rows.{IsAnswered, no_claim}
use Rattle.lk_step.specs.Runs.{IsOpened}
use Rattle.lk_step.specs.Steps.{typing, StepHolds}
use Rattle.lk_step.proofs.Runs.{opened_so}
use Rattle.lk_step.proofs.TypingSteps.{typing_steps}
use Rattle.lk_derive_types.specs.declared.asked.Asked.{Asked}
use Rattle.lk_derive_types.specs.Asked.{IsNothingAsked}
use Rattle.lk_derive_types.specs.TypeRows.{IsTypedRow, IsTypedBy, HasType}
use Rattle.lk_derive_types.proofs.AskedSoFar.{there, nothing_asked}

-- an answer costs something
pub atom_row : (w : Place) (r : written.TypingRule) (e T : Tree) (c : ℕ) → IsAnswered w (infer e) T c → StepHolds w (typing r e T []) → IsTypedRow w r e T [] []
atom_row w r e T c h s =
    let o : IsOpened w (infer e) T c = opened_so w (infer e) T c h in
    let paid : c ≡ suc o.0 = o.1 in
    record { cost = c; answered = h; spent = 0; asked = no_claim; less = omega (arith, paid); holds = s }

pub sort_typed : (w : Place) (l : Level) → HasType w (sort l) → IsTypedRow w written.sort_rule (sort l) (sort (succ_level l)) [] []
sort_typed w l h =
    let o : IsOpened w (infer (sort l)) h.0 h.1 = opened_so w (infer (sort l)) h.0 h.1 h.2 in
    let e : sort (succ_level l) ≡ h.0 = o.2.0 in
    atom_row w written.sort_rule (sort l) (sort (succ_level l)) h.1 (subst (λ z. IsAnswered w (infer (sort l)) z h.1) (sym e) h.2) ((typing_steps w).sorts l)

pub local_typed : (w : Place) (k : ℕ) (T : Tree) → IsWellFormed (local k T) → HasType w (local k T) → IsTypedRow w written.local_rule (local k T) T [] []
local_typed w k T f h =
    let o : IsOpened w (infer (local k T)) h.0 h.1 = opened_so w (infer (local k T)) h.0 h.1 h.2 in
    let e : T ≡ h.0 = o.2.0 in
    atom_row w written.local_rule (local k T) T h.1 (subst (λ z. IsAnswered w (infer (local k T)) z h.1) (sym e) h.2) ((typing_steps w).locals k T f)

-- by numbers
pub atom_by : (w : Place) (c d : Contents) (r : TypingRule) (e t : ℕ) (a : Asked) (q : written.TypingRule) (E T : Tree) → Extends c d → IsTypingRuleIn d r → typing_rule_of d r ≡ q → e < length c.trees → tree_at c e ≡ E → IsTree d t T → IsNothingAsked a →
    IsTypedRow w q E T [] [] → IsTypedBy w d r e t a (tree_at c e)
atom_by w c d r e t a q E T x i ri he ee ht n row = record {
  type = T;
  plain_rule = q;
  queries = [];
  claims = [];
  rule_in = i;
  rule_is = ri;
  left_is = there c d e (tree_at c e) x (record { known = he; is = refl });
  right_is = ht;
  asked_are = nothing_asked d a n;
  row = subst (λ z. IsTypedRow w q z T [] []) (sym ee) row;
}
