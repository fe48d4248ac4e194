-- Verdicts where every axiom is allowed.
use Rattle.std.proofs.Common.{◌≡◌, List, ℕ, Option, None, Result, Ok, Err, ap, sym, ◌∙◌}
use Rattle.std.specs.Prelude.{OnOk, option_map}
use Rattle.lk_rulebook.specs.Units.{Library}
use Rattle.lk_verdict.specs.Told.{Verdict}
use Rattle.lk_text.specs.Policy.{policy_of, all_under}
use Rattle.lk_text.proofs.Refusing.{every_stays}

-- without a list the verdicts stay
pub unjudged : {A E T : Type 0} (r : Result A E) (text : T → List ℕ) (list : Option T) (us : Library) (vs : List Verdict) → list ≡ None
    → OnOk r (vs ≡ all_under (policy_of (option_map text list)) us 0 vs)
unjudged (Err e) text list us vs is = tt
unjudged (Ok x) text list us vs is =
    sym (ap (λ o. all_under (policy_of (option_map text o)) us 0 vs) is ∙ every_stays us 0 vs)
