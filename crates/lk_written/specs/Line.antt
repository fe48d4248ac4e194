-- Lines of a written derivation: each states that two trees are related, and names the rule and the
-- earlier lines that it rests on.
use Rattle.std.specs.Prelude.{ℕ, List}
use Rattle.lk_tree.specs.Tree.{Tree}
use Rattle.lk_rulebook.specs.Claims.{Claim, types, reduces, equals}

-- Rules by the words that a file has for them: T-Sort, T-Local, T-Const, T-App, T-Let, T-Lit, T-Str,
-- T-Proj; T-Lam and T-Pi, where the tree beside the rule is its Local.
pub data TypingRule : Type 0 where
  sort_rule local_rule const_rule app_rule let_rule lit_rule str_rule proj_rule : TypingRule
  lam_rule pi_rule : Tree → TypingRule

-- R-Trans, R-Head, R-Beta, R-Zeta, R-Delta, R-Proj, R-Major; R-K, R-Struct, R-Lift, R-Ind, R-Op; and
-- R-Iota, where the number beside the rule is the place of the recursor's rule in its list.
pub data ReductionRule : Type 0 where
  chain_rule head_rule beta_rule zeta_rule delta_rule field_rule major_rule : ReductionRule
  k_rule expand_rule lift_rule ind_rule operation_rule : ReductionRule
  iota_rule : ℕ → ReductionRule

-- E-Reduce, E-Sort, E-Const, E-App, E-Proj; E-Lam and E-Pi with their Local; E-Eta, E-StructL,
-- E-StructR, E-Unit, E-Proof; E-Zero, E-Succ, E-StrL, E-StrR
pub data EqualityRule : Type 0 where
  reduce_rule sorts_rule consts_rule apps_rule projs_rule : EqualityRule
  lams_rule pis_rule : Tree → EqualityRule
  eta_rule struct_left_rule struct_right_rule unit_rule proof_rule : EqualityRule
  zero_rule succ_rule str_left_rule str_right_rule : EqualityRule

-- a rule, the two trees, and the places in the section of the lines that are its premises
pub data Line : Type 0 where
  ty : TypingRule → Tree → Tree → List ℕ → Line
  rd : ReductionRule → Tree → Tree → List ℕ → Line
  cv : EqualityRule → Tree → Tree → List ℕ → Line

abbrev pub claim_of : Line → Claim
claim_of (ty r e T js) = types e T
claim_of (rd r a b js) = reduces a b
claim_of (cv r a b js) = equals a b
