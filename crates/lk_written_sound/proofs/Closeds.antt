-- What can be written follows the rules.
use Rattle.lk_tree.specs.Tree.{Level, Tree}
use Rattle.lk_rulebook.specs.Place.{Place}
use Rattle.lk_written.specs.Written.{CanWrite, CanSort, KeepsNumerals}
use Rattle.lk_claims.specs.Follows.{Sorts, FollowsTypes, FollowsReductions, FollowsEqualities}
use Rattle.lk_written_sound.proofs.OperationRule.{can_operation}
use Rattle.lk_written_sound.proofs.ProjRule.{can_proj}
use Rattle.lk_written_sound.proofs.Rules.{can_sort, can_local, can_stay, can_chain, can_head, can_beta, can_zeta, can_same}
use Rattle.lk_written_sound.proofs.MajorRules.{can_k, can_field, can_major, can_iota, can_lift, can_ind}
use Rattle.lk_written_sound.proofs.StructureRules.{can_expand, can_unit, can_struct_left, can_struct_right}
use Rattle.lk_written_sound.proofs.TypeRules.{can_const, can_app, can_lam, can_pi, can_let}
use Rattle.lk_written_sound.proofs.EqualRules.{can_delta, can_reduce, can_sorts, can_consts, can_apps, can_lams, can_pis, can_projs, can_proof}
use Rattle.lk_written_sound.proofs.MoreRules.{can_lit, can_str, can_zero_left, can_zero_right, can_succ_left, can_succ_right, can_eta_right, can_eta_left, can_str_left, can_str_right}

in_two : (w : Place) (A : Tree) (l : Level) → Sorts (CanWrite w) A l → CanSort w A l
in_two w A l h = record { between = h.0; typed = h.1; reduced = h.2 }

pub types_follow : (w : Place) → FollowsTypes w (CanWrite w)
types_follow w = record {
  sorts = λ l. can_sort w l;
  locals = λ k T f. can_local w k T f;
  consts = λ c ls g f. can_const w c ls g f;
  apps = λ f a F A B A' hf hF ha hq. can_app w f a F A B A' hf hF ha hq;
  lams = λ A b B l k fresh hA hb. can_lam w A b B l k fresh (in_two w A l hA) hb;
  pis = λ A B u v k fresh hA hB. can_pi w A B u v k fresh (in_two w A u hA) (in_two w _ v hB);
  lets = λ A v b V B l hA hv hq hb. can_let w A v b V B l (in_two w A l hA) hv hq hb;
  lits = λ n h t f. can_lit w n h t f;
  strs = λ s h t. can_str w s h t;
  projs = λ S i s T₀ T F l hs hT less hS a b. can_proj w S i s T₀ T F l hs hT less (in_two w _ l hS) a b;
}

pub reductions_follow : (w : Place) → KeepsNumerals w → FollowsReductions w (CanWrite w)
reductions_follow w kept = record {
  stay = λ a f. can_stay w a f;
  chain = λ a b c h g. can_chain w a b c h g;
  head = λ f g a h fa. can_head w f g a h fa;
  beta = λ A b a f. can_beta w A b a f;
  zeta = λ A v b f. can_zeta w A v b f;
  delta = λ c ls g v hv f. can_delta w c ls g v hv f;
  field = λ c i s m x h rd t at f. can_field w c i s m x h rd t at f;
  major = λ R e m n h rd t. can_major w R e m n h rd t;
  iota = λ R c h f g. can_iota w R c h f g;
  lift = λ ls ks A r B f h m A' r' a i im ff hm. can_lift w ls ks A r B f h m A' r' a i im ff hm;
  ind = λ ls ks A r B h m A' r' a i im ff hm. can_ind w ls ks A r B h m A' r' a i im ff hm;
  k = λ R k e T₀ D he hT hD hq. can_k w R k e T₀ D he hT hD hq;
  struct = λ R S m T₀ l o hm hT hS z. can_expand w R S m T₀ l o hm hT (in_two w _ l hS) z;
  operation = λ op es ns r i hn s h hr t. can_operation w kept op es ns r i hn s h hr t;
}

pub equalities_follow : (w : Place) → FollowsEqualities w (CanWrite w)
equalities_follow w = record {
  same = λ a f. can_same w a f;
  reduce = λ a b a' b' ha hb hq. can_reduce w a b a' b' ha hb hq;
  sorts = λ l m t. can_sorts w l m t;
  consts = λ c ls ms t. can_consts w c ls ms t;
  apps = λ f g a b nf ng hf ha. can_apps w f g a b nf ng hf ha;
  lams = λ A A' b b' k fresh hA hb. can_lams w A A' b b' k fresh hA hb;
  pis = λ A A' b b' k fresh hA hb. can_pis w A A' b b' k fresh hA hb;
  projs = λ S i s t h. can_projs w S i s t h;
  eta_left = λ o T A B A' b n ho hT hq. can_eta_left w o T A B A' b n ho hT hq;
  eta_right = λ o T A B A' b n ho hT hq. can_eta_right w o T A B A' b n ho hT hq;
  proof = λ a b A B l na nb ha hA z hb hq. can_proof w a b A B l na nb ha (in_two w A l hA) z hb hq;
  zero_left = can_zero_left w;
  zero_right = can_zero_right w;
  succ_left = λ n x f h. can_succ_left w n x f h;
  succ_right = λ n x f h. can_succ_right w n x f h;
  str_left = λ s b x t h. can_str_left w s b x t h;
  str_right = λ s a x t h. can_str_right w s a x t h;
  unit = λ u ls bs a b A B na nb n ha hT hb hq. can_unit w u ls bs a b A B na nb n ha hT hb hq;
  struct_left = λ S xs a A B na nx ha hb hq all. can_struct_left w S xs a A B na nx ha hb hq all;
  struct_right = λ S xs a A B na nx ha hb hq all. can_struct_right w S xs a A B na nx ha hb hq all;
}
