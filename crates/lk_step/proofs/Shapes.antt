-- That trees are closed and well scoped, and that a Sort or a Pi reduces to itself alone, follows the rules at any place: so it is of each answer.
use Rattle.std.proofs.Common.{ℕ, ◌≡◌, Bool, List, [], ◌∷◌, Option, refl, subst, ◌∙◌, arith}
use Rattle.lk_tree.specs.Tree.{Name, Tree, app, local}
use Rattle.lk_tree.specs.Spine.{apply}
use Rattle.lk_tree.specs.WellFormed.{IsWellFormed, AllWellFormed}
use Rattle.lk_tree.proofs.Binding.{open_fine, fine_from_open}
use Rattle.lk_tree.proofs.Spines.{fine_apply}
use Rattle.lk_rulebook.specs.Place.{Place}
use Rattle.lk_rulebook.specs.WellStated.{WellStated}
use Rattle.lk_rulebook.specs.Formers.{IsFormer}
use Rattle.lk_rulebook.specs.Names.{named, op_name}
use Rattle.lk_rulebook.specs.Claims.{Claim, reduces, IsShaped}
use Rattle.lk_rulebook.proofs.Texts.{read_fine, result_fine}
use Rattle.lk_rulebook.proofs.Scopes.{expanded_fine}
use Rattle.lk_questions.specs.Query.{Query, AnswerTo, core, whnf, infer, same}
use Rattle.lk_questions.specs.Answer.{answered, plain_answer}
use Rattle.lk_questions.specs.Sound.{IsAskable}
use Rattle.lk_questions.specs.Table.{steps}
use Rattle.lk_questions.proofs.Outcomes.{of_answered}
use Rattle.lk_claims.specs.Follows.{FieldAt, this_field, field_before, EachNumeral, no_numeral, a_numeral, FollowsTypes, FollowsReductions, FollowsEqualities}
use Rattle.lk_table_sound.proofs.Book.{Book, IsJustified}
use Rattle.lk_table_sound.proofs.WholeTable.{sound_steps, ans_sound}
use Rattle.lk_step.specs.Rows.{IsAnswered}
use Rattle.lk_step.specs.Shaped.{IsShapedAnswer}

-- a record, so that implicit arguments are found
record Shaped (c : Claim) : Type 0 where
  shape : IsShaped c

field_fine : {S : Name} {s : Tree} {q : Bool} {j n : ℕ} {r F : Tree} → FieldAt Shaped S s q j n r F → IsWellFormed F
field_fine (this_field h p) = h.shape.1.0
field_fine (field_before h p k) = field_fine k

numerals_fine : {es : List Tree} {ns : List ℕ} → EachNumeral Shaped es ns → AllWellFormed es
numerals_fine no_numeral = tt
numerals_fine (a_numeral h e k) = (h.shape.0, numerals_fine k)

-- what is applied is no Sort and no Pi
no_former : (h : Tree) (xs : List Tree) → (IsFormer h → ⊥) → IsFormer (apply h xs) → ⊥
no_former h [] f z = f z
no_former h (x ∷ xs) f z = no_former (app h x) xs (λ y. y) z

chained : (a b c : Tree) → Shaped (reduces a b) → Shaped (reduces b c) → Shaped (reduces a c)
chained a b c h g = record { shape = (h.shape.0, g.shape.1, λ z. let e : a ≡ b = h.shape.2 z in e ∙ g.shape.2 (subst IsFormer e z)) }

types_shaped : (w : Place) → FollowsTypes w Shaped
types_shaped w = record {
  sorts = λ l. record { shape = (tt, tt) };
  locals = λ k T f. record { shape = (f, f.0) };
  consts = λ c ls g f. record { shape = (tt, f) };
  apps = λ f a F A B A' hf hF ha hq. record { shape = ((hf.shape.0, ha.shape.0), open_fine 0 a B hF.shape.1.1 ha.shape.0) };
  lams = λ A b B l k fresh hA hb. record { shape = ((hA.1.shape.0, fine_from_open 0 (local k A) b hb.shape.0), (hA.1.shape.0, fine_from_open 0 (local k A) B hb.shape.1)) };
  pis = λ A B u v k fresh hA hB. record { shape = ((hA.1.shape.0, fine_from_open 0 (local k A) B hB.1.shape.0), tt) };
  lets = λ A v b V B l hA hv hq hb. record { shape = ((hA.1.shape.0, hv.shape.0, fine_from_open 0 v b hb.shape.0), hb.shape.1) };
  lits = λ n h t f. record { shape = (f, tt) };
  strs = λ s h t. record { shape = (tt, tt) };
  projs = λ S i s T₀ T F l hs hT less hS a b. record { shape = (hs.shape.0, field_fine b) };
}

reductions_shaped : (w : Place) → FollowsReductions w Shaped
reductions_shaped w = record {
  stay = λ a f. record { shape = (f, f, λ z. refl) };
  chain = λ a b c h g. chained a b c h g;
  head = λ f g a h fa. record { shape = ((h.shape.0, fa), (h.shape.1, fa), λ z. absurd z) };
  beta = λ A b a f. record { shape = (f, open_fine 0 a b f.0.1 f.1, λ z. absurd z) };
  zeta = λ A v b f. record { shape = (f, open_fine 0 v b f.2 f.1, λ z. absurd z) };
  delta = λ c ls g v hv f. record { shape = (tt, f, λ z. absurd z) };
  field = λ c i s m x h rd t at f. record { shape = (h.shape.0, f, λ z. absurd z) };
  major = λ R e m n h rd t. record { shape = ((R.fine, h.shape.0), (R.fine, read_fine rd h.shape.1), λ z. absurd z) };
  iota = λ R c h f g. record { shape = ((R.fine, f), g, λ z. absurd z) };
  lift = λ ls ks A r B f h m A' r' a i im ff hm. record { shape = (((((((tt, ff.0), ff.1.0), ff.1.1.0), ff.1.1.1.0), ff.1.1.1.1.0), hm.shape.0), (ff.1.1.1.0, hm.shape.1.1), λ z. absurd z) };
  ind = λ ls ks A r B h m A' r' a i im ff hm. record { shape = ((((((tt, ff.0), ff.1.0), ff.1.1.0), ff.1.1.1.0), hm.shape.0), (ff.1.1.1.0, hm.shape.1.1), λ z. absurd z) };
  k = λ R k e T₀ D he hT hD hq. record { shape = ((R.fine, he.shape.0), (R.fine, hD.shape.0), λ z. absurd z) };
  struct = λ R S m T₀ l o hm hT hS z. record { shape = ((R.fine, hm.shape.0), (R.fine, expanded_fine S m hT.shape.1 hm.shape.0), λ y. absurd y) };
  operation = λ op es ns r i hn s h hr t. record { shape = (fine_apply (named (op_name op)) es tt (numerals_fine h), result_fine hr, λ z. absurd (no_former (named (op_name op)) es (λ y. y) z)) };
}

equalities_shaped : (w : Place) → FollowsEqualities w Shaped
equalities_shaped w = record {
  same = λ a f. record { shape = (f, f) };
  reduce = λ a b a' b' ha hb hq. record { shape = (ha.shape.0, hb.shape.0) };
  sorts = λ l m t. record { shape = (tt, tt) };
  consts = λ c ls ms t. record { shape = (tt, tt) };
  apps = λ f g a b nf ng hf ha. record { shape = ((hf.shape.0, ha.shape.0), (hf.shape.1, ha.shape.1)) };
  lams = λ A A' b b' k fresh hA hb. record { shape = ((hA.shape.0, fine_from_open 0 (local k A) b hb.shape.0), (hA.shape.1, fine_from_open 0 (local k A) b' hb.shape.1)) };
  pis = λ A A' b b' k fresh hA hb. record { shape = ((hA.shape.0, fine_from_open 0 (local k A) b hb.shape.0), (hA.shape.1, fine_from_open 0 (local k A) b' hb.shape.1)) };
  projs = λ S i s t h. record { shape = h.shape };
  eta_left = λ o T A B A' b n ho hT hq. record { shape = (ho.shape.0, hq.shape.1) };
  eta_right = λ o T A B A' b n ho hT hq. record { shape = (hq.shape.0, ho.shape.0) };
  proof = λ a b A B l na nb ha hA z hb hq. record { shape = (ha.shape.0, hb.shape.0) };
  zero_left = record { shape = (omega arith, tt) };
  zero_right = record { shape = (tt, omega arith) };
  succ_left = λ n x f h. record { shape = (f, (tt, h.shape.1)) };
  succ_right = λ n x f h. record { shape = ((tt, h.shape.0), f) };
  str_left = λ s b x t h. record { shape = (tt, h.shape.1) };
  str_right = λ s a x t h. record { shape = (h.shape.0, tt) };
  unit = λ u ls bs a b A B na nb n ha hT hb hq. record { shape = (ha.shape.0, hb.shape.0) };
  struct_left = λ S xs a A B na nx ha hb hq all. record { shape = (ha.shape.0, hb.shape.0) };
  struct_right = λ S xs a A B na nx ha hb hq all. record { shape = (hb.shape.0, ha.shape.0) };
}

abbrev shaped_at : (w : Place) → Book
shaped_at w = record { place = w; holds = Shaped; shaped = λ c h. h.shape; typing = types_shaped w; reduction = reductions_shaped w; conversion = equalities_shaped w }

justified_shaped : (w : Place) (q : Query) (v : AnswerTo q) → IsJustified (shaped_at w) q v → IsShapedAnswer q v
justified_shaped w (core e) v h = (h.0.0.shown.shape, h.0.1, h.1)
justified_shaped w (whnf e) v h = (h.0.shown.shape, h.1)
justified_shaped w (infer e) v h = (h.0.shown.shape, h.1)
justified_shaped w (same a b) v h = tt

pub shaped_answer : (w : Place) → WellStated w → (q : Query) (v : AnswerTo q) (c : ℕ) → IsAskable q → IsAnswered w q v c → IsShapedAnswer q v
shaped_answer w ok q v c f h =
    let x : (t : Option ℕ) × (plain_answer steps w q c ≡ answered v c t) = h c (omega arith) in
    justified_shaped w q v (of_answered (λ v c t. IsJustified (shaped_at w) q v) (plain_answer steps w q c) v c x.0 x.1 (ans_sound steps sound_steps (shaped_at w) ok q c f))
