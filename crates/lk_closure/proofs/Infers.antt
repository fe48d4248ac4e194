-- Infer keeps to a set of names.
use Rattle.std.proofs.Common.{ℕ, zero, suc, ◌≡◌, ◌+◌, ◌&&◌, length, nat_eq, nat_lt, Bool, true, false, List, [], ◌∷◌, Some, None, Option, if◌then◌else◌, refl, sym, subst}
use Rattle.lk_tree.specs.Tree.{Name, Level, Tree, var, sort, const, app, lam, pi, let_in, proj, lit, wide, str, local, imax_level}
use Rattle.lk_tree.specs.Level.{is_zero_level}
use Rattle.lk_tree.specs.Bind.{opened, close, bound, has_var}
use Rattle.lk_tree.specs.Spine.{head, args}
use Rattle.lk_rulebook.specs.Place.{Kind, BlockType, Ctor, a_type}
use Rattle.lk_rulebook.specs.Names.{nat, string, named}
use Rattle.lk_tree.specs.Mentions.{same_name}
use Rattle.lk_questions.specs.Query.{infer, same}
use Rattle.lk_questions.specs.Program.{done, asked, ◌>>=◌}
use Rattle.lk_questions.specs.Steps.{given, as_pi, sort_of, with_params}
use Rattle.lk_questions.specs.Shapes.{nat_shape, string_shape}
use Rattle.lk_questions.specs.Iota.{levels_at}
use Rattle.lk_questions.specs.Projections.{past_parameters, is_prop_if, field_type, of_struct, of_kind, of_type, infer_proj}
use Rattle.lk_questions.specs.Infer.{infer_steps}
use Rattle.lk_tree.proofs.LevelTests.{name_is}
use Rattle.lk_closure.proofs.Names.{Over, AllOver, KindOver, CtorsOver, HasBuiltins}
use Rattle.lk_closure.proofs.Within.{Within}
use Rattle.lk_closure.proofs.Trees.{over_open, over_close, over_head, over_args}
use Rattle.lk_closure.proofs.Pieces.{Any, PairOver, within_bind, within_given, within_sort_of, within_pi, within_with_params, within_with_levels}
use Rattle.lk_closure.proofs.Literals.{within_nat_shape, within_string_shape}

within_past : (P : Name → Type 0) (bs : List Tree) (n : ℕ) (r : Tree) → AllOver P bs → Over P r → Within P (past_parameters bs n r) (Over P)
within_past P bs zero r os h = h
within_past P (b ∷ bs) (suc n) r os h = (
  h,
  λ R oR. within_bind P (as_pi _ R) (λ p. past_parameters bs n (opened p.1 b)) (PairOver P) (Over P) (within_pi P _ R oR)
      (λ p op. within_past P bs n (opened p.1 b) os.1 (over_open P 0 b p.1 op.1 os.0)),
)
within_past P [] (suc n) r os h = tt

within_prop_if : (P : Name → Type 0) (b : Bool) (A : Tree) → Over P A → Within P (is_prop_if b A) Any
within_prop_if P false A h = tt
within_prop_if P true A h = within_bind P (sort_of A) (λ l. done (is_zero_level l)) Any Any (within_sort_of P A h) (λ l a. tt)

within_field_type : (P : Name → Type 0) (S : Name) (s : Tree) (q : Bool) (j n : ℕ) (r : Tree) → Over P s → Over P r → Within P (field_type S s q j n r) (Over P)
within_field_type P S s q j zero r os h = (
  h,
  λ R oR. within_bind P (as_pi _ R) (λ p. is_prop_if q p.0 >>= λ allowed. given allowed _ (done p.0)) (PairOver P) (Over P) (within_pi P _ R oR)
      (λ p op. within_bind P (is_prop_if q p.0) (λ allowed. given allowed _ (done p.0)) Any (Over P) (within_prop_if P q p.0 op.0)
      (λ allowed a. within_given P allowed _ (done p.0) (Over P) op.0)),
)
within_field_type P S s q j (suc n) r os h = (
  h,
  λ R oR. within_bind P (as_pi _ R) (λ p. is_prop_if (q && has_var 0 p.1) p.0 >>= λ allowed. given allowed _ (field_type S s q (suc j) n (opened p.1 (proj S j s)))) (PairOver P) (Over P) (within_pi P _ R oR)
      (λ p op. within_bind P (is_prop_if (q && has_var 0 p.1) p.0) (λ allowed. given allowed _ (field_type S s q (suc j) n (opened p.1 (proj S j s)))) Any (Over P)
      (within_prop_if P (q && has_var 0 p.1) p.0 op.0)
      (λ allowed a. within_given P allowed _ (field_type S s q (suc j) n (opened p.1 (proj S j s))) (Over P)
      (within_field_type P S s q (suc j) n (opened p.1 (proj S j s)) os (over_open P 0 (proj S j s) p.1 op.1 os)))),
)

within_struct : (P : Name → Type 0) (S : Name) (i : ℕ) (s T : Tree) (ls : List Level) (ind : BlockType) (cs : List Ctor) → Over P s → Over P T → CtorsOver P cs →
    Within P (of_struct S i s T ls ind cs) (Over P)
within_struct P S i s T ls ind (c ∷ []) os ot h =
    within_given P (nat_eq (length (args T)) (ind.parameters + ind.indices) && nat_lt i c.fields) _
    (sort_of T >>= λ l. with_params c.levels ls c.type >>= λ r. past_parameters (args T) ind.parameters r >>= λ t. field_type S s (is_zero_level l) 0 i t) (Over P)
    (within_bind P (sort_of T) (λ l. with_params c.levels ls c.type >>= λ r. past_parameters (args T) ind.parameters r >>= λ t. field_type S s (is_zero_level l) 0 i t) Any (Over P) (within_sort_of P T ot)
    (λ l a. within_bind P (with_params c.levels ls c.type) (λ r. past_parameters (args T) ind.parameters r >>= λ t. field_type S s (is_zero_level l) 0 i t) (Over P) (Over P)
    (within_with_params P c.levels ls c.type h.0.1)
    (λ r or. within_bind P (past_parameters (args T) ind.parameters r) (λ t. field_type S s (is_zero_level l) 0 i t) (Over P) (Over P)
    (within_past P (args T) ind.parameters r (over_args P T ot) or)
    (λ t o. within_field_type P S s (is_zero_level l) 0 i t os o))))
within_struct P S i s T ls ind [] os ot h = tt
within_struct P S i s T ls ind (c ∷ d ∷ cs) os ot h = tt

within_kind : (P : Name → Type 0) (S : Name) (i : ℕ) (s T : Tree) (ls : List Level) (k : Kind) → Over P s → Over P T → KindOver P k → Within P (of_kind S i s T ls k) (Over P)
within_kind P S i s T ls (a_type b ind) os ot h = within_struct P S i s T ls ind ind.ctors os ot h.0.1.1
within_kind P S i s T ls _ os ot h = tt

-- the type that the projection names is the head of the type
headed : (P : Name → Type 0) (S : Name) (h : Tree) (ks : List Level) → Over P h → levels_at S h ≡ Some ks → P S
headed P S (const c ls) ks o e = go (same_name S c) refl e
  where
    go : (b : Bool) → same_name S c ≡ b → (if b then Some ls else None) ≡ Some ks → P S
    go true t i = subst P (sym (name_is S c t)) o
    go false t i = absurd cc
headed P S (var i) ks o e = absurd cc
headed P S (sort l) ks o e = absurd cc
headed P S (app f a) ks o e = absurd cc
headed P S (lam A b) ks o e = absurd cc
headed P S (pi A B) ks o e = absurd cc
headed P S (let_in A v b) ks o e = absurd cc
headed P S (proj J i s) ks o e = absurd cc
headed P S (lit n) ks o e = absurd cc
headed P S wide ks o e = absurd cc
headed P S (str s) ks o e = absurd cc
headed P S (local k T) ks o e = absurd cc

within_type : (P : Name → Type 0) (S : Name) (i : ℕ) (s T : Tree) (o : Option (List Level)) → levels_at S (head T) ≡ o → Over P s → Over P T → Within P (of_type S i s T o) (Over P)
within_type P S i s T (Some ls) e os ot = (headed P S (head T) ls (over_head P T ot) e, λ g og. within_kind P S i s T ls g.kind os ot og.1)
within_type P S i s T None e os ot = tt

within_infer_proj : (P : Name → Type 0) (S : Name) (i : ℕ) (s : Tree) → Over P s → Within P (infer_proj S i s) (Over P)
within_infer_proj P S i s h = (h, λ T₀ t₀. (t₀, λ T t. within_type P S i s T (levels_at S (head T)) refl h t))

pub within_infer : (P : Name → Type 0) → HasBuiltins P → (e : Tree) → Over P e → Within P (infer_steps e) (Over P)
within_infer P b (local k T) h = h
within_infer P b (sort l) h = tt
within_infer P b (const c ls) h = (h, λ g o. within_with_levels P g ls g.type o.0)
within_infer P b (app f a) h = (
  h.0,
  λ F oF. (
    oF,
    λ S oS. within_bind P (as_pi _ S) (λ p. asked (infer a) >>= λ A. asked (same A p.0) >>= λ equal. given equal _ (done (opened p.1 a))) (PairOver P) (Over P) (within_pi P _ S oS)
        (λ p op. (h.1, λ A oA. ((oA, op.0), λ equal x. within_given P equal _ (done (opened p.1 a)) (Over P) (over_open P 0 a p.1 op.1 h.1)))),
  ),
)
within_infer P b (lam A c) h =
    let k : ℕ = bound (lam A c) in
    within_bind P (sort_of A) (λ l. asked (infer (opened c (local k A))) >>= λ B. done (pi A (close k B))) Any (Over P) (within_sort_of P A h.0)
    (λ l a. (over_open P 0 (local k A) c h.1 h.0, λ B oB. (h.0, over_close P 0 k B oB)))
within_infer P b (pi A B) h =
    let k : ℕ = bound (pi A B) in
    within_bind P (sort_of A) (λ u. sort_of (opened B (local k A)) >>= λ v. done (sort (imax_level u v))) Any (Over P) (within_sort_of P A h.0)
    (λ u a. within_bind P (sort_of (opened B (local k A))) (λ v. done (sort (imax_level u v))) Any (Over P)
    (within_sort_of P (opened B (local k A)) (over_open P 0 (local k A) B h.1 h.0)) (λ v x. tt))
within_infer P b (let_in A v c) h =
    within_bind P (sort_of A) (λ l. asked (infer v) >>= λ V. asked (same V A) >>= λ equal. given equal _ (asked (infer (opened c v)))) Any (Over P) (within_sort_of P A h.0)
    (λ l a. (h.1, λ V oV. ((oV, h.0), λ equal x. within_given P equal _ (asked (infer (opened c v))) (Over P) (over_open P 0 v c h.2 h.1, λ u ou. ou))))
within_infer P b (var i) h = tt
within_infer P b (proj S i s) h = within_infer_proj P S i s h
within_infer P b (lit n) h = within_bind P nat_shape (λ u. done (named nat)) Any (Over P) (within_nat_shape P b) (λ u a. b.of_nat)
within_infer P b (str s) h = within_bind P string_shape (λ u. done (named string)) Any (Over P) (within_string_shape P b) (λ u a. b.of_string)
within_infer P b wide h = tt
