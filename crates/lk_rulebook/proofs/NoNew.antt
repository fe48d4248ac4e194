-- Types and reducts bring no new Local.
use Rattle.std.proofs.Common.{ℕ, zero, suc, ◌≡◌, ◌≤◌, ◌⊎◌, inl, inr, List, [], ◌∷◌, ◌++◌, ◌+◌, take, drop, ◌∙◌, arith}
use Rattle.lk_tree.specs.Tree.{Name, Level, Tree, var, sort, const, app, lam, pi, let_in, proj, lit, wide, str, local}
use Rattle.lk_tree.specs.Bind.{open_at, opened, bound, Fresh}
use Rattle.lk_tree.specs.Levels.{put_levels}
use Rattle.lk_tree.specs.Spine.{apply}
use Rattle.lk_tree.specs.WellFormed.{HasLocal, LocalsWithin}
use Rattle.lk_tree.proofs.Locals.{local_of_open, below_bound}
use Rattle.lk_tree.proofs.Within.{within_refl, within_trans, within_open, no_local, bound_put_levels}
use Rattle.lk_tree.proofs.Lists.{AnyLocal, AllWithin, any_take, any_drop, any_at, local_of_arg, within_applied}
use Rattle.lk_rulebook.specs.Place.{Place}
use Rattle.lk_rulebook.specs.Names.{named, op_name}
use Rattle.lk_rulebook.proofs.Texts.{text_within, read_within, result_within}
use Rattle.lk_rulebook.specs.Structures.{expanded, projections, ctor_app, before_indices, on_major}
use Rattle.lk_rulebook.specs.Stated.{GivesNoLocal}
use Rattle.lk_rulebook.specs.Rules.{HasType, t_sort, t_local, t_const, t_app, t_lam, t_pi, t_let, t_lit, t_str, t_proj, Reduces, r_refl, r_trans, r_head, r_beta, r_zeta, r_delta, r_proj, r_major, r_iota, r_k, r_struct, r_quot_lift, r_quot_ind, r_op, Field, IsFieldType, here, past, IsTypeAfterParameters, no_more, next}

-- opening keeps the Locals of the body
local_kept : (k : ℕ) (T : Tree) (d : ℕ) (v b : Tree) → HasLocal k T b → HasLocal k T (open_at d v b)
unfolding open_at
local_kept k T d v (app f a) (inl h) = inl (local_kept k T d v f h)
local_kept k T d v (app f a) (inr h) = inr (local_kept k T d v a h)
local_kept k T d v (lam A b) (inl h) = inl (local_kept k T d v A h)
local_kept k T d v (lam A b) (inr h) = inr (local_kept k T (suc d) v b h)
local_kept k T d v (pi A b) (inl h) = inl (local_kept k T d v A h)
local_kept k T d v (pi A b) (inr h) = inr (local_kept k T (suc d) v b h)
local_kept k T d v (let_in A a b) (inl h) = inl (local_kept k T d v A h)
local_kept k T d v (let_in A a b) (inr (inl h)) = inr (inl (local_kept k T d v a h))
local_kept k T d v (let_in A a b) (inr (inr h)) = inr (inr (local_kept k T (suc d) v b h))
local_kept k T d v (proj S i s) h = local_kept k T d v s h
local_kept k T d v (local j S) h = h
local_kept k T d v (var i) h = absurd h
local_kept k T d v (sort l) h = absurd h
local_kept k T d v (const c ls) h = absurd h
local_kept k T d v (lit n) h = absurd h
local_kept k T d v wide h = absurd h
local_kept k T d v (str s) h = absurd h

projections_within : (J : Name) (m : Tree) (j n : ℕ) → AllWithin m (projections J m j n)
projections_within J m j zero k T h = absurd h
projections_within J m j (suc n) k T (inl h) = h
projections_within J m j (suc n) k T (inr h) = projections_within J m (suc j) n k T h

any_append : (k : ℕ) (T : Tree) (xs ys : List Tree) → AnyLocal k T (xs ++ ys) → AnyLocal k T xs ⊎ AnyLocal k T ys
any_append k T [] ys h = inr h
any_append k T (x ∷ xs) ys (inl h) = inl (inl h)
any_append k T (x ∷ xs) ys (inr h) = elim (any_append k T xs ys h) [ inl a ↦ inl (inr a) | inr b ↦ inr b ]

any_first : (k : ℕ) (T : Tree) (xs ys : List Tree) → AnyLocal k T xs → AnyLocal k T (xs ++ ys)
any_first k T [] ys h = absurd h
any_first k T (x ∷ xs) ys (inl h) = inl h
any_first k T (x ∷ xs) ys (inr h) = inr (any_first k T xs ys h)

in_argument : (h e m : Tree) → LocalsWithin e m → LocalsWithin (app h e) (app h m)
in_argument h e m f k T = elim [ inl x ↦ inl x | inr x ↦ inr (f k T x) ]

stated : (e v : Tree) (ps : List Name) (ls : List Level) → bound v ≡ 0 → LocalsWithin e (put_levels ps ls v)
stated e v ps ls z = no_local e (put_levels ps ls v) (bound_put_levels ps ls v ∙ z)

bound_of_pi : (A B : Tree) (k : ℕ) → bound (pi A B) ≤ k → bound B ≤ k
unfolding bound
bound_of_pi A B k h = omega arith

bound_of_lam : (A b : Tree) (k : ℕ) → bound (lam A b) ≤ k → bound A ≤ k
unfolding bound
bound_of_lam A b k h = omega arith

lam_within : (A b B : Tree) (k : ℕ) → Fresh k (lam A b ∷ pi A B ∷ []) → LocalsWithin (opened b (local k A)) (opened B (local k A)) → LocalsWithin (lam A b) (pi A B)
lam_within A b B k fresh w n T (inl h) = inl h
lam_within A b B k fresh w n T (inr h) = go (local_of_open n T 0 (local k A) b (w n T (local_kept n T 0 (local k A) B h)))
  where
    go : HasLocal n T b ⊎ HasLocal n T (local k A) → HasLocal n T A ⊎ HasLocal n T b
    go (inl x) = inr x
    go (inr (inl e)) = let f : n ≡ k = e.0 in absurd (omega (arith, below_bound n T B h, bound_of_pi A B k fresh.1.0))
    go (inr (inr x)) = inl x

mutual
  pub type_within : {w : Place} → GivesNoLocal w → {e A : Tree} → HasType w e A → LocalsWithin e A
  type_within s (t_sort {l = l}) = λ k T h. h
  type_within s (t_local f) = λ k T h. inr h
  type_within s (t_const {c = c} {ls = ls} g f) = stated (const c ls) g.entry.type g.entry.levels ls (s.types c g.entry g.given)
  type_within s (t_app {f = f} {a = a} {F = F} {A = A} {B = B} h r x q) =
      within_open (app f a) B a (λ k T m. inl (type_within s h k T (reduct_within s r k T (inr m)))) (λ k T m. inr m)
  type_within s (t_lam {A = A} {b = b} {B = B} {k = k} fresh a f) = lam_within A b B k fresh (type_within s f)
  type_within s (t_pi fresh a f) = λ k T h. absurd h
  type_within s (t_let {A = A} {v = v} {b = b} {B = B} a x q f) =
      within_trans (let_in A v b) (opened b v) B (within_open (let_in A v b) b v (λ k T m. inr (inr m)) (λ k T m. inr (inl m))) (type_within s f)
  type_within s (t_lit h f) = λ k T m. absurd m
  type_within s (t_str h) = λ k T m. absurd m
  type_within s (t_proj S {e = e} he r i so p f) =
      field_within s f (past_within s e p (λ j X h. type_within s he j X (reduct_within s r j X (local_of_arg j X (const S.name S.levels) S.args h)))
      (stated e S.ctor.type S.ctor.levels S.levels (s.ctors S.name S.entry S.block S.ind S.ctor S.given S.kind S.one_ctor)))

  pub reduct_within : {w : Place} → GivesNoLocal w → {a b : Tree} → Reduces w a b → LocalsWithin a b
  reduct_within s (r_refl {a = a} f) = within_refl a
  reduct_within s (r_trans {a = a} {b = b} {c = c} d e) = within_trans a b c (reduct_within s d) (reduct_within s e)
  reduct_within s (r_head c f) = λ k T. elim [ inl x ↦ inl (reduct_within s c k T x) | inr x ↦ inr x ]
  reduct_within s (r_beta {A = A} {b = b} {a = a} f) = within_open (app (lam A b) a) b a (λ k T m. inl (inr m)) (λ k T m. inr m)
  reduct_within s (r_zeta {A = A} {v = v} {b = b} f) = within_open (let_in A v b) b v (λ k T m. inr (inr m)) (λ k T m. inr (inl m))
  reduct_within s (r_delta {c = c} {ls = ls} {v = v} g h f) = stated (const c ls) v g.entry.levels ls (s.values c g.entry v g.given h)
  reduct_within s (r_proj c {i = i} {x = x} r rd at f) =
      λ k T h. reduct_within s r k T (text_within rd k T (local_of_arg k T (const c.name c.levels) c.args (any_at k T (c.ctor.parameters + i) c.args x at h)))
  reduct_within s (r_major R {e = e} {m = m} {m' = m'} r rd) =
      in_argument (apply (const R.name R.levels) R.front) e m' (within_trans e m m' (reduct_within s r) (read_within rd))
  reduct_within s (r_iota R c h f g) =
      let e : Tree = on_major R (ctor_app c) in
      let v : Tree = put_levels R.entry.levels R.levels h.rule.value in
      let n : ℕ = before_indices R.recursor in
      within_applied e (apply v (take n R.front)) (drop c.ctor.parameters c.args)
      (within_applied e v (take n R.front) (stated e h.rule.value R.entry.levels R.levels (s.rules R.name R.entry R.recursor h.rule R.given R.kind h.is_rule))
      (λ k T m. inl (local_of_arg k T (const R.name R.levels) R.front (any_take k T n R.front m))))
      (λ k T m. inr (local_of_arg k T (const c.name c.levels) c.args (any_drop k T c.ctor.parameters c.args m)))
  reduct_within s (r_k R k {e = e} he hr hd q) =
      let c = k.ctor in
      in_argument (apply (const R.name R.levels) R.front) e (ctor_app c)
      (within_applied e (const c.name c.levels) c.args (λ j T h. absurd h)
      (λ j T h. type_within s he j T (reduct_within s hr j T (local_of_arg j T (const c.ind.name c.levels) (c.args ++ k.rest) (any_first j T c.args k.rest h)))))
  reduct_within s (r_struct R S {m = m} o h r p) =
      let t = S.structure in
      let fields : List Tree = projections t.ind.name m 0 t.ctor.fields in
      in_argument (apply (const R.name R.levels) R.front) m (expanded S m)
      (within_applied m (const t.ctor_name S.levels) (S.params ++ fields) (λ j T x. absurd x)
      (λ j T x. elim (any_append j T S.params fields x) [
        | inl a ↦ type_within s h j T (reduct_within s r j T (local_of_arg j T (const t.ind.name S.levels) S.params a))
        | inr b ↦ projections_within t.ind.name m 0 t.ctor.fields j T b
      ]))
  reduct_within s (r_quot_lift ls ks i j f r) = λ k T. elim [ inl x ↦ inl (inl (inr x)) | inr x ↦ inr (reduct_within s r k T (inr x)) ]
  reduct_within s (r_quot_ind ls ks i j f r) = λ k T. elim [ inl x ↦ inl (inr x) | inr x ↦ inr (reduct_within s r k T (inr x)) ]
  reduct_within s (r_op op es ns r o h l t g) = result_within (apply (named (op_name op)) es) g

  field_within : {w : Place} → GivesNoLocal w → {x : Field} {A : Tree} {j : ℕ} {r : Tree} → IsFieldType w x A j r → LocalsWithin x.subject r → LocalsWithin x.subject A
  field_within s (here c h) g = λ k T m. g k T (reduct_within s c k T (inl m))
  field_within s (past {f = x} {j = j} {B = B} c h f) g =
      field_within s f (within_open x.subject B (proj x.structure j x.subject) (λ k T m. g k T (reduct_within s c k T (inr m))) (λ k T m. m))

  past_within : {w : Place} → GivesNoLocal w → (s : Tree) {T : Tree} {n : ℕ} {bs : List Tree} {r : Tree} → IsTypeAfterParameters w T n bs r → AllWithin s bs → LocalsWithin s r → LocalsWithin s T
  past_within st s no_more f g = g
  past_within st s (next {b = b} {B = B} c p) f g =
      past_within st s p (λ k X h. f k X (inr h)) (within_open s B b (λ k X m. g k X (reduct_within st c k X (inr m))) (λ k X m. f k X (inl m)))
