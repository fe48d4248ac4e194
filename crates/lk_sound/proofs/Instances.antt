-- Trees of an earlier block at levels and parameters.
use Rattle.std.proofs.Common.{ℕ, zero, suc, ◌≡◌, ◌<◌, ◌+◌, inl, inr, Bool, true, false, ◌||◌, nat_eq, List, [], ◌∷◌, length, refl, arith}
use Rattle.std.proofs.lemmas.Bool.Decides.{nat_tests}
use Rattle.lk_tree.specs.Tree.{Name, Level, Tree, var, sort, const, app, lam, pi, let_in, proj, lit, wide, str, local}
use Rattle.lk_tree.specs.Bind.{open_at, open_var, opened, bound}
use Rattle.lk_tree.specs.Levels.{put_levels}
use Rattle.lk_tree.specs.WellFormed.{IsWellFormed, IsWellFormedUnder, HasLocal, AllWellFormed}
use Rattle.lk_tree.specs.declared.rule.Rule.TheVariants.{LevelCount, BlockShape}
use Rattle.lk_tree.proofs.Binding.{open_fine, Opening, opening, below, at, above}
use Rattle.lk_tree.proofs.Locals.{local_of_open, below_bound, bound_least}
use Rattle.lk_tree.proofs.Lists.{AnyLocal}
use Rattle.lk_tree.proofs.Within.{bound_put_levels, fine_put_levels}
use Rattle.lk_rulebook.specs.Place.{Place, Ctor}
use Rattle.lk_rulebook.specs.Rules.{r_refl}
use Rattle.lk_questions.specs.Program.{done}
use Rattle.lk_questions.specs.Steps.{given}
use Rattle.lk_questions.specs.Sound.{IsSound, IsStated, CtorsStated}
use Rattle.lk_questions.proofs.Soundness.{sound_bind, sound_map}
use Rattle.lk_claims.proofs.Pieces.{sound_given}
use Rattle.lk_inductive.specs.Relation.{Telescope, no_pi, a_pi, IsAmong}
use Rattle.lk_inductive.specs.BlockSteps.{as_level}
use Rattle.lk_inductive.specs.Nested.{Setting, is_loose, has_pis, past_pis, at_args, stated_pis, ctors_at}
use Rattle.lk_inductive.specs.NestedRelation.{Instance, past_none, past_one, Clear, ClearCtors}
use Rattle.lk_sound.proofs.Scoped.{In, AllIn, in_more, all_in_more, open_in, next_local}
use Rattle.lk_sound.proofs.Clears.{AllClear}

-- each Local of the tree is one of these
abbrev pub Only : List Tree → Tree → Type 0
Only ps e = (k : ℕ) (T : Tree) → HasLocal k T e → IsAmong (local k T) ps

-- well scoped under d binders, over P0 .. alone, without a marked name
pub record HeldUnder (d : ℕ) (s : Setting) (e : Tree) : Type 0 where
  pub fine : IsWellFormedUnder d e
  pub only : Only s.params e
  pub clear : Clear e

abbrev pub AllHeld : ℕ → Setting → List Tree → Type 0
AllHeld d s [] = Unit {0}
AllHeld d s (x ∷ xs) = HeldUnder d s x × AllHeld d s xs

-- P0 .. are closed and numbered below their count, and hold no other Local
pub record ParamsHeld (s : Setting) : Type 0 where
  pub fine : AllWellFormed s.params
  pub only : (k : ℕ) (T : Tree) → AnyLocal k T s.params → IsAmong (local k T) s.params
  pub clear : AllClear s.params
  pub below : (k : ℕ) (T : Tree) → IsAmong (local k T) s.params → k < length s.params

clear_var : (d i : ℕ) (v : Tree) → Opening d i v → Clear v → Clear (open_var d v i)
clear_var d i v (below l e) h = rw e tt
clear_var d i v (at l e) h = rw e h
clear_var d i v (above l e) h = rw e tt

clear_open : (d : ℕ) (v b : Tree) → Clear b → Clear v → Clear (open_at d v b)
unfolding open_at
clear_open d v (var i) h c = clear_var d i v (opening d i v) c
clear_open d v (sort l) h c = tt
clear_open d v (const n ls) h c = h
clear_open d v (app f a) h c = (clear_open d v f h.0 c, clear_open d v a h.1 c)
clear_open d v (lam A b) h c = (clear_open d v A h.0 c, clear_open (suc d) v b h.1 c)
clear_open d v (pi A b) h c = (clear_open d v A h.0 c, clear_open (suc d) v b h.1 c)
clear_open d v (let_in A a b) h c = (clear_open d v A h.0 c, clear_open d v a h.1 c, clear_open (suc d) v b h.2 c)
clear_open d v (proj S i e) h c = clear_open d v e h c
clear_open d v (lit n) h c = tt
clear_open d v wide h c = tt
clear_open d v (str t) h c = tt
clear_open d v (local k T) h c = tt

clear_put : (ps : List Name) (ls : List Level) (e : Tree) → Clear e → Clear (put_levels ps ls e)
unfolding put_levels
clear_put ps ls (var i) h = tt
clear_put ps ls (sort l) h = tt
clear_put ps ls (const n ms) h = h
clear_put ps ls (app f a) h = (clear_put ps ls f h.0, clear_put ps ls a h.1)
clear_put ps ls (lam A b) h = (clear_put ps ls A h.0, clear_put ps ls b h.1)
clear_put ps ls (pi A b) h = (clear_put ps ls A h.0, clear_put ps ls b h.1)
clear_put ps ls (let_in A a b) h = (clear_put ps ls A h.0, clear_put ps ls a h.1, clear_put ps ls b h.2)
clear_put ps ls (proj S i e) h = clear_put ps ls e h
clear_put ps ls (lit n) h = tt
clear_put ps ls wide h = tt
clear_put ps ls (str t) h = tt
clear_put ps ls (local k T) h = tt

-- without loose variables a tree is closed
neither : (a b : Bool) → (a || b) ≡ false → (a ≡ false) × (b ≡ false)
neither true b h = absurd cc
neither false b h = (refl, h)

pub closed : (n d : ℕ) (e : Tree) → IsWellFormedUnder d e → is_loose n e ≡ false → IsWellFormedUnder n e
closed n d (var i) f h = grind (arith, nat_tests, h)
closed n d (sort l) f h = tt
closed n d (const c ls) f h = tt
closed n d (app g a) f h = let t : _ = neither (is_loose n g) (is_loose n a) h in (closed n d g f.0 t.0, closed n d a f.1 t.1)
closed n d (lam A b) f h = let t : _ = neither (is_loose n A) (is_loose (suc n) b) h in (closed n d A f.0 t.0, closed (suc n) (suc d) b f.1 t.1)
closed n d (pi A b) f h = let t : _ = neither (is_loose n A) (is_loose (suc n) b) h in (closed n d A f.0 t.0, closed (suc n) (suc d) b f.1 t.1)
closed n d (let_in A a b) f h =
    let t : _ = neither (is_loose n A) (is_loose n a || is_loose (suc n) b) h in
    let u : _ = neither (is_loose n a) (is_loose (suc n) b) t.1 in (closed n d A f.0 t.0, closed n d a f.1 u.0, closed (suc n) (suc d) b f.2 u.1)
closed n d (proj S i e) f h = closed n d e f h
closed n d (lit k) f h = f
closed n d wide f h = f
closed n d (str t) f h = tt
closed n d (local k T) f h = f

-- of parameters below their count
pub only_in : (s : Setting) (e : Tree) → ParamsHeld s → IsWellFormed e → Only s.params e → In (length s.params) e
only_in s e p f o = (f, bound_least (length s.params) e (λ k T m. p.below k T (o k T m)))

pub held_in : (s : Setting) (e : Tree) → ParamsHeld s → HeldUnder 0 s e → In (length s.params) e
held_in s e p h = only_in s e p h.fine h.only

pub held_open : (s : Setting) (A B x : Tree) → HeldUnder 0 s (pi A B) → HeldUnder 0 s x → HeldUnder 0 s (opened B x)
held_open s A B x h k = record {
  fine = open_fine 0 x B h.fine.1 k.fine;
  only = λ j T m. elim (local_of_open j T 0 x B m) [ inl l ↦ h.only j T (inr l) | inr r ↦ k.only j T r ];
  clear = clear_open 0 x B h.clear.1 k.clear;
}

-- a stated tree holds no Local
pub held_stated : (s : Setting) (e : Tree) → IsStated e → Clear e → HeldUnder 0 s e
held_stated s e st c = record { fine = st.0; only = λ k T m. absurd (omega (arith, below_bound k T e m, st.1)); clear = c }

held_put : (s : Setting) (us : List Name) (ls : List Level) (e : Tree) → IsStated e → Clear e → HeldUnder 0 s (put_levels us ls e)
held_put s us ls e st c =
    let b : bound (put_levels us ls e) ≡ bound e = bound_put_levels us ls e in
    held_stated s (put_levels us ls e) (fine_put_levels us ls 0 e st.0, omega (arith, b, st.1)) (clear_put us ls e c)

sound_past : (w : Place) (s : Setting) (bs : List Tree) (e : Tree) → AllHeld 0 s bs → HeldUnder 0 s e → IsSound w (past_pis bs e) (λ r. Instance bs e r × HeldUnder 0 s r)
sound_past w s [] e hb h = (past_none, h)
sound_past w s (x ∷ xs) (pi A B) hb h =
    sound_map w (past_pis xs (opened B x)) (λ r. Instance xs (opened B x) r × HeldUnder 0 s r) (λ r. Instance (x ∷ xs) (pi A B) r × HeldUnder 0 s r)
    (λ r i. (past_one i.0, i.1)) (sound_past w s xs (opened B x) hb.1 (held_open s A B x h hb.0))
sound_past w s (x ∷ xs) _ hb h = tt

-- a stated tree at levels and parameters
pub record IsPut (s : Setting) (ls : List Level) (bs : List Tree) (us : List Name) (e r : Tree) : Type 0 where
  pub counts : length ls ≡ length us
  pub instance : Instance bs (put_levels us ls e) r
  pub held : HeldUnder 0 s r

pub sound_at : (w : Place) (s : Setting) (ls : List Level) (bs : List Tree) (us : List Name) (e : Tree) → AllHeld 0 s bs → IsStated e → Clear e → IsSound w (at_args ls bs us e) (IsPut s ls bs us e)
sound_at w s ls bs us e hb st c =
    sound_given w (nat_eq (length ls) (length us)) LevelCount (given (has_pis (length bs) e) BlockShape (past_pis bs (put_levels us ls e))) (IsPut s ls bs us e)
    (λ n. sound_given w (has_pis (length bs) e) BlockShape (past_pis bs (put_levels us ls e)) (IsPut s ls bs us e)
    (λ y. sound_map w (past_pis bs (put_levels us ls e)) (λ r. Instance bs (put_levels us ls e) r × HeldUnder 0 s r) (IsPut s ls bs us e)
    (λ r h. record { counts = grind (arith, nat_tests, n); instance = h.0; held = h.1 })
    (sound_past w s bs (put_levels us ls e) hb (held_put s us ls e st c))))

-- the Pis that stand are a telescope, at each place
pub record IsStatedEnd (j n : ℕ) (r : Tree) (t : List Tree × Tree) : Type 0 where
  pub telescope : (v : Place) → Telescope v j n r t.0 t.1
  pub rest : In (j + n) t.1
  pub locals : AllIn (j + n) t.0

pub sound_stated : (w : Place) (j n : ℕ) (r : Tree) → In j r → IsSound w (stated_pis j n r) (IsStatedEnd j n r)
sound_stated w j zero r h = record { telescope = λ v. no_pi; rest = in_more j (j + 0) r (omega arith) h; locals = tt }
sound_stated w j (suc n) (pi A B) h =
    let x : In (suc j) (local j A) = next_local j A B h in
    sound_bind w (stated_pis (suc j) n (opened B (local j A))) (λ t. done (local j A ∷ t.0, t.1)) (IsStatedEnd (suc j) n (opened B (local j A))) (IsStatedEnd j (suc n) (pi A B))
    (sound_stated w (suc j) n (opened B (local j A)) (open_in j (suc j) A B (local j A) (omega arith) h x))
    (λ t g. record {
      telescope = λ v. a_pi (r_refl h.0) h.1 (g.telescope v);
      rest = in_more (suc j + n) (j + suc n) t.1 (omega arith) g.rest;
      locals = (in_more (suc j) (j + suc n) (local j A) (omega arith) x, all_in_more (suc j + n) (j + suc n) t.0 (omega arith) g.locals);
    })
sound_stated w j (suc n) _ h = tt

pub sound_level : (w : Place) (S : Tree) → IsSound w (as_level S) (λ l. S ≡ sort l)
sound_level w (sort l) = refl
sound_level w _ = tt

-- the constructors at levels and parameters
pub data ArePut (s : Setting) (ls : List Level) (bs : List Tree) : List Ctor → List Tree → Type 0 where
  no_put : ArePut s ls bs [] []
  put_more : {c : Ctor} {r : Tree} {cs : List Ctor} {rs : List Tree} → IsPut s ls bs c.levels c.type r → ArePut s ls bs cs rs → ArePut s ls bs (c ∷ cs) (r ∷ rs)

pub sound_ctors_at : (w : Place) (s : Setting) (ls : List Level) (bs : List Tree) (cs : List Ctor) → AllHeld 0 s bs → CtorsStated cs → ClearCtors cs → IsSound w (ctors_at ls bs cs) (ArePut s ls bs cs)
sound_ctors_at w s ls bs [] hb st c = no_put
sound_ctors_at w s ls bs (x ∷ cs) hb st c =
    sound_bind w (at_args ls bs x.levels x.type) _ (IsPut s ls bs x.levels x.type) (ArePut s ls bs (x ∷ cs)) (sound_at w s ls bs x.levels x.type hb st.0 c.0)
    (λ r h. sound_bind w (ctors_at ls bs cs) (λ rs. done (r ∷ rs)) (ArePut s ls bs cs) (ArePut s ls bs (x ∷ cs)) (sound_ctors_at w s ls bs cs hb st.1 c.1)
    (λ rs k. put_more h k))
