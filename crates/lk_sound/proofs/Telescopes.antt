-- The walks of a type give telescopes by conversion.
use Rattle.std.proofs.Common.{ℕ, zero, suc, ◌≡◌, ◌+◌, ◌⊎◌, inl, inr, List, [], ◌∷◌, length, refl, ap, arith}
use Rattle.lk_tree.specs.Tree.{Level, Tree, sort, pi, local}
use Rattle.lk_tree.specs.Bind.{opened, bound}
use Rattle.lk_tree.specs.declared.rule.Rule.TheVariants.{BlockShape, ParameterDiffers}
use Rattle.lk_tree.specs.WellFormed.{HasLocal}
use Rattle.lk_tree.proofs.Lists.{AnyLocal}
use Rattle.lk_tree.proofs.Locals.{local_of_open}
use Rattle.lk_rulebook.specs.Place.{Place, BlockType}
use Rattle.lk_rulebook.specs.Rules.{Reduces, e_refl}
use Rattle.lk_rulebook.proofs.Scopes.{well_formed_of_reduct}
use Rattle.lk_questions.specs.Query.{whnf}
use Rattle.lk_questions.specs.Program.{done}
use Rattle.lk_questions.specs.Sound.{IsSound, IsJustified}
use Rattle.lk_questions.proofs.Soundness.{sound_bind, sound_map}
use Rattle.lk_claims.proofs.Pieces.{sound_given, of_yes, sound_pi}
use Rattle.lk_inductive.specs.Relation.{IsAmong, Telescope, no_pi, a_pi, Over, over_none, over_one, AreNumbered, AreParams, of_first}
use Rattle.lk_inductive.specs.BlockSteps.{telescope, over, as_level, type_end}
use Rattle.lk_sound.proofs.Scoped.{In, AllIn, in_more, all_in_more, open_in, next_local, goes_in, fine_domain}

-- what a Pi of r is
pub pi_of : (w : Place) (j : ℕ) (r R A B : Tree) → In j r → IsJustified w (whnf r) R → R ≡ pi A B → Reduces w r (pi A B) × In j (pi A B)
pi_of w j r R A B h m e = (rw e at m.0, rw e at (goes_in w j r R h m.0 m.1))

pub record IsOpened (w : Place) (j n : ℕ) (r : Tree) (t : List Tree × Tree) : Type 0 where
  pub telescope : Telescope w j n r t.0 t.1
  pub rest : In (j + n) t.1
  pub locals : AllIn (j + n) t.0
  pub count : length t.0 ≡ n
  pub only : (k : ℕ) (T : Tree) → AnyLocal k T t.0 ⊎ HasLocal k T t.1 → HasLocal k T r ⊎ IsAmong (local k T) t.0

only_none : (r : Tree) (k : ℕ) (T : Tree) → AnyLocal k T [] ⊎ HasLocal k T r → HasLocal k T r ⊎ IsAmong (local k T) []
only_none r k T (inl m) = absurd m
only_none r k T (inr m) = inl m

only_local : (r A : Tree) (j : ℕ) (xs : List Tree) (k : ℕ) (T : Tree) → (HasLocal k T A → HasLocal k T r) → HasLocal k T (local j A) → HasLocal k T r ⊎ IsAmong (local k T) (local j A ∷ xs)
only_local r A j xs k T w (inl e) = inr (inl (let a : k ≡ j = e.0 in let b : T ≡ A = e.1 in cc))
only_local r A j xs k T w (inr m) = inl (w m)

only_more : (r A B last : Tree) (j : ℕ) (xs : List Tree) (k : ℕ) (T : Tree) → ((i : ℕ) (S : Tree) → HasLocal i S (pi A B) → HasLocal i S r) →
    (AnyLocal k T xs ⊎ HasLocal k T last → HasLocal k T (opened B (local j A)) ⊎ IsAmong (local k T) xs) →
    AnyLocal k T (local j A ∷ xs) ⊎ HasLocal k T last → HasLocal k T r ⊎ IsAmong (local k T) (local j A ∷ xs)
only_more r A B last j xs k T w f m = elim m [
  | inl x ↦ elim x [ inl y ↦ only_local r A j xs k T (λ z. w k T (inl z)) y | inr y ↦ then (f (inl y)) ]
  | inr x ↦ then (f (inr x))
]
  where
    then : HasLocal k T (opened B (local j A)) ⊎ IsAmong (local k T) xs → HasLocal k T r ⊎ IsAmong (local k T) (local j A ∷ xs)
    then (inl h) = elim (local_of_open k T 0 (local j A) B h) [ inl l ↦ inl (w k T (inr l)) | inr l ↦ only_local r A j xs k T (λ z. w k T (inl z)) l ]
    then (inr h) = inr (inr h)

pub sound_telescope : (w : Place) (j n : ℕ) (r : Tree) → In j r → IsSound w (telescope j n r) (IsOpened w j n r)
sound_telescope w j zero r h = record { telescope = no_pi; rest = in_more j (j + 0) r (omega arith) h; locals = tt; count = refl; only = only_none r }
sound_telescope w j (suc n) r h = (
  h.0,
  λ R m. sound_pi w BlockShape R _ _ (λ A B e.
      let p : Reduces w r (pi A B) × In j (pi A B) = pi_of w j r R A B h m e in
      let x : In (suc j) (local j A) = next_local j A B p.1 in
      sound_bind w (telescope (suc j) n (opened B (local j A))) (λ t. done (local j A ∷ t.0, t.1)) (IsOpened w (suc j) n (opened B (local j A))) (IsOpened w j (suc n) r)
      (sound_telescope w (suc j) n (opened B (local j A)) (open_in j (suc j) A B (local j A) (omega arith) p.1 x))
      (λ t g. record {
        telescope = a_pi p.0 p.1.1 g.telescope;
        rest = in_more (suc j + n) (j + suc n) t.1 (omega arith) g.rest;
        locals = (in_more (suc j) (j + suc n) (local j A) (omega arith) x, all_in_more (suc j + n) (j + suc n) t.0 (omega arith) g.locals);
        count = ap suc g.count;
        only = λ k T. only_more r A B t.1 j t.0 k T (λ i S z. m.1 i S (rw e z)) (g.only k T);
      })),
)

pub sound_over : (w : Place) (k : ℕ) (ps : List Tree) (r : Tree) → AllIn k ps → In k r → IsSound w (over ps r) (λ t. Over w ps r t × In k t)
sound_over w k [] r hs h = (over_none, h)
sound_over w k (P ∷ ps) r hs h = (
  h.0,
  λ R m. sound_pi w BlockShape R _ _ (λ A B e.
      let p : Reduces w r (pi A B) × In k (pi A B) = pi_of w k r R A B h m e in (
        (p.1.0.0, fine_domain P hs.0.0),
        λ equal n. sound_given w equal ParameterDiffers (over ps (opened B P)) (λ t. Over w (P ∷ ps) r t × In k t)
            (λ y. sound_map w (over ps (opened B P)) (λ t. Over w ps (opened B P) t × In k t) (λ t. Over w (P ∷ ps) r t × In k t)
            (λ t g. (over_one p.0 (of_yes equal y n) g.0, g.1))
            (sound_over w k ps (opened B P) hs.1 (open_in k k A B P (omega arith) p.1 hs.0))),
      )),
)

pub sound_as_level : (w : Place) (e S : Tree) → Reduces w e S → IsSound w (as_level S) (λ l. Reduces w e (sort l))
sound_as_level w e (sort l) c = c
sound_as_level w e _ c = tt

-- the end of a type
pub record IsEnd (w : Place) (p n : ℕ) (r : Tree) (v : List Tree × Level) : Type 0 where
  pub last : Tree
  pub indices : Telescope w p n r v.0 last
  pub locals : AllIn (p + n) v.0
  pub ends : Reduces w last (sort v.1)

pub sound_type_end : (w : Place) (p n : ℕ) (r : Tree) → In p r → IsSound w (type_end p n r) (IsEnd w p n r)
sound_type_end w p n r h =
    sound_bind w (telescope p n r) _ (IsOpened w p n r) (IsEnd w p n r) (sound_telescope w p n r h)
    (λ t g. (
      g.rest.0,
      λ S m. sound_bind w (as_level S) (λ l. done (t.0, l)) (λ l. Reduces w t.1 (sort l)) (IsEnd w p n r) (sound_as_level w t.1 S m.0)
          (λ l c. record { last = t.1; indices = g.telescope; locals = g.locals; ends = c }),
    ))

-- the parameters of the first family are a telescope over their own types
pub over_own : (w : Place) (j n : ℕ) (r rest : Tree) (ps : List Tree) → Telescope w j n r ps rest → Over w ps r rest
over_own w j n r rest ps no_pi = over_none
over_own w j n r rest ps (a_pi {j = i} {n = m} {A = A} {B = B} {xs = xs} c b t) =
    over_one c (e_refl (well_formed_of_reduct c).1.0) (over_own w (suc i) m (opened B (local i A)) rest xs t)

-- a telescope's Locals
pub numbered : (w : Place) (j n : ℕ) (r rest : Tree) (xs : List Tree) → Telescope w j n r xs rest → AreNumbered j xs
unfolding bound
numbered w j n r rest xs no_pi = tt
numbered w j n r rest xs (a_pi {j = i} {n = m} {A = A} {B = B} {xs = ys} c b t) =
    ((A, refl, ((well_formed_of_reduct c).1.0, omega arith)), numbered w (suc i) m (opened B (local i A)) rest ys t)

pub params_numbered : (w : Place) (ts : List BlockType) (ps : List Tree) → AreParams w ts ps → AreNumbered 0 ps
params_numbered w ts ps (of_first {t = t} {rest = rest} h) = numbered w 0 (length ps) t.type rest ps h
