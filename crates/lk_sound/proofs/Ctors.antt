-- The checks of constructors and of large elimination.
use Rattle.std.proofs.Common.{ℕ, zero, suc, ◌≡◌, ◌+◌, inl, inr, Bool, true, false, ◌||◌, nat_le, List, [], ◌∷◌, ◌++◌, length, Option, Some, None, refl, if◌then◌else◌, arith}
use Rattle.lk_tree.specs.Tree.{Name, Level, zero_level, succ_level, Tree, pi, local}
use Rattle.lk_tree.specs.Level.{is_zero_level}
use Rattle.lk_tree.specs.LevelTest.{level_le, right_params, distinct}
use Rattle.lk_tree.specs.Bind.{opened, bound}
use Rattle.lk_tree.specs.Spine.{head, args}
use Rattle.lk_tree.specs.WellFormed.{IsWellFormed}
use Rattle.lk_tree.specs.declared.rule.Rule.TheVariants.{BlockShape, ConstructorResult, FieldUniverse}
use Rattle.lk_tree.proofs.LevelTests.{level_le_right}
use Rattle.lk_tree.proofs.Zero.{zero_level_same}
use Rattle.lk_rulebook.specs.Place.{Place, Block, BlockType, Ctor}
use Rattle.lk_tree.specs.Mentions.{same_name}
use Rattle.lk_rulebook.specs.Rules.{HasSort, is_prop, Reduces}
use Rattle.lk_rulebook.proofs.Scopes.{well_formed_of_reduct}
use Rattle.lk_questions.specs.Program.{done}
use Rattle.lk_questions.specs.Steps.{given, sort_of, is_same_tree}
use Rattle.lk_questions.specs.Levels.{tested}
use Rattle.lk_questions.specs.Sound.{IsSound, IsStated, CtorsStated, TypesStated}
use Rattle.lk_questions.proofs.Soundness.{sound_bind, sound_map}
use Rattle.lk_claims.proofs.Pieces.{sound_given, sound_sort_of, sound_pi, same_tree}
use Rattle.lk_claims.proofs.Facts.{sound_if}
use Rattle.lk_inductive.specs.Block.{Frame, frame_of, Field, CtorShape, TypeShape, domain}
use Rattle.lk_tree.specs.Level.{AtMost}
use Rattle.lk_inductive.specs.Relation.{IsMember, IsPositive, FitsIn, in_prop, in_universe, AreFields, no_field, a_field, IsCtor, AreCtors, no_ctor, a_ctor_more, Over, AreTypes, no_type, a_type_more, IsAmong, AreSmall, MayBeLarge, not_prop, empty, small, IsBlock}
use Rattle.lk_tree.specs.LevelTest.{level_le_test}
use Rattle.lk_inductive.specs.BlockSteps.{over, as_member, walk, fits, fits_in, fields_steps, own_indices, ctor_steps, ctors_steps, shapes_steps, is_among, small_steps, one_ctor_steps, one_type_steps, large_steps, TypeParts, shape_steps}
use Rattle.lk_sound.proofs.Scoped.{In, AllIn, in_more, open_in, pi_left, next_local, goes_in, fine_domain}
use Rattle.lk_sound.proofs.Telescopes.{pi_of, sound_over}
use Rattle.lk_sound.proofs.BlockTypes.{AreOver, one_over, IsHeaded}
use Rattle.lk_sound.proofs.Positive.{or_one, name_of, IfMember, if_member, sound_walk}

le_test_right : (l m : Level) → level_le_test l m ≡ Some true → AtMost l m
le_test_right l m h = go (nat_le (distinct (right_params l ++ right_params m)) 20) h
  where
    go : (b : Bool) → (if b then Some (level_le l m) else None) ≡ Some true → AtMost l m
    go true e = let t : level_le l m ≡ true = cc in λ σ. level_le_right l m t σ
    go false e = absurd cc

sound_le_tested : (w : Place) (l m : Level) (o : Option Bool) → level_le_test l m ≡ o → IsSound w (tested o) (λ b. b ≡ true → AtMost l m)
sound_le_tested w l m (Some b) h = λ e. le_test_right l m (rw (h, e) refl)
sound_le_tested w l m None h = tt

sound_fits : (w : Place) (l : Level) (A : Tree) → IsWellFormed A → IsSound w (fits l A) (λ b. b ≡ true → FitsIn w l A)
sound_fits w l A f =
    sound_bind w (sort_of A) (λ s. tested (level_le_test s l)) (λ s. HasSort w A s) (λ b. b ≡ true → FitsIn w l A) (sound_sort_of w A f)
    (λ s h. sound_map w (tested (level_le_test s l)) (λ b. b ≡ true → AtMost s l) (λ b. b ≡ true → FitsIn w l A) (λ b k e. in_universe h (k e)) (sound_le_tested w s l (level_le_test s l) refl))

pub sound_fits_in : (w : Place) (l : Level) (A : Tree) → IsWellFormed A → IsSound w (fits_in l A) (λ b. b ≡ true → FitsIn w l A)
sound_fits_in w l A f =
    sound_if w (is_zero_level l) (done true) (fits l A) (λ b. b ≡ true → FitsIn w l A) (λ z e. in_prop (zero_level_same l z)) (λ n. sound_fits w l A f)

pub record AreOpened (w : Place) (F : Frame) (j n : ℕ) (r : Tree) (v : List Field × Tree) : Type 0 where
  pub fields : AreFields w F j n r v.0 v.1
  pub rest : In (j + n) v.1

pub sound_fields : (w : Place) (fuel : ℕ) (F : Frame) (j n : ℕ) (r : Tree) → In j r → IsSound w (fields_steps fuel F j n r) (AreOpened w F j n r)
sound_fields w fuel F j zero r h = record { fields = no_field; rest = in_more j (j + 0) r (omega arith) h }
sound_fields w fuel F j (suc n) r h = (
  h.0,
  λ R m. sound_pi w BlockShape R _ _ (λ A B e.
      let p : Reduces w r (pi A B) × In j (pi A B) = pi_of w j r R A B h m e in
      let a : In j A = pi_left j A B p.1 in
      let x : In (suc j) (local j A) = next_local j A B p.1 in
      sound_bind w (fits_in F.sort A) _ (λ b. b ≡ true → FitsIn w F.sort A) (AreOpened w F j (suc n) r) (sound_fits_in w F.sort A a.0)
      (λ allowed ha. sound_bind w (given allowed FieldUniverse (walk fuel F (suc j) A)) _ (λ k. FitsIn w F.sort A × IsPositive w F (suc j) A k) (AreOpened w F j (suc n) r)
      (sound_given w allowed FieldUniverse (walk fuel F (suc j) A) (λ k. FitsIn w F.sort A × IsPositive w F (suc j) A k)
      (λ y. sound_map w (walk fuel F (suc j) A) (IsPositive w F (suc j) A) (λ k. FitsIn w F.sort A × IsPositive w F (suc j) A k) (λ k q. (ha y, q)) (sound_walk w fuel F (suc j) A (in_more j (suc j) A (omega arith) a))))
      (λ k hk. sound_bind w (fields_steps fuel F (suc j) n (opened B (local j A))) _ (AreOpened w F (suc j) n (opened B (local j A))) (AreOpened w F j (suc n) r)
      (sound_fields w fuel F (suc j) n (opened B (local j A)) (open_in j (suc j) A B (local j A) (omega arith) p.1 x))
      (λ fs g. record {
        fields = a_field p.0 p.1.1 hk.0 hk.1 g.fields;
        rest = in_more (suc j + n) (j + suc n) fs.1 (omega arith) g.rest;
      })))),
)

sound_own : (w : Place) (F : Frame) (T : Name) (e : Tree) (o : Option (Name × List Tree)) → IfMember F e o → IsSound w (own_indices T o) (λ is. IsMember F T is e)
sound_own w F T e (Some t) m =
    sound_given w (same_name t.0 T) ConstructorResult (done t.1) (λ is. IsMember F T is e) (λ y. let n : t.0 ≡ T = name_of t.0 T y in rw n at m)
sound_own w F T e None m = tt

pub sound_ctor : (w : Place) (fuel : ℕ) (F : Frame) (T : Name) (c : Ctor) → IsStated c.type → AllIn (length F.params) F.params → IsSound w (ctor_steps fuel F T c) (IsCtor w F T c)
sound_ctor w fuel F T c st ps =
    sound_bind w (over F.params c.type) _ (λ r. Over w F.params c.type r × In (length F.params) r) (IsCtor w F T c)
    (sound_over w (length F.params) F.params c.type ps (st.0, omega (arith, st.1)))
    (λ r hr. sound_bind w (fields_steps fuel F (length F.params) c.fields r) _ (AreOpened w F (length F.params) c.fields r) (IsCtor w F T c)
    (sound_fields w fuel F (length F.params) c.fields r hr.1)
    (λ fs g. (
      g.rest.0,
      λ R m. sound_bind w (own_indices T (as_member F (head R) (args R))) _ (λ is. IsMember F T is R) (IsCtor w F T c)
          (sound_own w F T R (as_member F (head R) (args R)) (if_member F R))
          (λ is q. record {
            name = refl;
            rest = r;
            last = fs.1;
            last_is = R;
            over = hr.0;
            fields = g.fields;
            ends = m.0;
            scoped = (goes_in w (length F.params + c.fields) fs.1 R g.rest m.0 m.1).1;
            own = q;
          }),
    )))

pub sound_ctors : (w : Place) (fuel : ℕ) (F : Frame) (T : Name) (cs : List Ctor) → CtorsStated cs → AllIn (length F.params) F.params → IsSound w (ctors_steps fuel F T cs) (AreCtors w F T cs)
sound_ctors w fuel F T [] st ps = no_ctor
sound_ctors w fuel F T (c ∷ cs) st ps =
    sound_bind w (ctor_steps fuel F T c) _ (IsCtor w F T c) (AreCtors w F T (c ∷ cs)) (sound_ctor w fuel F T c st.0 ps)
    (λ s hs. sound_bind w (ctors_steps fuel F T cs) (λ ss. done (s ∷ ss)) (AreCtors w F T cs) (AreCtors w F T (c ∷ cs)) (sound_ctors w fuel F T cs st.1 ps)
    (λ ss hss. a_ctor_more hs hss))

pub sound_shapes : (before w : Place) (fuel : ℕ) (F : Frame) (ts : List BlockType) (xs : List (List Tree)) → AreOver before F ts xs → TypesStated ts → AllIn (length F.params) F.params →
    IsSound w (shapes_steps fuel F ts xs) (AreTypes before w F ts)
sound_shapes before w fuel F [] xs h st ps = no_type
sound_shapes before w fuel F (t ∷ ts) [] h st ps = tt
sound_shapes before w fuel F (t ∷ ts) (x ∷ xs) (one_over g h) st ps =
    sound_bind w (ctors_steps fuel F t.name t.ctors) _ (AreCtors w F t.name t.ctors) (AreTypes before w F (t ∷ ts)) (sound_ctors w fuel F t.name t.ctors st.0.1 ps)
    (λ cs hcs. sound_bind w (shapes_steps fuel F ts xs) _ (AreTypes before w F ts) (AreTypes before w F (t ∷ ts)) (sound_shapes before w fuel F ts xs h st.1 ps)
    (λ ss hss. a_type_more refl g hcs hss))

-- each field's Local is closed and well scoped
abbrev pub VariablesWellFormed : List Field → Type 0
VariablesWellFormed [] = Unit {0}
VariablesWellFormed (f ∷ fs) = IsWellFormed f.variable × VariablesWellFormed fs

pub variables_fine : (w : Place) (F : Frame) (j n : ℕ) (r rest : Tree) (fs : List Field) → AreFields w F j n r fs rest → VariablesWellFormed fs
unfolding bound
variables_fine w F j n r rest fs no_field = tt
variables_fine w F j n r rest fs (a_field {j = i} {n = m} {A = A} {B = B} {fs = gs} c b u p h) =
    (((well_formed_of_reduct c).1.0, omega arith), variables_fine w F (suc i) m (opened B (local i A)) rest gs h)

among_right : (x : Tree) (is : List Tree) → is_among x is ≡ true → IsAmong x is
among_right x [] h = absurd cc
among_right x (i ∷ is) h = elim (or_one (is_same_tree x i) (is_among x is) h) [
  | inl e ↦ inl (same_tree x i e)
  | inr e ↦ inr (among_right x is e)
]

pub sound_small : (w : Place) (is : List Tree) (fs : List Field) → VariablesWellFormed fs → IsSound w (small_steps is fs) (λ b. b ≡ true → AreSmall w is fs)
sound_small w is [] v = λ e. tt
sound_small w is (f ∷ fs) v =
    sound_bind w (sort_of (domain f.variable)) _ (λ s. HasSort w (domain f.variable) s) (λ b. b ≡ true → AreSmall w is (f ∷ fs)) (sound_sort_of w (domain f.variable) (fine_domain f.variable v.0))
    (λ s h. sound_if w (is_zero_level s || is_among f.variable is) (small_steps is fs) (done false) (λ b. b ≡ true → AreSmall w is (f ∷ fs))
    (λ y. sound_map w (small_steps is fs) (λ b. b ≡ true → AreSmall w is fs) (λ b. b ≡ true → AreSmall w is (f ∷ fs))
    (λ b k e. (
      elim (or_one (is_zero_level s) (is_among f.variable is) y) [
        | inl z ↦ inl (is_prop h (zero_level_same s z))
        | inr a ↦ inr (among_right f.variable is a)
      ],
      k e,
    ))
    (sound_small w is fs v.1))
    (λ n e. absurd cc))

-- the fields of each constructor
abbrev pub CtorsWellFormed : List CtorShape → Type 0
CtorsWellFormed [] = Unit {0}
CtorsWellFormed (c ∷ cs) = VariablesWellFormed c.fields × CtorsWellFormed cs

ctors_fine : (w : Place) (F : Frame) (T : Name) (cs : List Ctor) (ss : List CtorShape) → AreCtors w F T cs ss → CtorsWellFormed ss
ctors_fine w F T cs ss no_ctor = tt
ctors_fine w F T cs ss (a_ctor_more {c = c} {s = s} {cs = ds} {ss = us} h k) =
    (variables_fine w F (length F.params) c.fields h.rest h.last s.fields h.fields, ctors_fine w F T ds us k)

sound_one_ctor : (w : Place) (l : Level) (t : TypeShape) (cs : List CtorShape) → t.ctors ≡ cs → CtorsWellFormed cs → IsSound w (one_ctor_steps cs) (λ b. b ≡ true → MayBeLarge w l (t ∷ []))
sound_one_ctor w l t [] e v = λ y. empty e
sound_one_ctor w l t (c ∷ []) e v = sound_map w (small_steps c.indices c.fields) (λ b. b ≡ true → AreSmall w c.indices c.fields) (λ b. b ≡ true → MayBeLarge w l (t ∷ []))
    (λ b k y. small e (k y)) (sound_small w c.indices c.fields v.0)
sound_one_ctor w l t (c ∷ d ∷ cs) e v = λ y. absurd cc

sound_one_type : (before w : Place) (F : Frame) (l : Level) (ts : List BlockType) (ss : List TypeShape) → AreTypes before w F ts ss → IsSound w (one_type_steps ss) (λ b. b ≡ true → MayBeLarge w l ss)
sound_one_type before w F l ts [] h = λ y. absurd cc
sound_one_type before w F l ts (s ∷ []) (a_type_more {t = t} n o c k) = sound_one_ctor w l s s.ctors refl (ctors_fine w F t.name t.ctors s.ctors c)
sound_one_type before w F l ts (s ∷ u ∷ ss) h = λ y. absurd cc

pub sound_large : (before w : Place) (F : Frame) (l : Level) (ts : List BlockType) (ss : List TypeShape) → AreTypes before w F ts ss → IsSound w (large_steps l ss) (λ b. b ≡ true → MayBeLarge w l ss)
sound_large before w F l ts ss h =
    sound_bind w (tested (level_le_test (succ_level zero_level) l)) _ (λ b. b ≡ true → AtMost (succ_level zero_level) l) (λ b. b ≡ true → MayBeLarge w l ss)
    (sound_le_tested w (succ_level zero_level) l (level_le_test (succ_level zero_level) l) refl)
    (λ above ha. sound_if w above (done true) (one_type_steps ss) (λ b. b ≡ true → MayBeLarge w l ss)
    (λ y e. not_prop (λ σ. ha y σ))
    (λ n. sound_one_type before w F l ts ss h))

pub sound_shape_at : (before w : Place) (fuel : ℕ) (b : Block) (v : TypeParts) → IsHeaded before b v → TypesStated b.types → IsSound w (shape_steps fuel b v) (λ s. IsBlock before w b s × (s.params ≡ v.params))
sound_shape_at before w fuel b v h st =
    let F : Frame = frame_of b v.params v.sort in
    sound_bind w (shapes_steps fuel F b.types v.indices) _ (AreTypes before w F b.types) (λ s. IsBlock before w b s × (s.params ≡ v.params))
    (sound_shapes before w fuel F b.types v.indices h.types st h.params)
    (λ ss hss. sound_bind w (large_steps v.sort ss) _ (λ y. y ≡ true → MayBeLarge w v.sort ss) (λ s. IsBlock before w b s × (s.params ≡ v.params)) (sound_large before w F v.sort b.types ss hss)
    (λ large hl. (record { levels = refl; parameters = h.count; params = h.first; types = hss; large = hl }, refl)))

pub sound_shape : (before w : Place) (fuel : ℕ) (b : Block) (v : TypeParts) → IsHeaded before b v → TypesStated b.types → IsSound w (shape_steps fuel b v) (IsBlock before w b)
sound_shape before w fuel b v h st = sound_map w (shape_steps fuel b v) (λ s. IsBlock before w b s × (s.params ≡ v.params)) (IsBlock before w b) (λ s x. x.0) (sound_shape_at before w fuel b v h st)
