-- The checks of a block's types give each type's telescope and sort.
use Rattle.std.proofs.Common.{ℕ, ◌≡◌, ◌+◌, inl, inr, List, [], ◌∷◌, length, refl, sym, subst, arith}
use Rattle.lk_tree.specs.Tree.{Level, Tree, local}
use Rattle.lk_tree.specs.LevelTest.{level_test}
use Rattle.lk_tree.specs.declared.rule.Rule.TheVariants.{BlockShape}
use Rattle.lk_tree.proofs.Lists.{AnyLocal}
use Rattle.lk_tree.proofs.Locals.{below_bound}
use Rattle.lk_rulebook.specs.Place.{Place, Block, BlockType}
use Rattle.lk_rulebook.specs.Rules.{HasSort}
use Rattle.lk_questions.specs.Program.{done}
use Rattle.lk_questions.specs.Steps.{given, sort_of}
use Rattle.lk_questions.specs.Levels.{tested}
use Rattle.lk_questions.specs.Sound.{IsSound, IsStated, TypesStated}
use Rattle.lk_questions.proofs.Soundness.{sound_bind}
use Rattle.lk_claims.proofs.Pieces.{sound_given, of_yes, sound_sort_of}
use Rattle.lk_claims.proofs.Pieces.{sound_tested}
use Rattle.lk_inductive.specs.Block.{parameters_of, Frame, frame_of}
use Rattle.lk_inductive.specs.Relation.{IsAmong, Telescope, Over, IsTypeOver, AreNumbered, AreParams, of_first}
use Rattle.lk_inductive.specs.BlockSteps.{telescope, over, type_end, next_type, next_types, TypeParts, types_steps}
use Rattle.lk_sound.proofs.Scoped.{In, AllIn, in_more, all_in_more}
use Rattle.lk_sound.proofs.Telescopes.{IsOpened, sound_telescope, sound_over, IsEnd, sound_type_end, over_own, numbered}

abbrev pub IsSorted : Place → Tree → Type 0
IsSorted w e = (l : Level) × HasSort w e l

-- what the checks find of a type
pub record IsFound (w : Place) (F : Frame) (t : BlockType) (xs : List Tree) : Type 0 where
  pub sorted : IsSorted w t.type
  pub over : IsTypeOver w F t xs
  pub locals : AllIn (length F.params + t.indices) xs

pub data AreFound (w : Place) (F : Frame) : List BlockType → List (List Tree) → Type 0 where
  none_found : AreFound w F [] []
  one_found : {t : BlockType} {ts : List BlockType} {xs : List Tree} {xss : List (List Tree)} → IsFound w F t xs → AreFound w F ts xss → AreFound w F (t ∷ ts) (xs ∷ xss)

stated_in : (k : ℕ) (e : Tree) → IsStated e → In k e
stated_in k e s = (s.0, omega (arith, s.1))

sound_next_type : (w : Place) (F : Frame) (t : BlockType) → IsStated t.type → AllIn (length F.params) F.params →
    IsSound w (next_type F.params F.sort t) (IsFound w F t)
sound_next_type w F t st ps =
    sound_bind w (sort_of t.type) _ (λ s. HasSort w t.type s) (IsFound w F t) (sound_sort_of w t.type st.0)
    (λ s hs. sound_bind w (over F.params t.type) _ (λ r. Over w F.params t.type r × In (length F.params) r) (IsFound w F t)
    (sound_over w (length F.params) F.params t.type ps (stated_in (length F.params) t.type st))
    (λ r hr. sound_bind w (type_end (length F.params) t.indices r) _ (IsEnd w (length F.params) t.indices r) (IsFound w F t)
    (sound_type_end w (length F.params) t.indices r hr.1)
    (λ e he. sound_bind w (tested (level_test e.1 F.sort)) _ _ (IsFound w F t) (sound_tested w e.1 F.sort (level_test e.1 F.sort) refl)
    (λ equal h. sound_given w equal BlockShape (done e.0) (IsFound w F t)
    (λ y. record {
      sorted = (s, hs);
      over = record { rest = r; last = he.last; level = e.1; over = hr.0; indices = he.indices; ends = he.ends; same = of_yes equal y h };
      locals = he.locals;
    })))))

pub sound_next_types : (w : Place) (F : Frame) (ts : List BlockType) → TypesStated ts → AllIn (length F.params) F.params →
    IsSound w (next_types F.params F.sort ts) (AreFound w F ts)
sound_next_types w F [] st ps = none_found
sound_next_types w F (t ∷ ts) st ps =
    sound_bind w (next_type F.params F.sort t) _ (IsFound w F t) (AreFound w F (t ∷ ts)) (sound_next_type w F t st.0.0 ps)
    (λ x hx. sound_bind w (next_types F.params F.sort ts) (λ xs. done (x ∷ xs)) (AreFound w F ts) (AreFound w F (t ∷ ts)) (sound_next_types w F ts st.1 ps)
    (λ xs hxs. one_found hx hxs))

-- what the checks of the types find of a block with these parameters
pub record IsTyped (w : Place) (b : Block) (v : TypeParts) : Type 0 where
  pub count : length v.params ≡ parameters_of b
  pub params : AllIn (parameters_of b) v.params
  pub first : AreParams w b.types v.params
  pub numbered : AreNumbered 0 v.params
  pub only : (k : ℕ) (T : Tree) → AnyLocal k T v.params → IsAmong (local k T) v.params
  pub types : AreFound w (frame_of b v.params v.sort) b.types v.indices

first_found : (w : Place) (F : Frame) (t : BlockType) (p : ℕ) (rest : Tree) (xs : List Tree) (l : Level) → length F.params ≡ p → F.sort ≡ l → IsSorted w t.type →
    Telescope w 0 p t.type F.params rest → IsEnd w p t.indices rest (xs, l) → IsFound w F t xs
first_found w F t p rest xs l n i s tel e =
    let f : Telescope w (length F.params) t.indices rest xs e.last = rw n e.indices in record {
      sorted = s;
      over = record {
        rest = rest;
        last = e.last;
        level = l;
        over = over_own w 0 p t.type rest F.params tel;
        indices = f;
        ends = e.ends;
        same = rw i (λ σ. refl);
      };
      locals = rw n e.locals;
    }

first_params : (w : Place) (t : BlockType) (ts us : List BlockType) (p : ℕ) (ps : List Tree) (rest : Tree) → us ≡ t ∷ ts → length ps ≡ p → Telescope w 0 p t.type ps rest → AreParams w us ps
first_params w t ts us p ps rest i n h = let k : Telescope w 0 (length ps) t.type ps rest = rw n h in rw i (of_first k)

sound_typed : (w : Place) (b : Block) (ts : List BlockType) → b.types ≡ ts → TypesStated ts → IsSound w (types_steps (parameters_of b) ts) (IsTyped w b)
sound_typed w b [] i st = tt
sound_typed w b (t ∷ ts) i st =
    let p : ℕ = parameters_of b in
    sound_bind w (sort_of t.type) _ (λ s. HasSort w t.type s) (IsTyped w b) (sound_sort_of w t.type st.0.0.0)
    (λ s hs. sound_bind w (telescope 0 p t.type) _ (IsOpened w 0 p t.type) (IsTyped w b) (sound_telescope w 0 p t.type (stated_in 0 t.type st.0.0))
    (λ ps hps. sound_bind w (type_end p t.indices ps.1) _ (IsEnd w p t.indices ps.1) (IsTyped w b) (sound_type_end w p t.indices ps.1 (in_more (0 + p) p ps.1 (omega arith) hps.rest))
    (λ e he.
    let F : Frame = frame_of b ps.0 e.1 in
    let own : AllIn p ps.0 = all_in_more (0 + p) p ps.0 (omega arith) hps.locals in
    let own_too : AllIn (length ps.0) ps.0 = rw hps.count own in
    sound_bind w (tested (level_test e.1 e.1)) _ _ (IsTyped w b) (sound_tested w e.1 e.1 (level_test e.1 e.1) refl)
    (λ equal h. sound_bind w (given equal BlockShape (next_types ps.0 e.1 ts)) _ (AreFound w F ts) (IsTyped w b)
    (sound_given w equal BlockShape (next_types ps.0 e.1 ts) (AreFound w F ts) (λ y. sound_next_types w F ts st.1 own_too))
    (λ xs hxs. record {
      count = hps.count;
      params = own;
      first = first_params w t ts b.types p ps.0 ps.1 i hps.count hps.telescope;
      numbered = numbered w 0 p t.type ps.1 ps.0 hps.telescope;
      only = λ k T m. elim (hps.only k T (inl m)) [ inl l ↦ absurd (omega (arith, below_bound k T t.type l, st.0.0.1)) | inr a ↦ a ];
      types = subst (λ l. AreFound w F l (e.0 ∷ xs)) (sym i) (one_found (first_found w F t p ps.1 e.0 e.1 hps.count refl (s, hs) hps.telescope he) hxs);
    })))))

pub sound_types : (w : Place) (b : Block) → TypesStated b.types → IsSound w (types_steps (parameters_of b) b.types) (IsTyped w b)
sound_types w b st = sound_typed w b b.types refl st

-- what the walk of constructors rests on
pub data AreOver (w : Place) (F : Frame) : List BlockType → List (List Tree) → Type 0 where
  none_over : AreOver w F [] []
  one_over : {t : BlockType} {ts : List BlockType} {xs : List Tree} {xss : List (List Tree)} → IsTypeOver w F t xs → AreOver w F ts xss → AreOver w F (t ∷ ts) (xs ∷ xss)

pub record IsHeaded (w : Place) (b : Block) (v : TypeParts) : Type 0 where
  pub count : length v.params ≡ parameters_of b
  pub params : AllIn (length v.params) v.params
  pub first : AreParams w b.types v.params
  pub types : AreOver w (frame_of b v.params v.sort) b.types v.indices

found_over : (w : Place) (F : Frame) (ts : List BlockType) (xs : List (List Tree)) → AreFound w F ts xs → AreOver w F ts xs
found_over w F ts xs none_found = none_over
found_over w F ts xs (one_found {ts = us} {xss = ys} g h) = one_over g.over (found_over w F us ys h)

pub headed : (w : Place) (b : Block) (v : TypeParts) → IsTyped w b v → IsHeaded w b v
headed w b v h = record { count = h.count; params = rw h.count h.params; first = h.first; types = found_over w (frame_of b v.params v.sort) b.types v.indices h.types }
