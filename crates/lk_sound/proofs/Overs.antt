-- Auxiliary types are telescopes over P0 .., then their indices, and end in a Sort at the block's level.
use Rattle.std.proofs.Common.{ℕ, suc, ◌≡◌, ◌<◌, ◌≤◌, ◌+◌, ◌⊎◌, inl, inr, List, [], ◌∷◌, ◌++◌, length, Some, None, refl, sym, ap, ◌∙◌, arith}
use Rattle.lk_tree.specs.Tree.{Name, Level, Tree, sort, pi, local}
use Rattle.lk_tree.specs.Level.{SameLevel}
use Rattle.lk_tree.specs.LevelTest.{level_test}
use Rattle.lk_tree.specs.Bind.{opened, close}
use Rattle.lk_tree.specs.WellFormed.{IsWellFormed, HasLocal, AllWellFormed}
use Rattle.lk_tree.specs.declared.rule.Rule.TheVariants.{BlockShape}
use Rattle.lk_tree.proofs.Binding.{close_fine}
use Rattle.lk_tree.proofs.Locals.{local_of_close, reopens}
use Rattle.lk_tree.proofs.Lists.{AnyLocal}
use Rattle.lk_rulebook.specs.Place.{Place, Block, BlockType}
use Rattle.lk_rulebook.specs.Rules.{r_refl, e_refl}
use Rattle.lk_questions.specs.Levels.{tested}
use Rattle.lk_questions.specs.Sound.{IsSound}
use Rattle.lk_questions.proofs.Soundness.{sound_bind, sound_map}
use Rattle.lk_claims.proofs.Pieces.{sound_given, of_yes}
use Rattle.lk_claims.proofs.Pieces.{sound_tested}
use Rattle.lk_inductive.specs.Block.{domain, Frame, frame_of, parameters_of}
use Rattle.lk_inductive.specs.Relation.{Telescope, Over, over_none, over_one, AreParams, of_first, IsAmong, AreNumbered, IsTypeOver}
use Rattle.lk_inductive.specs.Recursors.{number, pis}
use Rattle.lk_inductive.specs.Nested.{Aux, Setting, aux_from, Larger, larger_block, aux_sorts, aux_indices}
use Rattle.lk_inductive.specs.Restore.{Original}
use Rattle.lk_inductive.specs.NestedRelation.{OwnTypes, no_own_type, own_type_more, AuxTypes, no_aux, aux_more, IsEnlarged}
use Rattle.lk_sound.proofs.BuiltRecursors.{pis_fine}
use Rattle.lk_sound.proofs.Instances.{Only, ParamsHeld}
use Rattle.lk_sound.proofs.Auxs.{AuxIs, AllAux}
use Rattle.lk_sound.proofs.BlockTypes.{AreFound, none_found, one_found, AreOver, none_over, one_over}

-- numbers of Locals tell them apart
local_parts : {j k : ℕ} {S T : Tree} → local j S ≡ local k T → (j ≡ k) × (S ≡ T)
local_parts e = (cc, cc)

at_least : (i : ℕ) (ps : List Tree) (k : ℕ) (T : Tree) → AreNumbered i ps → IsAmong (local k T) ps → i ≤ k
at_least i [] k T n m = absurd m
at_least i (p ∷ ps) k T n (inl e) = let q : (k ≡ i) × (T ≡ n.0.0) = local_parts (e ∙ n.0.1) in omega (arith, q.0)
at_least i (p ∷ ps) k T n (inr m) = omega (arith, at_least (suc i) ps k T n.1 m)

pub below_count : (i : ℕ) (ps : List Tree) (k : ℕ) (T : Tree) → AreNumbered i ps → IsAmong (local k T) ps → k < i + length ps
below_count i [] k T n m = absurd m
below_count i (p ∷ ps) k T n (inl e) = let q : (k ≡ i) × (T ≡ n.0.0) = local_parts (e ∙ n.0.1) in omega (arith, q.0)
below_count i (p ∷ ps) k T n (inr m) = omega (arith, below_count (suc i) ps k T n.1 m)

unique : (i : ℕ) (ps : List Tree) (k : ℕ) (S T : Tree) → AreNumbered i ps → IsAmong (local k S) ps → IsAmong (local k T) ps → S ≡ T
unique i [] k S T n a b = absurd a
unique i (p ∷ ps) k S T n (inl a) (inl b) = (local_parts (a ∙ sym b)).1
unique i (p ∷ ps) k S T n (inl a) (inr b) = let q : (k ≡ i) × (S ≡ n.0.0) = local_parts (a ∙ n.0.1) in absurd (omega (arith, q.0, at_least (suc i) ps k T n.1 b))
unique i (p ∷ ps) k S T n (inr a) (inl b) = let q : (k ≡ i) × (T ≡ n.0.0) = local_parts (b ∙ n.0.1) in absurd (omega (arith, q.0, at_least (suc i) ps k S n.1 a))
unique i (p ∷ ps) k S T n (inr a) (inr b) = unique (suc i) ps k S T n.1 a b

local_of_domain : (k : ℕ) (T P : Tree) → HasLocal k T (domain P) → HasLocal k T P
local_of_domain k T (local j A) m = inr m
local_of_domain k T _ m = m

local_of_pis : (k : ℕ) (T : Tree) (ps : List Tree) (e : Tree) → HasLocal k T (pis ps e) → AnyLocal k T ps ⊎ HasLocal k T e
local_of_pis k T [] e m = inr m
local_of_pis k T (p ∷ ps) e (inl m) = inl (inl (local_of_domain k T p m))
local_of_pis k T (p ∷ ps) e (inr m) = elim (local_of_pis k T ps e (local_of_close k T 0 (number p) (pis ps e) m)) [ inl a ↦ inl (inr a) | inr b ↦ inr b ]

-- one more of P0 ..
one_pi : (v : Place) (ps : List Tree) (j : ℕ) (P A X rest : Tree) → P ≡ local j A → IsWellFormed (local j A) → IsWellFormed X → ((T : Tree) → HasLocal j T X → T ≡ A) → Over v ps X rest → Over v (P ∷ ps) (pi (domain P) (close (number P) X)) rest
one_pi v ps j P A X rest i f fx u o =
    let restore : opened (close j X) (local j A) ≡ X = reopens 0 j A X fx u in
    let then : Over v ps (opened (close j X) (local j A)) rest = rw restore o in
    let all : Over v (local j A ∷ ps) (pi A (close j X)) rest = over_one (r_refl (f.0, close_fine 0 j X fx)) (e_refl f.0) then in
    rw i all

over_params : (v : Place) (s : Setting) → AreNumbered 0 s.params → (j : ℕ) (ps : List Tree) (e : Tree) → AreNumbered j ps → ((P : Tree) → IsAmong P ps → IsAmong P s.params) →
    ((k : ℕ) (T : Tree) → AnyLocal k T ps → IsAmong (local k T) s.params) → AllWellFormed ps → IsWellFormed e → Only s.params e → Over v ps (pis ps e) e
over_params v s n j [] e m all only f fe oe = over_none
over_params v s n j (P ∷ ps) e m all only f fe oe =
    one_pi v ps j P m.0.0 (pis ps e) e m.0.1 m.0.2 (pis_fine ps e f.1 fe)
    (λ T h. unique 0 s.params j T m.0.0 n
    (elim (local_of_pis j T ps e h) [ inl a ↦ only j T (inr a) | inr b ↦ oe j T b ]) (all (local j m.0.0) (inl (sym m.0.1))))
    (over_params v s n (suc j) ps e m.1 (λ Q q. all Q (inr q)) (λ k T a. only k T (inr a)) f.1 fe oe)

-- the result sort of each auxiliary type is the block's
abbrev pub SortsAgree : Level → List Aux → Type 0
SortsAgree l [] = Unit {0}
SortsAgree l (a ∷ as_) = SameLevel a.sort l × SortsAgree l as_

pub sound_aux_sorts : (w : Place) (l : Level) (as_ : List Aux) → IsSound w (aux_sorts l as_) (λ y. SortsAgree l as_)
sound_aux_sorts w l [] = tt
sound_aux_sorts w l (a ∷ as_) =
    sound_bind w (tested (level_test a.sort l)) _ _ (λ y. SortsAgree l (a ∷ as_)) (sound_tested w a.sort l (level_test a.sort l) refl)
    (λ equal h. sound_given w equal BlockShape (aux_sorts l as_) (λ y. SortsAgree l (a ∷ as_))
    (λ y. sound_map w (aux_sorts l as_) (λ z. SortsAgree l as_) (λ z. SortsAgree l (a ∷ as_)) (λ z k. (of_yes equal y h, k)) (sound_aux_sorts w l as_)))

-- auxiliary type with this number
aux_over : (v w : Place) (s : Setting) (F : Frame) (a : Aux) (t : BlockType) → F.params ≡ s.params → ParamsHeld s → AreNumbered 0 s.params → AuxIs w s a → SameLevel a.sort F.sort → t.type ≡ pis s.params a.type → t.indices ≡ a.own.indices → IsTypeOver v F t a.indices
aux_over v w s F a t ip ps n h sl it ii =
    let o : Over v s.params (pis s.params a.type) a.type = over_params v s n 0 s.params a.type n (λ P q. q) ps.only ps.fine h.type.held.fine h.type.held.only in record {
      rest = a.type;
      last = sort a.sort;
      level = a.sort;
      over = rw (ip, it) o;
      indices = rw (ip, ii) (h.telescope v);
      ends = r_refl tt;
      same = sl;
    }

-- those from number i on
auxs_over : (v w : Place) (s : Setting) (F : Frame) (ms : List (Name × Original)) (auxs : List Aux) → F.params ≡ s.params → ParamsHeld s → AreNumbered 0 s.params → (rest : List Aux) (i : ℕ) → ((j : ℕ) → aux_from auxs (i + j) ≡ aux_from rest j) →
    AllAux w s rest → SortsAgree F.sort rest → (ts : List BlockType) → AuxTypes w s ms auxs i ts → AreOver v F ts (aux_indices rest)
auxs_over v w s F ms auxs ip ps n [] i f all so [] h = none_over
auxs_over v w s F ms auxs ip ps n [] i f all so (t ∷ ts) (aux_more {a = a} e x h) =
    let z : aux_from auxs (i + 0) ≡ None = f 0 in let y : i + 0 ≡ i = omega arith in let q : aux_from auxs i ≡ None = rw y at z in absurd cc
auxs_over v w s F ms auxs ip ps n (b ∷ rest) i f all so [] (no_aux e) =
    let z : aux_from auxs (i + 0) ≡ Some b = f 0 in let y : i + 0 ≡ i = omega arith in let q : aux_from auxs i ≡ Some b = rw y at z in absurd cc
auxs_over v w s F ms auxs ip ps n (b ∷ rest) i f all so (t ∷ ts) (aux_more {a = a} e x h) =
    let z : aux_from auxs (i + 0) ≡ Some b = f 0 in
    let y : i + 0 ≡ i = omega arith in
    let q : aux_from auxs i ≡ Some b = rw y at z in
    let same : a ≡ b = cc in
    one_over (aux_over v w s F b t ip ps n all.0 so.0 (x.type ∙ ap (λ u. pis s.params u.type) same) (x.indices ∙ ap (λ u. u.own.indices) same))
    (auxs_over v w s F ms auxs ip ps n rest (suc i) (λ j. ap (aux_from auxs) (next i j) ∙ f (suc j)) all.1 so.1 ts h)
  where
    next : (i j : ℕ) → suc i + j ≡ i + suc j
    next i j = omega arith

-- the block's own types, whose constructors changed
own_over : (v : Place) (s : Setting) (F G : Frame) (ms : List (Name × Original)) (ts us : List BlockType) (xs : List (List Tree)) → G.params ≡ F.params → G.sort ≡ F.sort → AreFound v F ts xs → OwnTypes s ms ts us → AreOver v G us xs
own_over v s F G ms ts us xs ip is none_found no_own_type = none_over
own_over v s F G ms ts us xs ip is (one_found {xs = x} {xss = xss} g h) (own_type_more {t = t} {u = u} {ts = ts'} {us = us'} o k) =
    one_over (record {
      rest = g.over.rest;
      last = g.over.last;
      level = g.over.level;
      over = rw (ip, o.type) g.over.over;
      indices = rw (ip, o.indices) g.over.indices;
      ends = g.over.ends;
      same = rw is g.over.same;
    }) (own_over v s F G ms ts' us' xss ip is h k)

over_append : (v : Place) (F : Frame) (ts us : List BlockType) (xs ys : List (List Tree)) → AreOver v F ts xs → AreOver v F us ys → AreOver v F (ts ++ us) (xs ++ ys)
over_append v F ts us xs ys none_over i = i
over_append v F ts us xs ys (one_over {ts = ts'} {xss = xss} g h) i = one_over g (over_append v F ts' us xss ys h i)

pub larger_over : (v w : Place) (s : Setting) (b : Block) (lg : Larger) (l : Level) (xs : List (List Tree)) → ParamsHeld s → AreNumbered 0 s.params → IsEnlarged w s b lg → AllAux w s lg.auxs → SortsAgree l lg.auxs →
    AreFound v (frame_of b s.params l) b.types xs → AreOver v (frame_of (larger_block lg) s.params l) (larger_block lg).types (xs ++ aux_indices lg.auxs)
larger_over v w s b lg l xs ps n st all so f =
    let F : Frame = frame_of (larger_block lg) s.params l in
    over_append v F lg.own lg.aux xs (aux_indices lg.auxs) (own_over v s (frame_of b s.params l) F _ b.types lg.own xs refl refl f st.own)
    (auxs_over v w s F _ lg.auxs refl ps n lg.auxs 0 (λ j. ap (aux_from lg.auxs) (omega arith)) all so lg.aux st.aux)

-- as many parameters
count_of_aux : (w : Place) (s : Setting) (ms : List (Name × Original)) (auxs : List Aux) (ts : List BlockType) → AuxTypes w s ms auxs 0 ts → length s.params ≡ 0 → length s.params ≡ parameters_of (record { types = ts })
count_of_aux w s ms auxs [] h e = e
count_of_aux w s ms auxs (t ∷ ts) (aux_more g x h) e = sym x.parameters

pub larger_count : (w : Place) (s : Setting) (ms : List (Name × Original)) (auxs : List Aux) (ts us rest : List BlockType) → OwnTypes s ms ts us → AuxTypes w s ms auxs 0 rest → length s.params ≡ parameters_of (record { types = ts }) → length s.params ≡ parameters_of (record { types = us ++ rest })
larger_count w s ms auxs ts us rest no_own_type h e = count_of_aux w s ms auxs rest h e
larger_count w s ms auxs ts us rest (own_type_more o k) h e = e ∙ sym o.parameters

of_none : (v : Place) (ps : List Tree) → AreParams v [] ps → ⊥
of_none v ps h = elim h [ ]

-- and the same P0 ..
pub larger_first : (v : Place) (s : Setting) (ms : List (Name × Original)) (ts us rest : List BlockType) (ps : List Tree) → OwnTypes s ms ts us → AreParams v ts ps → AreParams v (us ++ rest) ps
larger_first v s ms ts us rest ps no_own_type h = absurd (of_none v ps h)
larger_first v s ms ts us rest ps (own_type_more {u = u} o k) (of_first {rest = r} h) = let g : Telescope v 0 (length ps) u.type ps r = rw o.type h in of_first g
