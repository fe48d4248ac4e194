-- Infer of a projection is sound.
use Rattle.std.proofs.Common.{ℕ, zero, suc, ◌≡◌, ◌<◌, ◌+◌, inl, inr, Bool, true, false, ◌&&◌, nat_eq, nat_lt, length, List, [], ◌∷◌, Option, Some, None, refl, ◌∙◌, arith}
use Rattle.std.proofs.lemmas.Bool.Decides.{nat_tests}
use Rattle.lk_tree.specs.Tree.{Name, Level, Tree, const, pi, proj}
use Rattle.lk_table_sound.proofs.Book.{Book, Reduces, HasSort, IsProposition, is_prop, t_proj, IsTypeAfterParameters, no_more, next, IsFieldType, here, past, well_formed_of_type, well_formed_of_reduct, IsSound, IsJustified, WellStated}
use Rattle.lk_tree.specs.Level.{is_zero_level}
use Rattle.lk_tree.specs.Bind.{opened, has_var}
use Rattle.lk_tree.specs.Levels.{put_levels}
use Rattle.lk_tree.specs.declared.rule.Rule.TheVariants.{BadProjection, PropProjection}
use Rattle.lk_tree.specs.Spine.{apply, head, args}
use Rattle.lk_tree.specs.WellFormed.{IsWellFormed, AllWellFormed, LocalsWithin}
use Rattle.lk_tree.proofs.Binding.{open_fine}
use Rattle.lk_tree.proofs.Spines.{well_formed_of_apply}
use Rattle.lk_tree.proofs.Within.{within_refl, within_trans, within_open, apply_head_args, no_local, bound_put_levels, fine_put_levels}
use Rattle.lk_tree.proofs.Lists.{AllWithin, local_of_arg}
use Rattle.lk_rulebook.specs.Place.{Entry, Kind, Block, BlockType, Ctor, a_type}
use Rattle.lk_questions.specs.Query.{infer}
use Rattle.lk_questions.specs.Program.{done}
use Rattle.lk_questions.specs.Steps.{sort_of, with_params}
use Rattle.lk_questions.specs.Iota.{levels_at}
use Rattle.lk_questions.specs.Projections.{past_parameters, is_prop_if, field_type, of_struct, of_kind, of_type, infer_proj}
use Rattle.lk_questions.specs.Sound.{IsStated, KindStated, CtorsStated}
use Rattle.lk_table_sound.proofs.Soundness.{sound_bind, sound_map}
use Rattle.lk_table_sound.proofs.Pieces.{sound_given, sound_sort_of, sound_pi, sound_with_params, TypesTo, well_formed_of_to}
use Rattle.lk_table_sound.proofs.Goes.{GoesTo}
use Rattle.lk_claims.proofs.Facts.{same_name_levels}
use Rattle.lk_claims.proofs.Facts.{Kept}

kept_open : (s v A B R r : Tree) (w : Book) → Kept s r → GoesTo w r R → R ≡ pi A B → Kept s v → Kept s (opened B v)
kept_open s v A B R r w k g e h =
    let f : IsWellFormed (pi A B) = rw e at (well_formed_of_reduct g.0).1 in
    (open_fine 0 v B f.1 h.0, within_open s B v (λ j T m. k.1 j T (g.1 j T (rw e (inr m)))) h.1)

sound_past : (w : Book) (s : Tree) (bs : List Tree) (n : ℕ) (r : Tree) → AllWellFormed bs → AllWithin s bs → Kept s r →
    IsSound w (past_parameters bs n r) (λ t. IsTypeAfterParameters w t n bs r × Kept s t)
sound_past w s bs zero r f l k = (no_more, k)
sound_past w s (b ∷ bs) (suc n) r f l k = (
  k.0,
  λ R m. sound_pi w BadProjection R (λ p. past_parameters bs n (opened p.1 b)) _ (λ A B e.
      sound_map w (past_parameters bs n (opened B b)) (λ t. IsTypeAfterParameters w t n bs (opened B b) × Kept s t) _
      (λ t h. (next (rw e at m.0) h.0, h.1))
      (sound_past w s bs n (opened B b) f.1 (λ j T x. l j T (inr x)) (kept_open s b A B R r w k m e (f.0, λ j T x. l j T (inl x))))),
)
sound_past w s [] (suc n) r f l k = tt

-- A is a proposition, where that was asked for and allowed
sound_prop : (w : Book) (q : Bool) (A : Tree) → IsWellFormed A → IsSound w (is_prop_if q A) (λ ok. ok ≡ true → q ≡ true → IsProposition w A)
sound_prop w false A f = λ y n. absurd cc
sound_prop w true A f =
    sound_bind w (sort_of A) (λ l. done (is_zero_level l)) (λ l. HasSort w A l) _ (sound_sort_of w A f)
    (λ l h z y. is_prop h z)

sound_field : (w : Book) (S : Name) (s : Tree) → IsWellFormed s → (l : Level) (j n : ℕ) (r : Tree) → Kept s r →
    IsSound w (field_type S s (is_zero_level l) j n r) (λ A. IsFieldType w S s l j n r A × LocalsWithin s A)
sound_field w S s fs l j zero r k = (
  k.0,
  λ R m. sound_pi w BadProjection R _ _ (λ A B eR.
      let c : Reduces w r (pi A B) = rw eR at m.0 in
      let fA : IsWellFormed A = (well_formed_of_reduct c).1.0 in
      sound_bind w (is_prop_if (is_zero_level l) A) _ _ _ (sound_prop w (is_zero_level l) A fA)
      (λ ok h. sound_given w ok PropProjection (done A) _
      (λ y. (here c (λ z. h y z), λ x T t. k.1 x T (m.1 x T (rw eR (inl t))))))),
)
sound_field w S s fs l j (suc n) r k = (
  k.0,
  λ R m. sound_pi w BadProjection R _ _ (λ A B eR.
      let c : Reduces w r (pi A B) = rw eR at m.0 in
      let fA : IsWellFormed A = (well_formed_of_reduct c).1.0 in
      sound_bind w (is_prop_if (is_zero_level l && has_var 0 B) A) _ _ _ (sound_prop w (is_zero_level l && has_var 0 B) A fA)
      (λ ok h. sound_given w ok PropProjection (field_type S s (is_zero_level l) (suc j) n (opened B (proj S j s))) _
      (λ y. sound_map w (field_type S s (is_zero_level l) (suc j) n (opened B (proj S j s))) (λ C. IsFieldType w S s l (suc j) n (opened B (proj S j s)) C × LocalsWithin s C) _
      (λ C g. (past c (λ z. h y z) g.0, g.1))
      (sound_field w S s fs l (suc j) n (opened B (proj S j s)) (kept_open s (proj S j s) A B R r w k m eR (fs, within_refl s)))))),
)

both_of : (a b : Bool) → (a && b) ≡ true → (a ≡ true) × (b ≡ true)
both_of true true h = (refl, refl)
both_of true false h = absurd cc
both_of false b h = absurd cc

ctors_of : (g : Entry) (block : Block) (ind : BlockType) → g.kind ≡ a_type block ind → KindStated g.kind → CtorsStated ind.ctors
ctors_of g block ind e s = let t : KindStated (a_type block ind) = rw e at s in t.0.1

first_stated : (cs : List Ctor) (c : Ctor) → cs ≡ c ∷ [] → CtorsStated cs → IsStated c.type
first_stated cs c e s = let t : CtorsStated (c ∷ []) = rw e at s in t.0

count_is : (xs : List Tree) (ind : BlockType) (c : Ctor) (i : ℕ) → (nat_eq (length xs) (ind.parameters + ind.indices) && nat_lt i c.fields) ≡ true → length xs ≡ ind.parameters + ind.indices
count_is xs ind c i t = let e : nat_eq (length xs) (ind.parameters + ind.indices) ≡ true = (both_of (nat_eq (length xs) (ind.parameters + ind.indices)) (nat_lt i c.fields) t).0 in grind (arith, nat_tests)

below_is : (xs : List Tree) (ind : BlockType) (c : Ctor) (i : ℕ) → (nat_eq (length xs) (ind.parameters + ind.indices) && nat_lt i c.fields) ≡ true → i < c.fields
below_is xs ind c i t = let e : nat_lt i c.fields ≡ true = (both_of (nat_eq (length xs) (ind.parameters + ind.indices)) (nat_lt i c.fields) t).1 in grind (arith, nat_tests)

sound_struct : (w : Book) → WellStated w → (S : Name) (i : ℕ) (s T : Tree) → IsWellFormed s → TypesTo w s T → LocalsWithin s T → (ls : List Level) → apply (const S ls) (args T) ≡ T →
    (g : Entry) → w.place.means S ≡ Some g → (block : Block) (ind : BlockType) → g.kind ≡ a_type block ind → (cs : List Ctor) → ind.ctors ≡ cs →
    IsSound w (of_struct S i s T ls ind cs) (IsJustified w (infer (proj S i s)))
sound_struct w ok S i s T fs hT wT ls eT g mg block ind kg [] ec = tt
sound_struct w ok S i s T fs hT wT ls eT g mg block ind kg (c ∷ d ∷ cs) ec = tt
sound_struct w ok S i s T fs hT wT ls eT g mg block ind kg (c ∷ []) ec =
    let counts : Bool = nat_eq (length (args T)) (ind.parameters + ind.indices) && nat_lt i c.fields in
    let fT : IsWellFormed T = well_formed_of_to hT in
    let fargs : AllWellFormed (args T) = (well_formed_of_apply (const S ls) (args T) (rw eT fT)).1 in
    let st : IsStated c.type = first_stated ind.ctors c ec (ctors_of g block ind kg (ok S g mg).1) in
    let ty : Tree = put_levels c.levels ls c.type in
    sound_given w counts BadProjection _ (IsJustified w (infer (proj S i s)))
    (λ t. sound_bind w (sort_of T) _ (λ l. HasSort w T l) (IsJustified w (infer (proj S i s))) (sound_sort_of w T fT)
    (λ l hl. sound_bind w (with_params c.levels ls c.type) _ (λ r. (r ≡ ty) × (length ls ≡ length c.levels)) (IsJustified w (infer (proj S i s)))
    (sound_with_params w c.levels ls c.type (λ r. (r ≡ ty) × (length ls ≡ length c.levels)) (λ count. (refl, count)))
    (λ r er. let kr : Kept s r = rw er.0 (fine_put_levels c.levels ls 0 c.type st.0, no_local s ty (bound_put_levels c.levels ls c.type ∙ st.1)) in
    sound_bind w (past_parameters (args T) ind.parameters r) _ (λ u. IsTypeAfterParameters w u ind.parameters (args T) r × Kept s u) (IsJustified w (infer (proj S i s)))
    (sound_past w s (args T) ind.parameters r fargs (λ k U m. wT k U (rw (← eT) (local_of_arg k U (const S ls) (args T) m))) kr)
    (λ u hu. sound_map w (field_type S s (is_zero_level l) 0 i u) (λ A. IsFieldType w S s l 0 i u A × LocalsWithin s A) (IsJustified w (infer (proj S i s)))
    (λ A hA. (
      t_proj (record { name = S; levels = ls; args = args T; entry = g; block = block; ind = ind; ctor = c; given = mg; kind = kg; args_are = count_is (args T) ind c i t; one_ctor = ec; levels_are = er.1 })
          hT.types (rw eT hT.reduces) (below_is (args T) ind c i t) (rw eT hl) (rw er.0 at hu.0) hA.0,
      hA.1,
    ))
    (sound_field w S s fs l 0 i u hu.1)))))

sound_kind : (w : Book) → WellStated w → (S : Name) (i : ℕ) (s T : Tree) → IsWellFormed s → TypesTo w s T → LocalsWithin s T → (ls : List Level) → apply (const S ls) (args T) ≡ T →
    (g : Entry) → w.place.means S ≡ Some g → (k : Kind) → g.kind ≡ k → IsSound w (of_kind S i s T ls k) (IsJustified w (infer (proj S i s)))
sound_kind w ok S i s T fs hT wT ls eT g mg (a_type block ind) kg = sound_struct w ok S i s T fs hT wT ls eT g mg block ind kg ind.ctors refl
sound_kind w ok S i s T fs hT wT ls eT g mg _ kg = tt

sound_of_type : (w : Book) → WellStated w → (S : Name) (i : ℕ) (s T : Tree) → IsWellFormed s → TypesTo w s T → LocalsWithin s T → (o : Option (List Level)) → levels_at S (head T) ≡ o →
    IsSound w (of_type S i s T o) (IsJustified w (infer (proj S i s)))
sound_of_type w ok S i s T fs hT wT None h = tt
sound_of_type w ok S i s T fs hT wT (Some ls) h =
    let e : head T ≡ const S ls = same_name_levels S T ls (head T) refl h in
    let eT : apply (const S ls) (args T) ≡ T = rw e at (apply_head_args T) in
    λ g m. sound_kind w ok S i s T fs hT wT ls eT g m g.kind refl

pub sound_infer_proj : (w : Book) → WellStated w → (S : Name) (i : ℕ) (s : Tree) → IsWellFormed s → IsSound w (infer_proj S i s) (IsJustified w (infer (proj S i s)))
sound_infer_proj w ok S i s f =
    (f, λ U mU. ((well_formed_of_type mU.0).1, λ T mT. sound_of_type w ok S i s T f (record { between = U; types = mU.0; reduces = mT.0 }) (within_trans s U T mU.1 mT.1) (levels_at S (head T)) refl))
