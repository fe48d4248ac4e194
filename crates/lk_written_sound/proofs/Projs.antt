-- Lines of projections are derived.
use Rattle.std.proofs.Common.{ℕ, zero, suc, ◌≡◌, ◌+◌, ◌⊎◌, inl, inr, Bool, true, false, ◌&&◌, nat_eq, nat_lt, length, List, [], ◌∷◌, Option, Some, refl, subst, ◌∙◌, sym, ap, arith}
use Rattle.lk_tree.specs.Tree.{Name, Level, zero_level, Tree, const, pi, proj}
use Rattle.lk_tree.specs.Level.{SameLevel, is_zero_level}
use Rattle.lk_tree.specs.Bind.{opened, has_var}
use Rattle.lk_tree.specs.Levels.{put_levels}
use Rattle.lk_tree.specs.Spine.{apply, head, args}
use Rattle.lk_tree.specs.WellFormed.{IsWellFormed, AllWellFormed}
use Rattle.lk_tree.proofs.Binding.{open_fine}
use Rattle.lk_tree.proofs.Spines.{well_formed_of_apply}
use Rattle.lk_tree.proofs.Zero.{not_zero_level}
use Rattle.lk_tree.proofs.Within.{apply_head_args, fine_put_levels}
use Rattle.lk_rulebook.specs.Place.{Place, Entry, Kind, Block, BlockType, Ctor, a_type}
use Rattle.lk_tree.specs.Mentions.{same_name}
use Rattle.lk_rulebook.specs.Structures.{Projectable}
use Rattle.lk_rulebook.specs.Rules.{HasType, Reduces, HasSort, IsProposition, t_proj, IsTypeAfterParameters, no_more, next, field_at, IsFieldType, here, past}
use Rattle.lk_rulebook.proofs.Scopes.{well_formed_of_type, well_formed_of_reduct}
use Rattle.lk_rulebook.specs.WellStated.{WellStated, KindStated, CtorsStated}
use Rattle.lk_claims.proofs.Pieces.{halves, equal_numbers, less_number, same_name_right}
use Rattle.lk_rulebook.specs.Claims.{Claim, AllDerived}
use Rattle.lk_questions.specs.Tests.{◌>>=◌}
use Rattle.lk_written.specs.Premises.{as_const, Left, is_prop_by}
use Rattle.lk_written.specs.Typing.{past as past_test, prop_if, field_of, the_type, the_one, type_proj}
use Rattle.lk_written_sound.proofs.Premises.{IfSome, if_map, if_bind, on_some, on_test, const_right, is_prop_right, on_typed, on_reduced, on_sorted, on_pi}
use Rattle.lk_written_sound.proofs.Typings.{comes_right}

pub on_const : (h : Tree) {B : Type 0} (k : Name × List Level → Option B) (Q : B → Type 0) → ((c : Name × List Level) → h ≡ const c.0 c.1 → IfSome (k c) Q) → IfSome (as_const h >>= k) Q
on_const h k Q f = if_bind (as_const h) k (λ c. h ≡ const c.0 c.1) Q (const_right h) f

-- the tree is its head applied
pub spine_is : (T : Tree) (c d : Name) (ls : List Level) → head T ≡ const c ls → c ≡ d → T ≡ apply (const d ls) (args T)
spine_is T c d ls e i = sym (apply_head_args T) ∙ ap (λ h. apply h (args T)) (e ∙ ap (λ c. const c ls) i)

pub type_right : (k : Kind) → IfSome (the_type k) (λ t. k ≡ a_type t.0 t.1)
type_right (a_type block ind) = refl
type_right _ = tt

one_right : (cs : List Ctor) → IfSome (the_one cs) (λ c. cs ≡ c ∷ [])
one_right [] = tt
one_right (c ∷ []) = refl
one_right (c ∷ d ∷ cs) = tt

past_right : (w : Place) (ps : List Claim) → AllDerived w ps → (js : Left) (bs : List Tree) (n : ℕ) (r : Tree) → AllWellFormed bs → IsWellFormed r →
    IfSome (past_test ps js bs n r) (λ o. IsTypeAfterParameters w o.0 n bs r × IsWellFormed o.0)
past_right w ps d js bs zero r f g = (no_more, g)
past_right w ps d js (b ∷ bs) (suc n) r f g =
    on_pi w ps d js r _ (λ o. IsTypeAfterParameters w o.0 (suc n) (b ∷ bs) r × IsWellFormed o.0) g (λ p h.
    if_map (past_test ps p.1 bs n (opened p.0.1 b)) (λ o. IsTypeAfterParameters w o.0 n bs (opened p.0.1 b) × IsWellFormed o.0) (λ o. IsTypeAfterParameters w o.0 (suc n) (b ∷ bs) r × IsWellFormed o.0)
    (past_right w ps d p.1 bs n (opened p.0.1 b) f.1 (open_fine 0 b p.0.1 (well_formed_of_reduct h).1.1 f.0))
    (λ o x. (next h x.0, x.1)))
past_right w ps d js [] (suc n) r f g = tt

prop_right : (w : Place) (ps : List Claim) → AllDerived w ps → (q : Bool) (js : Left) (A : Tree) → IfSome (prop_if q ps js A) (λ r. q ≡ true → IsProposition w A)
prop_right w ps d false js A = λ e. absurd cc
prop_right w ps d true js A = if_map (is_prop_by ps js A) (λ r. IsProposition w A) (λ r. true ≡ true → IsProposition w A) (is_prop_right w ps d js A) (λ r h e. h)

true_or_not : (b : Bool) → (b ≡ true) ⊎ (b ≡ false)
true_or_not true = inl refl
true_or_not false = inr refl

pub zero_then : (l : Level) → SameLevel l zero_level → is_zero_level l ≡ true
zero_then l h = elim (true_or_not (is_zero_level l)) [ inl e ↦ e | inr e ↦ absurd (not_zero_level l e h) ]

pub halves_true : (a b : Bool) → a ≡ true → b ≡ true → (a && b) ≡ true
halves_true true b x y = y
halves_true false b x y = absurd cc

here_at : (w : Place) (S : Name) (s : Tree) (l : Level) (j i : ℕ) (r A B : Tree) → j + 0 ≡ i → Reduces w r (pi A B) → (SameLevel l zero_level → IsProposition w A) → IsFieldType w (field_at S s l i) A j r
here_at w S s l j i r A B e c h = let f : j ≡ i = omega (arith, e) in subst (λ x. IsFieldType w (field_at S s l x) A j r) f (here {f = field_at S s l j} c h)

field_right : (w : Place) (ps : List Claim) → AllDerived w ps → (S : Name) (s : Tree) → IsWellFormed s → (l : Level) (j i n : ℕ) (js : Left) (r : Tree) → j + n ≡ i → IsWellFormed r →
    IfSome (field_of ps js S s (is_zero_level l) j n r) (λ o. IsFieldType w (field_at S s l i) o.0 j r)
field_right w ps d S s fs l j i zero js r e f =
    on_pi w ps d js r _ (λ o. IsFieldType w (field_at S s l i) o.0 j r) f (λ p h.
    if_bind (prop_if (is_zero_level l) ps p.1 p.0.0) _ (λ t. is_zero_level l ≡ true → IsProposition w p.0.0) (λ o. IsFieldType w (field_at S s l i) o.0 j r) (prop_right w ps d (is_zero_level l) p.1 p.0.0)
    (λ t q. here_at w S s l j i r p.0.0 p.0.1 e h (λ z. q (zero_then l z))))
field_right w ps d S s fs l j i (suc n) js r e f =
    on_pi w ps d js r _ (λ o. IsFieldType w (field_at S s l i) o.0 j r) f (λ p h.
    if_bind (prop_if (is_zero_level l && has_var 0 p.0.1) ps p.1 p.0.0) _ (λ t. (is_zero_level l && has_var 0 p.0.1) ≡ true → IsProposition w p.0.0) (λ o. IsFieldType w (field_at S s l i) o.0 j r)
    (prop_right w ps d (is_zero_level l && has_var 0 p.0.1) p.1 p.0.0)
    (λ t q. if_map (field_of ps t S s (is_zero_level l) (suc j) n (opened p.0.1 (proj S j s))) (λ o. IsFieldType w (field_at S s l i) o.0 (suc j) (opened p.0.1 (proj S j s))) (λ o. IsFieldType w (field_at S s l i) o.0 j r)
    (field_right w ps d S s fs l (suc j) i n t (opened p.0.1 (proj S j s)) (omega (arith, e)) (open_fine 0 (proj S j s) p.0.1 (well_formed_of_reduct h).1.1 fs))
    (λ o x. past {f = field_at S s l i} h (λ z v. q (halves_true (is_zero_level l) (has_var 0 p.0.1) (zero_then l z) v)) x)))

ctor_fine : (w : Place) → WellStated w → (S : Name) (g : Entry) → w.means S ≡ Some g → (block : Block) (ind : BlockType) (c : Ctor) → g.kind ≡ a_type block ind → ind.ctors ≡ c ∷ [] →
    (ls : List Level) → IsWellFormed (put_levels c.levels ls c.type)
ctor_fine w ok S g m block ind c k o ls =
    let t : KindStated (a_type block ind) = rw k at (ok S g m).1 in
    let u : IsWellFormed c.type = first ind.ctors o t.0.1 in
    fine_put_levels c.levels ls 0 c.type u
  where
    first : (cs : List Ctor) → cs ≡ c ∷ [] → CtorsStated cs → IsWellFormed c.type
    first cs e h = (subst CtorsStated e h).0.0

proj_made : (w : Place) (S : Name) (i : ℕ) (s T₀ T : Tree) (ls : List Level) (bs : List Tree) → T ≡ apply (const S ls) bs → HasType w s T₀ → Reduces w T₀ T → (g : Entry) → w.means S ≡ Some g →
    (block : Block) (ind : BlockType) (c : Ctor) → g.kind ≡ a_type block ind → ind.ctors ≡ c ∷ [] →
    ((nat_eq (length bs) (ind.parameters + ind.indices) && nat_eq (length ls) (length c.levels)) && nat_lt i c.fields) ≡ true →
    (l : Level) → HasSort w T l → (r A : Tree) → IsTypeAfterParameters w r ind.parameters bs (put_levels c.levels ls c.type) → IsFieldType w (field_at S s l i) A 0 r → HasType w (proj S i s) A
proj_made w S i s T₀ T ls bs e hs red g m block ind c k o n l hl r A pr fo =
    let x : ((nat_eq (length bs) (ind.parameters + ind.indices) && nat_eq (length ls) (length c.levels)) ≡ true) × (nat_lt i c.fields ≡ true) = halves (nat_eq (length bs) (ind.parameters + ind.indices) && nat_eq (length ls) (length c.levels)) (nat_lt i c.fields) n in
    let y : (nat_eq (length bs) (ind.parameters + ind.indices) ≡ true) × (nat_eq (length ls) (length c.levels) ≡ true) = halves (nat_eq (length bs) (ind.parameters + ind.indices)) (nat_eq (length ls) (length c.levels)) x.0 in
    let p : Projectable w = record { name = S; levels = ls; args = bs; entry = g; block = block; ind = ind; ctor = c; given = m; kind = k; args_are = equal_numbers (length bs) (ind.parameters + ind.indices) y.0; one_ctor = o; levels_are = equal_numbers (length ls) (length c.levels) y.1 } in
    t_proj p hs (rw e at red) (less_number i c.fields x.1) (rw e at hl) pr fo

pub proj_is : (w : Place) → WellStated w → (ps : List Claim) → AllDerived w ps → (js : Left) (e A : Tree) → IsWellFormed e → IfSome (type_proj w ps js e A) (λ u. HasType w e A)
proj_is w ok ps d js (proj S i s) A f =
    let G : Type 0 = HasType w (proj S i s) A in
    on_typed w ps d js s _ (λ u. G) (λ T₀ h₀.
    on_reduced w ps d T₀.1 T₀.0 (well_formed_of_type h₀).1 _ (λ u. G) (λ T hT.
    on_const (head T.0) _ (λ u. G) (λ h eh.
    on_test (same_name h.0 S) _ (λ u. G) (λ n.
    on_some (w.means S) _ (λ u. G) (λ g m.
    if_bind (the_type g.kind) _ (λ t. g.kind ≡ a_type t.0 t.1) (λ u. G) (type_right g.kind) (λ t k.
    if_bind (the_one t.1.ctors) _ (λ c. t.1.ctors ≡ c ∷ []) (λ u. G) (one_right t.1.ctors) (λ c o.
    on_test ((nat_eq (length (args T.0)) (t.1.parameters + t.1.indices) && nat_eq (length h.1) (length c.levels)) && nat_lt i c.fields) _ (λ u. G) (λ counts.
    on_sorted w ps d T.1 T.0 _ (λ u. G) (λ l hl.
    let e : T.0 ≡ apply (const S h.1) (args T.0) = spine_is T.0 h.0 S h.1 eh (same_name_right h.0 S n) in
    if_bind (past_test ps l.1 (args T.0) t.1.parameters (put_levels c.levels h.1 c.type)) _ (λ r. IsTypeAfterParameters w r.0 t.1.parameters (args T.0) (put_levels c.levels h.1 c.type) × IsWellFormed r.0) (λ u. G)
    (past_right w ps d l.1 (args T.0) t.1.parameters (put_levels c.levels h.1 c.type) (fine_args T.0 S h.1 e (well_formed_of_reduct hT).1) (ctor_fine w ok S g m t.0 t.1 c k o h.1)) (λ r pr.
    if_bind (field_of ps r.1 S s (is_zero_level l.0) 0 i r.0) _ (λ F. IsFieldType w (field_at S s l.0 i) F.0 0 r.0) (λ u. G) (field_right w ps d S s f l.0 0 i i r.1 r.0 (omega arith) pr.1) (λ F fo.
    comes_right A F.0 F.1 (λ A. HasType w (proj S i s) A) (proj_made w S i s T₀.0 T.0 h.1 (args T.0) e h₀ hT g m t.0 t.1 c k o counts l.0 hl r.0 F.0 pr.0 fo))))))))))))
  where
    fine_args : (T : Tree) (c : Name) (ls : List Level) → T ≡ apply (const c ls) (args T) → IsWellFormed T → AllWellFormed (args T)
    fine_args T c ls e f = (well_formed_of_apply (const c ls) (args T) (subst IsWellFormed e f)).1
proj_is w ok ps d js _ A f = tt
