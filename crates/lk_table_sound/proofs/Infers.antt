-- Infer's rows are sound.
use Rattle.std.proofs.Common.{ℕ, ◌≡◌, ◌≤◌, inl, inr, List, arith}
use Rattle.lk_tree.specs.Tree.{Name, Level, Tree, succ_level, sort, const, app, lam, pi, let_in, local, proj, lit, str}
use Rattle.lk_tree.specs.Bind.{opened, close, bound}
use Rattle.lk_tree.specs.declared.rule.Rule.TheVariants.{NotAFunction, ArgumentType, LetType}
use Rattle.lk_tree.specs.Levels.{put_levels}
use Rattle.lk_tree.specs.WellFormed.{IsWellFormed, IsWellFormedUnder, LocalsWithin}
use Rattle.lk_tree.proofs.Binding.{open_fine}
use Rattle.lk_tree.proofs.Within.{within_trans, within_open, no_local, bound_put_levels, fine_put_levels, closed_bound, closed_within, closed_reopens}
use Rattle.lk_table_sound.proofs.Book.{Book, HasSort, Reduces, t_sort, t_local, t_const, t_app, t_lam, t_pi, t_let, t_lit, t_str, well_formed_of_type, well_formed_of_reduct, IsSound, IsJustified, WellStated, HasNat, HasString}
use Rattle.lk_questions.specs.Query.{infer}
use Rattle.lk_questions.specs.Program.{done}
use Rattle.lk_questions.specs.Steps.{sort_of}
use Rattle.lk_questions.specs.Infer.{infer_steps}
use Rattle.lk_questions.specs.Sound.{IsStated}
use Rattle.lk_table_sound.proofs.Soundness.{sound_bind}
use Rattle.lk_questions.specs.Shapes.{nat_shape, string_shape}
use Rattle.lk_rulebook.specs.Names.{named, nat, string}
use Rattle.lk_table_sound.proofs.Shaped.{sound_nat_shape, sound_string_shape}
use Rattle.lk_table_sound.proofs.InferProjs.{sound_infer_proj}
use Rattle.lk_table_sound.proofs.Pieces.{sound_given, sound_sort_of, sound_pi, sound_with_levels}
use Rattle.lk_claims.proofs.Pieces.{of_yes}
use Rattle.lk_claims.proofs.Facts.{bound_right, pi_bound_left, bound_left, body_fine}

infer_local : (w : Book) (k : ℕ) (T : Tree) → IsWellFormed (local k T) → IsJustified w (infer (local k T)) T
infer_local w k T f = (t_local f, λ j S h. inr h)

infer_sort : (w : Book) (l : Level) → IsJustified w (infer (sort l)) (sort (succ_level l))
infer_sort w l = (t_sort, λ j S h. h)

infer_const : (w : Book) → WellStated w → (c : Name) (ls : List Level) → IsSound w (infer_steps (const c ls)) (IsJustified w (infer (const c ls)))
infer_const w ok c ls = λ g m. sound_with_levels w g ls g.type (IsJustified w (infer (const c ls)))
    (λ count. let s : IsStated g.type = (ok c g m).0 in (
      t_const (record { entry = g; given = m; levels_are = count }) (fine_put_levels g.levels ls 0 g.type s.0),
      no_local (const c ls) (put_levels g.levels ls g.type) (rw (bound_put_levels g.levels ls g.type) s.1),
    ))

app_within : (f a F S A B : Tree) → LocalsWithin f F → LocalsWithin F S → S ≡ pi A B → LocalsWithin (app f a) (opened B a)
app_within f a F S A B h i e = within_open (app f a) B a (λ k T m. inl (h k T (i k T (rw e (inr m))))) (λ k T m. inr m)

infer_app : (w : Book) (f a : Tree) → IsWellFormed f → IsWellFormed a → IsSound w (infer_steps (app f a)) (IsJustified w (infer (app f a)))
infer_app w f a ff fa = (
  ff,
  λ F mF. (
    (well_formed_of_type mF.0).1,
    λ S mS. sound_pi w NotAFunction S _ (IsJustified w (infer (app f a))) (λ A B e.
        let r : Reduces w F (pi A B) = rw e at mS.0 in (
          fa,
          λ A' mA. (
            ((well_formed_of_type mA.0).1, (well_formed_of_reduct r).1.0),
            λ equal mE. sound_given w equal ArgumentType (done (opened B a)) (IsJustified w (infer (app f a)))
                (λ t. (t_app mF.0 r mA.0 (of_yes equal t mE), app_within f a F S A B mF.1 mS.1 e)),
          ),
        )),
  ),
)

lam_within : (A b B : Tree) (k : ℕ) → bound (lam A b) ≤ k → IsWellFormed B → LocalsWithin (opened b (local k A)) B → LocalsWithin (lam A b) (pi A (close k B))
lam_within A b B k h f w j T (inl m) = inl m
lam_within A b B k h f w j T (inr m) = closed_within k A b B (bound_left A b k h) (bound_right A b k h) f w j T m

lam_closed_bound : (A b B : Tree) (k : ℕ) → bound (lam A b) ≤ k → IsWellFormed B → LocalsWithin (opened b (local k A)) B → bound (pi A (close k B)) ≤ k
unfolding bound
lam_closed_bound A b B k h f w = omega (arith, closed_bound k A b B (omega arith) (omega arith) f w)

infer_lam : (w : Book) (A b : Tree) → IsWellFormed A → IsWellFormedUnder 1 b → IsSound w (infer_steps (lam A b)) (IsJustified w (infer (lam A b)))
infer_lam w A b fA fb =
    let k : ℕ = bound (lam A b) in
    sound_bind w (sort_of A) _ (λ l. HasSort w A l) (IsJustified w (infer (lam A b))) (sound_sort_of w A fA)
    (λ l hA. (
      body_fine k A b fA fb (bound_left A b k (omega arith)),
      λ B m. (
        t_lam (omega arith, (lam_closed_bound A b B k (omega arith) (well_formed_of_type m.0).1 m.1, tt)) hA
            (rw (closed_reopens k A b B (bound_left A b k (omega arith)) (bound_right A b k (omega arith)) (well_formed_of_type m.0).1 m.1) m.0),
        lam_within A b B k (omega arith) (well_formed_of_type m.0).1 m.1,
      ),
    ))

infer_pi : (w : Book) (A B : Tree) → IsWellFormed A → IsWellFormedUnder 1 B → IsSound w (infer_steps (pi A B)) (IsJustified w (infer (pi A B)))
infer_pi w A B fA fB =
    let k : ℕ = bound (pi A B) in
    sound_bind w (sort_of A) _ (λ u. HasSort w A u) (IsJustified w (infer (pi A B))) (sound_sort_of w A fA)
    (λ u hA. sound_bind w (sort_of (opened B (local k A))) _ (λ v. HasSort w (opened B (local k A)) v) (IsJustified w (infer (pi A B)))
    (sound_sort_of w (opened B (local k A)) (body_fine k A B fA fB (pi_bound_left A B k (omega arith))))
    (λ v hB. (t_pi (omega arith, tt) hA hB, λ j T m. absurd m)))

infer_let : (w : Book) (A v b : Tree) → IsWellFormed A → IsWellFormed v → IsWellFormedUnder 1 b → IsSound w (infer_steps (let_in A v b)) (IsJustified w (infer (let_in A v b)))
infer_let w A v b fA fv fb =
    sound_bind w (sort_of A) _ (λ u. HasSort w A u) (IsJustified w (infer (let_in A v b))) (sound_sort_of w A fA)
    (λ u hA. (
      fv,
      λ V mV. (
        ((well_formed_of_type mV.0).1, fA),
        λ equal mE. sound_given w equal LetType _ (IsJustified w (infer (let_in A v b)))
            (λ t. (
              open_fine 0 v b fb fv,
              λ B m. (
                t_let hA mV.0 (of_yes equal t mE) m.0,
                within_trans (let_in A v b) (opened b v) B (within_open (let_in A v b) b v (λ k T m. inr (inr m)) (λ k T m. inr (inl m))) m.1,
              ),
            )),
      ),
    ))

pub sound_infer : (w : Book) → WellStated w → (e : Tree) → IsWellFormed e → IsSound w (infer_steps e) (IsJustified w (infer e))
sound_infer w ok (local k T) f = infer_local w k T f
sound_infer w ok (sort l) f = infer_sort w l
sound_infer w ok (const c ls) f = infer_const w ok c ls
sound_infer w ok (app g a) f = infer_app w g a f.0 f.1
sound_infer w ok (lam A b) f = infer_lam w A b f.0 f.1
sound_infer w ok (pi A B) f = infer_pi w A B f.0 f.1
sound_infer w ok (let_in A v b) f = infer_let w A v b f.0 f.1 f.2
sound_infer w ok (proj S i s) f = sound_infer_proj w ok S i s f
sound_infer w ok (lit n) f = sound_bind w nat_shape (λ u. done (named nat)) (λ u. HasNat w) (IsJustified w (infer (lit n))) (sound_nat_shape w) (λ u h. (t_lit h f, λ k T m. absurd m))
sound_infer w ok (str s) f = sound_bind w string_shape (λ u. done (named string)) (λ u. HasString w) (IsJustified w (infer (str s))) (sound_string_shape w) (λ u h. (t_str h, λ k T m. absurd m))
sound_infer w ok _ f = tt
