-- Core's and Whnf's rows are sound.
use Rattle.std.proofs.Common.{◌≡◌, inl, inr, List, Option, Some, None, refl, subst, if◌then◌else◌}
use Rattle.lk_tree.specs.Tree.{Name, Level, Tree, const, app, lam, let_in, proj}
use Rattle.lk_tree.specs.Bind.{opened}
use Rattle.lk_tree.specs.Spine.{apply, head, args, IsNeutral, IsHeadNormal}
use Rattle.lk_tree.specs.WellFormed.{IsWellFormed, AllWellFormed}
use Rattle.lk_tree.proofs.Binding.{open_fine}
use Rattle.lk_tree.proofs.Spines.{fine_apply, well_formed_of_apply, neutral_applied, normal_neutral}
use Rattle.lk_tree.proofs.Within.{within_open, apply_head_args}
use Rattle.lk_table_sound.proofs.Book.{Book, r_zeta, well_formed_of_reduct, IsSound, IsJustified, WellStated}
use Rattle.lk_rulebook.specs.Place.{Entry}
use Rattle.lk_questions.specs.Query.{core, whnf}
use Rattle.lk_questions.specs.Program.{Program, done, asked, ◌>>=◌}
use Rattle.lk_questions.specs.Steps.{with_levels, value_of, is_same_tree}
use Rattle.lk_questions.specs.Core.{lambdas, beta, core_applied, core_steps, unfolded, stepped, whnf_headed, whnf_steps}
use Rattle.lk_questions.specs.Literals.{literal_step}
use Rattle.lk_table_sound.proofs.LiteralSteps.{IfStep, sound_literal_step}
use Rattle.lk_table_sound.proofs.Soundness.{sound_bind}
use Rattle.lk_table_sound.proofs.Goes.{sound_if, GoesTo, goes_on, core_stays, core_on, goes_applied, unfolds, beta_goes}
use Rattle.lk_table_sound.proofs.Iotas.{sound_core_constant, sound_core_proj}
use Rattle.lk_table_sound.proofs.Pieces.{sound_with_levels}
use Rattle.lk_claims.proofs.Pieces.{same_tree}

normal_applied : (e h : Tree) (xs : List Tree) → apply h xs ≡ e → IsNeutral h → IsHeadNormal e
normal_applied e h xs eq n = subst IsHeadNormal eq (normal_neutral (apply h xs) (neutral_applied h xs n))

abbrev IsNoApp : Tree → Type 0
IsNoApp (app f a) = ⊥
IsNoApp e = Unit {0}

head_no_app : (e : Tree) → IsNoApp (head e)
unfolding head
head_no_app (app f a) = head_no_app f
head_no_app e = tt

-- the row of a head that is asked for its own Core
core_head : (w : Book) (e h : Tree) (xs : List Tree) → apply h xs ≡ e → IsWellFormed e → IsWellFormed h → AllWellFormed xs → (IsHeadNormal h → IsNeutral h) →
    IsSound w (asked (core h) >>= λ h'. if is_same_tree h' h then done e else asked (core (apply h' xs))) (IsJustified w (core e))
core_head w e h xs eq f fh fx n = (
  fh,
  λ h' m. sound_if w (is_same_tree h' h) (done e) (asked (core (apply h' xs))) (IsJustified w (core e))
      (λ t. core_stays w e (f, normal_applied e h xs eq (n (subst IsHeadNormal (same_tree h' h t) m.1))))
      (λ t. let g : GoesTo w (apply h xs) (apply h' xs) = goes_applied w h h' xs fx m.0 in
      ((well_formed_of_reduct g.0).1, λ v n. rw (← eq) (core_on w (apply h xs) (apply h' xs) v g n))),
)

sound_core_applied : (w : Book) → WellStated w → (e h : Tree) (xs : List Tree) → apply h xs ≡ e → IsWellFormed e → IsWellFormed h → AllWellFormed xs → IsNoApp h → IsSound w (core_applied e h xs) (IsJustified w (core e))
sound_core_applied w ok e (lam A b) xs eq f fh fx p =
    let g : GoesTo w (apply (lam A b) xs) (beta (lambdas (lam A b)) (lam A b) xs) = beta_goes w (lambdas (lam A b)) (lam A b) xs (fine_apply (lam A b) xs fh fx) in
    ((well_formed_of_reduct g.0).1, λ v n. rw (← eq) (core_on w (apply (lam A b) xs) (beta (lambdas (lam A b)) (lam A b) xs) v g n))
sound_core_applied w ok e (let_in A v b) xs eq f fh fx p = core_head w e (let_in A v b) xs eq f fh fx (λ n. n)
sound_core_applied w ok e (proj S i s) xs eq f fh fx p = core_head w e (proj S i s) xs eq f fh fx (λ n. n)
sound_core_applied w ok e (const c ls) xs eq f fh fx p = λ g m. sound_core_constant w ok c ls g m e xs eq (f, normal_applied e (const c ls) xs eq tt) fx g.kind refl
sound_core_applied w ok e (app g a) xs eq f fh fx p = absurd p
sound_core_applied w ok e h xs eq f fh fx p = core_stays w e (f, normal_applied e h xs eq tt)

pub sound_core : (w : Book) → WellStated w → (e : Tree) → IsWellFormed e → IsSound w (core_steps e) (IsJustified w (core e))
unfolding head
sound_core w ok (let_in A v b) f = (
  open_fine 0 v b f.2 f.1,
  λ u m. core_on w (let_in A v b) (opened b v) u
      (r_zeta f, within_open (let_in A v b) b v (λ k T n. inr (inr n)) (λ k T n. inr (inl n))) m,
)
sound_core w ok (app g a) f =
    let eq : apply (head (app g a)) (args (app g a)) ≡ app g a = apply_head_args (app g a) in
    let r : IsWellFormed (head (app g a)) × AllWellFormed (args (app g a)) = well_formed_of_apply (head (app g a)) (args (app g a)) (rw eq f) in
    sound_core_applied w ok (app g a) (head (app g a)) (args (app g a)) eq f r.0 r.1 (head_no_app (app g a))
sound_core w ok (proj S i s) f = sound_core_proj w S i s f
sound_core w ok e f = core_stays w e (f, tt)

sound_unfolded : (w : Book) → WellStated w → (f : Name) (ls : List Level) (g : Entry) → w.place.means f ≡ Some g →
    (e c : Tree) → GoesTo w e c → apply (const f ls) (args c) ≡ c → AllWellFormed (args c) →
    (o : Option Tree) → value_of g.kind ≡ o → IsSound w (unfolded g (const f ls) c o) (IsJustified w (whnf e))
sound_unfolded w ok f ls g m e c ec eq fx None h = ec
sound_unfolded w ok f ls g m e c ec eq fx (Some v) h =
    sound_bind w (with_levels g ls v) (λ u. asked (whnf (apply u (args c)))) (λ u. GoesTo w (const f ls) u) (IsJustified w (whnf e))
    (sound_with_levels w g ls v (λ u. GoesTo w (const f ls) u) (λ count. unfolds w ok f ls g v m h count))
    (λ u gu. let k : GoesTo w (apply (const f ls) (args c)) (apply u (args c)) = goes_applied w (const f ls) u (args c) fx gu in
    ((well_formed_of_reduct k.0).1, λ x hx. goes_on w e c x ec (goes_on w c (apply u (args c)) x (rw eq at k) hx)))

sound_stepped : (w : Book) (e c : Tree) → GoesTo w e c → (next : Program Tree) → IsSound w next (IsJustified w (whnf e)) → (o : Option Tree) → IfStep w c o → IsSound w (stepped o next) (IsJustified w (whnf e))
sound_stepped w e c ec next h None i = h
sound_stepped w e c ec next h (Some r) i = goes_on w e c r ec i

sound_whnf_headed : (w : Book) → WellStated w → (e c : Tree) → GoesTo w e c → (h : Tree) → apply h (args c) ≡ c → AllWellFormed (args c) → IsSound w (whnf_headed c h) (IsJustified w (whnf e))
sound_whnf_headed w ok e c ec (const f ls) eq fx = λ g m.
    let next : Program Tree = unfolded g (const f ls) c (value_of g.kind) in
    sound_bind w (literal_step c f ls g) (λ r. stepped r next) (IfStep w c) (IsJustified w (whnf e)) (sound_literal_step w c f ls g m eq fx)
    (sound_stepped w e c ec next (sound_unfolded w ok f ls g m e c ec eq fx (value_of g.kind) refl))
sound_whnf_headed w ok e c ec _ eq fx = ec

pub sound_whnf : (w : Book) → WellStated w → (e : Tree) → IsWellFormed e → IsSound w (whnf_steps e) (IsJustified w (whnf e))
sound_whnf w ok e f = (
  f,
  λ c ec.
      let eq : apply (head c) (args c) ≡ c = apply_head_args c in
      let r : IsWellFormed (head c) × AllWellFormed (args c) = well_formed_of_apply (head c) (args c) (rw eq (well_formed_of_reduct ec.0.0).1) in
      sound_whnf_headed w ok e c ec.0 (head c) eq r.1,
)
