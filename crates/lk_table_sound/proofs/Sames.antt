-- Same's rows are sound.
use Rattle.lk_tree.specs.Tree.{Name, Level, name_discrete, Tree, sort, const, app, lam, pi, proj, lit, str}
use Rattle.lk_table_sound.proofs.Book.{HasType, HasSort, Reduces, IsDefEq, well_formed_of_type, WellStated, Book, r_refl, e_refl, e_reduce, e_const, e_proj, SameLevels, well_formed_of_reduct, well_formed_of_long, IsSound, IsJustified, is_prop, e_eta_left, e_eta_right, e_proof}
use Rattle.lk_rulebook.specs.Place.{Entry, Kind, a_def, a_thm}
use Rattle.lk_questions.specs.Steps.{value_of, with_levels, is_same_tree, decided, sort_of}
use Rattle.lk_table_sound.proofs.Pieces.{sound_with_levels, sound_sort_of}
use Rattle.std.proofs.Common.{ℕ, ◌≡◌, Bool, true, false, ◌&&◌, nat_eq, length, List, ◌∷◌, Option, Some, None, refl}
use Rattle.lk_tree.specs.Spine.{apply, head, args, IsNeutral, IsHeadNormal}
use Rattle.lk_tree.specs.WellFormed.{IsWellFormed, AllWellFormed}
use Rattle.lk_tree.proofs.Spines.{well_formed_of_apply}
use Rattle.lk_tree.proofs.Scans.{both_true}
use Rattle.lk_tree.proofs.Within.{apply_head_args}
use Rattle.lk_questions.specs.Query.{same}
use Rattle.lk_questions.specs.Program.{done, asked}
use Rattle.lk_questions.specs.Levels.{complete_test, levels_equal}
use Rattle.lk_questions.specs.Pairs.{same_all, answers_yes, ◌or_else◌, goes_on}
use Rattle.lk_questions.specs.Sound.{IfYes}
use Rattle.lk_table_sound.proofs.Soundness.{sound_bind, sound_map}
use Rattle.lk_claims.proofs.Pieces.{of_yes, same_tree, halves, equal_numbers, of_decided, if_yes_map}
use Rattle.lk_table_sound.proofs.Goes.{sound_if, GoesTo, goes_applied, unfolds}
use Rattle.lk_table_sound.proofs.Lines.{sound_levels_equal, AllConvert, sound_all, applied_convert, SoundLine, sound_or_else, sound_answers, sound_answers_yes}
use Rattle.lk_claims.proofs.Facts.{IfAnswers}
use Rattle.lk_table_sound.proofs.LevelTests.{complete_is_a_test}
use Rattle.lk_table_sound.proofs.SameParts.{sorts_same, constants_same, applications_same, lambdas_same, pis_same, cores_same}
use Rattle.lk_questions.specs.Same.{by_proof_irrelevance, by_parts, eta_long, is_lam, eta_first, eta_second, by_function_eta, same_reduced, by_shape, same_steps}
use Rattle.lk_questions.specs.Eta.{by_structure_eta, by_unit_eta}
use Rattle.lk_questions.specs.LiteralLines.{by_literals, by_string}
use Rattle.lk_table_sound.proofs.LitLines.{sound_by_literals, sound_by_string}
use Rattle.lk_table_sound.proofs.EtaUnits.{sound_by_unit_eta}
use Rattle.lk_table_sound.proofs.Etas.{sound_by_structure_eta}
use Rattle.lk_questions.specs.Unfolding.{Unfolding, unfolding_by, unfolding_of, unfold_with, unfold_first, unfold_second, unfold_both, same_by_arguments, by_ranks, by_unfolding, is_less}
use Rattle.lk_tree.specs.Level.{is_zero_level}

sound_by_parts : (w : Book) (a b : Tree) → IsWellFormed a → IsWellFormed b → IsHeadNormal a → IsHeadNormal b → SoundLine w (by_parts a b) (IsDefEq w a b)
sound_by_parts w (const c ls) (const d ms) f g na nb =
    sound_if w (decided (name_discrete c d)) (answers_yes (levels_equal complete_test ls ms)) goes_on (λ o. IfAnswers o (IsDefEq w (const c ls) (const d ms)))
    (λ t. sound_answers_yes w (levels_equal complete_test ls ms) (IsDefEq w (const c ls) (const d ms))
    (constants_same complete_test complete_is_a_test w c d ls ms (of_decided (name_discrete c d) t)))
    (λ t. tt)
sound_by_parts w (app f a) (app g b) ff fg na nb =
    sound_if w (nat_eq (length (args (app f a))) (length (args (app g b)))) (answers_yes (same_all (head f ∷ args (app f a)) (head g ∷ args (app g b)))) goes_on
    (λ o. IfAnswers o (IsDefEq w (app f a) (app g b)))
    (λ t. sound_answers_yes w (same_all (head f ∷ args (app f a)) (head g ∷ args (app g b))) (IsDefEq w (app f a) (app g b))
    (applications_same w f a g b ff fg na nb))
    (λ t. tt)
sound_by_parts w (proj S i s) (proj T j t) f g na nb =
    sound_if w (decided (name_discrete S T) && nat_eq i j) (answers_yes (asked (same s t))) goes_on (λ o. IfAnswers o (IsDefEq w (proj S i s) (proj T j t)))
    (λ y. let both : (decided (name_discrete S T) ≡ true) × (nat_eq i j ≡ true) = halves (decided (name_discrete S T)) (nat_eq i j) y in
    let one : S ≡ T = of_decided (name_discrete S T) both.0 in
    let field : i ≡ j = equal_numbers i j both.1 in
    sound_answers_yes w (asked (same s t)) (IsDefEq w (proj S i s) (proj T j t)) ((f, g), λ e m. if_yes_map e (λ c. rw (one, field) (e_proj c)) m))
    (λ y. tt)
sound_by_parts w _ _ f g na nb = tt

pub sound_by_proof_irrelevance : (w : Book) (a b : Tree) → IsWellFormed a → IsWellFormed b → IsHeadNormal a → IsHeadNormal b → SoundLine w (by_proof_irrelevance a b) (IsDefEq w a b)
sound_by_proof_irrelevance w a b fa fb na nb = (
  fa,
  λ A mA. sound_bind w (sort_of A) _ (λ l. HasSort w A l) (λ o. IfAnswers o (IsDefEq w a b)) (sound_sort_of w A (well_formed_of_type mA.0).1)
      (λ l hA. sound_if w (is_zero_level l) _ goes_on (λ o. IfAnswers o (IsDefEq w a b))
      (λ z. (
        fb,
        λ B mB. sound_answers_yes w (asked (same A B)) (IsDefEq w a b) (
          ((well_formed_of_type mA.0).1, (well_formed_of_type mB.0).1),
          λ e m. if_yes_map e
              (λ c. e_proof na nb mA.0 (is_prop hA z) mB.0 c) m,
        ),
      ))
      (λ z. tt)),
)

no_lam : (o : Tree) → IsHeadNormal o → is_lam o ≡ false → IsNeutral o
no_lam (lam A b) n e = absurd cc
no_lam o n e = n

sound_eta_first : (w : Book) (o e T P : Tree) → IsNeutral o → is_lam e ≡ true → IsWellFormed e → HasType w o T → Reduces w T P → SoundLine w (eta_first o e P) (IsDefEq w o e)
sound_eta_first w o (lam A' b) T (pi A B) v l f h r =
    sound_answers_yes w (asked (same (eta_long A o) (lam A' b))) (IsDefEq w o (lam A' b))
    ((well_formed_of_long h r, f), λ y m. if_yes_map y (λ c. e_eta_left v h r c) m)
sound_eta_first w o (lam A' b) T _ v l f h r = tt
sound_eta_first w o e T P v l f h r = absurd cc

sound_eta_second : (w : Book) (o e T P : Tree) → IsNeutral o → is_lam e ≡ true → IsWellFormed e → HasType w o T → Reduces w T P → SoundLine w (eta_second o e P) (IsDefEq w e o)
sound_eta_second w o (lam A' b) T (pi A B) v l f h r =
    sound_answers_yes w (asked (same (lam A' b) (eta_long A o))) (IsDefEq w (lam A' b) o)
    ((f, well_formed_of_long h r), λ y m. if_yes_map y (λ c. e_eta_right v h r c) m)
sound_eta_second w o (lam A' b) T _ v l f h r = tt
sound_eta_second w o e T P v l f h r = absurd cc

sound_by_function_eta : (w : Book) (a b : Tree) → IsWellFormed a → IsWellFormed b → IsHeadNormal a → IsHeadNormal b → SoundLine w (by_function_eta a b) (IsDefEq w a b)
sound_by_function_eta w a b fa fb na nb =
    sound_if w (is_lam a) _ _ (λ o. IfAnswers o (IsDefEq w a b))
    (λ t. sound_if w (is_lam b) goes_on _ (λ o. IfAnswers o (IsDefEq w a b)) (λ u. tt)
    (λ u. (fb, λ T mT. ((well_formed_of_type mT.0).1, λ P mP. sound_eta_second w b a T P (no_lam b nb u) t fa mT.0 mP.0))))
    (λ t. sound_if w (is_lam b) _ goes_on (λ o. IfAnswers o (IsDefEq w a b))
    (λ u. (fa, λ T mT. ((well_formed_of_type mT.0).1, λ P mP. sound_eta_first w a b T P (no_lam a na t) u fb mT.0 mP.0)))
    (λ u. tt))

-- u is how a term with the head h unfolds
record IsUnfolding (w : Book) (h : Tree) (u : Unfolding) : Type 0 where
  head_is : h ≡ const u.name u.levels
  there : w.place.means u.name ≡ Some u.entry
  value_is : value_of u.entry.kind ≡ Some u.value

abbrev IfUnfolding : Book → Tree → Option Unfolding → Type 0
IfUnfolding w h None = Unit {0}
IfUnfolding w h (Some u) = IsUnfolding w h u

unfolding_by_right : (w : Book) (c : Name) (ls : List Level) (g : Entry) → w.place.means c ≡ Some g → (k : Kind) → g.kind ≡ k → IfUnfolding w (const c ls) (unfolding_by c ls g k)
unfolding_by_right w c ls g m (a_def h v) e = record { head_is = refl; there = m; value_is = rw e refl }
unfolding_by_right w c ls g m (a_thm v) e = record { head_is = refl; there = m; value_is = rw e refl }
unfolding_by_right w c ls g m _ e = tt

sound_unfolding_of : (w : Book) (h : Tree) → IsSound w (unfolding_of h) (IfUnfolding w h)
sound_unfolding_of w (const c ls) = λ g m. unfolding_by_right w c ls g m g.kind refl
sound_unfolding_of w _ = tt

sound_unfold_with : (w : Book) → WellStated w → (e : Tree) → IsWellFormed e → (u : Unfolding) → IsUnfolding w (head e) u → IsSound w (unfold_with u e) (λ x. GoesTo w e x)
sound_unfold_with w ok e f u i =
    let r : IsWellFormed (head e) × AllWellFormed (args e) = well_formed_of_apply (head e) (args e) (rw (apply_head_args e) f) in
    sound_bind w (with_levels u.entry u.levels u.value) (λ v. done (apply v (args e))) (λ v. GoesTo w (const u.name u.levels) v) (λ x. GoesTo w e x)
    (sound_with_levels w u.entry u.levels u.value (λ v. GoesTo w (const u.name u.levels) v)
    (λ count. unfolds w ok u.name u.levels u.entry u.value i.there i.value_is count))
    (λ v g. let h : GoesTo w (head e) v = rw i.head_is g in
    let k : GoesTo w (apply (head e) (args e)) (apply v (args e)) = goes_applied w (head e) v (args e) r.1 h in
    rw apply_head_args at k)

sound_first : (w : Book) → WellStated w → (a b : Tree) → IsWellFormed a → IsWellFormed b → (u : Unfolding) → IsUnfolding w (head a) u → IsSound w (unfold_first a b u) (λ e. IfYes e (IsDefEq w a b))
sound_first w ok a b fa fb u i =
    sound_bind w (unfold_with u a) (λ x. asked (same x b)) (λ x. GoesTo w a x) (λ e. IfYes e (IsDefEq w a b)) (sound_unfold_with w ok a fa u i)
    (λ x g. (((well_formed_of_reduct g.0).1, fb), λ e m. if_yes_map e (λ c. e_reduce g.0 (r_refl fb) c) m))

sound_second : (w : Book) → WellStated w → (a b : Tree) → IsWellFormed a → IsWellFormed b → (v : Unfolding) → IsUnfolding w (head b) v → IsSound w (unfold_second a b v) (λ e. IfYes e (IsDefEq w a b))
sound_second w ok a b fa fb v i =
    sound_bind w (unfold_with v b) (λ x. asked (same a x)) (λ x. GoesTo w b x) (λ e. IfYes e (IsDefEq w a b)) (sound_unfold_with w ok b fb v i)
    (λ x g. ((fa, (well_formed_of_reduct g.0).1), λ e m. if_yes_map e (λ c. e_reduce (r_refl fa) g.0 c) m))

sound_both : (w : Book) → WellStated w → (a b : Tree) → IsWellFormed a → IsWellFormed b → (u v : Unfolding) → IsUnfolding w (head a) u → IsUnfolding w (head b) v →
    IsSound w (unfold_both a b u v) (λ e. IfYes e (IsDefEq w a b))
sound_both w ok a b fa fb u v i j =
    sound_bind w (unfold_with u a) _ (λ x. GoesTo w a x) (λ e. IfYes e (IsDefEq w a b)) (sound_unfold_with w ok a fa u i)
    (λ x g. sound_bind w (unfold_with v b) (λ y. asked (same x y)) (λ y. GoesTo w b y) (λ e. IfYes e (IsDefEq w a b)) (sound_unfold_with w ok b fb v j)
    (λ y h. (((well_formed_of_reduct g.0).1, (well_formed_of_reduct h.0).1), λ e m. if_yes_map e (λ c. e_reduce g.0 h.0 c) m)))

neutral_const : (h : Tree) {c : Name} {ls : List Level} → h ≡ const c ls → IsNeutral h
neutral_const h e = rw e tt

sound_same_unfolding : (w : Book) (a b : Tree) → IsWellFormed a → IsWellFormed b → (u v : Unfolding) → IsUnfolding w (head a) u → IsUnfolding w (head b) v →
    IsSound w (same_by_arguments a b u v) (λ e. IfYes e (IsDefEq w a b))
sound_same_unfolding w a b fa fb u v i j =
    let ra : IsWellFormed (head a) × AllWellFormed (args a) = well_formed_of_apply (head a) (args a) (rw (apply_head_args a) fa) in
    let rb : IsWellFormed (head b) × AllWellFormed (args b) = well_formed_of_apply (head b) (args b) (rw (apply_head_args b) fb) in
    sound_if w (decided (name_discrete u.name v.name)) _ (done false) (λ e. IfYes e (IsDefEq w a b))
    (λ t. let one : u.name ≡ v.name = of_decided (name_discrete u.name v.name) t in
    sound_bind w (levels_equal complete_test u.levels v.levels) _ (λ e. IfYes e (SameLevels u.levels v.levels)) (λ e. IfYes e (IsDefEq w a b)) (sound_levels_equal complete_test complete_is_a_test w u.levels v.levels)
    (λ eq s. sound_if w (eq && nat_eq (length (args a)) (length (args b))) (same_all (args a) (args b)) (done false) (λ e. IfYes e (IsDefEq w a b))
    (λ y. let equal : eq ≡ true = (both_true eq (nat_eq (length (args a)) (length (args b))) y).0 in
    sound_map w (same_all (args a) (args b)) (λ e. IfYes e (AllConvert w (args a) (args b))) (λ e. IfYes e (IsDefEq w a b))
    (λ e. if_yes_map e (λ c. heads w a b u v i j one (of_yes eq equal s) c))
    (sound_all w (args a) (args b) ra.1 rb.1))
    (λ y. tt)))
    (λ t. tt)
  where
    heads : (w : Book) (a b : Tree) (u v : Unfolding) → IsUnfolding w (head a) u → IsUnfolding w (head b) v → u.name ≡ v.name → SameLevels u.levels v.levels →
        AllConvert w (args a) (args b) → IsDefEq w a b
    heads w a b u v i j one s c =
        let h : IsDefEq w (head a) (head b) = rw (i.head_is, j.head_is, one) (e_const s) in
        let k : IsDefEq w (apply (head a) (args a)) (apply (head b) (args b)) = applied_convert w (head a) (head b) (args a) (args b) (neutral_const (head a) i.head_is) (neutral_const (head b) j.head_is) h c in
        let l : IsDefEq w a (apply (head b) (args b)) = rw (apply_head_args a) at k in
        rw (apply_head_args b) at l

sound_by_ranks : (w : Book) → WellStated w → (a b : Tree) → IsWellFormed a → IsWellFormed b → (u v : Option Unfolding) → IfUnfolding w (head a) u → IfUnfolding w (head b) v → SoundLine w (by_ranks a b u v) (IsDefEq w a b)
sound_by_ranks w ok a b fa fb None None i j = tt
sound_by_ranks w ok a b fa fb (Some u) None i j = sound_answers w (unfold_first a b u) (IsDefEq w a b) (sound_first w ok a b fa fb u i)
sound_by_ranks w ok a b fa fb None (Some v) i j = sound_answers w (unfold_second a b v) (IsDefEq w a b) (sound_second w ok a b fa fb v j)
sound_by_ranks w ok a b fa fb (Some u) (Some v) i j =
    sound_if w (is_less u.rank v.rank) _ _ (λ o. IfAnswers o (IsDefEq w a b))
    (λ t. sound_answers w (unfold_second a b v) (IsDefEq w a b) (sound_second w ok a b fa fb v j))
    (λ t. sound_if w (is_less v.rank u.rank) _ _ (λ o. IfAnswers o (IsDefEq w a b))
    (λ s. sound_answers w (unfold_first a b u) (IsDefEq w a b) (sound_first w ok a b fa fb u i))
    (λ s. sound_answers w (answers_yes (same_by_arguments a b u v) or_else unfold_both a b u v) (IsDefEq w a b)
    (sound_or_else w (answers_yes (same_by_arguments a b u v)) (unfold_both a b u v) (IsDefEq w a b)
    (sound_answers_yes w (same_by_arguments a b u v) (IsDefEq w a b) (sound_same_unfolding w a b fa fb u v i j))
    (sound_both w ok a b fa fb u v i j))))

pub sound_by_unfolding : (w : Book) → WellStated w → (a b : Tree) → IsWellFormed a → IsWellFormed b → SoundLine w (by_unfolding a b) (IsDefEq w a b)
sound_by_unfolding w ok a b fa fb =
    sound_bind w (unfolding_of (head a)) _ (IfUnfolding w (head a)) (λ o. IfAnswers o (IsDefEq w a b)) (sound_unfolding_of w (head a))
    (λ u i. sound_bind w (unfolding_of (head b)) (λ v. by_ranks a b u v) (IfUnfolding w (head b)) (λ o. IfAnswers o (IsDefEq w a b)) (sound_unfolding_of w (head b))
    (λ v j. sound_by_ranks w ok a b fa fb u v i j))

sound_reduced : (w : Book) → WellStated w → (a b : Tree) → IsWellFormed a → IsWellFormed b → IsHeadNormal a → IsHeadNormal b → IsSound w (same_reduced a b) (IsJustified w (same a b))
sound_reduced w ok a b fa fb na nb =
    let C : Type 0 = IsDefEq w a b in
    sound_or_else w (by_proof_irrelevance a b) _ C (sound_by_proof_irrelevance w a b fa fb na nb)
    (sound_or_else w (by_literals a b) _ C (sound_by_literals w a b fa fb)
    (sound_or_else w (by_unfolding a b) _ C (sound_by_unfolding w ok a b fa fb)
    (sound_or_else w (by_parts a b) _ C (sound_by_parts w a b fa fb na nb)
    (sound_or_else w (by_function_eta a b) _ C (sound_by_function_eta w a b fa fb na nb)
    (sound_or_else w (by_structure_eta a b) _ C (sound_by_structure_eta w ok a b fa fb na C (λ p. p.0))
    (sound_or_else w (by_structure_eta b a) _ C (sound_by_structure_eta w ok b a fb fa nb C (λ p. p.1))
    (sound_or_else w (by_unit_eta a b) _ C (sound_by_unit_eta w a b fa fb na nb)
    (sound_or_else w (by_string a b) (done false) C (sound_by_string w a b fa fb) tt))))))))

same_lit : (w : Book) (m n : ℕ) → IsWellFormed (lit m) → (b : Bool) → nat_eq m n ≡ b → IfYes b (IsDefEq w (lit m) (lit n))
same_lit w m n f true h = let e : m ≡ n = equal_numbers m n h in rw (← e) (e_refl f)
same_lit w m n f false h = tt

same_str : (w : Book) (s t : List ℕ) → (b : Bool) → is_same_tree (str s) (str t) ≡ b → IfYes b (IsDefEq w (str s) (str t))
same_str w s t true h = rw (← same_tree (str s) (str t) h) (e_refl tt)
same_str w s t false h = tt

sound_by_shape : (w : Book) → WellStated w → (a b : Tree) → IsWellFormed a → IsWellFormed b → IsSound w (by_shape a b) (IsJustified w (same a b))
sound_by_shape w ok (sort l) (sort m) f g = sorts_same complete_test complete_is_a_test w l m
sound_by_shape w ok (lam A b) (lam A' b') f g = lambdas_same w A b A' b' f g
sound_by_shape w ok (pi A B) (pi A' B') f g = pis_same w A B A' B' f g
sound_by_shape w ok (lit m) (lit n) f g = same_lit w m n f (nat_eq m n) refl
sound_by_shape w ok (str s) (str t) f g = same_str w s t (is_same_tree (str s) (str t)) refl
sound_by_shape w ok a b f g = cores_same w a b (same_reduced a b) f g (λ na nb. sound_reduced w ok a b f g na nb)

pub sound_same : (w : Book) → WellStated w → (a b : Tree) → IsWellFormed a → IsWellFormed b → IsSound w (same_steps a b) (IsJustified w (same a b))
sound_same w ok a b fa fb =
    sound_if w (is_same_tree a b) (done true) (by_shape a b) (IsJustified w (same a b))
    (λ t. rw (← same_tree a b t) (e_refl fa))
    (λ t. sound_by_shape w ok a b fa fb)
