-- What rules of conversion and the unfolding of constants state can be written.
use Rattle.std.proofs.Common.{ℕ, ◌≡◌, Bool, true, false, ◌&&◌, nat_eq, length, List, [], ◌∷◌, Option, Some, None, refl, sym, subst}
use Rattle.std.specs.Prelude.{slice_get}
use Rattle.lk_tree.specs.Tree.{Name, name_discrete, Level, Tree, var, sort, const, app, lam, pi, let_in, proj, lit, wide, str, local}
use Rattle.lk_tree.specs.Bind.{opened, Fresh}
use Rattle.lk_tree.specs.Level.{is_zero_level}
use Rattle.lk_tree.specs.LevelTest.{level_test}
use Rattle.lk_tree.specs.Spine.{head, args, IsNeutral, IsHeadNormal}
use Rattle.lk_tree.specs.WellFormed.{IsWellFormed}
use Rattle.lk_tree.proofs.Scans.{and_true}
use Rattle.lk_tree.proofs.Binding.{fine_from_open}
use Rattle.lk_rulebook.specs.Place.{Place, Entry}
use Rattle.lk_tree.specs.Mentions.{same_name}
use Rattle.lk_rulebook.specs.Rules.{HasValue, of_def, of_thm, IsGivenAt, at_levels}
use Rattle.lk_questions.specs.Steps.{is_same_tree, value_of}
use Rattle.lk_rulebook.specs.Claims.{Claim, types, reduces, equals}
use Rattle.lk_written.specs.Line.{delta_rule, reduce_rule, sorts_rule, consts_rule, apps_rule, lams_rule, pis_rule, projs_rule, proof_rule}
use Rattle.lk_questions.specs.Tests.{passes, is_true, same_levels}
use Rattle.lk_written.specs.Premises.{Left, fresh_local, equal, sorted, is_prop_by}
use Rattle.lk_written.specs.Reducing.{red_delta}
use Rattle.lk_written.specs.Equal.{is_neutral, is_head_normal, pairs_equal, spines_equal, eq_bodies}
use Rattle.lk_rulebook.specs.Claims.{IsShaped}
use Rattle.lk_written.specs.Written.{Stands, IsWritten, CanWrite, CanSort}
use Rattle.lk_claims.proofs.Facts.{pass_test, some_on}
use Rattle.lk_claims.proofs.Pieces.{Some_inj, same_tree}
use Rattle.lk_written_sound.proofs.Writings.{are_equal, next, no_equality, last_reduct, last_equal, go_on, go_test, comes_itself, differ, with_reduct, with_equal, equal_there, sorted_there, fresh_there, typed_next, equal_next, reduct_next, go_typed, go_reduced, go_equal}

pub same_self_name : (c : Name) → same_name c c ≡ true
same_self_name c = go (name_discrete c c)
  where
    go : (d : Dec (c ≡ c)) → elim d as (λ y. Bool) [ yes e ↦ true | no f ↦ Rattle.std.specs.Prelude.false ] ≡ true
    go (yes e) = refl
    go (no f) = absurd (f refl)

pub neutral_passes : (e : Tree) → IsNeutral e → is_neutral e ≡ true
neutral_passes (app f a) h = neutral_passes f h
neutral_passes (lam A b) h = absurd h
neutral_passes (let_in A v b) h = absurd h
neutral_passes (var i) h = refl
neutral_passes (sort l) h = refl
neutral_passes (const c ls) h = refl
neutral_passes (pi A B) h = refl
neutral_passes (proj S i s) h = refl
neutral_passes (lit n) h = refl
neutral_passes wide h = refl
neutral_passes (str s) h = refl
neutral_passes (local k T) h = refl

pub normal_passes : (e : Tree) → IsHeadNormal e → is_head_normal e ≡ true
normal_passes (lam A b) h = refl
normal_passes (app f a) h = neutral_passes f h
normal_passes (let_in A v b) h = absurd h
normal_passes (var i) h = refl
normal_passes (sort l) h = refl
normal_passes (const c ls) h = refl
normal_passes (pi A B) h = refl
normal_passes (proj S i s) h = refl
normal_passes (lit n) h = refl
normal_passes wide h = refl
normal_passes (str s) h = refl
normal_passes (local k T) h = refl

pub value_there : (g : Entry) (v : Tree) → HasValue g v → value_of g.kind ≡ Some v
value_there g v (of_def k) = rw k refl
value_there g v (of_thm k) = rw k refl

delta_passes : (w : Place) (c : Name) (ls : List Level) (g : IsGivenAt w c ls) (v : Tree) → HasValue g.entry v → passes (red_delta w [] (const c ls) (at_levels g v)) ≡ true
unfolding head args
delta_passes w c ls g v hv =
    go_on (w.means c) g.entry _ g.given
    (go_on (value_of g.entry.kind) v _ (value_there g.entry v hv) (go_test (nat_eq (length ls) (length g.entry.levels)) _ (are_equal (length ls) (length g.entry.levels) g.levels_are) (comes_itself (at_levels g v))))

pub can_delta : (w : Place) (c : Name) (ls : List Level) (g : IsGivenAt w c ls) (v : Tree) → HasValue g.entry v → IsWellFormed (at_levels g v) → CanWrite w (reduces (const c ls) (at_levels g v))
can_delta w c ls g v hv f =
    let s : IsShaped (reduces (const c ls) (at_levels g v)) = (tt, f, λ z. absurd z) in
    record { shaped = s; written = λ ps. last_reduct w ps delta_rule (const c ls) (at_levels g v) [] s (delta_passes w c ls g v hv) }

-- where the two sides are one tree nothing is written, so the second reduction is of another tree than the first
pub can_reduce : (w : Place) (a b a' b' : Tree) → CanWrite w (reduces a a') → CanWrite w (reduces b b') → CanWrite w (equals a' b') → CanWrite w (equals a b)
can_reduce w a b a' b' ha hb hq = record { shaped = h; written = λ ps. go ps (is_same_tree a b) refl }
  where
    h : IsShaped (equals a b)
    h = (ha.shaped.0, hb.shaped.0)

    two : (t : is_same_tree a b ≡ false) → b ≡ a → b ≡ b'
    two t e = absurd (differ a b t (sym e))

    go : (ps : List Claim) (x : Bool) → is_same_tree a b ≡ x → IsWritten w ps (equals a b)
    go ps true t = no_equality w ps a b (same_tree a b t)
    go ps false t =
        next w ps (reduces a a') (equals a b) (ha.written ps) (λ p₁ k₁ i e.
        next w p₁ (reduces b b') (equals a b) (hb.written p₁) (λ p₂ k₂ j e₂.
        next w p₂ (equals a' b') (equals a b) (hq.written p₂) (λ qs k₃ m e₃.
        let last : Left = with_equal a' b' m [] in
        let at : Stands qs j (reduces b b') = k₃ j (reduces b b') e₂ in
        last_equal w qs reduce_rule a b (with_reduct a a' i (with_reduct b b' j last)) h
        (go_reduced qs i (with_reduct b b' j last) a a' _ (k₃ i (reduces a a') (k₂ i (reduces a a') e)) (λ y. reduct_next qs j last a b b' (two t) at (equal_next qs m [] a a' b' e₃ refl))
        (go_reduced qs j last b b' _ at (λ y. equal_next qs m [] b a' b' e₃ refl)
        (go_equal qs m [] a' b' _ e₃ refl))))))

pub can_sorts : (w : Place) (l m : Level) → is_true (level_test l m) ≡ true → CanWrite w (equals (sort l) (sort m))
can_sorts w l m t = record { shaped = (tt, tt); written = λ ps. last_equal w ps sorts_rule (sort l) (sort m) [] (tt, tt) (pass_test (is_true (level_test l m)) t) }

pub can_consts : (w : Place) (c : Name) (ls ms : List Level) → same_levels ls ms ≡ true → CanWrite w (equals (const c ls) (const c ms))
can_consts w c ls ms t = record {
  shaped = (tt, tt);
  written = λ ps. last_equal w ps consts_rule (const c ls) (const c ms) [] (tt, tt) (pass_test (same_name c c && same_levels ls ms) (and_true (same_name c c) (same_levels ls ms) (same_self_name c) t));
}

spine_there : (qs : List Claim) (i j : ℕ) (f g a b : Tree) → Stands qs i (equals f g) → Stands qs j (equals a b) → spines_equal qs (with_equal f g i (with_equal a b j [])) (app f a) (app g b) [] ≡ Some []
spine_there qs i j f g a b h k =
    go (equal qs (with_equal f g i (with_equal a b j [])) f g) (equal_there qs i (with_equal a b j []) f g h)
  where
    go : (o : Option Left) → o ≡ Some (with_equal a b j []) →
        elim o as (λ z. Option Left) [ Some r ↦ pairs_equal qs r ((a, b) ∷ []) | None ↦ spines_equal qs (with_equal f g i (with_equal a b j [])) f g ((a, b) ∷ []) ] ≡ Some []
    go (Some r) e =
        let s : r ≡ with_equal a b j [] = Some_inj e in
        subst (λ z. pairs_equal qs z ((a, b) ∷ []) ≡ Some []) (sym s) (some_on (equal qs (with_equal a b j []) a b) [] _ [] (equal_there qs j [] a b k) refl)
    go None e = absurd cc

pub can_apps : (w : Place) (f g a b : Tree) → IsNeutral f → IsNeutral g → CanWrite w (equals f g) → CanWrite w (equals a b) → CanWrite w (equals (app f a) (app g b))
can_apps w f g a b nf ng hf ha =
    let h : IsShaped (equals (app f a) (app g b)) = ((hf.shaped.0, ha.shaped.0), (hf.shaped.1, ha.shaped.1)) in
    let G : Claim = equals (app f a) (app g b) in
    record {
      shaped = h;
      written = λ ps.
          next w ps (equals f g) G (hf.written ps) (λ p₁ k₁ i e.
          next w p₁ (equals a b) G (ha.written p₁) (λ qs k₂ j e₂.
          let js : Left = with_equal f g i (with_equal a b j []) in
          last_equal w qs apps_rule (app f a) (app g b) js h
          (go_test (is_neutral f && is_neutral g) _ (and_true (is_neutral f) (is_neutral g) (neutral_passes f nf) (neutral_passes g ng))
          (go_on (spines_equal qs js (app f a) (app g b) []) [] _ (spine_there qs i j f g a b (k₂ i (equals f g) e) e₂) refl))));
    }

bodies_pass : (qs : List Claim) (i j k : ℕ) (A b A' b' : Tree) → Stands qs i (equals A A') → Stands qs j (equals (opened b (local k A)) (opened b' (local k A))) →
    passes (eq_bodies qs (with_equal A A' i (with_equal (opened b (local k A)) (opened b' (local k A)) j [])) k (A, b) (A', b')) ≡ true
bodies_pass qs i j k A b A' b' e f =
    go_equal qs i (with_equal (opened b (local k A)) (opened b' (local k A)) j []) A A' _ e
    (go_equal qs j [] (opened b (local k A)) (opened b' (local k A)) _ f refl)

pub can_lams : (w : Place) (A A' b b' : Tree) (k : ℕ) → Fresh k (lam A b ∷ lam A' b' ∷ []) → CanWrite w (equals A A') → CanWrite w (equals (opened b (local k A)) (opened b' (local k A))) → CanWrite w (equals (lam A b) (lam A' b'))
can_lams w A A' b b' k fresh hA hb =
    let h : IsShaped (equals (lam A b) (lam A' b')) = ((hA.shaped.0, fine_from_open 0 (local k A) b hb.shaped.0), (hA.shaped.1, fine_from_open 0 (local k A) b' hb.shaped.1)) in
    let G : Claim = equals (lam A b) (lam A' b') in
    record {
      shaped = h;
      written = λ ps.
          next w ps (equals A A') G (hA.written ps) (λ p₁ k₁ i e.
          next w p₁ (equals (opened b (local k A)) (opened b' (local k A))) G (hb.written p₁) (λ qs k₂ j e₂.
          last_equal w qs (lams_rule (local k A)) (lam A b) (lam A' b') (with_equal A A' i (with_equal (opened b (local k A)) (opened b' (local k A)) j [])) h
          (go_on (fresh_local A (lam A b ∷ lam A' b' ∷ []) (local k A)) k _ (fresh_there k A (lam A b ∷ lam A' b' ∷ []) fresh)
          (bodies_pass qs i j k A b A' b' (k₂ i (equals A A') e) e₂))));
    }

pub can_pis : (w : Place) (A A' B B' : Tree) (k : ℕ) → Fresh k (pi A B ∷ pi A' B' ∷ []) → CanWrite w (equals A A') → CanWrite w (equals (opened B (local k A)) (opened B' (local k A))) → CanWrite w (equals (pi A B) (pi A' B'))
can_pis w A A' B B' k fresh hA hb =
    let h : IsShaped (equals (pi A B) (pi A' B')) = ((hA.shaped.0, fine_from_open 0 (local k A) B hb.shaped.0), (hA.shaped.1, fine_from_open 0 (local k A) B' hb.shaped.1)) in
    let G : Claim = equals (pi A B) (pi A' B') in
    record {
      shaped = h;
      written = λ ps.
          next w ps (equals A A') G (hA.written ps) (λ p₁ k₁ i e.
          next w p₁ (equals (opened B (local k A)) (opened B' (local k A))) G (hb.written p₁) (λ qs k₂ j e₂.
          last_equal w qs (pis_rule (local k A)) (pi A B) (pi A' B') (with_equal A A' i (with_equal (opened B (local k A)) (opened B' (local k A)) j [])) h
          (go_on (fresh_local A (pi A B ∷ pi A' B' ∷ []) (local k A)) k _ (fresh_there k A (pi A B ∷ pi A' B' ∷ []) fresh)
          (bodies_pass qs i j k A B A' B' (k₂ i (equals A A') e) e₂))));
    }

pub can_projs : (w : Place) (S : Name) (n : ℕ) (s t : Tree) → CanWrite w (equals s t) → CanWrite w (equals (proj S n s) (proj S n t))
can_projs w S n s t hs =
    let h : IsShaped (equals (proj S n s) (proj S n t)) = hs.shaped in
    record {
      shaped = h;
      written = λ ps.
          next w ps (equals s t) (equals (proj S n s) (proj S n t)) (hs.written ps) (λ qs k i e.
          last_equal w qs projs_rule (proj S n s) (proj S n t) (with_equal s t i []) h
          (go_test (same_name S S && nat_eq n n) _ (and_true (same_name S S) (nat_eq n n) (same_self_name S) (are_equal n n refl))
          (go_equal qs i [] s t _ e refl)));
    }

-- a => A, A is a proposition, b => B, A == B
pub can_proof : (w : Place) (a b A B : Tree) (l : Level) → IsHeadNormal a → IsHeadNormal b → CanWrite w (types a A) → CanSort w A l → is_zero_level l ≡ true → CanWrite w (types b B) → CanWrite w (equals A B) → CanWrite w (equals a b)
can_proof w a b A B l na nb ha hA z hb hq =
    let S : Tree = hA.between in
    let h : IsShaped (equals a b) = (ha.shaped.0, hb.shaped.0) in
    let G : Claim = equals a b in
    record {
      shaped = h;
      written = λ ps.
          next w ps (types a A) G (ha.written ps) (λ p₁ k₁ i e.
          next w p₁ (types A S) G (hA.typed.written p₁) (λ p₂ k₂ j e₂.
          next w p₂ (reduces S (sort l)) G (hA.reduced.written p₂) (λ p₃ k₃ s e₃.
          next w p₃ (types b B) G (hb.written p₃) (λ p₄ k₄ t e₄.
          next w p₄ (equals A B) G (hq.written p₄) (λ qs k₅ u e₅.
          let last : Left = with_equal A B u [] in
          let more : Left = j ∷ with_reduct S (sort l) s (t ∷ last) in
          let at : slice_get qs t ≡ Some (types b B) = k₅ t (types b B) e₄ in
          last_equal w qs proof_rule a b (i ∷ more) h
          (go_test (is_head_normal a && is_head_normal b) _ (and_true (is_head_normal a) (is_head_normal b) (normal_passes a na) (normal_passes b nb))
          (go_typed qs i more a A _ (k₅ i (types a A) (k₄ i (types a A) (k₃ i (types a A) (k₂ i (types a A) e))))
          (go_on (is_prop_by qs more A) (t ∷ last) _
          (prop_there qs more (t ∷ last) A l (sorted_there qs j s (t ∷ last) A S l (k₅ j (types A S) (k₄ j (types A S) (k₃ j (types A S) e₂))) (k₅ s (reduces S (sort l)) (k₄ s (reduces S (sort l)) e₃)) (λ y. typed_next qs t last S b B at)) z)
          (go_typed qs t last b B _ at
          (go_equal qs u [] A B _ e₅ refl))))))))));
    }
  where
    prop_there : (qs : List Claim) (js rest : Left) (A : Tree) (l : Level) → sorted qs js A ≡ Some (l, rest) → is_zero_level l ≡ true → is_prop_by qs js A ≡ Some rest
    prop_there qs js rest A l e z = rw e (rw z refl)
