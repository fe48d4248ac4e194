-- What each rule of typing states can be written.
use Rattle.std.proofs.Common.{ℕ, ◌≡◌, nat_eq, length, List, [], ◌∷◌, Some, refl}
use Rattle.std.specs.Prelude.{slice_get}
use Rattle.lk_tree.specs.Tree.{Name, Level, imax_level, Tree, sort, const, app, lam, pi, let_in, local}
use Rattle.lk_tree.specs.Bind.{opened, Fresh}
use Rattle.lk_tree.specs.WellFormed.{IsWellFormed}
use Rattle.lk_tree.proofs.Binding.{open_fine, fine_from_open}
use Rattle.lk_rulebook.specs.Place.{Place}
use Rattle.lk_rulebook.specs.Rules.{IsGivenAt, at_levels}
use Rattle.lk_questions.specs.Steps.{is_same_tree}
use Rattle.lk_rulebook.specs.Claims.{Claim, types, reduces, equals}
use Rattle.lk_written.specs.Line.{const_rule, app_rule, lam_rule, pi_rule, let_rule}
use Rattle.lk_written.specs.Premises.{Left, fresh_local, typing, typed, equal, to_pi, arguments_over}
use Rattle.lk_written.specs.Typing.{applied_type}
use Rattle.lk_rulebook.specs.Claims.{IsShaped}
use Rattle.lk_written.specs.Written.{CanWrite, CanSort}
use Rattle.lk_claims.proofs.Facts.{same_self, some_on}
use Rattle.lk_written_sound.proofs.Writings.{are_equal, next, last_type, go_on, go_test, comes_itself, with_reduct, with_equal, typing_there, typed_there, equal_there, to_pi_there, fresh_there, typed_next, go_typed, go_equal, go_sorted}
use Rattle.lk_written_sound.proofs.Rules.{one_argument}

pub can_const : (w : Place) (c : Name) (ls : List Level) (g : IsGivenAt w c ls) → IsWellFormed (at_levels g g.entry.type) → CanWrite w (types (const c ls) (at_levels g g.entry.type))
can_const w c ls g f =
    let T : Tree = at_levels g g.entry.type in
    record {
      shaped = (tt, f);
      written = λ ps. last_type w ps const_rule (const c ls) T [] (tt, f)
          (go_on (w.means c) g.entry _ g.given (go_test (nat_eq (length ls) (length g.entry.levels)) _ (are_equal (length ls) (length g.entry.levels) g.levels_are) (comes_itself T)));
    }

pub can_app : (w : Place) (f a F A B A' : Tree) → CanWrite w (types f F) → CanWrite w (reduces F (pi A B)) → CanWrite w (types a A') → CanWrite w (equals A' A) → CanWrite w (types (app f a) (opened B a))
can_app w f a F A B A' hf hF ha hq =
    let G : Claim = types (app f a) (opened B a) in
    let h : IsShaped (types (app f a) (opened B a)) = ((hf.shaped.0, ha.shaped.0), open_fine 0 a B hF.shaped.1.1 ha.shaped.0) in
    record {
      shaped = h;
      written = λ ps.
          next w ps (types f F) G (hf.written ps) (λ p₁ k₁ i e.
          next w p₁ (reduces F (pi A B)) G (hF.written p₁) (λ p₂ k₂ j e₂.
          next w p₂ (types a A') G (ha.written p₂) (λ p₃ k₃ k e₃.
          next w p₃ (equals A' A) G (hq.written p₃) (λ qs k₄ m e₄.
          let last : Left = with_equal A' A m [] in
          let more : Left = with_reduct F (pi A B) j (k ∷ last) in
          let at : slice_get qs k ≡ Some (types a A') = k₄ k (types a A') e₃ in
          last_type w qs app_rule (app f a) (opened B a) (i ∷ more) h
          (go_on (typing qs (i ∷ more)) (record { left = f; right = F; after = more }) _ (typing_there qs i more f F (k₄ i (types f F) (k₃ i (types f F) (k₂ i (types f F) e))))
          (go_on (arguments_over f (app f a) []) (a ∷ []) _ (one_argument f a)
          (go_on (applied_type qs more F (a ∷ [])) (opened B a, []) _
          (some_on (to_pi qs more F) ((A, B), k ∷ last) _ (opened B a, [])
          (to_pi_there qs j (k ∷ last) F A B (k₄ j (reduces F (pi A B)) (k₃ j (reduces F (pi A B)) e₂)) (λ x. typed_next qs k last F a A' at))
          (some_on (typed qs (k ∷ last) a) (A', last) _ (opened B a, []) (typed_there qs k last a A' at)
          (some_on (equal qs last A' A) [] _ (opened B a, []) (equal_there qs m [] A' A e₄) refl)))
          (comes_itself (opened B a)))))))));
    }

pub can_lam : (w : Place) (A b B : Tree) (l : Level) (k : ℕ) → Fresh k (lam A b ∷ pi A B ∷ []) → CanSort w A l → CanWrite w (types (opened b (local k A)) (opened B (local k A))) → CanWrite w (types (lam A b) (pi A B))
can_lam w A b B l k fresh hA hb =
    let G : Claim = types (lam A b) (pi A B) in
    let S : Tree = hA.between in
    let x : Tree = local k A in
    let fA : IsWellFormed A = hA.typed.shaped.0 in
    let h : IsShaped (types (lam A b) (pi A B)) = ((fA, fine_from_open 0 x b hb.shaped.0), (fA, fine_from_open 0 x B hb.shaped.1)) in
    record {
      shaped = h;
      written = λ ps.
          next w ps (types A S) G (hA.typed.written ps) (λ p₁ k₁ i e.
          next w p₁ (reduces S (sort l)) G (hA.reduced.written p₁) (λ p₂ k₂ j e₂.
          next w p₂ (types (opened b x) (opened B x)) G (hb.written p₂) (λ qs k₃ t e₃.
          last_type w qs (lam_rule x) (lam A b) (pi A B) (i ∷ with_reduct S (sort l) j (t ∷ [])) h
          (go_test (is_same_tree A A) _ (same_self A)
          (go_on (fresh_local A (lam A b ∷ pi A B ∷ []) x) k _ (fresh_there k A (lam A b ∷ pi A B ∷ []) fresh)
          (go_sorted qs i j (t ∷ []) A S l _ (k₃ i (types A S) (k₂ i (types A S) e)) (k₃ j (reduces S (sort l)) e₂) (λ y. typed_next qs t [] S (opened b x) (opened B x) e₃)
          (go_typed qs t [] (opened b x) (opened B x) _ e₃ (comes_itself (opened B x)))))))));
    }

pub can_pi : (w : Place) (A B : Tree) (u v : Level) (k : ℕ) → Fresh k (pi A B ∷ []) → CanSort w A u → CanSort w (opened B (local k A)) v → CanWrite w (types (pi A B) (sort (imax_level u v)))
can_pi w A B u v k fresh hA hB =
    let G : Claim = types (pi A B) (sort (imax_level u v)) in
    let S : Tree = hA.between in
    let T : Tree = hB.between in
    let x : Tree = local k A in
    let h : IsShaped (types (pi A B) (sort (imax_level u v))) = ((hA.typed.shaped.0, fine_from_open 0 x B hB.typed.shaped.0), tt) in
    record {
      shaped = h;
      written = λ ps.
          next w ps (types A S) G (hA.typed.written ps) (λ p₁ k₁ i e.
          next w p₁ (reduces S (sort u)) G (hA.reduced.written p₁) (λ p₂ k₂ j e₂.
          next w p₂ (types (opened B x) T) G (hB.typed.written p₂) (λ p₃ k₃ s e₃.
          next w p₃ (reduces T (sort v)) G (hB.reduced.written p₃) (λ qs k₄ t e₄.
          let last : Left = with_reduct T (sort v) t [] in
          let at : slice_get qs s ≡ Some (types (opened B x) T) = k₄ s (types (opened B x) T) e₃ in
          last_type w qs (pi_rule x) (pi A B) (sort (imax_level u v)) (i ∷ with_reduct S (sort u) j (s ∷ last)) h
          (go_on (fresh_local A (pi A B ∷ []) x) k _ (fresh_there k A (pi A B ∷ []) fresh)
          (go_sorted qs i j (s ∷ last) A S u _ (k₄ i (types A S) (k₃ i (types A S) (k₂ i (types A S) e))) (k₄ j (reduces S (sort u)) (k₃ j (reduces S (sort u)) e₂)) (λ y. typed_next qs s last S (opened B x) T at)
          (go_sorted qs s t [] (opened B x) T v _ at e₄ (λ y. refl) (comes_itself (sort (imax_level u v))))))))));
    }

pub can_let : (w : Place) (A v b V B : Tree) (l : Level) → CanSort w A l → CanWrite w (types v V) → CanWrite w (equals V A) → CanWrite w (types (opened b v) B) → CanWrite w (types (let_in A v b) B)
can_let w A v b V B l hA hv hq hb =
    let G : Claim = types (let_in A v b) B in
    let S : Tree = hA.between in
    let h : IsShaped (types (let_in A v b) B) = ((hA.typed.shaped.0, hv.shaped.0, fine_from_open 0 v b hb.shaped.0), hb.shaped.1) in
    record {
      shaped = h;
      written = λ ps.
          next w ps (types A S) G (hA.typed.written ps) (λ p₁ k₁ i e.
          next w p₁ (reduces S (sort l)) G (hA.reduced.written p₁) (λ p₂ k₂ j e₂.
          next w p₂ (types v V) G (hv.written p₂) (λ p₃ k₃ s e₃.
          next w p₃ (equals V A) G (hq.written p₃) (λ p₄ k₄ t e₄.
          next w p₄ (types (opened b v) B) G (hb.written p₄) (λ qs k₅ u e₅.
          let last : Left = with_equal V A t (u ∷ []) in
          let at : slice_get qs s ≡ Some (types v V) = k₅ s (types v V) (k₄ s (types v V) e₃) in
          last_type w qs let_rule (let_in A v b) B (i ∷ with_reduct S (sort l) j (s ∷ last)) h
          (go_sorted qs i j (s ∷ last) A S l _ (k₅ i (types A S) (k₄ i (types A S) (k₃ i (types A S) (k₂ i (types A S) e))))
          (k₅ j (reduces S (sort l)) (k₄ j (reduces S (sort l)) (k₃ j (reduces S (sort l)) e₂))) (λ y. typed_next qs s last S v V at)
          (go_typed qs s last v V _ at
          (go_equal qs t (u ∷ []) V A _ (k₅ t (equals V A) e₄)
          (go_typed qs u [] (opened b v) B _ e₅ (comes_itself B))))))))));
    }
