-- Facts on levels put in place of parameters.
use Rattle.std.proofs.Common.{◌≡◌, ◌≢◌, ◌↔◌, ℕ, zero, suc, Bool, true, false, ◌+◌, ◌<◌, List, [], ◌∷◌, ◌++◌, map, length, get_or, refl, ap, sym, ◌∙◌, arith, below_more, append_assoc, IsTrue}
use Rattle.std.specs.Prelude.{All, ◌||◌}
use Rattle.std.proofs.lemmas.Grind.{common_steps}
use Rattle.std.proofs.lemmas.List.{map-append}
use Rattle.std.proofs.lemmas.List.Elements.{All-weaker}
use Rattle.lk_tree.specs.Tree.{Name, name_discrete, Level, zero_level, succ_level, max_level, imax_level, param}
use Rattle.lk_tree.specs.Levels.{level_for, put_in_level}
use Rattle.lk_store.specs.Measures.{level_has_params, list_has_params}
use Rattle.lk_store.specs.Contents.{Contents, name_at, level_at, list_at, Extends, IsLevel, IsList}
use Rattle.lk_subst.specs.declared.parts.Met.{Met}
use Rattle.lk_subst.specs.Numbers.{values-steady, values-known}
use Rattle.lk_subst.specs.Parts.{AreMet}
use Rattle.lk_subst.specs.Parameters.{putting, ArePut, IsPut, ArePutIn}

pub no_left : (a b : Bool) → (a || b) ≡ false → a ≡ false
no_left true b h = h
no_left false b h = refl

pub no_right : (a b : Bool) → (a || b) ≡ false → b ≡ false
no_right true b h = absurd cc
no_right false b h = h

-- no parameter stands in the level
pub put_in_level-closed : (ps : List Name) (ls : List Level) (l : Level) → level_has_params l ≡ false → put_in_level ps ls l ≡ l
unfolding put_in_level
put_in_level-closed ps ls zero_level h = refl
put_in_level-closed ps ls (succ_level l) h = ap succ_level (put_in_level-closed ps ls l h)
put_in_level-closed ps ls (max_level l m) h =
    let p = put_in_level-closed ps ls l (no_left (level_has_params l) (level_has_params m) h) in
    let q = put_in_level-closed ps ls m (no_right (level_has_params l) (level_has_params m) h) in
    cc
put_in_level-closed ps ls (imax_level l m) h =
    let p = put_in_level-closed ps ls l (no_left (level_has_params l) (level_has_params m) h) in
    let q = put_in_level-closed ps ls m (no_right (level_has_params l) (level_has_params m) h) in
    cc
put_in_level-closed ps ls (param n) h = absurd cc

-- and in none of a list
pub put_in_levels-closed : (ps : List Name) (ls ms : List Level) → list_has_params ms ≡ false → map (put_in_level ps ls) ms ≡ ms
put_in_levels-closed ps ls [] h = refl
put_in_levels-closed ps ls (m ∷ ms) h =
    let p = put_in_level-closed ps ls m (no_left (level_has_params m) (list_has_params ms) h) in
    let q = put_in_levels-closed ps ls ms (no_right (level_has_params m) (list_has_params ms) h) in
    cc

-- Names that are not equal.
pub names_differ : {m n : Name} (r : Bool) → (IsTrue r ↔ (m ≡ n)) → r ≡ false → m ≢ n
names_differ r h not same = let t = h.1 same in cc

level_for-same : (p n : Name) (ps : List Name) (l : Level) (ls : List Level) → p ≡ n → level_for (p ∷ ps) (l ∷ ls) n ≡ l
unfolding level_for
level_for-same p n ps l ls same = elim (name_discrete p n) as (λ w. elim w [ yes e ↦ l | no f ↦ level_for ps ls n ] ≡ l) [ yes e ↦ refl | no f ↦ absurd (f same) ]

level_for-other : (p n : Name) (ps : List Name) (l : Level) (ls : List Level) → p ≢ n → level_for (p ∷ ps) (l ∷ ls) n ≡ level_for ps ls n
unfolding level_for
level_for-other p n ps l ls other = elim (name_discrete p n) as (λ w. elim w [ yes e ↦ l | no f ↦ level_for ps ls n ] ≡ level_for ps ls n) [ yes e ↦ absurd (other e) | no f ↦ refl ]

-- the first parameter that is the name
pub level_for-at : (c : Contents) (ps vs : List ℕ) (n : Name) (i : ℕ) → i < length ps → i < length vs
    → ((k : ℕ) → k < i → name_at c (get_or ps k 0) ≢ n) → name_at c (get_or ps i 0) ≡ n
    → level_for (map (name_at c) ps) (map (level_at c) vs) n ≡ level_at c (get_or vs i 0)
level_for-at c [] vs n i l m before here = absurd (omega arith)
level_for-at c (p ∷ ps) [] n i l m before here = absurd (omega arith)
level_for-at c (p ∷ ps) (v ∷ vs) n zero l m before here = level_for-same (name_at c p) n (map (name_at c) ps) (level_at c v) (map (level_at c) vs) here
level_for-at c (p ∷ ps) (v ∷ vs) n (suc i) l m before here =
    level_for-other (name_at c p) n (map (name_at c) ps) (level_at c v) (map (level_at c) vs) (before 0 (omega arith))
    ∙ level_for-at c ps vs n i (omega arith) (omega arith) (λ k b. before (suc k) (omega arith)) here

-- no parameter that has a value is the name
pub level_for-none : (c : Contents) (ps vs : List ℕ) (n : Name) → ((k : ℕ) → k < length ps → k < length vs → name_at c (get_or ps k 0) ≢ n)
    → level_for (map (name_at c) ps) (map (level_at c) vs) n ≡ param n
unfolding level_for
level_for-none c [] vs n none = refl
level_for-none c (p ∷ ps) [] n none = refl
level_for-none c (p ∷ ps) (v ∷ vs) n none =
    level_for-other (name_at c p) n (map (name_at c) ps) (level_at c v) (map (level_at c) vs) (none 0 (omega arith) (omega arith))
    ∙ level_for-none c ps vs n (λ k a b. none (suc k) (omega arith) (omega arith))

-- While the store grows.
module _ (c d : Contents) (x : Extends c d) where
  pub putting-steady : (ps vs : List ℕ) → All (λ p. p < length c.names) ps → All (λ v. v < length c.levels) vs → putting d ps vs ≡ putting c ps vs
  putting-steady ps vs h k = rw (values-steady [] c.names d.names ps x.names h, values-steady zero_level c.levels d.levels vs x.levels k) refl

  pub names-known : (ps : List ℕ) → All (λ p. p < length c.names) ps → All (λ p. p < length d.names) ps
  names-known ps h = values-known [] c.names d.names ps x.names h

  pub levels-known : (vs : List ℕ) → All (λ v. v < length c.levels) vs → All (λ v. v < length d.levels) vs
  levels-known vs h = values-known zero_level c.levels d.levels vs x.levels h

  pub met-known : (met : List Met) → AreMet c met → AreMet d met
  met-known met h = let longer = x.levels.longer in All-weaker (λ (m : Met). m.level < length c.levels) (λ (m : Met). m.level < length d.levels) (λ m l. omega arith) met h

  -- one more is made
  pub ArePut-push : (f : Level → Level) (met : List Met) (made : List ℕ) (r : ℕ) (part : Met) → AreMet c met → ArePut f c met made → length made < length met
      → part ≡ get_or met (length made) part → IsLevel d r (f (level_at c part.level)) → ArePut f d met (made ++ r ∷ [])
  ArePut-push f met made r part known was more part_is new =
      let all = made ++ r ∷ [] in
      let longer : length all ≡ length made + 1 = grind (arith, common_steps) in
      let grown = x.levels.longer in
      let part_of : (d' : Met) → get_or met (length made) d' ≡ part = λ d'. let e : get_or met (length made) d' ≡ get_or met (length made) part = grind (arith, common_steps) in e ∙ sym part_is in
      let P : ℕ → Type 0 = λ k. (m : Met) → IsLevel d (get_or all k 0) (f (level_at d (get_or met k m).level)) in
      record {
        few = omega arith;
        each = λ k m l. below_more P (length made)
            (λ n ln m'.
            let read : get_or all n 0 ≡ get_or made n 0 = grind (arith, common_steps) in
            let old = was.each n m' ln in
            let kept = old.known in
            let few = was.few in
            let in_met : (get_or met n m').level < length c.levels = known n m' (omega arith) in
            let here : IsLevel d (get_or made n 0) (f (level_at d (get_or met n m').level)) =
            record { known = omega arith; is = x.levels.same (get_or made n 0) kept ∙ old.is ∙ ap f (sym (x.levels.same (get_or met n m').level in_met)) } in
            rw read here)
            (λ m'.
            let read : get_or all (length made) 0 ≡ r = grind (arith, common_steps) in
            let in_met : (get_or met (length made) m').level < length c.levels = known (length made) m' more in
            let at : get_or met (length made) m' ≡ part = part_of m' in
            let here : IsLevel d r (f (level_at d (get_or met (length made) m').level)) =
            record { known = new.known; is = new.is ∙ ap (λ (m : Met). f (level_at c m.level)) (sym at) ∙ ap f (sym (x.levels.same (get_or met (length made) m').level in_met)) } in
            rw read here)
            k (rw longer at l) m;
      }

module _ (c d : Contents) (ps vs : List ℕ) (x : Extends c d) (h : All (λ p. p < length c.names) ps) (k : All (λ v. v < length c.levels) vs) where
  -- what is put once the store has grown is what would have been put before
  pub later_put : (e : Contents) (l r : ℕ) → l < length c.levels → IsPut d ps vs l e r → IsPut c ps vs l e r
  later_put e l r in_l put = record {
    known = put.known;
    is = put.is ∙ ap (λ (f : Level → Level). f (level_at d l)) (putting-steady c d x ps vs h k) ∙ ap (putting c ps vs) (x.levels.same l in_l);
  }

  pub later_put_all : (e : Contents) (ls r : ℕ) → ls < length c.lists → ArePutIn d ps vs ls e r → ArePutIn c ps vs ls e r
  later_put_all e ls r in_ls put = record {
    known = put.known;
    is = put.is ∙ ap (λ (f : Level → Level). map f (list_at d ls)) (putting-steady c d x ps vs h k) ∙ ap (map (putting c ps vs)) (x.lists.same ls in_ls);
  }

  -- two parts are put, the second once the first is
  pub both_put : (e : Contents) (make : Level → Level → Level) (a b p q : ℕ) → Extends d e → b < length c.levels
      → IsPut c ps vs a d p → IsPut d ps vs b e q
      → make (level_at e p) (level_at e q) ≡ make (putting c ps vs (level_at c a)) (putting c ps vs (level_at c b))
  both_put e make a b p q y in_b first second =
      let left = y.levels.same p first.known ∙ first.is in
      let right = later_put e b q in_b second in
      ap (λ l. make l (level_at e q)) left ∙ ap (make (putting c ps vs (level_at c a))) right.is

  -- the others of a list are put, and then the first
  pub first_put : (e f : Contents) (first others l ls r : ℕ) → Extends d e → first < length c.levels
      → ArePutIn c ps vs others d ls → IsPut d ps vs first e l → IsList f r (level_at e l ∷ list_at e ls)
      → IsList f r (putting c ps vs (level_at c first) ∷ map (putting c ps vs) (list_at c others))
  first_put e f first others l ls r y in_first rest put whole =
      let tail = y.lists.same ls rest.known ∙ rest.is in
      let head = later_put e first l in_first put in
      record { known = whole.known; is = whole.is ∙ ap (λ m. m ∷ list_at e ls) head.is ∙ ap (λ ms. putting c ps vs (level_at c first) ∷ ms) tail }

-- one level more of the list is put
pub put_more : (f : Level → Level) (c0 c c1 c2 : Contents) (found found' : List ℕ) (level at r made : ℕ) (whole : List Level)
    → found ≡ found' ++ level ∷ [] → map f (map (level_at c0) found) ++ list_at c at ≡ whole → level_at c1 r ≡ f (level_at c0 level)
    → list_at c1 at ≡ list_at c at → list_at c2 made ≡ level_at c1 r ∷ list_at c1 at → map f (map (level_at c0) found') ++ list_at c2 made ≡ whole
put_more f c0 c c1 c2 found found' level at r made whole popped h one others is =
    let front = map f (map (level_at c0) found') in
    let split : map f (map (level_at c0) (found' ++ level ∷ [])) ≡ front ++ f (level_at c0 level) ∷ [] = rw (map-append, map-append) refl in
    let before : (front ++ f (level_at c0 level) ∷ []) ++ list_at c at ≡ whole = rw (popped, split) at h in
    let end : list_at c2 made ≡ f (level_at c0 level) ∷ list_at c at = is ∙ (rw (one, others) refl) in
    rw end (sym (append_assoc front (f (level_at c0 level) ∷ []) (list_at c at)) ∙ before)

pub ruleset levels_closed = (put_in_level-closed, put_in_levels-closed)
