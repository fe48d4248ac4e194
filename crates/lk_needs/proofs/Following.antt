-- Names that follow others, and lists of them.
use Rattle.std.proofs.Common.{ℕ, zero, suc, ◌≡◌, ◌≢◌, ◌+◌, ◌<◌, inl, inr, List, [], ◌∷◌, ◌++◌, map, length, replicate, refl, sym, ap, subst, ◌∙◌, arith}
use Rattle.std.specs.Prelude.{Vec, slice_index_or, slice_set}
use Rattle.std.specs.List.{Contains}
use Rattle.std.specs.declared.alloc.Global.{Global}
use Rattle.std.proofs.lemmas.Bool.{cases_eq}
use Rattle.std.proofs.lemmas.List.{same_from_push, length-replicate, map_push, replicate_more}
use Rattle.std.proofs.lemmas.List.Elements.{Contains-append_left, Contains-push, Contains-push_cases}
use Rattle.lk_tree.specs.Tree.{Name}
use Rattle.lk_store.specs.Values.{AreApart}
use Rattle.lk_store.specs.Contents.{Contents, name_at, IsName}
use Rattle.lk_needs.specs.declared.endings.Ending.{Ending}
use Rattle.lk_needs.specs.declared.endings.Ending.TheVariants.{Plain, Numbered}
use Rattle.lk_needs.specs.Endings.{Follows}
use Rattle.lk_needs.specs.Followers.{followers_at, with_follower, AreFollowersTo}
use Rattle.lk_needs.proofs.Lists.{contains_none}

-- a name follows one name alone
pub one_before : (e : Ending) (p q x : Name) → Follows e p x → Follows e q x → p ≡ q
one_before Plain p q x f g = (same_from_push p q _ _ (f ∙ sym g)).0
one_before Numbered p q x f g = (same_from_push p q _ _ (f.1 ∙ sym g.1)).0

with_length : (ls : List (List ℕ)) (p m : ℕ) → length (with_follower ls p m) ≡ length ls
with_length [] p m = refl
with_length (l ∷ ls) zero m = refl
with_length (l ∷ ls) (suc p) m = ap suc (with_length ls p m)

with_same : (ls : List (List ℕ)) (p m : ℕ) → p < length ls → followers_at (with_follower ls p m) p ≡ followers_at ls p ++ m ∷ []
with_same [] p m h = absurd (omega arith)
with_same (l ∷ ls) zero m h = refl
with_same (l ∷ ls) (suc p) m h = with_same ls p m (omega arith)

with_other : (ls : List (List ℕ)) (p m q : ℕ) → q ≢ p → followers_at (with_follower ls p m) q ≡ followers_at ls q
with_other [] p m q h = refl
with_other (l ∷ ls) zero m zero h = absurd (h refl)
with_other (l ∷ ls) zero m (suc q) h = refl
with_other (l ∷ ls) (suc p) m zero h = refl
with_other (l ∷ ls) (suc p) m (suc q) h = with_other ls p m q (λ e. h (ap suc e))

-- the lists with one of them put back
pub follower_set : (ls : List (Vec ℕ Global)) (p m : ℕ) (v d : Vec ℕ Global) → p < length ls → v.items ≡ (slice_index_or ls p d).items ++ m ∷ [] → map (λ l. l.items) (slice_set ls p v) ≡ with_follower (map (λ l. l.items) ls) p m
follower_set [] p m v d h e = absurd (omega arith)
follower_set (l ∷ ls) zero m v d h e = ap (λ x. x ∷ map (λ l. l.items) ls) e
follower_set (l ∷ ls) (suc p) m v d h e = ap (λ xs. l.items ∷ xs) (follower_set ls p m v d (omega arith) e)

-- One name more is looked at.
module _ (c : Contents) (e : Ending) (i : ℕ) (ls : List (List ℕ)) (a : AreFollowersTo c e i ls) where
  pub none_more : ((p : Name) → Follows e p (name_at c i) → ⊥) → AreFollowersTo c e (i + 1) ls
  none_more none = record { one_each = a.one_each; only = a.only; all = all; before = before }
    where
      before : (x : Name) (m : ℕ) → m < i + 1 → Follows e x (name_at c m) → (q : ℕ) × IsName c q x
      before x m l f = elim (cases_eq m i) [
        | inl same ↦ absurd (none x (subst (λ y. Follows e x (name_at c y)) same f))
        | inr ne ↦ a.before x m (omega (arith, l, ne)) f
      ]

      all : (q m : ℕ) → m < i + 1 → q < length c.names → Follows e (name_at c q) (name_at c m) → Contains (followers_at ls q) m
      all q m l k f = elim (cases_eq m i) [
        | inl same ↦ absurd (none (name_at c q) (subst (λ x. Follows e (name_at c q) (name_at c x)) same f))
        | inr ne ↦ a.all q m (omega (arith, l, ne)) k f
      ]

  module _ (apart : AreApart [] c.names) (i_in : i < length c.names) (p : ℕ) (p_in : p < length c.names) (follows : Follows e (name_at c p) (name_at c i)) where
    here : followers_at (with_follower ls p i) p ≡ followers_at ls p ++ i ∷ []
    here = with_same ls p i (omega (arith, p_in, a.one_each))

    only : (q m : ℕ) → Contains (followers_at (with_follower ls p i) q) m → (m < length c.names) × Follows e (name_at c q) (name_at c m)
    only q m h = elim (cases_eq q p) [
      | inl same ↦
          elim (Contains-push_cases (followers_at ls p) i m (subst (λ xs. Contains xs m) here (subst (λ x. Contains (followers_at (with_follower ls p i) x) m) same h))) [
            | inl k ↦ subst (λ x. (m < length c.names) × Follows e (name_at c x) (name_at c m)) (sym same) (a.only p m k)
            | inr is ↦ subst (λ x. (m < length c.names) × Follows e (name_at c x) (name_at c m)) (sym same) (subst (λ x. (x < length c.names) × Follows e (name_at c p) (name_at c x)) is (i_in, follows))
          ]
      | inr ne ↦ a.only q m (subst (λ xs. Contains xs m) (with_other ls p i q ne) h)
    ]

    still : (q m : ℕ) → Contains (followers_at ls q) m → Contains (followers_at (with_follower ls p i) q) m
    still q m h = elim (cases_eq q p) [
      | inl same ↦ subst (λ x. Contains (followers_at (with_follower ls p i) x) m) (sym same)
          (subst (λ xs. Contains xs m) (sym here) (Contains-append_left (followers_at ls p) (i ∷ []) m (subst (λ x. Contains (followers_at ls x) m) same h)))
      | inr ne ↦ subst (λ xs. Contains xs m) (sym (with_other ls p i q ne)) h
    ]

    all : (q m : ℕ) → m < i + 1 → q < length c.names → Follows e (name_at c q) (name_at c m) → Contains (followers_at (with_follower ls p i) q) m
    all q m l k f = elim (cases_eq m i) [
      | inl same ↦
          let it : Follows e (name_at c q) (name_at c i) = subst (λ x. Follows e (name_at c q) (name_at c x)) same f in
          let one : p ≡ q = apart.apart p q p_in k (one_before e (name_at c p) (name_at c q) (name_at c i) follows it) in
          subst (λ x. Contains (followers_at (with_follower ls p i) x) m) one (subst (λ x. Contains (followers_at (with_follower ls p i) p) x) (sym same) (subst (λ xs. Contains xs i) (sym here) (Contains-push (followers_at ls p) i)))
      | inr ne ↦ still q m (a.all q m (omega (arith, l, ne)) k f)
    ]

    before : (x : Name) (m : ℕ) → m < i + 1 → Follows e x (name_at c m) → (q : ℕ) × IsName c q x
    before x m l f = elim (cases_eq m i) [
      | inl same ↦
          (p, record { known = p_in; is = one_before e (name_at c p) x (name_at c i) follows (subst (λ y. Follows e x (name_at c y)) same f) })
      | inr ne ↦ a.before x m (omega (arith, l, ne)) f
    ]

    pub one_more : AreFollowersTo c e (i + 1) (with_follower ls p i)
    one_more = record { one_each = with_length ls p i ∙ a.one_each; only = only; all = all; before = before }

-- one empty list more
pub empty_more : (ls new : List (Vec ℕ Global)) (v : Vec ℕ Global) (n : ℕ) → map (λ (l : Vec ℕ Global). l.items) ls ≡ replicate n [] → v.items ≡ [] → new ≡ ls ++ v ∷ [] → map (λ (l : Vec ℕ Global). l.items) new ≡ replicate (n + 1) []
empty_more ls new v n h e p =
    ap (map (λ (l : Vec ℕ Global). l.items)) p
    ∙ map_push (λ (l : Vec ℕ Global). l.items) ls v
    ∙ ap (λ xs. xs ++ v.items ∷ []) h
    ∙ ap (λ x. replicate n [] ++ x ∷ []) e
    ∙ replicate_more n []

empty_at : (n p : ℕ) → followers_at (replicate n []) p ≡ []
empty_at zero p = refl
empty_at (suc n) zero = refl
empty_at (suc n) (suc p) = empty_at n p

pub no_followers : (c : Contents) (e : Ending) (ls : List (List ℕ)) → ls ≡ replicate (length c.names) [] → AreFollowersTo c e 0 ls
no_followers c e ls is = record {
  one_each = ap length is ∙ length-replicate (length c.names) [];
  only = λ p m h. absurd (contains_none m (subst (λ xs. Contains xs m) (ap (λ xs. followers_at xs p) is ∙ empty_at (length c.names) p) h));
  all = λ p m l k f. absurd (omega (arith, l));
  before = λ x m l f. absurd (omega (arith, l));
}
