-- Names compared with built-in ones, the last component first.
use Rattle.std.proofs.Common.{ℕ, zero, suc, ◌≡◌, ◌+◌, ◌<◌, ◌≤◌, ◌⊎◌, inl, inr, Bool, false, List, [], ◌∷◌, ◌++◌, map, take, length, get_or, sym, ap, subst, ◌∙◌, arith}
use Rattle.std.specs.Prelude.{◌↔◌, IsTrue}
use Rattle.std.specs.List.{Contains}
use Rattle.std.proofs.lemmas.Bool.{cases_eq}
use Rattle.std.proofs.lemmas.List.{same_from_push, take_more, take_all, map_push}
use Rattle.std.proofs.lemmas.List.Elements.{Contains-append_left, Contains-push, Contains-push_cases}
use Rattle.lk_tree.specs.Tree.{Name, text}
use Rattle.lk_uses.specs.Closure.{IsIn, builtins}
use Rattle.lk_store.specs.Contents.{Contents, name_at}
use Rattle.lk_needs.specs.declared.builtins.Spelling.{Spelling}
use Rattle.lk_needs.specs.declared.thing.Thing.{Thing}
use Rattle.lk_needs.specs.declared.thing.Thing.TheVariants as thing
use Rattle.lk_needs.specs.Builtins.{spelled, IsBuiltinThing, AreBuiltinsTo}
use Rattle.lk_needs.proofs.Lists.{contains_none}

-- a name that ends in another text does not end in this one
pub other_word : (x n p : Name) (v w : List ℕ) → n ++ text v ∷ [] ≡ x → (v ≡ w → ⊥) → x ≡ p ++ text w ∷ [] → ⊥
other_word x n p v w e apart h =
    let t : text v ≡ text w = (same_from_push n p (text v) (text w) (e ∙ h)).1 in
    apart cc

-- the last components alike, what stands before them decides
pub by_front : (x n p : Name) (w : List ℕ) (b : Bool) → x ≡ n ++ text w ∷ [] → (IsTrue b ↔ (n ≡ p)) → (IsTrue b ↔ (x ≡ p ++ text w ∷ []))
by_front x n p w b e h = (λ t. e ∙ ap (λ y. y ++ text w ∷ []) (h.0 t), λ f. h.1 (same_from_push n p (text w) (text w) (sym e ∙ f)).0)

pub no_front : (x p : Name) (w : List ℕ) → ((n : Name) → x ≡ n ++ text w ∷ [] → ⊥) → (IsTrue false ↔ (x ≡ p ++ text w ∷ []))
no_front x p w none = (λ t. absurd cc, λ e. absurd (none p e))

-- One of several names.
is_in_push : (x : Name) (ns : List Name) (n : Name) → IsIn x (ns ++ n ∷ []) → IsIn x ns ⊎ (n ≡ x)
is_in_push x [] n (inl e) = inr e
is_in_push x [] n (inr h) = absurd h
is_in_push x (m ∷ ns) n (inl e) = inl (inl e)
is_in_push x (m ∷ ns) n (inr h) = elim (is_in_push x ns n h) [ inl k ↦ inl (inr k) | inr e ↦ inr e ]

pub found_in : (x : Name) (ss : List Spelling) (i : ℕ) (d : Spelling) → i < length ss → spelled (get_or ss i d) ≡ x → IsIn x (map spelled ss)
found_in x [] i d l h = absurd (omega arith)
found_in x (t ∷ ss) zero d l h = inl h
found_in x (t ∷ ss) (suc i) d l h = inr (found_in x ss i d (omega arith) h)

pub not_yet : (x : Name) (ss : List Spelling) (i : ℕ) (d : Spelling) → i < length ss → (spelled (get_or ss i d) ≡ x → ⊥) → (IsIn x (map spelled (take i ss)) → ⊥) → IsIn x (map spelled (take (i + 1) ss)) → ⊥
not_yet x ss i d l other before h =
    let s : Spelling = get_or ss i d in
    let k = is_in_push x (map spelled (take i ss)) (spelled s) (subst (IsIn x) (ap (map spelled) (take_more ss i d l) ∙ map_push spelled (take i ss) s) h) in
    elim k [ inl p ↦ before p | inr p ↦ other p ]

pub not_in : (x : Name) (ss : List Spelling) (i : ℕ) → length ss ≤ i → (IsIn x (map spelled (take i ss)) → ⊥) → (IsTrue false ↔ IsIn x (map spelled ss))
not_in x ss i e none = (λ t. absurd cc, λ h. absurd (none (subst (λ ts. IsIn x (map spelled ts)) (sym (take_all i ss e)) h)))

-- One name more is looked at.
pub no_builtins : (c : Contents) (ts : List Thing) → ts ≡ [] → AreBuiltinsTo c 0 ts
no_builtins c ts e = record { only = λ t h. absurd (contains_none t (subst (λ xs. Contains xs t) e h)); all = λ n l h. absurd (omega (arith, l)) }

module _ (c : Contents) (i : ℕ) (ts : List Thing) (a : AreBuiltinsTo c i ts) where
  pub not_builtin : (IsIn (name_at c i) builtins → ⊥) → AreBuiltinsTo c (i + 1) ts
  not_builtin none = record { only = a.only; all = all }
    where
      all : (n : ℕ) → n < i + 1 → IsIn (name_at c n) builtins → Contains ts (thing.Name n)
      all n l h = elim (cases_eq n i) [
        | inl e ↦ absurd (none (subst (λ k. IsIn (name_at c k) builtins) e h))
        | inr ne ↦ a.all n (omega (arith, l, ne)) h
      ]

  pub one_builtin : (us : List Thing) → i < length c.names → IsIn (name_at c i) builtins → us ≡ ts ++ thing.Name i ∷ [] → AreBuiltinsTo c (i + 1) us
  one_builtin us i_in here is = subst (AreBuiltinsTo c (i + 1)) (sym is) (record { only = only; all = all })
    where
      only : (t : Thing) → Contains (ts ++ thing.Name i ∷ []) t → IsBuiltinThing c t
      only t h = elim (Contains-push_cases ts (thing.Name i) t h) [
        | inl k ↦ a.only t k
        | inr e ↦ record { name = i; is_name = sym e; name_in = i_in; is_builtin = here }
      ]

      all : (n : ℕ) → n < i + 1 → IsIn (name_at c n) builtins → Contains (ts ++ thing.Name i ∷ []) (thing.Name n)
      all n l h = elim (cases_eq n i) [
        | inl e ↦ subst (λ k. Contains (ts ++ thing.Name i ∷ []) (thing.Name k)) (sym e) (Contains-push ts (thing.Name i))
        | inr ne ↦ Contains-append_left ts (thing.Name i ∷ []) (thing.Name n) (a.all n (omega (arith, l, ne)) h)
      ]
