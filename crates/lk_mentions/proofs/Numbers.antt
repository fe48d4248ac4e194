-- One of the names, by their numbers.
use Rattle.std.proofs.Common.{◌≡◌, ℕ, ◌<◌, Bool, true, false, List, [], ◌∷◌, length, refl, ap, arith}
use Rattle.std.specs.Prelude.{All, ◌||◌, nat_eq}
use Rattle.std.proofs.lemmas.Bool.Decides.{nat_tests}
use Rattle.std.proofs.lemmas.List.Elements.{All-head, All-tail}
use Rattle.lk_tree.specs.Tree.{name_discrete}
use Rattle.lk_tree.specs.Mentions.{is_one_of}
use Rattle.lk_store.specs.Contents.{Contents, name_at}
use Rattle.lk_store.specs.Values.{AreApart}
use Rattle.lk_mentions.specs.Names.{any_number, names_at}

-- each is below n
AreBelow : ℕ → List ℕ → Type 0
AreBelow n [] = Unit {0}
AreBelow n (k ∷ ks) = (k < n) × AreBelow n ks

below_of_all : (n : ℕ) (ks : List ℕ) → All (λ k. k < n) ks → AreBelow n ks
unfolding AreBelow
below_of_all n [] h = tt
below_of_all n (k ∷ ks) h = (All-head (λ k. k < n) k ks h, below_of_all n ks (All-tail (λ k. k < n) k ks h))

module _ (c : Contents) (apart : AreApart [] c.names) where
  one_lem : (k q : ℕ) (ks : List ℕ) (d : Dec (name_at c k ≡ name_at c q)) → k < length c.names → q < length c.names → any_number q ks ≡ is_one_of (names_at c ks) (name_at c q)
      → (nat_eq q k || any_number q ks) ≡ (elim d [ yes e ↦ true | no f ↦ is_one_of (names_at c ks) (name_at c q) ])
  one_lem k q ks (yes e) hk hq h = let is : nat_eq q k ≡ true = (let same = apart.apart k q hk hq e in grind (arith, nat_tests)) in rw is refl
  one_lem k q ks (no f) hk hq h = let is : nat_eq q k ≡ false = other k q f in rw is h
    where
      other : (k q : ℕ) → (name_at c k ≡ name_at c q → ⊥) → nat_eq q k ≡ false
      other k q f = go (nat_eq q k) refl
        where
          go : (b : Bool) → nat_eq q k ≡ b → nat_eq q k ≡ false
          go false e = e
          go true e = absurd (f (let same : k ≡ q = grind (arith, nat_tests, e) in ap (name_at c) same))

  one_of_numbers : (ks : List ℕ) (q : ℕ) → AreBelow (length c.names) ks → q < length c.names → any_number q ks ≡ is_one_of (names_at c ks) (name_at c q)
  unfolding AreBelow
  one_of_numbers [] q all h = refl
  one_of_numbers (k ∷ ks) q all h = one_lem k q ks (name_discrete (name_at c k) (name_at c q)) all.0 h (one_of_numbers ks q all.1 h)

-- one of the names, where their numbers are those of names
pub one_of_known : (c : Contents) (ks : List ℕ) (q : ℕ) → AreApart [] c.names → All (λ k. k < length c.names) ks → q < length c.names → any_number q ks ≡ is_one_of (names_at c ks) (name_at c q)
one_of_known c ks q apart known h = one_of_numbers c apart ks q (below_of_all (length c.names) ks known) h
