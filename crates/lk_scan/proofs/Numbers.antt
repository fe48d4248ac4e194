-- No name twice, by the names' numbers, from the last name to the first.
use Rattle.std.proofs.Common.{◌≡◌, ℕ, ◌<◌, Bool, true, false, List, [], ◌∷◌, ◌++◌, length, map, refl, ap, sym, ◌∙◌, subst, arith, append_assoc}
use Rattle.std.specs.Prelude.{All, ◌||◌, ◌&&◌, ◌==◌, not, nat_eq, if◌then◌else◌}
use Rattle.std.specs.List.{list_any}
use Rattle.std.proofs.lemmas.Bool.Decides.{nat_tests}
use Rattle.std.proofs.lemmas.List.{map-append, append-nil}
use Rattle.std.proofs.lemmas.List.Elements.{All-head, All-tail}
use Rattle.lk_tree.specs.Tree.{Name, name_discrete}
use Rattle.lk_tree.specs.Scan.{none_twice}
use Rattle.lk_tree.specs.Mentions.{is_one_of}
use Rattle.lk_store.specs.Contents.{Contents, name_at}
use Rattle.lk_store.specs.Values.{AreApart}
use Rattle.lk_scan.specs.declared.seen.Seen.{Seen}
use Rattle.lk_scan.specs.Seen.{has_number, any_number}

-- each is below n
AreBelow : ℕ → List ℕ → Type 0
AreBelow n [] = Unit {0}
AreBelow n (k ∷ ks) = (k < n) × AreBelow n ks

below_of_all : (n : ℕ) (ks : List ℕ) → All (λ k. k < n) ks → AreBelow n ks
unfolding AreBelow
below_of_all n [] h = tt
below_of_all n (k ∷ ks) h = (All-head (λ k. k < n) k ks h, below_of_all n ks (All-tail (λ k. k < n) k ks h))

module _ (c : Contents) (apart : AreApart [] c.names) where
  one_lem : (k q : ℕ) (ks : List ℕ) (d : Dec (name_at c k ≡ name_at c q)) → k < length c.names → q < length c.names → is_one_of (map (name_at c) ks) (name_at c q) ≡ any_number q ks
      → (elim d [ yes e ↦ true | no f ↦ is_one_of (map (name_at c) ks) (name_at c q) ]) ≡ (nat_eq q k || any_number q ks)
  one_lem k q ks (yes e) hk hq h = let is : nat_eq q k ≡ true = (let same = apart.apart k q hk hq e in grind (arith, nat_tests)) in rw is refl
  one_lem k q ks (no f) hk hq h = let is : nat_eq q k ≡ false = other k q f in rw is h
    where
      other : (k q : ℕ) → (name_at c k ≡ name_at c q → ⊥) → nat_eq q k ≡ false
      other k q f = go (nat_eq q k) refl
        where
          go : (b : Bool) → nat_eq q k ≡ b → nat_eq q k ≡ false
          go false e = e
          go true e = absurd (f (let same : k ≡ q = grind (arith, nat_tests, e) in ap (name_at c) same))

  -- one of the names, by their numbers
  one_of_numbers : (ks : List ℕ) (q : ℕ) → AreBelow (length c.names) ks → q < length c.names → is_one_of (map (name_at c) ks) (name_at c q) ≡ any_number q ks
  unfolding AreBelow
  one_of_numbers [] q all h = refl
  one_of_numbers (k ∷ ks) q all h = one_lem k q ks (name_discrete (name_at c k) (name_at c q)) all.0 h (one_of_numbers ks q all.1 h)

-- one of the names, where their numbers are those of names
pub one_of_known : (c : Contents) (ks : List ℕ) (q : ℕ) → AreApart [] c.names → All (λ k. k < length c.names) ks → q < length c.names → is_one_of (map (name_at c) ks) (name_at c q) ≡ any_number q ks
one_of_known c ks q apart known h = one_of_numbers c apart ks q (below_of_all (length c.names) ks known) h

eq_sym : (a b : ℕ) → nat_eq a b ≡ nat_eq b a
eq_sym a b = grind (arith, nat_tests)

-- one of the numbers, each compared with q
pub any_same : (q : ℕ) (ks : List ℕ) → list_any (λ k. nat_eq k q) ks ≡ any_number q ks
any_same q [] = refl
any_same q (k ∷ ks) = ap (λ b. b || list_any (λ k. nat_eq k q) ks) (eq_sym k q) ∙ ap (λ b. nat_eq q k || b) (any_same q ks)

-- the numbers of the rest are still to be looked at; the names of those behind them are all different, and are what was seen
pub record Looked (c : Contents) (seen : Seen) (rest ks : List ℕ) : Type 0 where
  pub done : List ℕ
  pub split : ks ≡ rest ++ done
  pub different : none_twice (map (name_at c) done) ≡ true
  pub named : (q : ℕ) → has_number seen q ≡ any_number q done

-- of fewer than two names none stands twice
pub few_different : (c : Contents) (ks : List ℕ) → length ks < 2 → none_twice (map (name_at c) ks) ≡ true
few_different c [] h = refl
few_different c (k ∷ []) h = refl
few_different c (k ∷ l ∷ ks) h = absurd (omega arith)

pub looked_begin : (c : Contents) (seen : Seen) (ks : List ℕ) → ((q : ℕ) → has_number seen q ≡ false) → Looked c seen ks ks
looked_begin c seen ks h = record { done = []; split = sym (append-nil ks); different = refl; named = h }

below_pair : (n : ℕ) (front : List ℕ) (k : ℕ) (done : List ℕ) → AreBelow n (front ++ k ∷ done) → (k < n) × AreBelow n done
unfolding AreBelow
below_pair n [] k done p = p
below_pair n (m ∷ front) k done p = below_pair n front k done p.1

not_twice : (front : List Name) (n : Name) (done : List Name) → is_one_of done n ≡ true → none_twice (front ++ n ∷ done) ≡ false
not_twice [] n done h = rw h refl
not_twice (m ∷ front) n done h = rw (not_twice front n done h) (and_false (not (is_one_of (front ++ n ∷ done) m)))
  where
    and_false : (b : Bool) → (b && false) ≡ false
    and_false true = refl
    and_false false = refl

whole_is : (rest more done ks : List ℕ) (k : ℕ) → rest ≡ more ++ k ∷ [] → ks ≡ rest ++ done → ks ≡ more ++ k ∷ done
whole_is rest more done ks k cut split = split ∙ ap (λ l. l ++ done) cut ∙ append_assoc more (k ∷ []) done

pub looked_twice : (c : Contents) (seen : Seen) (rest more ks : List ℕ) (k : ℕ) → AreApart [] c.names → All (λ n. n < length c.names) ks → rest ≡ more ++ k ∷ [] → Looked c seen rest ks → has_number seen k ≡ true
    → none_twice (map (name_at c) ks) ≡ false
looked_twice c seen rest more ks k apart known cut l h =
    let whole = whole_is rest more l.done ks k cut l.split in
    let below = below_pair (length c.names) more k l.done (subst (AreBelow (length c.names)) whole (below_of_all (length c.names) ks known)) in
    let twice = one_of_numbers c apart l.done k below.1 below.0 ∙ sym (l.named k) ∙ h in
    ap (λ x. none_twice (map (name_at c) x)) whole ∙ ap none_twice (map-append (name_at c) more (k ∷ l.done)) ∙ not_twice (map (name_at c) more) (name_at c k) (map (name_at c) l.done) twice

pub looked_more : (c : Contents) (seen new : Seen) (rest more ks : List ℕ) (k : ℕ) → AreApart [] c.names → All (λ n. n < length c.names) ks → rest ≡ more ++ k ∷ [] → Looked c seen rest ks → has_number seen k ≡ false
    → ((q : ℕ) → has_number new q ≡ (if k == q then true else has_number seen q)) → Looked c new more ks
looked_more c seen new rest more ks k apart known cut l h added =
    let whole = whole_is rest more l.done ks k cut l.split in
    let below = below_pair (length c.names) more k l.done (subst (AreBelow (length c.names)) whole (below_of_all (length c.names) ks known)) in
    let fresh : is_one_of (map (name_at c) l.done) (name_at c k) ≡ false = one_of_numbers c apart l.done k below.1 below.0 ∙ sym (l.named k) ∙ h in
    record {
      done = k ∷ l.done;
      split = whole;
      different = rw (fresh, l.different) refl;
      named = λ q. added q ∙ ap (λ x. if k == q then true else x) (l.named q) ∙ ap (λ x. if x then true else any_number q l.done) (eq_sym k q) ∙ or_if (nat_eq q k) (any_number q l.done);
    }
  where
    or_if : (b c : Bool) → (if b then true else c) ≡ (b || c)
    or_if true c = refl
    or_if false c = refl

pub looked_done : (c : Contents) (seen : Seen) (rest ks : List ℕ) → length rest ≡ 0 → Looked c seen rest ks → none_twice (map (name_at c) ks) ≡ true
looked_done c seen [] ks none l = ap (λ x. none_twice (map (name_at c) x)) l.split ∙ l.different
looked_done c seen (k ∷ rest) ks none l = absurd (omega arith)
