-- Lists of names by their numbers: equal lists, and no name twice, from the last name to the first.
use Rattle.std.proofs.Common.{◌≡◌, ℕ, Bool, true, false, List, [], ◌∷◌, ◌++◌, length, refl, ap, sym, ◌∙◌, arith, append_assoc}
use Rattle.std.specs.Prelude.{◌||◌, ◌&&◌, not, nat_eq, if◌then◌else◌}
use Rattle.std.specs.List.{list_any}
use Rattle.std.specs.HashSet.{HashSet, contains}
use Rattle.std.proofs.lemmas.Bool.Decides.{nat_tests}
use Rattle.std.proofs.lemmas.List.{append-nil}
use Rattle.lk_members.specs.Lines.{has, same_list, is_distinct}

pub has_any : (xs : List ℕ) (n : ℕ) → list_any (λ y. nat_eq y n) xs ≡ has nat_eq xs n
has_any [] n = refl
has_any (x ∷ xs) n = ap (λ b. nat_eq x n || b) (has_any xs n)

nat_eq_refl : (n : ℕ) → nat_eq n n ≡ true
nat_eq_refl n = grind (arith, nat_tests)

pub same_self : (us : List ℕ) → same_list nat_eq us us ≡ true
same_self [] = refl
same_self (u ∷ us) = rw (nat_eq_refl u, same_self us) refl

both : (a b : Bool) → (a && b) ≡ true → (a ≡ true) × (b ≡ true)
both true true e = (refl, refl)
both true false e = absurd (cc)
both false b e = absurd (cc)

number_same : (m n : ℕ) → nat_eq m n ≡ true → m ≡ n
number_same m n e = grind (arith, nat_tests)

pub lists_same : (us ts : List ℕ) → same_list nat_eq us ts ≡ true → us ≡ ts
lists_same [] [] e = refl
lists_same [] (t ∷ ts) e = absurd (cc)
lists_same (u ∷ us) [] e = absurd (cc)
lists_same (u ∷ us) (t ∷ ts) e =
    let h = both (nat_eq u t) (same_list nat_eq us ts) e in
    let one = number_same u t h.0 in
    let more = lists_same us ts h.1 in
    ap (λ x. x ∷ us) one ∙ ap (λ x. t ∷ x) more

-- the names of the rest are still to be looked at; those behind them are all different, and are what was seen
pub record Looked {S : Type 0} (seen : HashSet ℕ S) (rest names : List ℕ) : Type 0 where
  pub done : List ℕ
  pub split : names ≡ rest ++ done
  pub different : is_distinct nat_eq done ≡ true
  pub named : (q : ℕ) → contains nat_eq seen q ≡ has nat_eq done q

pub looked_begin : {S : Type 0} (seen : HashSet ℕ S) (names : List ℕ) → ((q : ℕ) → contains nat_eq seen q ≡ false) → Looked seen names names
looked_begin seen names h = record { done = []; split = sym (append-nil names); different = refl; named = h }

not_distinct : (front : List ℕ) (n : ℕ) (done : List ℕ) → has nat_eq done n ≡ true → is_distinct nat_eq (front ++ n ∷ done) ≡ false
not_distinct [] n done h = rw h refl
not_distinct (m ∷ front) n done h = rw (not_distinct front n done h) (and_false (not (has nat_eq (front ++ n ∷ done) m)))
  where
    and_false : (b : Bool) → (b && false) ≡ false
    and_false true = refl
    and_false false = refl

whole_is : (rest more done names : List ℕ) (k : ℕ) → rest ≡ more ++ k ∷ [] → names ≡ rest ++ done → names ≡ more ++ k ∷ done
whole_is rest more done names k cut split = split ∙ ap (λ l. l ++ done) cut ∙ append_assoc more (k ∷ []) done

pub looked_twice : {S : Type 0} (seen : HashSet ℕ S) (rest more names : List ℕ) (k : ℕ) → rest ≡ more ++ k ∷ [] → Looked seen rest names → contains nat_eq seen k ≡ true → false ≡ is_distinct nat_eq names
looked_twice seen rest more names k cut l h =
    let twice = sym (l.named k) ∙ h in
    sym (ap (is_distinct nat_eq) (whole_is rest more l.done names k cut l.split) ∙ not_distinct more k l.done twice)

pub looked_more : {S : Type 0} (seen new : HashSet ℕ S) (rest more names : List ℕ) (k : ℕ) → rest ≡ more ++ k ∷ [] → Looked seen rest names → contains nat_eq seen k ≡ false
    → ((q : ℕ) → contains nat_eq new q ≡ (if nat_eq k q then true else contains nat_eq seen q)) → Looked new more names
looked_more seen new rest more names k cut l h added =
    let fresh = sym (l.named k) ∙ h in
    record {
      done = k ∷ l.done;
      split = whole_is rest more l.done names k cut l.split;
      different = rw (fresh, l.different) refl;
      named = λ q. added q ∙ ap (λ x. if nat_eq k q then true else x) (l.named q) ∙ or_if (nat_eq k q) (has nat_eq l.done q);
    }
  where
    or_if : (b c : Bool) → (if b then true else c) ≡ (b || c)
    or_if true c = refl
    or_if false c = refl

pub looked_done : {S : Type 0} (seen : HashSet ℕ S) (rest names : List ℕ) → length rest ≡ 0 → Looked seen rest names → true ≡ is_distinct nat_eq names
looked_done seen [] names none l = sym (ap (is_distinct nat_eq) l.split ∙ l.different)
looked_done seen (k ∷ rest) names none l = absurd (omega arith)
