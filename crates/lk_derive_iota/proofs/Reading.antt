-- The reading of a major premise passes its test.
use Rattle.std.proofs.Common.{zero, suc, ◌≡◌, Bool, true, false, List, ℕ, Option, Some, None, refl, if◌then◌else◌}
use Rattle.lk_tree.specs.Tree.{Tree, app, lit, str}
use Rattle.lk_rulebook.specs.Place.{Place}
use Rattle.lk_rulebook.specs.Names.{named, nat_zero, nat_succ}
use Rattle.lk_rulebook.specs.Literals.{Reads, as_it_is, as_text, by_text, as_zero, as_succ}
use Rattle.lk_questions.specs.Steps.{is_same_tree}
use Rattle.lk_questions.specs.Strings.{text_to_ctor, literal_to_ctor}
use Rattle.lk_questions.specs.Tests.{◌>>=◌, test, passes, found, reads, reads_as}
use Rattle.lk_claims.proofs.Facts.{same_self, pass_test, found_holds}
use Rattle.lk_claims.proofs.Pieces.{Some_inj}
use Rattle.lk_claims.proofs.Readings.{sound_literal_to_ctor}

itself_or : (b : Bool) (o : Option (Unit {0})) → passes o ≡ true → passes (if b then Some tt else o) ≡ true
itself_or true o h = refl
itself_or false o h = h

read_itself : (w : Place) (m : Tree) → passes (reads w m m) ≡ true
read_itself w m = go (is_same_tree m m) (same_self m)
  where
    go : (b : Bool) → b ≡ true → passes (if b then Some tt else reads_as w m m) ≡ true
    go true e = refl
    go false e = absurd cc

found_test : (o : Option Tree) (n : Tree) → o ≡ Some n → passes (o >>= λ x. test (is_same_tree n x)) ≡ true
found_test (Some x) n e = let i : x ≡ n = Some_inj e in rw i (pass_test (is_same_tree n n) (same_self n))
found_test None n e = absurd cc

text_passes : (w : Place) (s : List ℕ) (n : Tree) → found w (text_to_ctor (str s)) ≡ Some n → passes (reads w (str s) n) ≡ true
text_passes w s n e = itself_or (is_same_tree n (str s)) (reads_as w (str s) n) (found_test (found w (text_to_ctor (str s))) n e)

reading : (w : Place) (m n : Tree) → Reads w m n → found w (literal_to_ctor m) ≡ Some n → passes (reads w m n) ≡ true
reading w (lit zero) n as_zero e = itself_or (is_same_tree (named nat_zero) (lit zero)) (reads_as w (lit zero) (named nat_zero)) (pass_test (is_same_tree (named nat_zero) (named nat_zero)) (same_self (named nat_zero)))
reading w _ _ (as_succ {n = k}) e =
    itself_or (is_same_tree (app (named nat_succ) (lit k)) (lit (suc k))) (reads_as w (lit (suc k)) (app (named nat_succ) (lit k)))
    (pass_test (is_same_tree (app (named nat_succ) (lit k)) (app (named nat_succ) (lit k))) (same_self (app (named nat_succ) (lit k))))
reading w m _ (by_text as_it_is) e = read_itself w m
reading w _ n (by_text (as_text {s = s} x)) e = text_passes w s n e

-- what a literal is found to be as a constructor
pub reads_found : (w : Place) (m n : Tree) → found w (literal_to_ctor m) ≡ Some n → Reads w m n
reads_found w m n e = found_holds w (literal_to_ctor m) (λ x. Reads w m x) n (sound_literal_to_ctor w m) e

pub reading_passes : (w : Place) (m n : Tree) → found w (literal_to_ctor m) ≡ Some n → passes (reads w m n) ≡ true
reading_passes w m n e = reading w m n (reads_found w m n e) e
