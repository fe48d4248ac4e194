-- Laws asked one after another.
use Rattle.std.proofs.Common.{◌≡◌, ℕ, Bool, true, false, List, [], ◌∷◌, length, map, refl, ap, ◌∙◌, arith}
use Rattle.lk_tree.specs.declared.rule.Rule.TheVariants.{NatLaw}
use Rattle.lk_rulebook.specs.Place.{Place}
use Rattle.lk_rulebook.specs.NumberLaws.{Law}
use Rattle.lk_questions.specs.Query.{Query, same}
use Rattle.lk_questions.specs.Program.{done, asked, ◌>>=◌}
use Rattle.lk_questions.specs.Erased.{Out}
use Rattle.lk_questions.specs.Steps.{given}
use Rattle.lk_questions.specs.NumberLaws.{held_given, laws_hold}
use Rattle.lk_declaration.specs.Courses.{run_then}
use Rattle.lk_declaration.proofs.Leading.{Splits}
use Rattle.lk_declaration.proofs.Running.{bind_same}
use Rattle.lk_laws.specs.Steps.{sides_equal, law_holds}

module _ (answer : Query → ℕ → Out) (w : Place) (law : Law) (laws : List Law)
    (k : Unit {0} → ℕ → Out) where
  abbrev next : Unit {0} → ℕ → Out
  next u left = run_then answer w (laws_hold laws) left k

  equal_then : (equal : Bool) (left : ℕ)
      → run_then answer w (given equal NatLaw (laws_hold laws)) left k
      ≡ run_then answer w (given equal NatLaw (done tt)) left next
  equal_then true left = refl
  equal_then false left = refl

  law_then : (b : ℕ) → run_then answer w (laws_hold (law ∷ laws)) b k
      ≡ run_then answer w (law_holds law) b next
  law_then b =
      let sides = asked (same law.left law.right) in
      let all : Bool → _ = λ equal. given equal NatLaw (laws_hold laws) in
      let one : Bool → _ = λ equal. given equal NatLaw (done tt) in
      bind_same answer w (held_given law.holds) (λ u. sides >>= all)
      (λ u. sides_equal law.left law.right) b k next
      (λ u left. bind_same answer w sides all one left k next equal_then)

-- the first law, and then those behind it
pub law_split : (xs : List Law) (law : Law) (laws : List Law) → xs ≡ law ∷ laws
    → Splits (laws_hold xs) (law_holds law) (λ (u : Unit {0}). laws_hold laws)
law_split xs law laws is = record {
  run = λ answer w b k. ap (λ ys. run_then answer w (laws_hold ys) b k) is
      ∙ law_then answer w law laws k b;
}

pub none_left : {X Y : Type 0} (f : X → Y) (xs : List X) → length xs ≡ 0 → map f xs ≡ []
none_left f [] e = refl
none_left f (x ∷ xs) e = absurd (omega arith)
