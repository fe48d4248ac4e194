-- What a program gives, told of things that are equal.
use Rattle.std.proofs.Common.{◌≡◌, ℕ, Result, subst}
use Rattle.lk_questions.specs.Program.{Program}
use Rattle.lk_ask.specs.declared.stop.Stop.{Stop}
use Rattle.lk_ask.specs.Asking.{Standing}
use Rattle.lk_declaration.specs.Courses.{ComesTo}

pub gives_moved : {A X Base : Type 0} (t u : Standing Base) → u ≡ t → (p q : Program A) → q ≡ p → (b c : ℕ) → c ≡ b → (value : X → A) (left : ℕ) (r : Result X Stop) → ComesTo u q c value left r → ComesTo t p b value left r
gives_moved t u stays p q program b c budget value left r gives =
    subst (λ n. ComesTo t p n value left r) budget
    (subst (λ y. ComesTo t y c value left r) program
    (subst (λ y. ComesTo y q c value left r) stays gives))
