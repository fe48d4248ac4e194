-- The fault of a line that may not stand where it stands.
use Rattle.std.proofs.Common.{◌≡◌, ℕ, ◌==◌, true, false, List, [], ◌∷◌, length, Ok, Err, None, refl, arith}
use Rattle.std.specs.Prelude.{Result, IfOk, IfErr, OnOk}
use Rattle.std.proofs.lemmas.Bool.Decides.{nat_tests}
use Rattle.lk_store.specs.Contents.{Contents}
use Rattle.lk_lines.specs.declared.words.Word.{Word}
use Rattle.lk_lines.specs.declared.words.Word.TheVariants.{TraceOrder, IndexUnknown}
use Rattle.lk_units.specs.State.{State, all_known}
use Rattle.lk_units.specs.Held.{Fails, Makes, Follows}
use Rattle.lk_units.specs.declared.assembler.Assembler.{Assembler}
use Rattle.lk_units.specs.declared.assembler.TakeError.{TakeError}
use Rattle.lk_units.specs.declared.assembler.TakeError.TheVariants as errors
use Rattle.lk_units.proofs.Lines.{fails_then}
use Rattle.lk_traced.specs.Placed.{misplaced}

-- a line that an assembler took
pub follows_misplaced : (B : Type 0) (a : Assembler) (c : Contents) (r : Result (Unit {0}) TakeError) (said : Result State Word) (e : TakeError) → Follows a c r said
    → IfOk r (λ u. e ≡ errors.Fault TraceOrder) → IfErr r (λ x. e ≡ x) → Fails e (misplaced {B = B} said)
follows_misplaced B a c (Ok u) said e f ok err = rw (ok, f.1) refl
follows_misplaced B a c (Err x) said e f ok err = rw err (fails_then x said (λ y. Err TraceOrder) f)

-- something that a line made
pub makes_misplaced : {A X : Type 0} (B : Type 0) (have : A → X) (r : Result A TakeError) (said : Result X Word) (e : TakeError) → Makes have r said
    → IfOk r (λ x. e ≡ errors.Fault TraceOrder) → IfErr r (λ x. e ≡ x) → Fails e (misplaced {B = B} said)
makes_misplaced B have (Ok x) said e m ok err = rw (ok, m) refl
makes_misplaced B have (Err x) said e m ok err = rw err (fails_then x said (λ y. Err TraceOrder) m)

-- a fault of the line's own
pub fails_misplaced : {X : Type 0} (B : Type 0) (e : TakeError) (said : Result X Word) → Fails e said → Fails e (misplaced {B = B} said)
fails_misplaced B e said h = fails_then e said (λ y. Err TraceOrder) h

-- premises of a line that stands in no section
pub no_parts : (ps : List ℕ) → (length ps == 0) ≡ true → misplaced {B = State} (all_known {X = ℕ} (λ j. None) ps) ≡ Err TraceOrder
no_parts [] h = refl
no_parts (p ∷ ps) h = absurd (let none : length (p ∷ ps) ≡ 0 = grind (arith, nat_tests) in omega arith)

pub some_parts : (ps : List ℕ) → (length ps == 0) ≡ false → misplaced {B = State} (all_known {X = ℕ} (λ j. None) ps) ≡ Err IndexUnknown
some_parts [] h = absurd (cc)
some_parts (p ∷ ps) h = refl

-- what holds where something was taken
module _ {A E : Type 0} (r : Result A E) where
  pub on_ok : (P Q : Type 0) → (P → Q) → OnOk r P → OnOk r Q
  on_ok P Q f h = go r h
    where
      go : (q : Result A E) → OnOk q P → OnOk q Q
      go (Ok x) k = f k
      go (Err e) k = tt

  pub on_any : (P : Type 0) → P → OnOk r P
  on_any P h = go r
    where
      go : (q : Result A E) → OnOk q P
      go (Ok x) = h
      go (Err e) = tt

  pub on_both : (P Q R : Type 0) → (P → Q → R) → OnOk r P → OnOk r Q → OnOk r R
  on_both P Q R f h k = go r h k
    where
      go : (q : Result A E) → OnOk q P → OnOk q Q → OnOk q R
      go (Ok x) a b = f a b
      go (Err e) a b = tt
