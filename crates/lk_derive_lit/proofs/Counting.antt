-- Two terms of which one is a number.
use Rattle.std.proofs.Common.{ℕ, zero, suc, ◌≡◌, ◌+◌, ◌^◌, ◌<◌, ◌≤◌, ◌⊎◌, inl, inr, Bool, true, false, [], ◌∷◌, Option, Some, None, refl, sym, ◌∙◌, subst, ap, arith, if◌then◌else◌}
use Rattle.lk_tree.specs.Tree.{Tree, const, app, lit}
use Rattle.lk_tree.specs.Mentions.{same_name}
use Rattle.lk_tree.specs.WellFormed.{IsWellFormed}
use Rattle.lk_rulebook.specs.Place.{Place}
use Rattle.lk_rulebook.specs.Names.{named, nat_zero, nat_succ}
use Rattle.lk_rulebook.specs.Claims.{Claim, equals}
use Rattle.lk_questions.specs.Query.{same}
use Rattle.lk_questions.specs.Program.{done, asked}
use Rattle.lk_questions.specs.Pairs.{Line, answers, goes_on}
use Rattle.lk_questions.specs.Steps.{is_same_tree}
use Rattle.lk_questions.specs.LiteralLines.{NatCtor, is_zero, is_succ, nat_ctor, lit_first, lit_second, same_numbers}
use Rattle.lk_claims.proofs.Pieces.{same_name_right}
use Rattle.lk_written.specs.Line.{zero_rule, succ_rule}
use Rattle.lk_written_sound.proofs.EqualRules.{same_self_name}
use Rattle.lk_store.specs.Contents.{Contents}
use Rattle.lk_lit.specs.Literals.{number_in}
use Rattle.lk_lit.specs.Operations.{is_app}
use Rattle.lk_step.specs.declared.step.Row.{Row}
use Rattle.lk_step.specs.Steps.{equality, StepHolds}
use Rattle.lk_step.specs.Makes.{IsMade}
use Rattle.lk_step.specs.Rows.{no_claim, a_claim}
use Rattle.lk_step.specs.Runs.{Runs}
use Rattle.lk_step.specs.Tells.{Tells}
use Rattle.lk_step.proofs.Bases.{one_step, basis_made}
use Rattle.lk_step.proofs.EqualitySteps.{equality_steps}
use Rattle.lk_step.proofs.PartsIn.{apart}
use Rattle.lk_derive_lit.specs.Undenied.{NeverDenies}
use Rattle.lk_derive_lit.proofs.Literal.{AnswersYes, answers_yes}

-- what is no constructor
pub no_successor : (f x : Tree) → is_same_tree f (named nat_succ) ≡ false → nat_ctor (app f x) ≡ None
no_successor (const c []) x h = go (same_name c nat_succ) refl
  where
    go : (b : Bool) → same_name c nat_succ ≡ b → (if b then Some (is_succ x) else None) ≡ None
    go true e = absurd (apart (const c []) (named nat_succ) h (ap named (same_name_right c nat_succ e)))
    go false e = refl
no_successor (const c (l ∷ ls)) x h = refl
no_successor _ x h = refl

pub no_zero : (e : Tree) → is_app e ≡ false → is_same_tree e (named nat_zero) ≡ false → nat_ctor e ≡ None
no_zero (app f x) a h = absurd cc
no_zero (const c []) a h = go (same_name c nat_zero) refl
  where
    go : (b : Bool) → same_name c nat_zero ≡ b → (if b then Some is_zero else None) ≡ None
    go true e = absurd (apart (const c []) (named nat_zero) h (ap named (same_name_right c nat_zero e)))
    go false e = refl
no_zero (const c (l ∷ ls)) a h = refl
no_zero _ a h = refl

zero_is : nat_ctor (named nat_zero) ≡ Some is_zero
zero_is = ap (λ b. if b then Some is_zero else None) (same_self_name nat_zero)

succ_is : (x : Tree) → nat_ctor (app (named nat_succ) x) ≡ Some (is_succ x)
succ_is x = ap (λ b. if b then Some (is_succ x) else None) (same_self_name nat_succ)

-- the line of a number and a constructor
first_line : (x y : Tree) (n : ℕ) (o : Option NatCtor) → x ≡ lit n → nat_ctor y ≡ o → same_numbers x y ≡ lit_first n o
first_line x y n o e i = ap (λ z. same_numbers z y) e ∙ ap (λ z. lit_first n z) i

second_side : (x : Tree) (n : ℕ) → number_in x ≡ None → same_numbers x (lit n) ≡ lit_second (nat_ctor x) n
second_side (lit m) n h = absurd cc
second_side _ n h = refl

second_line : (x y : Tree) (n : ℕ) (o : Option NatCtor) → y ≡ lit n → number_in x ≡ None → nat_ctor x ≡ o → same_numbers x y ≡ lit_second o n
second_line x y n o e h i = ap (λ z. same_numbers x z) e ∙ second_side x n h ∙ ap (λ z. lit_second z n) i

no_first : (n : ℕ) → lit_first n None ≡ goes_on
no_first zero = refl
no_first (suc n) = refl

neither : (x y : Tree) → number_in x ≡ None → number_in y ≡ None → same_numbers x y ≡ goes_on
neither (lit n) y h k = absurd cc
neither x (lit n) h k = absurd cc
neither x y h k = refl

-- what is told by a line
tells_none : (w : Place) (d : Contents) (line : Line) (claim : Claim) → line ≡ goes_on → Tells w d line claim None
tells_none w d line claim e says n h = let r : Runs w goes_on says n = subst (λ l. Runs w l says n) e h in sym r.0

tells_denied : (w : Place) (d : Contents) (line : Line) (claim : Claim) → line ≡ done (Some false) → NeverDenies w line → Tells w d line claim None
tells_denied w d line claim e u says n h = let r : Runs w (done (Some false)) says n = subst (λ l. Runs w l says n) e h in absurd (u.never says n h (sym r.0))

tells_zero : (w : Place) (d : Contents) (line : Line) (x y : Tree) (r : Row) → (x ≡ lit 0) × (y ≡ named nat_zero) ⊎ (x ≡ named nat_zero) × (y ≡ lit 0) → IsMade d [] (equality zero_rule x y [] ∷ []) r → Tells w d line (equals x y) (Some r)
tells_zero w d line x y r k made says n h =
    basis_made w d (equals x y) n [] (equality zero_rule x y [] ∷ []) r made (one_step w (equality zero_rule x y []) [] [] 0 n no_claim (omega arith) (holds k) refl)
  where
    holds : (x ≡ lit 0) × (y ≡ named nat_zero) ⊎ (x ≡ named nat_zero) × (y ≡ lit 0) → StepHolds w (equality zero_rule x y [])
    holds (inl e) = subst (λ z. StepHolds w (equality zero_rule z y [])) (sym e.0) (subst (λ z. StepHolds w (equality zero_rule (lit 0) z [])) (sym e.1) (equality_steps w).zero_left)
    holds (inr e) = subst (λ z. StepHolds w (equality zero_rule z y [])) (sym e.0) (subst (λ z. StepHolds w (equality zero_rule (named nat_zero) z [])) (sym e.1) (equality_steps w).zero_right)

tells_succ : (w : Place) (d : Contents) (line : Line) (x y l r : Tree) (row : Row) → line ≡ answers (asked (same l r)) → NeverDenies w line → IsWellFormed l → IsWellFormed r → StepHolds w (equality succ_rule x y (equals l r ∷ [])) →
    IsMade d (same l r ∷ []) (equality succ_rule x y (equals l r ∷ []) ∷ []) row → Tells w d line (equals x y) (Some row)
tells_succ w d line x y l r row e u fl fr holds made says n h =
    let yes : AnswersYes w l r n = answers_yes w l r says n (subst (λ z. Runs w z says n) e h) (u.never says n h) in
    let paid : yes.cost ≤ n = yes.paid in
    basis_made w d (equals x y) n (same l r ∷ []) (equality succ_rule x y (equals l r ∷ []) ∷ []) row made
    (one_step w (equality succ_rule x y (equals l r ∷ [])) (same l r ∷ []) (equals l r ∷ []) (yes.cost + 0) n (a_claim (same l r) true yes.cost (fl, fr) yes.answered refl no_claim) (omega (arith, paid)) holds refl)

zero_denied : (n : ℕ) → (n ≡ 0 → ⊥) → lit_first n (Some is_zero) ≡ done (Some false)
zero_denied zero h = absurd (h refl)
zero_denied (suc n) h = refl

zero_denied_second : (n : ℕ) → (n ≡ 0 → ⊥) → lit_second (Some is_zero) n ≡ done (Some false)
zero_denied_second zero h = absurd (h refl)
zero_denied_second (suc n) h = refl

below : (top m : ℕ) → suc m < top → m < top
below top m h = omega (arith, h)

before_fine : (m : ℕ) → IsWellFormed (lit (suc m)) → IsWellFormed (lit m)
before_fine m h = below (2 ^ 128) m h

ctor_zero : (y : Tree) → y ≡ named nat_zero → nat_ctor y ≡ Some is_zero
ctor_zero y e = ap nat_ctor e ∙ zero_is

ctor_succ : (y u : Tree) → y ≡ app (named nat_succ) u → nat_ctor y ≡ Some (is_succ u)
ctor_succ y u e = ap nat_ctor e ∙ succ_is u

-- the number stands first
module _ (w : Place) (d : Contents) (x y : Tree) (n : ℕ) (is : x ≡ lit n) where
  pub first_nothing : nat_ctor y ≡ None → Tells w d (same_numbers x y) (equals x y) None
  first_nothing h = tells_none w d (same_numbers x y) (equals x y) (first_line x y n None is h ∙ no_first n)

  pub first_above : y ≡ named nat_zero → (n ≡ 0 → ⊥) → NeverDenies w (same_numbers x y) → Tells w d (same_numbers x y) (equals x y) None
  first_above e h u = tells_denied w d (same_numbers x y) (equals x y) (first_line x y n (Some is_zero) is (ctor_zero y e) ∙ zero_denied n h) u

  pub first_below : (t : Tree) → y ≡ app (named nat_succ) t → n ≡ 0 → NeverDenies w (same_numbers x y) → Tells w d (same_numbers x y) (equals x y) None
  first_below t e h u = tells_denied w d (same_numbers x y) (equals x y) (first_line x y n (Some (is_succ t)) is (ctor_succ y t e) ∙ ap (λ z. lit_first z (Some (is_succ t))) h) u

  pub first_zero : (r : Row) → y ≡ named nat_zero → n ≡ 0 → IsMade d [] (equality zero_rule x y [] ∷ []) r → Tells w d (same_numbers x y) (equals x y) (Some r)
  first_zero r e h made = tells_zero w d (same_numbers x y) x y r (inl (is ∙ ap lit h, e)) made

  pub first_succ : (m : ℕ) (t : Tree) (r : Row) → n ≡ suc m → y ≡ app (named nat_succ) t → NeverDenies w (same_numbers x y) → IsWellFormed x → IsWellFormed y →
      IsMade d (same (lit m) t ∷ []) (equality succ_rule x y (equals (lit m) t ∷ []) ∷ []) r → Tells w d (same_numbers x y) (equals x y) (Some r)
  first_succ m t r h e u fx fy made =
      let ex : x ≡ lit (suc m) = is ∙ ap lit h in
      let fn : IsWellFormed (lit (suc m)) = subst IsWellFormed ex fx in
      let fa : IsWellFormed (app (named nat_succ) t) = subst IsWellFormed e fy in
      tells_succ w d (same_numbers x y) x y (lit m) t r (first_line x y n (Some (is_succ t)) is (ctor_succ y t e) ∙ ap (λ z. lit_first z (Some (is_succ t))) h) u (before_fine m fn) fa.1
      (subst (λ z. StepHolds w (equality succ_rule z y (equals (lit m) t ∷ []))) (sym ex) (subst (λ z. StepHolds w (equality succ_rule (lit (suc m)) z (equals (lit m) t ∷ []))) (sym e) ((equality_steps w).succ_left m t fn fa.1))) made

-- the number stands second
module _ (w : Place) (d : Contents) (x y : Tree) (n : ℕ) (is : y ≡ lit n) (other : number_in x ≡ None) where
  pub second_nothing : nat_ctor x ≡ None → Tells w d (same_numbers x y) (equals x y) None
  second_nothing h = tells_none w d (same_numbers x y) (equals x y) (second_line x y n None is other h)

  pub second_above : x ≡ named nat_zero → (n ≡ 0 → ⊥) → NeverDenies w (same_numbers x y) → Tells w d (same_numbers x y) (equals x y) None
  second_above e h u = tells_denied w d (same_numbers x y) (equals x y) (second_line x y n (Some is_zero) is other (ctor_zero x e) ∙ zero_denied_second n h) u

  pub second_below : (t : Tree) → x ≡ app (named nat_succ) t → n ≡ 0 → NeverDenies w (same_numbers x y) → Tells w d (same_numbers x y) (equals x y) None
  second_below t e h u = tells_denied w d (same_numbers x y) (equals x y) (second_line x y n (Some (is_succ t)) is other (ctor_succ x t e) ∙ ap (λ z. lit_second (Some (is_succ t)) z) h) u

  pub second_zero : (r : Row) → x ≡ named nat_zero → n ≡ 0 → IsMade d [] (equality zero_rule x y [] ∷ []) r → Tells w d (same_numbers x y) (equals x y) (Some r)
  second_zero r e h made = tells_zero w d (same_numbers x y) x y r (inr (e, is ∙ ap lit h)) made

  pub second_succ : (m : ℕ) (t : Tree) (r : Row) → n ≡ suc m → x ≡ app (named nat_succ) t → NeverDenies w (same_numbers x y) → IsWellFormed x → IsWellFormed y →
      IsMade d (same t (lit m) ∷ []) (equality succ_rule x y (equals t (lit m) ∷ []) ∷ []) r → Tells w d (same_numbers x y) (equals x y) (Some r)
  second_succ m t r h e u fx fy made =
      let ey : y ≡ lit (suc m) = is ∙ ap lit h in
      let fn : IsWellFormed (lit (suc m)) = subst IsWellFormed ey fy in
      let fa : IsWellFormed (app (named nat_succ) t) = subst IsWellFormed e fx in
      tells_succ w d (same_numbers x y) x y t (lit m) r (second_line x y n (Some (is_succ t)) is other (ctor_succ x t e) ∙ ap (λ z. lit_second (Some (is_succ t)) z) h) u fa.1 (before_fine m fn)
      (subst (λ z. StepHolds w (equality succ_rule z y (equals t (lit m) ∷ []))) (sym e) (subst (λ z. StepHolds w (equality succ_rule (app (named nat_succ) t) z (equals t (lit m) ∷ []))) (sym ey) ((equality_steps w).succ_right m t fn fa.1))) made

pub neither_number : (w : Place) (d : Contents) (x y : Tree) → number_in x ≡ None → number_in y ≡ None → Tells w d (same_numbers x y) (equals x y) None
neither_number w d x y h k = tells_none w d (same_numbers x y) (equals x y) (neither x y h k)

-- what is made, by trees that are these
pub zero_made : (d : Contents) (r : Row) (a b x y : Tree) → a ≡ x → b ≡ y → IsMade d [] (equality zero_rule a b [] ∷ []) r → IsMade d [] (equality zero_rule x y [] ∷ []) r
zero_made d r a b x y ea eb h = subst (λ z. IsMade d [] (equality zero_rule z y [] ∷ []) r) ea (subst (λ z. IsMade d [] (equality zero_rule a z [] ∷ []) r) eb h)

pub succ_made : (d : Contents) (r : Row) (a b l u x y m t : Tree) → a ≡ x → b ≡ y → l ≡ m → u ≡ t → IsMade d (same l u ∷ []) (equality succ_rule a b (equals l u ∷ []) ∷ []) r → IsMade d (same m t ∷ []) (equality succ_rule x y (equals m t ∷ []) ∷ []) r
succ_made d r a b l u x y m t ea eb el eu h =
    subst (λ z. IsMade d (same m t ∷ []) (equality succ_rule z y (equals m t ∷ []) ∷ []) r) ea
    (subst (λ z. IsMade d (same m t ∷ []) (equality succ_rule a z (equals m t ∷ []) ∷ []) r) eb
    (subst (λ z. IsMade d (same z t ∷ []) (equality succ_rule a b (equals z t ∷ []) ∷ []) r) el
    (subst (λ z. IsMade d (same l z ∷ []) (equality succ_rule a b (equals l z ∷ []) ∷ []) r) eu h)))
