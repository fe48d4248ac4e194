-- The fields of a structure: what is asked, Pi by Pi.
use Rattle.std.proofs.Common.{◌≡◌, ℕ, zero, suc, ◌+◌, ◌-◌, ◌<◌, Bool, true, false, Option, None}
use Rattle.std.proofs.Common.{refl, ap, sym, ◌∙◌, arith}
use Rattle.lk_tree.specs.Tree.{Name, Tree, proj}
use Rattle.lk_tree.specs.Bind.{opened}
use Rattle.lk_tree.specs.declared.rule.Rule.TheVariants.{BadProjection, PropProjection}
use Rattle.lk_rulebook.specs.Place.{Place}
use Rattle.lk_questions.specs.Query.{whnf, infer}
use Rattle.lk_questions.specs.Program.{ask, ◌>>=◌}
use Rattle.lk_questions.specs.Erased.{a_tree, Steps, asks, with_tree, erased}
use Rattle.lk_questions.specs.Steps.{given, as_pi}
use Rattle.lk_questions.specs.Projections.{is_prop_if, field_type}
use Rattle.lk_proj.specs.Infers.{fields_rest, next_field, must_be_prop, field_pi, field_rest}
use Rattle.lk_proj.specs.Infers.{field_sort_rest}

-- the Pi of a field is asked for
abbrev pub waiting : Place → Option ℕ → Tree → ℕ → Bool → Tree → Steps
waiting w last e j q r =
    asks last (whnf r) (with_tree (λ R. erased w a_tree None (field_rest e j q R)))

-- the type of its domain is asked for
abbrev pub waiting_sort : Place → Option ℕ → Tree → ℕ → Tree → Tree → Steps
waiting_sort w last e j A B = asks last (infer A) (with_tree (λ T. erased w a_tree None
    (ask (whnf T) (λ K. field_sort_rest
    (record { projection = e; number = j; domain = A; body = B }) K))))

field_type_is : (S : Name) (s : Tree) (q : Bool) (j n : ℕ) (r : Tree) → field_type S s q j n r
    ≡ ask (whnf r) (λ R. as_pi BadProjection R >>= λ p. field_pi S s q j n p)
field_type_is S s q j zero r = refl
field_type_is S s q j (suc n) r = refl

-- only in a structure that is a proposition
must_be_so : (q : Bool) (n : ℕ) (B : Tree) → must_be_prop q n B ≡ true → q ≡ true
must_be_so true n B h = refl
must_be_so false zero B h = absurd (cc)
must_be_so false (suc n) B h = absurd (cc)

module _ (w : Place) (last : Option ℕ) (e : Tree) (S : Name) (i : ℕ) (s : Tree)
    (is : e ≡ proj S i s) (q : Bool) where
  field_asked : (j : ℕ) (r : Tree) → waiting w last e j q r
      ≡ erased w a_tree last (field_type S s q j (i - j) r)
  field_asked j r = ap (λ t. waiting w last t j q r) is
      ∙ sym (ap (erased w a_tree last) (field_type_is S s q j (i - j) r))

  -- the first field
  pub fields_begin : (r : Tree) → waiting w last e 0 q r ≡ erased w a_tree last (fields_rest e q r)
  fields_begin r =
      let all : i - 0 ≡ i = omega arith in
      field_asked 0 r ∙ ap (λ n. erased w a_tree last (field_type S s q 0 n r)) all
      ∙ ap (λ t. erased w a_tree last (fields_rest t q r)) (sym is)

  module _ (j : ℕ) (A B : Tree) where
    -- behind a field before the one that is asked for
    pub next_asked : (r : Tree) → j < i → r ≡ opened B (proj S j s)
        → waiting w last e (j + 1) q r
        ≡ erased w a_tree last (next_field S s q j (i - j) (A, B))
    next_asked r below made =
        let fewer : suc (i - (j + 1)) ≡ i - j = omega arith in
        let after : j + 1 ≡ suc j = omega arith in
        field_asked (j + 1) r
        ∙ ap (λ k. erased w a_tree last (field_type S s q k (i - (j + 1)) r)) after
        ∙ ap (λ t. erased w a_tree last (field_type S s q (suc j) (i - (j + 1)) t)) made
        ∙ ap (λ n. erased w a_tree last (next_field S s q j n (A, B))) fewer

    -- where its domain is to be a proposition, the sort of that is asked for
    pub sort_asked : must_be_prop q (i - j) B ≡ true
        → waiting_sort w last e j A B ≡ erased w a_tree last (field_pi S s q j (i - j) (A, B))
    sort_asked must =
        let prop : q ≡ true = must_be_so q (i - j) B must in
        let P : Bool → Bool → Steps = λ m y. erased w a_tree last (is_prop_if m A
        >>= λ allowed. given allowed PropProjection (next_field S s y j (i - j) (A, B))) in
        ap (λ t. waiting_sort w last t j A B) is ∙ ap (λ m. P m true) (sym must)
        ∙ ap (λ y. P (must_be_prop q (i - j) B) y) (sym prop)
