-- What the test by unfolding tells of two terms.
use Rattle.std.proofs.Common.{ℕ, ◌≡◌, ◌⊎◌, inl, inr, Bool, true, false, [], ◌∷◌, Option, Some, None, refl, sym, subst, ap, ◌∙◌, arith}
use Rattle.std.specs.Prelude.{IfSome, option_map}
use Rattle.lk_tree.specs.Tree.{Tree}
use Rattle.lk_tree.specs.Spine.{head}
use Rattle.lk_rulebook.specs.Place.{Place}
use Rattle.lk_rulebook.specs.Claims.{Claim, equals}
use Rattle.lk_questions.specs.Program.{Program, done}
use Rattle.lk_questions.specs.Erased.{Steps, gives, truth, erased}
use Rattle.lk_questions.specs.Pairs.{Line, ◌or_else◌}
use Rattle.lk_questions.specs.Steps.{is_same_tree}
use Rattle.lk_questions.specs.Unfolding.{by_ranks, by_unfolding}
use Rattle.lk_store.specs.Contents.{Contents, Extends}
use Rattle.lk_ask.specs.declared.query.Query.TheVariants.{Core, Whnf, Infer, Same}
use Rattle.lk_ask.specs.declared.next.Next.{Next}
use Rattle.lk_ask.specs.declared.next.Next.TheVariants.{Ask, Done, No}
use Rattle.lk_ask.specs.Looks.{Sight}
use Rattle.lk_ask.specs.Nexts.{IsKnownNext}
use Rattle.lk_ask.specs.Sheets.{map_pair, IsKnownPair}
use Rattle.lk_lazy.specs.declared.sheet.LazySheet.{LazySheet}
use Rattle.lk_lazy.specs.Heads.{unfolding_at}
use Rattle.lk_lazy.specs.Lazies.{lazy_next, GoesLine}
use Rattle.lk_lazy.specs.Sheets.{IsKnownLazy}
use Rattle.lk_step.specs.declared.step.Row.{Row}
use Rattle.lk_step.specs.Runs.{Runs}
use Rattle.lk_step.specs.Meaning.{IsRowIn}
use Rattle.lk_step.specs.Told.{Leaves}
use Rattle.lk_step.specs.Tells.{IsBasisOf, Tells}
use Rattle.lk_step.specs.Tests.{IsRun, NeverNo, ArePair, AreReduced}
use Rattle.lk_step.specs.Parts.{IsPartIn, IsEmpty}
use Rattle.lk_step.proofs.Runs.{runs_one}
use Rattle.lk_step.proofs.PartsIn.{apart, part_none, part_these}
use Rattle.lk_derive_lazy.specs.Turns.{SaysYes, Bears, pair_asked, pair_in}
use Rattle.lk_derive_lazy.proofs.Heads.{by_heads, at_heads, StepsOn, steps_on, Answers, Neither, reads}

-- what is asked next, by numbers
pub pair_known : (n : ℕ) (next : Next ℕ (LazySheet ℕ)) → IsKnownNext IsKnownLazy n next → IfSome (pair_in next) (IsKnownPair n)
pair_known n (Ask (Same x y) s) h = record { left_in = h.0.0; right_in = h.0.1 }
pair_known n (Ask (Core x) s) h = tt
pair_known n (Ask (Whnf x) s) h = tt
pair_known n (Ask (Infer x) s) h = tt
pair_known n (Done a) h = tt
pair_known n (No r) h = tt

pair_next : (w : Place) (t : ℕ → Tree) (last : Option ℕ) (next : Next ℕ (LazySheet ℕ)) → option_map (map_pair t) (pair_in next) ≡ pair_asked (lazy_next w t last next)
pair_next w t last (Ask (Same x y) s) = refl
pair_next w t last (Ask (Core x) s) = refl
pair_next w t last (Ask (Whnf x) s) = refl
pair_next w t last (Ask (Infer x) s) = refl
pair_next w t last (Done a) = refl
pair_next w t last (No r) = refl

pub pair_is : (w : Place) (t : ℕ → Tree) (last : Option ℕ) (next : Next ℕ (LazySheet ℕ)) (steps : Steps) → lazy_next w t last next ≡ steps → option_map (map_pair t) (pair_in next) ≡ pair_asked steps
pair_is w t last next steps e = pair_next w t last next ∙ ap pair_asked e

-- the steps of both would be one
two_truths : (t : Option ℕ) → gives t (truth true) ≡ gives t (truth false) → ⊥
two_truths t e = absurd cc

module _ (w : Place) (a b : Tree) where
  neither_steps : (o : Option Bool) → Neither (unfolding_at w (head a)) (unfolding_at w (head b)) o → (t : Option ℕ) (r : Program Bool) → erased w truth t (by_heads w a b or_else r) ≡ erased w truth t r
  neither_steps o h t r = ap (λ x. erased w truth t (by_ranks a b x (unfolding_at w (head b)) or_else r)) h.left ∙ ap (λ x. erased w truth t (by_ranks a b None x or_else r)) h.right

  module _ (v : Option Bool) (n : ℕ) (h : Runs w (by_unfolding a b) v n) (t : ℕ → Tree) (before last : Option ℕ) where
    -- something comes next, so one of them unfolds
    next_answers : (next : Next ℕ (LazySheet ℕ)) → GoesLine w t before last (by_unfolding a b) (Some next) → Neither (unfolding_at w (head a)) (unfolding_at w (head b)) v → ⊥
    next_answers next goes none =
        let s : StepsOn w a b before = steps_on w a b v n h before in
        let all : (r : Program Bool) → lazy_next w t last next ≡ erased w truth s.last r = λ r. goes r ∙ s.are r ∙ neither_steps v none s.last r in
        two_truths s.last (sym (all (done true)) ∙ all (done false))

    -- nothing comes next, so neither unfolds
    pub none_says : GoesLine w t before last (by_unfolding a b) None → v ≡ None
    none_says goes = go (reads w a b (unfolding_at w (head a)) (unfolding_at w (head b)) v n (at_heads w a b v n h))
      where
        go : Neither (unfolding_at w (head a)) (unfolding_at w (head b)) v ⊎ Answers w a b (unfolding_at w (head a)) (unfolding_at w (head b)) v n → v ≡ None
        go (inl x) = x.says
        go (inr x) =
            let s : StepsOn w a b before = steps_on w a b v n h before in
            let all : (r : Program Bool) → erased w truth last r ≡ erased w truth s.last x.program = λ r. goes r ∙ s.are r ∙ ap (erased w truth s.last) (x.is r) in
            absurd (two_truths last (all (done true) ∙ sym (all (done false))))

  -- where one of them unfolds, it says yes, as it does not say no
  pub says_yes : (most : ℕ) (t : ℕ → Tree) (before last : Option ℕ) (next : Next ℕ (LazySheet ℕ)) → GoesLine w t before last (by_unfolding a b) (Some next) → IsRun w (by_unfolding a b) most → NeverNo w (by_unfolding a b) → SaysYes w (by_unfolding a b) most
  says_yes most t before last next goes run never = go (reads w a b (unfolding_at w (head a)) (unfolding_at w (head b)) run.value run.cost (at_heads w a b run.value run.cost run.runs))
    where
      by_answer : (y : Bool) → run.value ≡ Some y → SaysYes w (by_unfolding a b) most
      by_answer true e = record { cost = run.cost; runs = subst (λ o. Runs w (by_unfolding a b) o run.cost) e run.runs; within = run.within }
      by_answer false e = absurd (never run.cost (subst (λ o. Runs w (by_unfolding a b) o run.cost) e run.runs))

      go : Neither (unfolding_at w (head a)) (unfolding_at w (head b)) run.value ⊎ Answers w a b (unfolding_at w (head a)) (unfolding_at w (head b)) run.value run.cost → SaysYes w (by_unfolding a b) most
      go (inl x) = absurd (next_answers run.value run.cost run.runs t before last next goes x)
      go (inr x) = by_answer x.answer x.says

pub basis_of : (w : Place) (c : Contents) (claim : Claim) (r : Row) (n : ℕ) → IsPartIn w c r (claim ∷ []) n → IsBasisOf w c claim n r
basis_of w c claim r n p = record { claims = p.part.claims; spent = p.part.cost; asked = p.part.asked; within = p.part.within; steps_hold = p.part.steps_hold; stated = p.part.there.0 }

-- what the row bears it tells
pub bears_tells : (w : Place) (c : Contents) (line : Line) (claim : Claim) (r : Row) (most : ℕ) → SaysYes w line most → Bears w c line claim r → Tells w c line claim (Some r)
bears_tells w c line claim r most said bears = λ says cost h.
    let value : says ≡ Some true = runs_one w line says (Some true) cost said.cost h said.runs in
    basis_of w c claim r cost (bears cost (subst (λ o. Runs w line o cost) value h))

pub bears_known : (w : Place) (c : Contents) (line : Line) (claim : Claim) (r : Row) (most : ℕ) → SaysYes w line most → Bears w c line claim r → IsRowIn c r
bears_known w c line claim r most said bears = (bears said.cost said.runs).known

-- of one tree nothing is stated
pub one_tells : (w : Place) (c : Contents) (line : Line) (a b : Tree) (r : Row) → is_same_tree a b ≡ true → IsEmpty r → Tells w c line (equals a b) (Some r)
one_tells w c line a b r same empty = λ says cost h.
    basis_of w c (equals a b) r cost (part_these w c r [] (equals a b ∷ []) 0 cost (inl same, tt) (omega arith) (part_none w c r empty))

-- two that are not one tree
pub pair_of : (w : Place) (a b : Tree) → AreReduced w a b → is_same_tree a b ≡ false → ArePair w a b
pair_of w a b h other = record { stated = h.stated; left = h.left; right = h.right; unequal = apart a b other }

-- what keeps a store and its library
pub leaves_basis : {S R B : Type 0} (contents : S → Contents) (rest : S → R) (sight : R → Sight B) (a b : S) → Extends (contents a) (contents b) → (sight (rest b)).basis ≡ (sight (rest a)).basis → Leaves contents rest sight a b
leaves_basis contents rest sight a b x e = record { keeps = x; library = ap (λ z. z.library) e; place = ap (λ z. z.place) e; beside = ap (λ z. z.beside) e }
