-- What is asked for next, by its number and by its tree.
use Rattle.std.proofs.Common.{ℕ, ◌≡◌, Option, ap}
use Rattle.std.specs.Prelude.{option_map}
use Rattle.lk_tree.specs.Tree.{Tree}
use Rattle.lk_questions.specs.Erased.{Value, Steps}
use Rattle.lk_ask.specs.declared.query.Query.TheVariants.{Core, Whnf, Infer, Same}
use Rattle.lk_ask.specs.declared.next.Next.{Next}
use Rattle.lk_ask.specs.declared.next.Next.TheVariants.{Ask, Done, No}
use Rattle.lk_ask.specs.Nexts.{next_steps}
use Rattle.lk_step.specs.Nexts.{core_asked, form_asked, core_number, form_number}

module _ {X : Type 0} (rest : X → Value → Steps) (t : ℕ → Tree) (last : Option ℕ) where
  pub core_asked_is : (next : Next ℕ X) (does : Steps) → next_steps rest t last next ≡ does → option_map t (core_number next) ≡ core_asked does
  core_asked_is (Ask (Core r) s) does h = ap core_asked h
  core_asked_is (Ask (Whnf r) s) does h = ap core_asked h
  core_asked_is (Ask (Infer r) s) does h = ap core_asked h
  core_asked_is (Ask (Same r u) s) does h = ap core_asked h
  core_asked_is (Done v) does h = ap core_asked h
  core_asked_is (No r) does h = ap core_asked h

  pub form_asked_is : (next : Next ℕ X) (does : Steps) → next_steps rest t last next ≡ does → option_map t (form_number next) ≡ form_asked does
  form_asked_is (Ask (Core r) s) does h = ap form_asked h
  form_asked_is (Ask (Whnf r) s) does h = ap form_asked h
  form_asked_is (Ask (Infer r) s) does h = ap form_asked h
  form_asked_is (Ask (Same r u) s) does h = ap form_asked h
  form_asked_is (Done v) does h = ap form_asked h
  form_asked_is (No r) does h = ap form_asked h
