-- What a question asks for next, where that is a weak head form.
use Rattle.std.specs.Prelude.{ℕ, Option, Some, None}
use Rattle.lk_tree.specs.Tree.{Tree}
use Rattle.lk_questions.specs.Query.{core, whnf}
use Rattle.lk_questions.specs.Erased.{Steps, asks}
use Rattle.lk_ask.specs.declared.query.Query.TheVariants.{Core, Whnf}
use Rattle.lk_ask.specs.declared.next.Next.{Next}
use Rattle.lk_ask.specs.declared.next.Next.TheVariants.{Ask}

-- the tree whose Core is asked for next
abbrev pub core_asked : Steps → Option Tree
core_asked (asks t (core x) k) = Some x
core_asked _ = None

-- the tree whose Whnf is asked for next
abbrev pub form_asked : Steps → Option Tree
form_asked (asks t (whnf x) k) = Some x
form_asked _ = None

-- the numbers of these, whatever is kept
abbrev pub core_number : {X : Type 0} → Next ℕ X → Option ℕ
core_number (Ask (Core r) s) = Some r
core_number _ = None

abbrev pub form_number : {X : Type 0} → Next ℕ X → Option ℕ
form_number (Ask (Whnf r) s) = Some r
form_number _ = None
