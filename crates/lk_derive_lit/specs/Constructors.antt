-- Constructors of Nat, by numbers.
use Rattle.std.specs.Prelude.{◌≡◌, ◌<◌, length, Option, Some, None}
use Rattle.lk_tree.specs.Tree.{Tree, app}
use Rattle.lk_rulebook.specs.Names.{named, nat_zero, nat_succ}
use Rattle.lk_questions.specs.LiteralLines.{nat_ctor}
use Rattle.lk_store.specs.Contents.{Contents, tree_at}
use Rattle.lk_derive_lit.specs.declared.numbers.NatCtor.{NatCtor}
use Rattle.lk_derive_lit.specs.declared.numbers.NatCtor.TheVariants.{Zero, Succ}

-- e is that
abbrev pub IsCtorAt : Contents → Tree → Option NatCtor → Type 0
IsCtorAt c e None = nat_ctor e ≡ None
IsCtorAt c e (Some Zero) = e ≡ named nat_zero
IsCtorAt c e (Some (Succ x)) = (x < length c.trees) × (e ≡ app (named nat_succ) (tree_at c x))
