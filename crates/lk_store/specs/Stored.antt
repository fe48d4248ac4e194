-- The key that the row of a tree in memory stands for.
use Rattle.std.specs.Prelude.{ℕ}
use Rattle.lk_store.specs.declared.key.TreeKey.{TreeKey}
use Rattle.lk_store.specs.declared.key.TreeKey.TheVariants as k
use Rattle.lk_store.specs.declared.stored.TreeKind.{TreeKind}
use Rattle.lk_store.specs.declared.stored.TreeKind.TheVariants.{Var, Sort, Const, App, Lam, Pi, Let}
use Rattle.lk_store.specs.declared.stored.TreeKind.TheVariants.{Proj, Lit, Wide, Str, Local}

-- the key of a kind and three parts, of which it has as many as it needs
abbrev pub key_of : TreeKind → ℕ → ℕ → ℕ → TreeKey
key_of Var a b c = k.Var a
key_of Sort a b c = k.Sort a
key_of Const a b c = k.Const a b
key_of App a b c = k.App a b
key_of Lam a b c = k.Lam a b
key_of Pi a b c = k.Pi a b
key_of Let a b c = k.Let a b c
key_of Proj a b c = k.Proj a b c
key_of Lit a b c = k.Lit a
key_of Wide a b c = k.Wide
key_of Str a b c = k.Str a
key_of Local a b c = k.Local a b
