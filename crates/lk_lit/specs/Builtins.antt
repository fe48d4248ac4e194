-- The built-in names, as the program makes them and compares others with them.
use Rattle.std.specs.Prelude.{◌≡◌, ◌<◌, ◌++◌, ℕ, List, true, false, [], ◌∷◌, length, Option, Some, None, Result, IfOk}
use Rattle.lk_tree.specs.Tree.{Name, text}
use Rattle.lk_rulebook.specs.Names.{nat, nat_zero, nat_succ, bool_name, string, string_mk}
use Rattle.lk_rulebook.specs.Names.{list_nil, list_cons, char, char_of_nat}
use Rattle.lk_store.specs.declared.memory.NoMemory.{NoMemory}
use Rattle.lk_store.specs.Contents.{Contents, name_at, Extends, IsName}
use Rattle.lk_lit.specs.declared.builtin.Builtin.{Builtin}
use Rattle.lk_lit.specs.declared.builtin.Builtin.TheVariants as builtin
use Rattle.lk_lit.specs.declared.builtin.Spelling.{Spelling}
use Rattle.lk_lit.specs.declared.builtin.Spelling.TheVariants.{Word, Dotted}

abbrev pub builtin_name : Builtin → Name
builtin_name builtin.Nat = nat
builtin_name builtin.NatZero = nat_zero
builtin_name builtin.NatSucc = nat_succ
builtin_name builtin.BoolFalse = bool_name false
builtin_name builtin.BoolTrue = bool_name true
builtin_name builtin.String = string
builtin_name builtin.StringMk = string_mk
builtin_name builtin.ListNil = list_nil
builtin_name builtin.ListCons = list_cons
builtin_name builtin.Char = char
builtin_name builtin.CharOfNat = char_of_nat

-- the name of these components
abbrev pub spelled : Spelling → Name
spelled (Word w) = text w.now ∷ []
spelled (Dotted v w) = text v.now ∷ text w.now ∷ []

-- it stands in the name x before its last component, the text w; there is none where the last component is another one
abbrev pub IsBefore : Contents → Name → List ℕ → Option ℕ → Type 0
IsBefore c x w (Some p) = (p < length c.names) × (x ≡ name_at c p ++ text w ∷ [])
IsBefore c x w None = (p : Name) → x ≡ p ++ text w ∷ [] → ⊥

-- numbers stand for what they stood for, all else is as it was, and the number stands for this name
pub record MakesName {S R : Type 0} (contents : S → Contents) (rest : S → R) (old new : S)
    (result : Result ℕ NoMemory) (name : Name) : Type 0 where
  pub keeps : Extends (contents old) (contents new)
  pub stays : rest new ≡ rest old
  pub ok : IfOk result (λ n. IsName (contents new) n name)
