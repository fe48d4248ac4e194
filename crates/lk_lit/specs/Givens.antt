-- Built-in names that were looked up.
use Rattle.std.specs.Prelude.{◌≡◌, ℕ, Option, Result, Ok, Err, IfOk}
use Rattle.lk_tree.specs.Tree.{Name}
use Rattle.lk_tree.specs.declared.rule.Rule.{Rule}
use Rattle.lk_tree.specs.declared.rule.Rule.TheVariants.{NoBuiltin}
use Rattle.lk_store.specs.declared.memory.NoMemory.{NoMemory}
use Rattle.lk_store.specs.Contents.{Contents, Extends, IsName}
use Rattle.lk_store.specs.Store.{contents_of}
use Rattle.lk_env.specs.Entries.{IsEntryIn}
use Rattle.lk_ask.specs.Constants.{IsFound, IsRefusedBy}
use Rattle.lk_ask.specs.Looks.{Basis, Sight}
use Rattle.lk_lit.specs.declared.given.Given.{Given}

-- the number is that of the name, which means this entry; last is the last unit that was looked at
pub record IsGiven {B : Type 0} (c : Contents) (b : Basis B) (x : Name) (before last : Option ℕ)
    (given : Given) : Type 0 where
  pub over : Extends (contents_of b.library.tables) c
  pub name_is : IsName c given.name x
  pub known : IsEntryIn (contents_of b.library.tables) given.entry
  pub found : IsFound b.library b.place x before given.entry last

-- the name means this, or is refused
abbrev pub IsGivenOr : {B : Type 0} → Contents → Basis B → Name → Option ℕ → Option ℕ
    → Result Given Rule → Type 0
IsGivenOr c b x before last (Ok given) = IsGiven c b x before last given
IsGivenOr c b x before last (Err r) = IsRefusedBy NoBuiltin b.place x r

-- numbers stand for what they stood for, and of all else no more than the last unit is another one;
-- the name was looked up
pub record FindsBuiltin {S R B : Type 0} (contents : S → Contents) (rest : S → R)
    (sight : R → Sight B) (old new : S) (result : Result (Result Given Rule) NoMemory)
    (x : Name) : Type 0 where
  pub keeps : Extends (contents old) (contents new)
  pub stays : (sight (rest new)).basis ≡ (sight (rest old)).basis
  pub finds : IfOk result (IsGivenOr (contents new) (sight (rest old)).basis x
      (sight (rest old)).last (sight (rest new)).last)
