-- A canonical text as far as it is written, and the numbers of what has its line there.
use Rattle.std.specs.Prelude.{ℕ, suc, Bool, true, false, List, [], ◌∷◌, ◌++◌, length, Option}
use Rattle.std.specs.Prelude.{Some, None, option_map, decimal, codes}
use Rattle.lk_tree.specs.Tree.{Name, Level, zero_level, Tree}

-- what has a line, in the order of the lines, the anonymous name and level 0 before all others;
-- and how many rules have one
pub record Written : Type 0 where
  pub names : List Name
  pub levels : List Level
  pub trees : List Tree
  pub rules : ℕ

pub record File : Type 0 where
  pub text : List ℕ
  pub written : Written

-- what every text begins with
abbrev pub beginning : File
beginning = record {
  text = codes "2.0.0\n";
  written = record { names = [] ∷ []; levels = zero_level ∷ []; trees = []; rules = 0 };
}

-- the place in a list, from 0
abbrev pub place : {A : Type 0} → Discrete A → List A → A → Option ℕ
place d [] x = None
place d (y ∷ ys) x = elim (d y x) [ yes e ↦ Some 0 | no f ↦ option_map suc (place d ys x) ]

abbrev pub stands : Option ℕ → Bool
stands None = false
stands (Some i) = true

-- the number is the place; what has no line has none, and is no part of a line
abbrev pub number_at : Option ℕ → ℕ
number_at None = 0
number_at (Some i) = i

-- a space before each number
abbrev pub fields : List ℕ → List ℕ
fields [] = []
fields (n ∷ ns) = 32 ∷ (decimal n ++ fields ns)

-- how many there are, and then each
abbrev pub counted : List ℕ → List ℕ
counted ns = fields (length ns ∷ ns)

-- one line more, of what is written before it
unfoldable pub line : (Written → List ℕ) → File → File
line says f = record { text = f.text ++ (says f.written ++ 10 ∷ []); written = f.written }
