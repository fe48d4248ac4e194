-- Texts as lists of characters.
use Rattle.std.specs.Prelude.{◌≡◌, ℕ, true, false, List, [], ◌∷◌, Option, Some, None}
use Rattle.std.specs.Str.{is_utf8, chars}
use Rattle.lk_tree.specs.Tree.{zero_level, Tree, const, app, lit}
use Rattle.lk_rulebook.specs.Names.{named, list_cons, char, char_of_nat}
use Rattle.lk_rulebook.specs.Literals.{char_list}
use Rattle.lk_store.specs.Contents.{Contents, IsTree}
use Rattle.lk_lit.specs.declared.characters.Maker.{Maker}

-- they are those of the text of these bytes; none where it is not UTF-8
abbrev pub AreCharacters : List ℕ → Option (List ℕ) → Type 0
AreCharacters bs (Some cs) = (is_utf8 bs ≡ true) × (cs ≡ chars bs)
AreCharacters bs None = is_utf8 bs ≡ false

-- a list with one more character before it
abbrev pub prepended : ℕ → Tree → Tree
prepended c e = app (app (app (const list_cons (zero_level ∷ [])) (named char)) (app (named char_of_nat) (lit c))) e

-- the numbers stand for what lists are made with
pub record IsMaker (c : Contents) (m : Maker) : Type 0 where
  pub nil_is : IsTree c m.nil (char_list [])
  pub cons_is : IsTree c m.cons (app (const list_cons (zero_level ∷ [])) (named char))
  pub of_nat_is : IsTree c m.of_nat (named char_of_nat)
