-- Facts on the steps of Infer.
use Rattle.std.proofs.Common.{◌≡◌, ℕ, List, Bool, true, false, nat_eq, length, Option, Some, None, ap, sym, subst, ◌∙◌}
use Rattle.lk_tree.specs.Tree.{Name, Level, Tree, sort}
use Rattle.lk_tree.specs.Levels.{put_levels}
use Rattle.lk_tree.specs.declared.rule.Rule.TheVariants.{UnknownConstant, LevelCount}
use Rattle.lk_rulebook.specs.Place.{Place}
use Rattle.lk_questions.specs.Program.{Program, done, look}
use Rattle.lk_questions.specs.Erased.{Value, a_tree, Steps, gives, refuses, erased}
use Rattle.lk_questions.specs.Steps.{given, with_params, with_levels}
use Rattle.lk_store.specs.Contents.{Contents, tree_at}
use Rattle.lk_store.specs.Store.{contents_of}
use Rattle.lk_env.specs.declared.entry.Entry.{Entry}
use Rattle.lk_env.specs.StoredLibrary.{StoredLibrary}
use Rattle.lk_ask.specs.Constants.{IsFound, IsAtLevels}
use Rattle.lk_ask.proofs.Entries.{entry_type}
use Rattle.lk_ask.proofs.Looking.{found_goes}
use Rattle.lk_type.specs.Types.{level_in, pi_rest, pi_sorted}

-- the rest of a Pi, where S is a sort
pub pi_sorted_is : (P : Program Tree → Type 0) (A b S : Tree) (l : Level) → sort l ≡ S → P (pi_rest A b (level_in S)) → P (pi_sorted A b S)
pi_sorted_is P A b S l e h = let Q : Tree → Type 0 = λ x. P (pi_rest A b (level_in x)) → P (pi_sorted A b x) in subst Q e (λ p. p) h

-- a tree at levels, or too many or too few of them
given_is : {A : Type 0} (w : Place) (f : A → Value) (last : Option ℕ) (b : Bool) (v : A) → b ≡ true → erased w f last (given b LevelCount (done v)) ≡ gives last (f v)
given_is w f last b v e = ap (λ t. erased w f last (given t LevelCount (done v))) e

not_given : {A : Type 0} (w : Place) (f : A → Value) (last : Option ℕ) (b : Bool) (v : A) → b ≡ false → erased w f last (given b LevelCount (done v)) ≡ refuses LevelCount
not_given w f last b v e = ap (λ t. erased w f last (given t LevelCount (done v))) e

module _ (l : StoredLibrary) (w : Place) (x : Name) (before last : Option ℕ) (e : Entry) (h : IsFound l w x before e last) (ls : List Level) where
  -- the row of a constant
  abbrev row : Steps
  row = erased w a_tree before (look UnknownConstant x (λ g. with_levels g ls g.type))

  goes : row ≡ erased w a_tree last (with_params h.entry.levels ls h.entry.type)
  goes = found_goes w a_tree x UnknownConstant (λ g. with_levels g ls g.type) l before last e h

  module _ (c : Contents) (t : Tree) (is_t : t ≡ tree_at (contents_of l.tables) e.stated) where
    type_is : h.entry.type ≡ t
    type_is = entry_type (contents_of l.tables) l.units e h.entry h.is ∙ sym is_t

    pub typed_row : (r : ℕ) → IsAtLevels c h.entry.levels ls t (Some r) → gives last (a_tree (tree_at c r)) ≡ row
    typed_row r at =
        let there : gives last (a_tree (tree_at c r)) ≡ gives last (a_tree (put_levels h.entry.levels ls h.entry.type)) = ap (λ y. gives last (a_tree y)) (at.1.is ∙ ap (put_levels h.entry.levels ls) (sym type_is)) in
        there ∙ sym (given_is w a_tree last (nat_eq (length ls) (length h.entry.levels)) (put_levels h.entry.levels ls h.entry.type) at.0) ∙ sym goes

    pub counted_row : IsAtLevels c h.entry.levels ls t None → refuses LevelCount ≡ row
    counted_row at = sym (not_given w a_tree last (nat_eq (length ls) (length h.entry.levels)) (put_levels h.entry.levels ls h.entry.type) at) ∙ sym goes
