-- What is so of whoever answers questions of one unit after another, over one store.
use Rattle.std.specs.Prelude.{◌≡◌, ℕ, []}
use Rattle.lk_tree.specs.Tree.{zero_level, wide}
use Rattle.lk_rulebook.specs.Units.{place_of}
use Rattle.lk_store.specs.Contents.{Contents, Extends}
use Rattle.lk_store.specs.Store.{contents_of}
use Rattle.lk_store.specs.Values.{AreApart}
use Rattle.lk_env.specs.StoredLibrary.{StoredLibrary}
use Rattle.lk_env.specs.Units.{library_of}
use Rattle.lk_ask.specs.Looks.{Sight}

-- It turned to a unit of its library, whose tables its store has: names mean what they mean to this
-- unit, and nothing of it is partial. The store and the library are as before.
pub record TurnsTo {S R B : Type 0} (content : S → Contents) (beside : S → R) (sight : R → Sight B)
    (held : B → StoredLibrary) (old new : S) (unit : ℕ) : Type 0 where
  pub contents : content new ≡ content old
  pub over : Extends (contents_of (held (sight (beside old)).basis.beside).tables) (content old)
  pub library : held (sight (beside new)).basis.beside ≡ held (sight (beside old)).basis.beside
  pub place : (sight (beside new)).basis.place
      ≡ place_of (library_of (held (sight (beside old)).basis.beside)) unit []

-- equal levels have one number, and so have equal trees
pub record HasEachOnce (c : Contents) : Type 0 where
  pub levels : AreApart zero_level c.levels
  pub trees : AreApart wide c.trees
