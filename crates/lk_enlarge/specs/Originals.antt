-- What constants stand for by the numbers of a store, one after another.
use Rattle.std.specs.Prelude.{◌≡◌, ℕ, suc, List, ◌∷◌, ◌++◌}
use Rattle.lk_tree.specs.Tree.{Name}
use Rattle.lk_inductive.specs.Enlarged.{Aux, Setting, aux_name, aux_ctor}
use Rattle.lk_inductive.specs.Recursors.{rec_name}
use Rattle.lk_inductive.specs.Restore as plain
use Rattle.lk_inductive.specs.Restore.{applied_to, renamed_as, rec_numbered, ctors_stand}
use Rattle.lk_store.specs.Contents.{Contents}
use Rattle.lk_restore.specs.declared.originals.Original.{Original}
use Rattle.lk_restore.specs.Originals.{original_at, originals_at, IsOriginalIn, AreOriginalsIn, IsStanding, AreStanding}

-- the constant of the name n stands for J at the levels and the arguments of a
abbrev pub at_instance : Aux → Name → Name → Name × plain.Original
at_instance a n J = (n, applied_to J a.levels a.args)

-- auxiliary type i
abbrev pub type_stands : ℕ → Aux → Name × plain.Original
type_stands i a = at_instance a (aux_name i) a.name

-- its recursor
abbrev pub recursor_stands : Name → ℕ → Name × plain.Original
recursor_stands T i = (rec_name (aux_name i), renamed_as (rec_numbered T (suc i)))

-- its constructor c
abbrev pub constructor_stands : ℕ → Aux → Name → Name × plain.Original
constructor_stands i a c = at_instance a (aux_ctor i c) c

-- all three
abbrev pub one_stands : Name → ℕ → Aux → List (Name × plain.Original)
one_stands T i a = type_stands i a ∷ recursor_stands T i ∷ ctors_stand i a a.own.ctors

pub record StandsFor (c : Contents) (s : Setting) (p : Name × plain.Original) (o : Original) : Type 0 where
  pub known : IsOriginalIn c o
  pub is : original_at c o ≡ p
  pub standing : IsStanding c s o

pub record StandFor (c : Contents) (s : Setting) (ps : List (Name × plain.Original)) (os : List Original) : Type 0 where
  pub known : AreOriginalsIn c os
  pub are : originals_at c os ≡ ps
  pub standing : AreStanding c s os

-- these come behind those that were there
abbrev pub Adds : Contents → Contents → Setting → List Original → List Original → List (Name × plain.Original) → Type 0
Adds c d s os ns these = (front : List (Name × plain.Original)) → StandFor c s front os → StandFor d s (front ++ these) ns
