-- What a constructor's recursive fields give, by what stands at the head.
use Rattle.std.specs.Prelude.{List}
use Rattle.lk_tree.specs.Tree.{Name, Tree, app}
use Rattle.lk_tree.specs.Spine.{apply}
use Rattle.lk_store.specs.Contents.{Contents}
use Rattle.lk_inductive.specs.Block as plain
use Rattle.lk_inductive.specs.Recursors.{motive_of, hypotheses, inductions}
use Rattle.lk_block.specs.declared.shape.Shape.{Shape}
use Rattle.lk_recursor.specs.declared.binders.Binder.{Binder}
use Rattle.lk_recursor.specs.declared.binders.Binder.TheVariants.{Pi, Lam}
use Rattle.lk_recursor.specs.declared.recursive.Heading.{Heading}
use Rattle.lk_recursor.specs.declared.recursive.Heading.TheVariants.{Motives, Recursors}
use Rattle.lk_recursor.specs.Binders.{bound_by}
use Rattle.lk_recursor.specs.Fronts.{AreHeads, IsFront}
use Rattle.lk_recursor.specs.Hypotheses.{recursor_at}

-- it is of this shape, by the numbers of a store
abbrev pub IsHeading : Contents → Shape → Heading → Type 0
IsHeading c s (Motives h) = AreHeads c s h.now
IsHeading c s (Recursors f) = IsFront c s f.now

abbrev pub binder_in : Heading → Binder
binder_in (Motives h) = Pi
binder_in (Recursors f) = Lam

-- the motive of T, or its recursor
abbrev pub head_in : Heading → plain.Shape → Name → Tree
head_in (Motives h) s T = motive_of s T
head_in (Recursors f) s T = recursor_at s T

-- over the ys: it at is and (x ys)
abbrev pub term_of : Heading → plain.Shape → Tree → List Tree → Name → List Tree → Tree
term_of h s x ys T is = bound_by (binder_in h) ys (app (apply (head_in h s T) is) (apply x ys))

-- one for each recursive field
abbrev pub terms_of : Heading → plain.Shape → List plain.Field → List Tree
terms_of (Motives h) s fs = hypotheses s fs
terms_of (Recursors f) s fs = inductions s fs
