-- What words mean.
use Rattle.std.proofs.Common.{◌≡◌, List, [], Option, Some, None, true, refl, sym, ap, ◌∙◌, subst, inl, inr, option_map, codes}
use Rattle.std.specs.Prelude.{◌⊎◌, IfNone, IfSome}
use Rattle.clap.specs.declared.parser.matches.ArgMatches.{ArgMatches}
use Rattle.clap.specs.declared.error.kind.ErrorKind.{ErrorKind}
use Rattle.clap.specs.Words.{App, HasMatchesOf, IsAmong, Row, Text, first_of, fault_of, is_simple, is_simple_and_free, subcommand_of, subcommand_rows_of}
use Rattle.clap.proofs.OnLiterals.{clap_on_literals}
use Rattle.lk_command.specs.Command.{leancheck}
use Rattle.lk_command.specs.Words.{HasName}

simple : is_simple leancheck ≡ true
unfolding clap_on_literals
simple = refl

simple_and_free : is_simple_and_free leancheck ≡ true
unfolding clap_on_literals
simple_and_free = refl

among : (kind memory : ErrorKind) (kinds : List ErrorKind) → (kind ≡ memory → ⊥) → (kind ≡ memory) ⊎ IsAmong kind kinds → kinds ≡ [] → ⊥
among kind memory kinds other (inl is) none = other is
among kind memory kinds other (inr h) none = subst (IsAmong kind) none h

-- a parse that succeeds has no fault
pub faultless : (a : App) (words : List Text) → a ≡ leancheck → (is_simple_and_free a ≡ true → fault_of a words ≡ []) → fault_of leancheck words ≡ []
faultless a words is k = ap (λ (x : App). fault_of x words) (sym is) ∙ k (ap is_simple_and_free is ∙ simple_and_free)

-- and the matches that `clap` defines
pub matching : (a : App) (words : List Text) (m : ArgMatches) → a ≡ leancheck → HasMatchesOf a words m → subcommand_rows_of m ≡ subcommand_of leancheck words
matching a words m is h = (h (ap is_simple is ∙ simple)).1 ∙ ap (λ (x : App). subcommand_of x words) is

-- an error whose kind is not memory comes only where there is a fault
pub faulty : (a : App) (words : List Text) (kind memory : ErrorKind) → a ≡ leancheck → (kind ≡ memory → ⊥) → (is_simple_and_free a ≡ true → (kind ≡ memory) ⊎ IsAmong kind (fault_of a words)) → fault_of leancheck words ≡ [] → ⊥
faulty a words kind memory is other k none = among kind memory (fault_of a words) other (k (ap is_simple_and_free is ∙ simple_and_free)) (ap (λ (x : App). fault_of x words) is ∙ none)

-- what holds at all holds where there is none
pub at_none : {A : Type 0} (o : Option A) (P : Type 0) → P → IfNone o P
at_none None P h = h
at_none (Some x) P h = tt

-- an option's value is the name that is given, and without one none is
pub named : {A : Type 0} (f : A → Text) (rows : List Row) (o : Option A) → option_map f o ≡ first_of (codes "name") rows → IfSome o (λ a. HasName rows (f a))
named f rows None is = tt
named f rows (Some a) is = record { name_is = sym is }

pub unnamed : {A : Type 0} (f : A → Text) (rows : List Row) (o : Option A) → option_map f o ≡ first_of (codes "name") rows → IfNone o ((n : Text) → HasName rows n → ⊥)
unnamed f rows (Some a) is = tt
unnamed f rows None is = λ n h. cc (is ∙ h.name_is)
