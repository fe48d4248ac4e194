-- What a line of a derivation states, by what its numbers have.
use Rattle.std.proofs.Common.{◌≡◌, ℕ, List, [], ◌∷◌, ◌++◌, Ok, Err, Some, None, refl, sym, ◌∙◌}
use Rattle.std.specs.Prelude.{Result}
use Rattle.std.specs.declared.option.Option.{Option}
use Rattle.lk_tree.specs.Tree.{Tree}
use Rattle.lk_written.specs.Line.{Line as WrittenLine}
use Rattle.lk_lines.specs.declared.words.Word.{Word}
use Rattle.lk_lines.specs.declared.rules.RuleTag.{RuleTag}
use Rattle.lk_lines.specs.declared.rules.RuleTag.TheVariants.{Typing, Reduction, Conversion}
use Rattle.lk_lines.specs.declared.rules.TypingTag.TheVariants as typing
use Rattle.lk_lines.specs.declared.rules.ReductionTag.TheVariants as reduction
use Rattle.lk_lines.specs.declared.rules.ConversionTag.TheVariants as conversion
use Rattle.lk_lines.specs.declared.rules.Beside.{Beside}
use Rattle.lk_lines.specs.declared.rules.Beside.TheVariants as beside
use Rattle.lk_lines.specs.Reading.{◌>>=◌}
use Rattle.lk_lines.specs.FileNumbers.{NumberView}
use Rattle.lk_lines.specs.Rules.{beside_of}
use Rattle.lk_lines.specs.Values.{Number, Numbers, OfRule}
use Rattle.lk_lines.specs.Views.{beside_values}
use Rattle.lk_units.specs.State.{State, known, known_of, all_known}
use Rattle.lk_units.specs.Held.{Fails}
use Rattle.lk_units.specs.declared.assembler.TakeError.{TakeError}
use Rattle.lk_units.proofs.Lines.{fails_then}
use Rattle.lk_traced.specs.Derived.{plain_line, local_line, beside_said, line_said}

-- several numbers stand for the same where each does
pub all_same : {X : Type 0} (f g : ℕ → Option X) (ns : List ℕ) → ((q : ℕ) → f q ≡ g q) → all_known f ns ≡ all_known g ns
all_same f g [] same = refl
all_same f g (n ∷ ns) same = rw (same n, all_same f g ns same) refl

-- premises were found, and the line of their places was made or has a fault
module _ {X : Type 0} (places mean : ℕ → Option ℕ) (ns : List ℕ) (same : (q : ℕ) → places q ≡ mean q) (next : List ℕ → Result X Word) where
  pub found_line : (js : List ℕ) (said : Result X Word) → all_known places ns ≡ Ok js → next js ≡ said → (all_known mean ns >>= next) ≡ said
  found_line js said e h = rw (← all_same places mean ns same, e) h

  pub found_fails : (js : List ℕ) (e : TakeError) → all_known places ns ≡ Ok js → Fails e (next js) → Fails e (all_known mean ns >>= next)
  found_fails js e is h = rw (← all_same places mean ns same, is) h

  pub lost_fails : (e : TakeError) → Fails e (all_known places ns) → Fails e (all_known mean ns >>= next)
  lost_fails e h = rw (← all_same places mean ns same) (fails_then e (all_known places ns) next h)

-- the rule with the place of a recursor's rule beside it is one
pub place_rule : (t : RuleTag) → beside_of t ≡ beside.Place → t ≡ Reduction reduction.Iota
place_rule (Typing typing.Sort) h = absurd (cc)
place_rule (Typing typing.Local) h = absurd (cc)
place_rule (Typing typing.Constant) h = absurd (cc)
place_rule (Typing typing.Apply) h = absurd (cc)
place_rule (Typing typing.Lambda) h = absurd (cc)
place_rule (Typing typing.Pi) h = absurd (cc)
place_rule (Typing typing.Let) h = absurd (cc)
place_rule (Typing typing.NatLiteral) h = absurd (cc)
place_rule (Typing typing.TextLiteral) h = absurd (cc)
place_rule (Typing typing.Project) h = absurd (cc)
place_rule (Reduction reduction.Chain) h = absurd (cc)
place_rule (Reduction reduction.Head) h = absurd (cc)
place_rule (Reduction reduction.Beta) h = absurd (cc)
place_rule (Reduction reduction.Zeta) h = absurd (cc)
place_rule (Reduction reduction.Delta) h = absurd (cc)
place_rule (Reduction reduction.Project) h = absurd (cc)
place_rule (Reduction reduction.Major) h = absurd (cc)
place_rule (Reduction reduction.Iota) h = refl
place_rule (Reduction reduction.K) h = absurd (cc)
place_rule (Reduction reduction.Structure) h = absurd (cc)
place_rule (Reduction reduction.Lift) h = absurd (cc)
place_rule (Reduction reduction.Induction) h = absurd (cc)
place_rule (Reduction reduction.Operation) h = absurd (cc)
place_rule (Conversion conversion.Reduce) h = absurd (cc)
place_rule (Conversion conversion.Sorts) h = absurd (cc)
place_rule (Conversion conversion.Constants) h = absurd (cc)
place_rule (Conversion conversion.Apply) h = absurd (cc)
place_rule (Conversion conversion.Lambda) h = absurd (cc)
place_rule (Conversion conversion.Pi) h = absurd (cc)
place_rule (Conversion conversion.Project) h = absurd (cc)
place_rule (Conversion conversion.Eta) h = absurd (cc)
place_rule (Conversion conversion.StructureLeft) h = absurd (cc)
place_rule (Conversion conversion.StructureRight) h = absurd (cc)
place_rule (Conversion conversion.UnitLike) h = absurd (cc)
place_rule (Conversion conversion.Proof) h = absurd (cc)
place_rule (Conversion conversion.Zero) h = absurd (cc)
place_rule (Conversion conversion.Successor) h = absurd (cc)
place_rule (Conversion conversion.TextLeft) h = absurd (cc)
place_rule (Conversion conversion.TextRight) h = absurd (cc)

-- a rule with anything else beside it has the number of a Local there
local_rule : (s : State) (mean : ℕ → Option ℕ) (t : RuleTag) (a b : Tree) (x : ℕ) (ps : List ℕ) → (beside_of t ≡ beside.Place → ⊥)
    → beside_said s mean t a b x ps ≡ (known s.trees x >>= λ tree. (all_known mean ps >>= λ js. local_line t a b tree js))
local_rule s mean (Typing t) a b x ps h = refl
local_rule s mean (Conversion t) a b x ps h = refl
local_rule s mean (Reduction reduction.Iota) a b x ps h = absurd (h refl)
local_rule s mean (Reduction reduction.Chain) a b x ps h = refl
local_rule s mean (Reduction reduction.Head) a b x ps h = refl
local_rule s mean (Reduction reduction.Beta) a b x ps h = refl
local_rule s mean (Reduction reduction.Zeta) a b x ps h = refl
local_rule s mean (Reduction reduction.Delta) a b x ps h = refl
local_rule s mean (Reduction reduction.Project) a b x ps h = refl
local_rule s mean (Reduction reduction.Major) a b x ps h = refl
local_rule s mean (Reduction reduction.K) a b x ps h = refl
local_rule s mean (Reduction reduction.Structure) a b x ps h = refl
local_rule s mean (Reduction reduction.Lift) a b x ps h = refl
local_rule s mean (Reduction reduction.Induction) a b x ps h = refl
local_rule s mean (Reduction reduction.Operation) a b x ps h = refl

pub with_local : (s : State) (mean : ℕ → Option ℕ) (t : RuleTag) (a b : Tree) (x : ℕ) (ps : List ℕ) → beside_of t ≡ beside.Local
    → beside_said s mean t a b x ps ≡ (known s.trees x >>= λ tree. (all_known mean ps >>= λ js. local_line t a b tree js))
with_local s mean t a b x ps is = local_rule s mean t a b x ps (λ e. let bad : beside.Local ≡ beside.Place = sym is ∙ e in absurd (cc))

pub with_nothing : (s : State) (mean : ℕ → Option ℕ) (t : RuleTag) (a b : Tree) (x : ℕ) (ps : List ℕ) → beside_of t ≡ beside.Nothing
    → beside_said s mean t a b x ps ≡ (known s.trees x >>= λ tree. (all_known mean ps >>= λ js. local_line t a b tree js))
with_nothing s mean t a b x ps is = local_rule s mean t a b x ps (λ e. let bad : beside.Nothing ≡ beside.Place = sym is ∙ e in absurd (cc))

-- the two trees of a line, whatever stands beside them
module _ {N : Type 0} (s : State) (mean : ℕ → Option ℕ) (view : NumberView N) (r : RuleTag) (a b : ℕ) (ps : List ℕ) where
  abbrev said_with : Option N → Result WrittenLine Word
  said_with o = line_said s mean (OfRule r ∷ Number a ∷ Number b ∷ (beside_values view o ++ Numbers ps ∷ []))

  pub left_fails : (o : Option N) (e : TakeError) → Fails e (known s.trees a) → Fails e (said_with o)
  left_fails None e h = fails_then e (known s.trees a) _ h
  left_fails (Some x) e h = fails_then e (known s.trees a) _ h

  pub right_fails : (o : Option N) (e : TakeError) (left : Tree) → known s.trees a ≡ Ok left → Fails e (known s.trees b) → Fails e (said_with o)
  right_fails None e left is h = rw is (fails_then e (known s.trees b) _ h)
  right_fails (Some x) e left is h = rw is (fails_then e (known s.trees b) _ h)

  pub said_plain : (o : Option N) (left right : Tree) → o ≡ None → known s.trees a ≡ Ok left → known s.trees b ≡ Ok right → said_with o ≡ (all_known mean ps >>= plain_line r left right)
  said_plain None left right n e f = rw (e, f) refl
  said_plain (Some x) left right n e f = absurd (cc)

  pub said_beside : (o : Option N) (x : N) (left right : Tree) → o ≡ Some x → known s.trees a ≡ Ok left → known s.trees b ≡ Ok right → said_with o ≡ beside_said s mean r left right (view.value x) ps
  said_beside None x left right n e f = absurd (cc)
  said_beside (Some y) x left right n e f = let same : y ≡ x = cc in rw (e, f, same) refl
