-- Heads by which Core looks at a major premise.
use Rattle.std.specs.Prelude.{Bool, true, false}
use Rattle.lk_tree.specs.Tree.{Tree}
use Rattle.lk_rulebook.specs.Place.{Place, Kind, a_quot, a_rec}
use Rattle.lk_questions.specs.Query.{core}
use Rattle.lk_store.specs.Contents.{Contents}
use Rattle.lk_step.specs.declared.step.Row.{Row}
use Rattle.lk_step.specs.Heads.{IsQuotientHead, IsRecursorHead, IsMajorHead}
use Rattle.lk_step.specs.Parts.{IsWhole}
use Rattle.lk_derive_reduce.specs.declared.major_heads.MajorHead.{MajorHead}
use Rattle.lk_derive_reduce.specs.declared.major_heads.MajorHead.TheVariants.{Quotient, Recursor}

-- the kind of a constant that a quotient unit gives, or of a recursor
abbrev pub IsMajorKind : Kind → Type 0
IsMajorKind a_quot = Unit {0}
IsMajorKind (a_rec r) = Unit {0}
IsMajorKind _ = ⊥

-- the row is that of Core of e, or the head of e is one by which Core looks at a major premise
abbrev pub IsFilled : Place → Contents → Tree → Row → Bool → Type 0
IsFilled w c e r true = IsWhole w c (core e) r
IsFilled w c e r false = IsMajorHead w e

-- the head of e is one of this kind
abbrev pub IsHeadBy : Place → Tree → MajorHead → Type 0
IsHeadBy w e Quotient = IsQuotientHead w e
IsHeadBy w e Recursor = IsRecursorHead w e
