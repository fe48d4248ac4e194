-- Blocks at their last lines, and the units of all lines.
use Rattle.std.proofs.Common.{◌≡◌, ℕ, nat_eq, Bool, List, [], ◌∷◌, ◌++◌, length, refl, ap, sym, ◌∙◌, subst, append_assoc}
use Rattle.std.specs.Prelude.{◌||◌, reverse, Option, Some, None, if◌then◌else◌}
use Rattle.std.proofs.lemmas.List.{reverse-append, map-append, nil_from_length}
use Rattle.std.proofs.lemmas.List.Elements.{All-nil, All-cons, All-head, All-tail}
use Rattle.std.specs.HashSet.{HashSet, contains}
use Rattle.lk_store.specs.Contents.{Contents}
use Rattle.lk_env.specs.Units.{unit_at, IsUnitIn}
use Rattle.lk_env.specs.declared.unit.Block.{Block}
use Rattle.lk_env.specs.declared.unit.Unit.{Unit as StoredUnit}
use Rattle.lk_env.specs.declared.unit.Unit.TheVariants as unit
use Rattle.lk_members.specs.declared.line.StoredLine.{StoredLine}
use Rattle.lk_members.specs.declared.line.StoredMember.{StoredMember}
use Rattle.lk_members.specs.declared.line.StoredMember.TheVariants as stored
use Rattle.lk_members.specs.Units.{if_any, block_with, block_at, ended, at_line, units_from, units_of}
use Rattle.lk_members.specs.Stored.{NumberedLine, NumberedUnit, said_of, line_of, lines_of, unit_stated, IsStoredMemberIn, AreLinesIn}
use Rattle.lk_members.specs.Finishing.{IsFaultless, AreBlocksMade, AreUnitsMade, IsBlockIn, AreEnded, IsNext, begins_with, any_begins, ended_unless, block_unit, unit_here}
use Rattle.lk_members.proofs.Gathering.{IsUnderWay, made_more, all_made}
use Rattle.lk_members.proofs.Owned.{ended_is}

-- the blocks that end at the lines behind the rest are made, the last first
pub record IsEnding {S : Type 0} (lines rest : List StoredLine) (met : HashSet ℕ S) (blocks : List (Option Block)) : Type 0 where
  pub later : List NumberedLine
  pub whole : lines_of rest ++ later ≡ lines_of lines
  pub is_met : (q : ℕ) → contains nat_eq met q ≡ any_begins (lines_of lines) later q
  pub ended : AreEnded lines later blocks

-- the units of the lines in front of the rest are made; the rest stands in reverse
pub record IsGathering (lines rest : List StoredLine) (blocks : List (Option Block)) (units : List StoredUnit) : Type 0 where
  pub ended : AreEnded lines (lines_of (reverse rest)) blocks
  pub among : (c : Contents) → AreLinesIn c lines → AreLinesIn c (reverse rest)
  pub made : IsUnderWay unit_at unit_stated IsUnitIn lines (units_from nat_eq (lines_of lines) (lines_of (reverse rest))) (units_of nat_eq (lines_of lines)) units

reverse_push : {A : Type 0} (xs : List A) (x : A) → reverse (xs ++ x ∷ []) ≡ x ∷ reverse xs
reverse_push xs x = reverse-append xs (x ∷ [])

unless_same : (lines : List NumberedLine) (met other : ℕ → Bool) → ((q : ℕ) → met q ≡ other q) → (o : Option (List ℕ)) → ended_unless met lines o ≡ ended_unless other lines o
unless_same lines met other h None = refl
unless_same lines met other h (Some []) = refl
unless_same lines met other h (Some (t ∷ ts)) = ap (λ (b : Bool). if b then [] else block_with nat_eq lines (t ∷ ts) ∷ []) (h t)

-- one line more, from the last
pub ending_more : {S : Type 0} (lines rest more : List StoredLine) (l : StoredLine) (met new : HashSet ℕ S) (blocks pushed : List (Option Block)) (b : Option Block) → IsFaultless (lines_of lines) → rest ≡ more ++ l ∷ [] → pushed ≡ b ∷ blocks
    → ((q : ℕ) → contains nat_eq new q ≡ (begins_with q (block_at nat_eq (lines_of lines) (said_of l.said)) || contains nat_eq met q))
    → AreBlocksMade lines (ended_unless (contains nat_eq met) (lines_of lines) (block_at nat_eq (lines_of lines) (said_of l.said))) (if_any b)
    → IsEnding lines rest met blocks → IsEnding lines more new pushed
ending_more lines rest more l met new blocks pushed b fine cut is added made e =
    let whole : lines_of more ++ line_of l ∷ e.later ≡ lines_of lines =
    sym (append_assoc (lines_of more) (line_of l ∷ []) e.later) ∙ ap (λ ls. ls ++ e.later) (sym (map-append line_of more (l ∷ []))) ∙ ap (λ ls. lines_of ls ++ e.later) (sym cut) ∙ e.whole in
    let same = unless_same (lines_of lines) (contains nat_eq met) (any_begins (lines_of lines) e.later) e.is_met (block_at nat_eq (lines_of lines) (said_of l.said)) ∙ ended_is (lines_of lines) (lines_of more) (line_of l) e.later fine whole in
    record {
      later = line_of l ∷ e.later;
      whole = whole;
      is_met = λ q. added q ∙ ap (λ x. begins_with q (block_at nat_eq (lines_of lines) (said_of l.said)) || x) (e.is_met q);
      ended = subst (AreEnded lines (line_of l ∷ e.later)) (sym is) (subst (λ us. AreBlocksMade lines us (if_any b)) same made, e.ended);
    }

-- a line's unit is made
unit_known : (lines : List StoredLine) (later : List NumberedLine) (l : StoredLine) (b : Option Block) → ((c : Contents) → AreLinesIn c lines → IsStoredMemberIn c l.said)
    → AreBlocksMade lines (ended nat_eq (lines_of lines) later (block_at nat_eq (lines_of lines) (said_of l.said))) (if_any b) → AreUnitsMade lines (at_line nat_eq (lines_of lines) later (said_of l.said)) (if_any (unit_here l.said b))
unit_known lines later l b known made = go l.said known made
  where
    of_block : (us : List NumberedUnit) (o : Option Block) → AreBlocksMade lines us (if_any o) → AreUnitsMade lines us (if_any (block_unit o))
    of_block us None m = record { same = m.same; known = λ c all. All-nil (IsUnitIn c) }
    of_block us (Some x) m = record { same = m.same; known = λ c all. All-cons (IsUnitIn c) (unit.Block x) [] (All-head (IsBlockIn c) x [] (m.known c all)) (All-nil (IsUnitIn c)) }

    go : (s : StoredMember) → ((c : Contents) → AreLinesIn c lines → IsStoredMemberIn c s) → AreBlocksMade lines (ended nat_eq (lines_of lines) later (block_at nat_eq (lines_of lines) (said_of s))) (if_any b)
        → AreUnitsMade lines (at_line nat_eq (lines_of lines) later (said_of s)) (if_any (unit_here s b))
    go (stored.Alone d) k m = record { same = λ c. refl; known = λ c all. All-cons (IsUnitIn c) (unit.Declaration d) [] (k c all) (All-nil (IsUnitIn c)) }
    go (stored.Type head types) k m = of_block (ended nat_eq (lines_of lines) later (Some types.items)) b m
    go (stored.Constructor x) k m = of_block (ended nat_eq (lines_of lines) later (block_at nat_eq (lines_of lines) (said_of (stored.Constructor x)))) b m
    go (stored.Recursor types r) k m = of_block [] b m

-- one line more, from the first
pub gathering_more : (lines rest more : List StoredLine) (l : StoredLine) (blocks left : List (Option Block)) (popped : Option Block) (units pushed : List StoredUnit)
    → rest ≡ more ++ l ∷ [] → IsNext blocks popped left → pushed ≡ units ++ if_any (unit_here l.said popped)
    → IsGathering lines rest blocks units → IsGathering lines more left pushed
gathering_more lines rest more l blocks left popped units pushed cut next pu g = go blocks next ended_here
  where
    turned : reverse rest ≡ l ∷ reverse more
    turned = ap (λ (ls : List StoredLine). reverse ls) cut ∙ reverse_push more l

    ended_here : AreEnded lines (line_of l ∷ lines_of (reverse more)) blocks
    ended_here = subst (λ ls. AreEnded lines (lines_of ls) blocks) turned g.ended

    known : (c : Contents) → AreLinesIn c lines → AreLinesIn c (l ∷ reverse more)
    known c all = subst (AreLinesIn c) turned (g.among c all)

    go : (os : List (Option Block)) → IsNext os popped left → AreEnded lines (line_of l ∷ lines_of (reverse more)) os → IsGathering lines more left pushed
    go [] n e = absurd e
    go (o ∷ os) n e = record {
      ended = subst (AreEnded lines (lines_of (reverse more))) (sym n.1) e.1;
      among = λ c all. All-tail (λ (k : StoredLine). IsStoredMemberIn c k.said) l (reverse more) (known c all);
      made = made_more unit_at unit_stated IsUnitIn lines (units_from nat_eq (lines_of lines) (lines_of (reverse rest))) (at_line nat_eq (lines_of lines) (lines_of (reverse more)) (said_of l.said)) (units_from nat_eq (lines_of lines) (lines_of (reverse more)))
          (units_of nat_eq (lines_of lines)) units (if_any (unit_here l.said popped)) pushed (ap (λ ls. units_from nat_eq (lines_of lines) (lines_of ls)) turned) pu
          (unit_known lines (lines_of (reverse more)) l popped (λ c all. All-head (λ (k : StoredLine). IsStoredMemberIn c k.said) l (reverse more) (known c all)) (subst (λ (p : Option Block). AreBlocksMade lines (ended nat_eq (lines_of lines) (lines_of (reverse more)) (block_at nat_eq (lines_of lines) (said_of l.said))) (if_any p)) (sym n.0) e.0)) g.made;
    }

pub gathered : (lines rest : List StoredLine) (blocks : List (Option Block)) (units : List StoredUnit) → length rest ≡ 0 → IsGathering lines rest blocks units → AreUnitsMade lines (units_of nat_eq (lines_of lines)) units
gathered lines rest blocks units none g =
    all_made unit_at unit_stated IsUnitIn lines (units_from nat_eq (lines_of lines) (lines_of (reverse rest))) (units_of nat_eq (lines_of lines)) units (ap (λ ls. units_from nat_eq (lines_of lines) (lines_of (reverse ls))) (nil_from_length rest none)) g.made
