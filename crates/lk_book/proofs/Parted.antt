-- The parts of a file that was read, and their units.
use Rattle.std.proofs.Common.{◌≡◌, ℕ, List, [], ◌∷◌, ◌++◌, Ok, Err, Result, refl, ap, sym, ◌∙◌, append_assoc, Vec}
use Rattle.std.specs.Prelude.{map, reverse, All, IfOk}
use Rattle.std.specs.declared.alloc.Global.{Global}
use Rattle.std.proofs.lemmas.List.{reverse-append, reverse-reverse, map-append}
use Rattle.std.proofs.lemmas.List.Elements.{All-nil, All-head, All-tail, All-push}
use Rattle.lk_rulebook.specs.Units.{Library}
use Rattle.lk_store.specs.Contents.{Contents}
use Rattle.lk_env.specs.Units.{library_at, AreUnitsIn}
use Rattle.lk_env.specs.declared.unit.Unit.{Unit as StoredUnit}
use Rattle.lk_members.specs.declared.members.Members.{Members}
use Rattle.lk_members.specs.Plain.{PlainLine}
use Rattle.lk_lines.specs.declared.line.Fault.{Fault}
use Rattle.lk_lines.specs.declared.tags.Dialect.TheVariants as dialects
use Rattle.lk_units.specs.State.{State}
use Rattle.lk_units.specs.Held.{IsPartIn, Holds}
use Rattle.lk_units.proofs.Parting.{part_lines, all_stated}
use Rattle.lk_units.specs.declared.assembler.Assembler.{Assembler}
use Rattle.lk_book.specs.File.{after, units_stated, course_in, parts_stated, rounds_stated, rounds_of}
use Rattle.lk_book.specs.Reading.{TellsOpen, Reads, ReadsRounds, AreStated}
use Rattle.lk_book.specs.declared.rounds.Rounds.{Rounds}
use Rattle.lk_book.specs.declared.error.ReadError.{ReadError}
use Rattle.lk_book.specs.declared.error.ReadError.TheVariants as errors

abbrev pub part_units : Contents → Vec StoredUnit Global → Library
part_units c us = library_at c us.items

-- what parts state, one after the other
abbrev both : Result (List Library) Fault → Result (List Library) Fault → Result (List Library) Fault
both p q = after p (λ us. after q (λ vs. Ok (us ++ vs)))

both_first : (q : Result (List Library) Fault) → q ≡ both (Ok []) q
both_first (Ok vs) = refl
both_first (Err f) = refl

both_next : (r : Result Library Fault) (p q whole : Result (List Library) Fault) → whole ≡ both p q
    → after r (λ u. after whole (λ vs. Ok (u ∷ vs))) ≡ both (after r (λ u. after p (λ vs. Ok (u ∷ vs)))) q
both_next (Err f) p q whole e = refl
both_next (Ok u) (Err f) q whole e = rw e refl
both_next (Ok u) (Ok us) (Err f) whole e = rw e refl
both_next (Ok u) (Ok us) (Ok vs) whole e = rw e refl

stated_append : (xs ys : List (List PlainLine)) → parts_stated (xs ++ ys) ≡ both (parts_stated xs) (parts_stated ys)
stated_append [] ys = both_first (parts_stated ys)
stated_append (x ∷ xs) ys = both_next (units_stated x) (parts_stated xs) (parts_stated ys) (parts_stated (xs ++ ys)) (stated_append xs ys)

module _ (xs : List (List PlainLine)) (us : List Library) (ls : List PlainLine) (e : parts_stated xs ≡ Ok us) where
  -- one more part
  stated_push : (u : Library) → units_stated ls ≡ Ok u → parts_stated (xs ++ ls ∷ []) ≡ Ok (us ++ u ∷ [])
  stated_push u h = rw (stated_append xs (ls ∷ []), e, h) refl

  -- a line is open in the next part
  stated_open : (more : List (List PlainLine)) (f : Fault) → units_stated ls ≡ Err f → parts_stated (xs ++ ls ∷ more) ≡ Err f
  stated_open more f h = rw (stated_append xs (ls ∷ more), e, h) refl

-- the units of the first parts are made; the parts that are left stand in reverse
pub record ArePartsMade (c : Contents) (all left : List Members) (made : List (Vec StoredUnit Global)) : Type 0 where
  pub ended : List Members
  pub whole : ended ++ reverse left ≡ all
  pub left_in : All (IsPartIn c) (reverse left)
  pub made_in : All (λ (us : Vec StoredUnit Global). AreUnitsIn c us.items) made
  pub units : parts_stated (map (part_lines c) ended) ≡ Ok (map (part_units c) made)

pub parts_begin : (c : Contents) (all left : List Members) (made : List (Vec StoredUnit Global)) → left ≡ reverse all → made ≡ [] → All (IsPartIn c) all → ArePartsMade c all left made
parts_begin c all left made turned none k =
    let back : reverse left ≡ all = ap reverse turned ∙ reverse-reverse all in
    record {
      ended = [];
      whole = back;
      left_in = rw back k;
      made_in = rw none (All-nil _);
      units = rw none refl;
    }

module _ (c : Contents) (all left more : List Members) (m : Members) (made : List (Vec StoredUnit Global)) (cut : left ≡ more ++ m ∷ []) (p : ArePartsMade c all left made) where
  turned : reverse left ≡ m ∷ reverse more
  turned = ap reverse cut ∙ reverse-append more (m ∷ [])

  -- the next part is one of the store
  pub next_in : IsPartIn c m
  next_in = All-head (IsPartIn c) m (reverse more) (rw turned at p.left_in)

  pub parts_more : (us : Vec StoredUnit Global) (grown : List (Vec StoredUnit Global)) → grown ≡ made ++ us ∷ [] → AreUnitsIn c us.items → units_stated (part_lines c m) ≡ Ok (part_units c us) → ArePartsMade c all more grown
  parts_more us grown g k h = record {
    ended = p.ended ++ m ∷ [];
    whole = append_assoc p.ended (m ∷ []) (reverse more) ∙ ap (λ ms. p.ended ++ ms) (sym turned) ∙ p.whole;
    left_in = All-tail (IsPartIn c) m (reverse more) (rw turned at p.left_in);
    made_in = rw g (All-push (λ (vs : Vec StoredUnit Global). AreUnitsIn c vs.items) made us p.made_in k);
    units = rw (g, map-append (part_lines c) p.ended (m ∷ []), map-append (part_units c) made (us ∷ [])) (stated_push (map (part_lines c) p.ended) (map (part_units c) made) (part_lines c m) p.units (part_units c us) h);
  }

  all_lines : map (part_lines c) all ≡ map (part_lines c) p.ended ++ part_lines c m ∷ map (part_lines c) (reverse more)
  all_lines = ap (map (part_lines c)) (sym p.whole ∙ ap (λ ms. p.ended ++ ms) turned) ∙ map-append (part_lines c) p.ended (m ∷ reverse more)

  pub parts_told : (e : ReadError) → TellsOpen e (units_stated (part_lines c m)) → TellsOpen e (parts_stated (map (part_lines c) all))
  parts_told errors.NoMemory t = tt
  parts_told errors.ReadFault t = t
  parts_told (errors.Fault f) t = ap parts_stated all_lines ∙ stated_open (map (part_lines c) p.ended) (map (part_units c) made) (part_lines c m) p.units (map (part_lines c) (reverse more)) f t

module _ (a : Assembler) (c : Contents) (parts : List Members) (e : parts ≡ a.parts.items ++ a.members ∷ []) where
  pub rounds_made : (uss : List (Vec StoredUnit Global)) (s : State) → parts_stated (map (part_lines c) parts) ≡ Ok (map (part_units c) uss) → Holds a c s → rounds_stated s ≡ Ok (map (part_units c) uss)
  rounds_made uss s u h = ap parts_stated (sym (all_stated a c parts e s h)) ∙ u

  -- why there are no units is why there are no parts
  pub rounds_told : (x : ReadError) (s : State) → TellsOpen x (parts_stated (map (part_lines c) parts)) → Holds a c s → ReadsRounds (rounds_stated s) (Err x)
  rounds_told errors.NoMemory s t h = tt
  rounds_told errors.ReadFault s t h = absurd t
  rounds_told (errors.Fault f) s t h = ap parts_stated (sym (all_stated a c parts e s h)) ∙ t

-- where no lines were read there are no parts
pub rounds_not_read : (bytes : List ℕ) (c : Contents) (e : ReadError) → Reads c (course_in dialects.Rounds bytes) (Err e) → ReadsRounds (rounds_of bytes) (Err e)
rounds_not_read bytes c errors.NoMemory h = tt
rounds_not_read bytes c errors.ReadFault h = tt
rounds_not_read bytes c (errors.Fault f) h = ap (λ x. after x (λ d. rounds_stated d.state)) h

-- parts that bytes state are those of some file
pub parts_stated_by : (bytes : List ℕ) (r : Result Rounds ReadError) → ReadsRounds (rounds_of bytes) r → IfOk r AreStated
parts_stated_by bytes (Ok r) e = (bytes, e)
parts_stated_by bytes (Err x) e = tt
