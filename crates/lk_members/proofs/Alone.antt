-- The kinds of units, line by line.
use Rattle.std.proofs.Common.{◌≡◌, ℕ, suc, nat_eq, Bool, true, false, List, [], ◌∷◌, ◌++◌, length, refl, ap, sym, ◌∙◌, subst, append_assoc}
use Rattle.std.specs.Prelude.{Option, Some, None, map, is_some, if◌then◌else◌}
use Rattle.std.proofs.lemmas.List.{map-append, append-nil, nil_from_length}
use Rattle.lk_store.specs.Contents.{Contents}
use Rattle.lk_env.specs.declared.unit.Block.{Block}
use Rattle.lk_members.specs.declared.line.StoredLine.{StoredLine}
use Rattle.lk_members.specs.declared.line.StoredMember.{StoredMember}
use Rattle.lk_members.specs.declared.line.StoredMember.TheVariants as stored
use Rattle.lk_members.specs.Units.{if_any, is_alone, block_with, block_at, is_last, ended, at_line, units_from, units_of}
use Rattle.lk_members.specs.Stored.{NumberedLine, NumberedUnit, said_of, line_of, lines_of, unit_stated}
use Rattle.lk_members.specs.Finishing.{AreBlocksMade, AreEnded, IsNext, block_value, kind_at_end, kind_here}

-- the kinds of the units that stand at the lines in front of the rest
pub record AreKinds (lines rest : List StoredLine) (blocks : List (Option Block)) (kinds : List Bool) : Type 0 where
  pub ended : AreEnded lines (lines_of rest) blocks
  pub whole : kinds ++ map is_alone (units_from nat_eq (lines_of lines) (lines_of rest)) ≡ map is_alone (units_of nat_eq (lines_of lines))

-- any store
none : Contents
none = record { names = []; texts = []; levels = []; lists = []; trees = [] }

module _ (lines : List StoredLine) where
  -- a block is made exactly where one ends
  made_where : (us : List NumberedUnit) (b : Option Block) → AreBlocksMade lines us (if_any b) → length us ≡ length (if_any b)
  made_where us b m = lengths (if_any b) us (m.same none)
    where
      lengths : (bs : List Block) (vs : List NumberedUnit) → map (block_value none) bs ≡ map (unit_stated none) vs → length vs ≡ length bs
      lengths [] [] e = refl
      lengths [] (v ∷ vs) e = absurd (cc)
      lengths (b ∷ bs) [] e = absurd (cc)
      lengths (b ∷ bs) (v ∷ vs) e = let tails : map (block_value none) bs ≡ map (unit_stated none) vs = cc in ap (λ n. suc n) (lengths bs vs tails)

  module _ (later : List NumberedLine) where
    last_kind : (ts : List ℕ) (t : Bool) (b : Option Block) → AreBlocksMade lines (if t then block_with nat_eq (lines_of lines) ts ∷ [] else []) (if_any b)
        → kind_at_end (is_some b) ≡ map is_alone (if t then block_with nat_eq (lines_of lines) ts ∷ [] else [])
    last_kind ts true None m = absurd (let e = made_where (block_with nat_eq (lines_of lines) ts ∷ []) None m in cc)
    last_kind ts true (Some x) m = refl
    last_kind ts false None m = refl
    last_kind ts false (Some x) m = absurd (let e = made_where [] (Some x) m in cc)

    end_kind : (o : Option (List ℕ)) (b : Option Block) → AreBlocksMade lines (ended nat_eq (lines_of lines) later o) (if_any b)
        → kind_at_end (is_some b) ≡ map is_alone (ended nat_eq (lines_of lines) later o)
    end_kind None None m = refl
    end_kind None (Some x) m = absurd (let e = made_where [] (Some x) m in cc)
    end_kind (Some ts) b m = last_kind ts (is_last nat_eq (lines_of lines) later ts) b m

    line_kind : (s : StoredMember) (b : Option Block) → AreBlocksMade lines (ended nat_eq (lines_of lines) later (block_at nat_eq (lines_of lines) (said_of s))) (if_any b)
        → kind_here s (is_some b) ≡ map is_alone (at_line nat_eq (lines_of lines) later (said_of s))
    line_kind (stored.Alone d) b m = refl
    line_kind (stored.Type head types) b m = end_kind (Some types.items) b m
    line_kind (stored.Constructor k) b m = end_kind (block_at nat_eq (lines_of lines) (said_of (stored.Constructor k))) b m
    line_kind (stored.Recursor types r) b m = end_kind None b m

module _ (lines more : List StoredLine) (l : StoredLine) where
  -- the kinds of the units that stand behind a line, and of the one that stands at it
  abbrev behind : List Bool
  behind = map is_alone (units_from nat_eq (lines_of lines) (lines_of more))

  abbrev here : List NumberedUnit
  here = at_line nat_eq (lines_of lines) (lines_of more) (said_of l.said)

  abbrev Made : Option Block → Type 0
  Made o = AreBlocksMade lines (ended nat_eq (lines_of lines) (lines_of more) (block_at nat_eq (lines_of lines) (said_of l.said))) (if_any o)

  whole_more : (rest : List StoredLine) (blocks : List (Option Block)) (kinds : List Bool) → rest ≡ l ∷ more → AreKinds lines rest blocks kinds
      → kinds ++ (map is_alone here ++ behind) ≡ map is_alone (units_of nat_eq (lines_of lines))
  whole_more rest blocks kinds cut g =
      let apart : map is_alone (here ++ units_from nat_eq (lines_of lines) (lines_of more)) ≡ map is_alone here ++ behind = map-append is_alone here (units_from nat_eq (lines_of lines) (lines_of more)) in
      ap (λ ks. kinds ++ ks) (sym apart) ∙ ap (λ ls. kinds ++ map is_alone (units_from nat_eq (lines_of lines) (lines_of ls))) (sym cut) ∙ g.whole

  -- one line more
  pub kinds_more : (rest : List StoredLine) (blocks left : List (Option Block)) (popped : Option Block) (kinds pushed : List Bool)
      → rest ≡ l ∷ more → IsNext blocks popped left → pushed ≡ kinds ++ kind_here l.said (is_some popped)
      → AreKinds lines rest blocks kinds → AreKinds lines more left pushed
  kinds_more rest blocks left popped kinds pushed cut next pu g = go blocks next (subst (λ ls. AreEnded lines (lines_of ls) blocks) cut g.ended)
    where
      go : (os : List (Option Block)) → IsNext os popped left → AreEnded lines (line_of l ∷ lines_of more) os → AreKinds lines more left pushed
      go [] n e = absurd e
      go (o ∷ os) n e =
          let m : Made popped = subst Made (sym n.0) e.0 in
          record {
            ended = subst (AreEnded lines (lines_of more)) (sym n.1) e.1;
            whole = ap (λ ks. ks ++ behind) pu ∙ append_assoc kinds (kind_here l.said (is_some popped)) behind
                ∙ ap (λ ks. kinds ++ (ks ++ behind)) (line_kind lines (lines_of more) l.said popped m) ∙ whole_more rest blocks kinds cut g;
          }

pub kinds_begin : (lines : List StoredLine) (blocks : List (Option Block)) (kinds : List Bool) → kinds ≡ [] → AreEnded lines (lines_of lines) blocks → AreKinds lines lines blocks kinds
kinds_begin lines blocks kinds e ended = record { ended = ended; whole = rw e refl }

pub kinds_done : (lines rest : List StoredLine) (blocks : List (Option Block)) (kinds : List Bool) → rest ≡ [] → AreKinds lines rest blocks kinds → kinds ≡ map is_alone (units_of nat_eq (lines_of lines))
kinds_done lines rest blocks kinds none g = sym (append-nil kinds) ∙ (rw none at g.whole)
