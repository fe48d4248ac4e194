-- A line that is put behind those before it.
use Rattle.std.proofs.Common.{◌≡◌, ℕ, List, [], ◌∷◌, ◌++◌, Some, None, ap, ◌∙◌, Ok, Err, append_assoc}
use Rattle.std.specs.Prelude.{nat_eq}
use Rattle.std.proofs.lemmas.List.{map-append, append-nil}
use Rattle.std.proofs.lemmas.List.Elements.{All-push}
use Rattle.lk_tree.specs.Mentions.{same_name}
use Rattle.lk_store.specs.Contents.{Contents}
use Rattle.lk_store.specs.Values.{AreApart}
use Rattle.lk_members.specs.declared.fault.MemberFault.{MemberFault}
use Rattle.lk_members.specs.declared.fault.MemberError.{MemberError}
use Rattle.lk_members.specs.declared.fault.MemberError.TheVariants as members
use Rattle.lk_members.specs.Taking.{Takes}
use Rattle.lk_members.specs.declared.line.StoredMember.{StoredMember}
use Rattle.lk_members.specs.declared.line.StoredLine.{StoredLine}
use Rattle.lk_members.specs.declared.members.Members.{Members}
use Rattle.lk_members.specs.Faults.{fault_of}
use Rattle.lk_members.specs.Stored.{NumberedLine, said_of, line_of, lines_of, IsStoredMemberIn}
use Rattle.lk_members.specs.Indices.{IsIndexed}
use Rattle.lk_members.specs.Finishing.{AreFaultless}
use Rattle.lk_members.specs.Plain.{said_at, line_at, lines_at}
use Rattle.lk_members.proofs.Standing.{fault_stands}
use Rattle.lk_units.specs.declared.assembler.Assembler.{Assembler}
use Rattle.lk_units.specs.State.{State, fault_word, unless_fault, with_line}
use Rattle.lk_units.specs.Held.{IsKnown, Holds, Fails, told}

abbrev line : ℕ → StoredMember → StoredLine
line l x = record { number = l; said = x }

module _ (a : Assembler) (c : Contents) (s : State) (x : StoredMember) (apart : AreApart [] c.names) (k : IsKnown a c) (h : Holds a c s) (known : IsStoredMemberIn c x) where
  -- its fault is found by numbers
  line_fault : fault_of same_name s.lines (said_at c x) ≡ fault_of nat_eq (lines_of a.members.lines.items) (said_of x)
  line_fault = rw (← h.lines) (fault_stands c apart a.members.lines.items x k.lines_in known)

  pub line_placed : (l : ℕ) (m : Members) → m.lines.items ≡ a.members.lines.items ++ line l x ∷ [] → fault_of nat_eq (lines_of a.members.lines.items) (said_of x) ≡ None
      → (t : State) × (with_line l s (said_at c x) ≡ Ok t) × Holds (record a { members = m }) c t
  line_placed l m e n = (
    record s { lines = s.lines ++ record { number = l; said = said_at c x } ∷ [] },
    ap (λ o. unless_fault o (record s { lines = s.lines ++ record { number = l; said = said_at c x } ∷ [] })) (line_fault ∙ n),
    record {
      names = h.names;
      levels = h.levels;
      trees = h.trees;
      rules = h.rules;
      parts = h.parts;
      lines = ap (lines_at c) e ∙ map-append (line_at c) a.members.lines.items (line l x ∷ []) ∙ ap (λ ls. ls ++ line_at c (line l x) ∷ []) h.lines;
      budgets = h.budgets;
      count = h.count;
    },
  )

  pub line_refused : (l : ℕ) (f : MemberFault) → fault_of nat_eq (lines_of a.members.lines.items) (said_of x) ≡ Some f → with_line l s (said_at c x) ≡ Err (fault_word f)
  line_refused l f e = ap (λ o. unless_fault o (record s { lines = s.lines ++ record { number = l; said = said_at c x } ∷ [] })) (line_fault ∙ e)

  -- why it is not taken
  pub line_told : (l : ℕ) (e : MemberError) → Takes (Err e) (fault_of nat_eq (lines_of a.members.lines.items) (said_of x)) → Fails (told e) (with_line l s (said_at c x))
  line_told l members.NoMemory t = tt
  line_told l (members.Fault f) t = line_refused l f t

-- one more line without a fault
faultless_push : (before ls : List NumberedLine) (l : NumberedLine) → AreFaultless before ls → fault_of nat_eq (before ++ ls) l.said ≡ None → AreFaultless before (ls ++ l ∷ [])
faultless_push before [] l h n = (rw (append-nil before) at n, tt)
faultless_push before (k ∷ ls) l h n = (h.0, faultless_push (before ++ k ∷ []) ls l h.1 (rw (append_assoc before (k ∷ []) ls) n))

pub placed_known : (a : Assembler) (c : Contents) (x : StoredMember) (l : ℕ) (m : Members) → IsKnown a c → IsStoredMemberIn c x → IsIndexed m → m.lines.items ≡ a.members.lines.items ++ line l x ∷ []
    → fault_of nat_eq (lines_of a.members.lines.items) (said_of x) ≡ None → IsKnown (record a { members = m }) c
placed_known a c x l m k known i e n = record {
  names_below = k.names_below;
  levels_below = k.levels_below;
  trees_below = k.trees_below;
  rules_below = k.rules_below;
  rules_in = k.rules_in;
  parts_in = k.parts_in;
  lines_in = rw e (All-push (λ (y : StoredLine). IsStoredMemberIn c y.said) a.members.lines.items (line l x) k.lines_in known);
  indexed = i;
  faultless = rw (e, map-append line_of a.members.lines.items (line l x ∷ [])) (faultless_push [] (lines_of a.members.lines.items) (line_of (line l x)) k.faultless n);
  budgets_in = k.budgets_in;
}
