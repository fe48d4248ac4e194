-- Parts that are ended, and the one that is not.
use Rattle.std.proofs.Common.{◌≡◌, List, [], ◌∷◌, ◌++◌, refl, ap, ◌∙◌, Vec}
use Rattle.std.specs.Prelude.{map, All}
use Rattle.std.specs.declared.alloc.Global.{Global}
use Rattle.std.proofs.lemmas.List.{map-append}
use Rattle.std.proofs.lemmas.List.Elements.{All-nil, All-push}
use Rattle.lk_store.specs.Contents.{Contents}
use Rattle.lk_members.specs.declared.members.Members.{Members}
use Rattle.lk_members.specs.Indices.{IsIndexed}
use Rattle.lk_members.specs.Plain.{PlainLine, lines_at}
use Rattle.lk_units.specs.declared.assembler.Assembler.{Assembler}
use Rattle.lk_units.specs.State.{State, next_part}
use Rattle.lk_units.specs.Held.{IsPartIn, IsKnown, Holds}

abbrev pub part_lines : Contents → Members → List PlainLine
part_lines c m = lines_at c m.lines.items

module _ (a : Assembler) (c : Contents) (parts : List Members) (e : parts ≡ a.parts.items ++ a.members ∷ []) where
  pub all_in : IsKnown a c → All (IsPartIn c) parts
  all_in k = rw e (All-push (IsPartIn c) a.parts.items a.members k.parts_in (record { lines_in = k.lines_in; indexed = k.indexed; faultless = k.faultless }))

  pub all_stated : (s : State) → Holds a c s → map (part_lines c) parts ≡ s.parts ++ s.lines ∷ []
  all_stated s h =
      ap (map (part_lines c)) e ∙ map-append (part_lines c) a.parts.items (a.members ∷ []) ∙ ap (λ ps. ps ++ part_lines c a.members ∷ []) h.parts ∙ ap (λ ls. s.parts ++ ls ∷ []) h.lines

-- the part ends
module _ (a : Assembler) (c : Contents) (parts : Vec Members Global) (m : Members) (e : parts.items ≡ a.parts.items ++ a.members ∷ []) (none : m.lines.items ≡ []) where
  pub part_holds : (s : State) → Holds a c s → Holds (record a { parts = parts; members = m }) c (next_part s)
  part_holds s h = record {
    names = h.names;
    levels = h.levels;
    trees = h.trees;
    rules = h.rules;
    parts = all_stated a c parts.items e s h;
    lines = rw none refl;
    budgets = h.budgets;
    count = h.count;
  }

  pub part_known : IsIndexed m → IsKnown a c → IsKnown (record a { parts = parts; members = m }) c
  part_known i k = record {
    names_below = k.names_below;
    levels_below = k.levels_below;
    trees_below = k.trees_below;
    rules_below = k.rules_below;
    rules_in = k.rules_in;
    parts_in = all_in a c parts.items e k;
    lines_in = rw none (All-nil _);
    indexed = i;
    faultless = rw none tt;
    budgets_in = k.budgets_in;
  }
