-- The recursors of a list, by the places that the members have.
use Rattle.std.proofs.Common.{◌≡◌, ◌<◌, ℕ, nat_eq, List, [], map, length, get_or, ap, sym, ◌∙◌, subst, arith}
use Rattle.std.specs.Prelude.{Vec, Some, slice_get}
use Rattle.std.specs.List.{flat_map}
use Rattle.std.specs.declared.alloc.Global.{Global}
use Rattle.std.proofs.lemmas.Option.{slice_get-get_or}
use Rattle.std.proofs.lemmas.List.Elements.{All-nil, All-same}
use Rattle.lk_env.specs.Units as units
use Rattle.lk_env.specs.declared.unit.Recursor.{Recursor}
use Rattle.lk_members.specs.declared.members.Members.{Members}
use Rattle.lk_members.specs.Lines.{recursors_of}
use Rattle.lk_members.specs.Stored.{lines_of}
use Rattle.lk_members.specs.Indices.{IsIndexed, recursor_at, group_of}
use Rattle.lk_members.specs.Finishing.{AreRecursorsMade}
use Rattle.lk_members.proofs.Groups.{group_at, no_group}

module _ (m : Members) (indexed : IsIndexed m) (us wanted : List ℕ) (is : wanted ≡ us) (made : List Recursor) where
  pub none_listed : ((k : ℕ) (d : List ℕ) → k < length m.lists → get_or m.lists k d ≡ wanted → ⊥) → made ≡ [] → AreRecursorsMade m.lines.items (recursors_of nat_eq (lines_of m.lines.items) us) made
  none_listed absent none =
      let no = no_group m.lists m.recursors.items us (λ k d lt e. absent k d lt (e ∙ sym is)) in
      let empty : [] ≡ recursors_of nat_eq (lines_of m.lines.items) us = sym (ap (flat_map (recursor_at (lines_of m.lines.items) us)) no) ∙ indexed.groups us in
      record {
        same = λ c. ap (map (units.recursor_at c)) (none ∙ empty);
        known = λ c all. All-same (units.IsRecursorIn c) made [] none (All-nil (units.IsRecursorIn c));
      }

  pub all_listed : (k : ℕ) (g : Vec ℕ Global) (places : List ℕ) → k < length m.lists → ((d : List ℕ) → get_or m.lists k d ≡ wanted) → g ≡ get_or m.recursors.items k g → places ≡ g.items
      → AreRecursorsMade m.lines.items (flat_map (recursor_at (lines_of m.lines.items) us) places) made → AreRecursorsMade m.lines.items (recursors_of nat_eq (lines_of m.lines.items) us) made
  all_listed k g places lt at group here all =
      let at_list : slice_get m.lists k ≡ Some us = slice_get-get_or m.lists k [] lt ∙ ap Some (at [] ∙ is) in
      let at_group : slice_get m.recursors.items k ≡ Some g = slice_get-get_or m.recursors.items k g (omega (arith, indexed.grouped)) ∙ ap Some (sym group) in
      let places_are : places ≡ group_of m.lists m.recursors.items us = here ∙ sym (group_at m.lists m.recursors.items us k g indexed.apart indexed.grouped at_list at_group) in
      subst (λ rs. AreRecursorsMade m.lines.items rs made) (ap (flat_map (recursor_at (lines_of m.lines.items) us)) places_are ∙ indexed.groups us) all
