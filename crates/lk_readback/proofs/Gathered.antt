-- Lines without faults, none of which is open, state units that can be stated.
use Rattle.std.specs.Prelude.{ℕ, zero, suc, ◌≡◌, Bool, true, false, not, ◌⊎◌, List, [], ◌∷◌}
use Rattle.std.specs.Prelude.{◌++◌, map, All, Option, Some, None, slice_get, if◌then◌else◌}
use Rattle.std.specs.List.{list_any}
use Rattle.std.proofs.Common.{inl, inr, refl, ap, sym, ◌∙◌, subst}
use Rattle.std.proofs.lemmas.Bool.{or_left, or_right}
use Rattle.std.proofs.lemmas.Option.{same_Some}
use Rattle.std.proofs.lemmas.List.Elements.{All-nil, All-cons, All-head, All-tail}
use Rattle.lk_tree.specs.Tree.{Name}
use Rattle.lk_tree.specs.Mentions.{same_name}
use Rattle.lk_rulebook.specs.Place.{Ctor, BlockRecursor}
use Rattle.lk_rulebook.specs.Units.{Decl, LibraryUnit, Library}
use Rattle.lk_members.specs.Lines.{has, block_of, alone, a_type, a_ctor, a_recursor}
use Rattle.lk_members.specs.Faults.{first_open}
use Rattle.lk_members.specs.Units.{Gathered, one, is_this, block_with, block_at, ended, at_line}
use Rattle.lk_members.specs.Units.{units_from}
use Rattle.lk_members.specs.Plain.{Head, PlainMember, PlainLine, unit_of, library_stated}
use Rattle.lk_readback.specs.Statable.{IsUnit, types_of, AreStatable}
use Rattle.lk_readback.proofs.Members.{AreMembers, HaveNoFault}
use Rattle.lk_readback.proofs.KeptUnits.{ShareNone, none_shared}
use Rattle.lk_readback.proofs.NameLists.{list_itself}
use Rattle.lk_readback.proofs.OneBlock.{all_own}
use Rattle.lk_readback.proofs.FineBlocks.{IsFine, AreFine, all_fine, names_made, block_fine}

abbrev PlainGathered : Type 0
PlainGathered = Gathered Decl Head Ctor BlockRecursor

module _ (lines : List PlainLine) (members : AreMembers lines) (faultless : HaveNoFault lines)
    (fine : AreFine lines lines) where
  -- a line of a type or a constructor of the block
  abbrev is_of : List Name → PlainLine → Bool
  is_of ts l = is_this same_name ts (block_at same_name lines l.said)

  -- the block of the type x ends at a line, with these behind it
  record IsEnd (later : List PlainLine) (s : PlainMember) (x : Name) : Type 0 where
    ts : List Name
    leads : block_of same_name lines x ≡ Some ts
    here : is_this same_name ts (block_at same_name lines s) ≡ true
    last : list_any (is_of ts) later ≡ false

  -- a line of the block of the type x is among these
  record IsMet (later : List PlainLine) (x : Name) : Type 0 where
    ts : List Name
    leads : block_of same_name lines x ≡ Some ts
    met : list_any (is_of ts) later ≡ true

  -- the unit that stands at a line
  record IsHere (later : List PlainLine) (s : PlainMember) (gs : List PlainGathered) : Type 0 where
    what : PlainGathered
    is : gs ≡ what ∷ []
    unit : IsUnit (unit_of what)
    ends : (x : Name) → has same_name (types_of (unit_of what)) x ≡ true → IsEnd later s x

  -- a block whose list is found by the name y
  block_here : (later : List PlainLine) (s : PlainMember) (y : Name) (ts : List Name)
      → block_of same_name lines y ≡ Some ts → block_at same_name lines s ≡ Some ts
      → (ended same_name lines later (Some ts) ≡ [])
      ⊎ IsHere later s (ended same_name lines later (Some ts))
  block_here later s y ts found at = go (list_any (is_of ts) later) refl
    where
      go : (b : Bool) → list_any (is_of ts) later ≡ b
          → ((if not b then block_with same_name lines ts ∷ [] else []) ≡ [])
          ⊎ IsHere later s (if not b then block_with same_name lines ts ∷ [] else [])
      go true e = inl refl
      go false e =
          inr (record {
            what = block_with same_name lines ts;
            is = refl;
            unit = block_fine lines fine y ts members faultless found;
            ends = λ x h.
                let names = names_made lines fine y ts found in
                record {
                  ts = ts;
                  leads = (all_own lines faultless).one y x ts found
                      (ap (λ us. has same_name us x) (sym names) ∙ h);
                  here = ap (is_this same_name ts) at ∙ list_itself ts;
                  last = e;
                };
          })

  -- at each line stands nothing or a unit
  stands : (later : List PlainLine) (s : PlainMember) → IsFine lines s
      → (at_line same_name lines later s ≡ []) ⊎ IsHere later s (at_line same_name lines later s)
  stands later (alone d) h =
      inr (record { what = one d; is = refl; unit = h.member; ends = λ x e. absurd cc })
  stands later (a_type n ts cs t) h = block_here later (a_type n ts cs t) n ts h.own.leads refl
  stands later (a_ctor p n c) h = go (block_of same_name lines p) refl
    where
      go : (o : Option (List Name)) → block_of same_name lines p ≡ o
          → (ended same_name lines later o ≡ [])
          ⊎ IsHere later (a_ctor p n c) (ended same_name lines later o)
      go None e = inl refl
      go (Some ts) e = block_here later (a_ctor p n c) p ts e e
  stands later (a_recursor ts n r) h = inl refl

  -- the units at these lines
  record AreHere (later : List PlainLine) (us : Library) : Type 0 where
    each : All IsUnit us
    met : (n : ℕ) (u : LibraryUnit) (x : Name) → slice_get us n ≡ Some u
        → has same_name (types_of u) x ≡ true → IsMet later x
    apart : ShareNone us

  abbrev gathered : List PlainLine → Library
  gathered later = map unit_of (units_from same_name lines later)

  met_later : (l : PlainLine) (later : List PlainLine) (x : Name) → IsMet later x
      → IsMet (l ∷ later) x
  met_later l later x m =
      record {
        ts = m.ts;
        leads = m.leads;
        met = or_right (is_of m.ts l) (list_any (is_of m.ts) later) m.met;
      }

  met_here : (l : PlainLine) (later : List PlainLine) (x : Name) → IsEnd later l.said x
      → IsMet (l ∷ later) x
  met_here l later x e =
      record {
        ts = e.ts;
        leads = e.leads;
        met = or_left (is_of e.ts l) (list_any (is_of e.ts) later) e.here;
      }

  -- a block that ended is not met again
  not_met : (s : PlainMember) (later : List PlainLine) (x : Name) → IsEnd later s x
      → IsMet later x → ⊥
  not_met s later x e m =
      let same : e.ts ≡ m.ts = same_Some e.ts m.ts (sym e.leads ∙ m.leads) in
      let wrong : true ≡ false =
      sym m.met ∙ ap (λ ts. list_any (is_of ts) later) (sym same) ∙ e.last in
      cc

  with_none : (l : PlainLine) (later : List PlainLine) (us : Library) → AreHere later us
      → AreHere (l ∷ later) us
  with_none l later us h =
      record {
        each = h.each;
        met = λ n u x at i. met_later l later x (h.met n u x at i);
        apart = h.apart;
      }

  with_unit : (l : PlainLine) (later : List PlainLine) (us : Library) (gs : List PlainGathered)
      (g : IsHere later l.said gs) → AreHere later us → AreHere (l ∷ later) (unit_of g.what ∷ us)
  with_unit l later us gs g h =
      record {
        each = All-cons IsUnit (unit_of g.what) us g.unit h.each;
        met = met;
        apart = none_shared (unit_of g.what) us
            (λ n u x at in_g in_u. not_met l.said later x (g.ends x in_g) (h.met n u x at in_u))
            h.apart;
      }
    where
      met : (n : ℕ) (u : LibraryUnit) (x : Name) → slice_get (unit_of g.what ∷ us) n ≡ Some u
          → has same_name (types_of u) x ≡ true → IsMet (l ∷ later) x
      met zero u x at i =
          met_here l later x
          (g.ends x (ap (λ z. has same_name (types_of z) x) (same_Some (unit_of g.what) u at) ∙ i))
      met (suc n) u x at i = met_later l later x (h.met n u x at i)

  all_here : (later : List PlainLine) → AreFine lines later → AreHere later (gathered later)
  all_here [] all =
      record {
        each = All-nil IsUnit;
        met = λ n u x at i. absurd cc;
        apart = λ m n u v x other at_m at_n in_u in_v. absurd cc;
      }
  all_here (l ∷ later) all =
      go (at_line same_name lines later l.said)
      (stands later l.said (All-head (λ (k : PlainLine). IsFine lines k.said) l later all))
      (all_here later (All-tail (λ (k : PlainLine). IsFine lines k.said) l later all))
    where
      go : (gs : List PlainGathered) → (gs ≡ []) ⊎ IsHere later l.said gs
          → AreHere later (gathered later)
          → AreHere (l ∷ later) (map unit_of (gs ++ units_from same_name lines later))
      go gs (inl none) h =
          subst
          (λ (ks : List PlainGathered).
          AreHere (l ∷ later) (map unit_of (ks ++ units_from same_name lines later)))
          (sym none) (with_none l later (gathered later) h)
      go gs (inr g) h =
          subst
          (λ (ks : List PlainGathered).
          AreHere (l ∷ later) (map unit_of (ks ++ units_from same_name lines later)))
          (sym g.is) (with_unit l later (gathered later) gs g h)

pub gathered_statable : (ls : List PlainLine) → AreMembers ls → HaveNoFault ls
    → first_open same_name ls ls ≡ None → AreStatable (library_stated ls)
gathered_statable ls members faultless closed =
    let fine = all_fine ls members faultless closed in
    let h = all_here ls members faultless fine ls fine in
    record { each = h.each; apart = h.apart }
