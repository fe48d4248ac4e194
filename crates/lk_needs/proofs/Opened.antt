-- What is listed is what a thing leads to.
use Rattle.std.proofs.Common.{ℕ, zero, suc, ◌≡◌, ◌<◌, inl, inr, List, [], ◌∷◌, ◌++◌, map, take, length, get_or, Option, Some, None, refl, sym, ap, subst, ◌∙◌, arith}
use Rattle.std.specs.Prelude.{All, option_map, slice_get}
use Rattle.std.specs.List.{Contains}
use Rattle.std.proofs.lemmas.List.Elements.{All-nil, All-cons, All-get_or, All-weaker, All-contains_itself}
use Rattle.lk_tree.specs.Tree.{Name}
use Rattle.lk_rulebook.specs.Units.{Library, Found, first_giving}
use Rattle.lk_reach.proofs.Found.{found_below}
use Rattle.lk_uses.specs.Closure.{Uses}
use Rattle.lk_store.specs.Contents.{Contents, name_at, tree_at, tree_of}
use Rattle.lk_store.specs.Contents.{IsIn as IsNodeIn}
use Rattle.lk_store.specs.declared.node.Node.{Node}
use Rattle.lk_env.specs.StoredLibrary.{StoredLibrary}
use Rattle.lk_env.specs.declared.unit.Unit.{Unit as StoredUnit}
use Rattle.lk_env.specs.Units.{unit_at, library_of, IsUnitIn, AreUnitsIn}
use Rattle.lk_env.specs.Places.{position_in}
use Rattle.lk_env.proofs.Given.{unit_is}
use Rattle.lk_needs.specs.declared.opening.Recursors.{Recursors}
use Rattle.lk_needs.specs.declared.needs.Needs.{Needs}
use Rattle.lk_needs.specs.declared.thing.Thing.{Thing}
use Rattle.lk_needs.specs.declared.thing.Thing.TheVariants.{Unit as a_unit, Name as a_name, Tree as a_tree, Numbered}
use Rattle.lk_needs.specs.Followers.{followers_at}
use Rattle.lk_needs.specs.Marks.{IsThing, room_of, Enters}
use Rattle.lk_needs.specs.Things.{node_things, unit_things, giver_things, IsUnitListed}
use Rattle.lk_needs.specs.Leads.{contents_in, room_at, IsOfLibrary, AreRecursors, IsNaming, AreNaming, AreNamed, AreBelow, UnitUses, IsGiver, AreGivers, Leads, Opens}
use Rattle.lk_needs.proofs.Lists.{contains_cases, contains_first, contains_none}
use Rattle.lk_needs.proofs.Nodes.{node_taken}
use Rattle.lk_needs.proofs.Units.{unit_named, names_naming, names_only, names_all}

-- What is led to is of the library.
pub naming_in : (l : StoredLibrary) (ts : List Thing) → AreNaming (contents_in l) ts → All (IsOfLibrary l) ts
naming_in l [] h = All-nil (IsOfLibrary l)
naming_in l (t ∷ ts) h = All-cons (IsOfLibrary l) t ts (one t h.0) (naming_in l ts h.1)
  where
    one : (q : Thing) → IsNaming (contents_in l) q → IsOfLibrary l q
    one (a_unit u) k = absurd k
    one (a_name n) k = k
    one (a_tree e) k = k
    one (Numbered n) k = k

pub leads_in : (l : StoredLibrary) (n : ℕ) → n < length l.units → (t : Thing) (ts : List Thing) → Leads l n t ts → All (IsOfLibrary l) ts
leads_in l n n_in (a_unit u) ts h = naming_in l ts h.naming
leads_in l n n_in (a_tree e) ts h = naming_in l ts h.named.naming
leads_in l n n_in (Numbered m) ts h = naming_in l ts h.named.naming
leads_in l n n_in (a_name m) ts h = All-weaker (Contains ts) (IsOfLibrary l) (λ t k. giver_in t (h.only t k)) ts (All-contains_itself ts)
  where
    giver_in : (t : Thing) → IsGiver (library_of l) n (name_at (contents_in l) m) t → IsOfLibrary l t
    giver_in t g =
        let below = found_below n (library_of l) (name_at (contents_in l) m) g.found g.given in
        let inside : g.found.unit < length l.units = omega (arith, below, n_in) in
        subst (IsOfLibrary l) (sym g.is_unit) inside

-- A unit.
stands_at : (c : Contents) (us : List StoredUnit) (i : ℕ) (u : StoredUnit) → i < length us → u ≡ get_or us i u → slice_get (map (unit_at c) us) i ≡ Some (unit_at c u)
stands_at c [] i u l e = absurd (omega arith)
stands_at c (v ∷ vs) zero u l e = ap (λ w. Some (unit_at c w)) (sym e)
stands_at c (v ∷ vs) (suc i) u l e = stands_at c vs i u (omega arith) e

pub unit_in : (c : Contents) (us : List StoredUnit) (i : ℕ) (u : StoredUnit) → AreUnitsIn c us → i < length us → u ≡ get_or us i u → IsUnitIn c u
unit_in c us i u a l e = subst (IsUnitIn c) (sym e) (All-get_or (IsUnitIn c) us i u l a)

pub unit_leads : (l : StoredLibrary) (n i : ℕ) (r : Recursors) (u : StoredUnit) (old new : List Thing) → AreRecursors (contents_in l) r → AreUnitsIn (contents_in l) l.units → i < length l.units → u ≡ get_or l.units i u
    → old ≡ [] → IsUnitListed (contents_in l) r.plain u old new → Leads l n (a_unit i) new
unit_leads l n i r u old new a known below is empty s =
    let c = contents_in l in
    let inside : IsUnitIn c u = unit_in c l.units i u known below is in
    let stands : slice_get (library_of l) i ≡ Some (unit_at c u) = stands_at c l.units i u below is in
    let named : AreNamed c (λ x. Uses x (unit_at c u)) (unit_things r.plain s.first u) = unit_named c r.plain r.numbered a.plain a.numbered u s.first inside s.is_first in
    let all : new ≡ unit_things r.plain s.first u = s.pushed ∙ ap (λ ts. ts ++ unit_things r.plain s.first u) empty in
    subst (AreNamed c (UnitUses (library_of l) i)) (sym all) (record {
      naming = named.naming;
      only = λ x h. record { unit = unit_at c u; stands = stands; uses = named.only x h };
      all = λ x h k.
          let both : Some k.unit ≡ Some (unit_at c u) = sym k.stands ∙ stands in
          let same : k.unit ≡ unit_at c u = cc in
          named.all x h (subst (Uses x) same k.uses);
    })

-- A tree.
pub tree_leads : (l : StoredLibrary) (n e : ℕ) (d : Node) (old new : List Thing) → IsNodeIn (contents_in l) d → tree_of (contents_in l) d ≡ tree_at (contents_in l) e → old ≡ [] → new ≡ old ++ node_things d → Leads l n (a_tree e) new
tree_leads l n e d old new inside is empty pushed =
    let all : new ≡ node_things d = pushed ∙ ap (λ ts. ts ++ node_things d) empty in
    subst (Leads l n (a_tree e)) (sym all) (node_taken (contents_in l) e d inside is)

-- Numbered recursors.
all_below : (c : Contents) (ns : List ℕ) → AreBelow c 1 (map a_name ns)
all_below c [] = tt
all_below c (n ∷ ns) = (omega arith, all_below c ns)

pub numbered_leads : (l : StoredLibrary) (n m : ℕ) (r : Recursors) (old new : List Thing) → AreRecursors (contents_in l) r → m < length (contents_in l).names → old ≡ [] → new ≡ old ++ map a_name (followers_at r.numbered m) → Leads l n (Numbered m) new
numbered_leads l n m r old new a m_in empty pushed =
    let c = contents_in l in
    let ns = followers_at r.numbered m in
    let all : new ≡ map a_name ns = pushed ∙ ap (λ ts. ts ++ map a_name ns) empty in
    subst (Leads l n (Numbered m)) (sym all) (record {
      named = record {
        naming = names_naming c ns (λ q k. (a.numbered.only m q k).0);
        only = λ x h. let t = names_only c x ns h in let g = (a.numbered.only m t.0 t.1).1 in (g.0, g.1 ∙ t.2);
        all = λ x s h. names_all c x ns s.0 (a.numbered.all m s.0 s.1.known m_in (h.0, h.1 ∙ sym s.1.is)) s.1.is;
      };
      below = all_below c ns;
    })

-- A name.
pub name_leads : (l : StoredLibrary) (n m : ℕ) (old new : List Thing) → old ≡ [] → new ≡ old ++ giver_things (position_in 0 (take n (library_of l)) (name_at (contents_in l) m)) → Leads l n (a_name m) new
name_leads l n m old new empty pushed =
    let o = position_in 0 (take n us) x in
    let all : new ≡ giver_things o = pushed ∙ ap (λ ts. ts ++ giver_things o) empty in
    subst (Leads l n (a_name m)) (sym all) (givers o (first_giving 0 (take n us) x) refl (unit_is (take n us) x))
  where
    us : Library
    us = library_of l

    x : Name
    x = name_at (contents_in l) m

    givers : (o : Option (ℕ × ℕ)) (g : Option Found) → first_giving 0 (take n us) x ≡ g → option_map (λ (f : Found). f.unit) g ≡ option_map (λ (p : ℕ × ℕ). p.0) o → AreGivers us n x (giver_things o)
    givers None None is e = record { only = λ t h. absurd (contains_none t h); all = λ t h. absurd (let clash : Some h.found ≡ None = sym h.given ∙ is in cc) }
    givers None (Some f) is e = absurd cc
    givers (Some p) None is e = absurd cc
    givers (Some p) (Some f) is e = record {
      only = λ t h. elim (contains_cases (a_unit p.0) [] t h) [
        | inl i ↦ record { found = f; given = is; is_unit = sym i ∙ ap a_unit (sym same) }
        | inr k ↦ absurd (contains_none t k)
      ];
      all = λ t h.
          let both : Some h.found ≡ Some f = sym h.given ∙ is in
          let one : h.found ≡ f = cc in
          let at : t ≡ a_unit p.0 = h.is_unit ∙ ap (λ (g : Found). a_unit g.unit) one ∙ ap a_unit same in
          subst (Contains (a_unit p.0 ∷ [])) (sym at) (contains_first (a_unit p.0) []);
    }
      where
        same : f.unit ≡ p.0
        same = cc (e)

-- All of it is marked.
pub all_things : (l : StoredLibrary) (n : ℕ) (t : Thing) (s : Needs) (ts : List Thing) → n < length l.units → room_of s ≡ room_at l → Leads l n t ts → All (IsThing (room_of s)) ts
all_things l n t s ts n_in same h = subst (λ r. All (IsThing r) ts) (sym same) (leads_in l n n_in t ts h)

pub opened : (l : StoredLibrary) (n : ℕ) (t : Thing) (old new : Needs) (ts : List Thing) → Leads l n t ts → Enters old new ts → Opens l n t old new
opened l n t old new ts h e = record { things = ts; leads = h; enters = e }
