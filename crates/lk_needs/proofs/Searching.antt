-- A search that is under way, and what is marked when nothing waits.
use Rattle.std.proofs.Common.{ℕ, zero, suc, ◌≡◌, ◌<◌, ◌⊎◌, inl, inr, List, [], ◌∷◌, ◌++◌, take, length, Some, refl, sym, ap, subst, ◌∙◌, arith}
use Rattle.std.specs.Prelude.{All, Vec}
use Rattle.std.specs.List.{Contains}
use Rattle.std.specs.declared.alloc.Global.{Global}
use Rattle.std.proofs.lemmas.List.{length_push}
use Rattle.std.proofs.lemmas.List.Elements.{All-contains, All-weaker, All-contains_itself, Contains-append_left, Contains-push, Contains-push_cases}
use Rattle.lk_tree.specs.Tree.{Name}
use Rattle.lk_rulebook.specs.Units.{Found, first_giving}
use Rattle.lk_reach.specs.Axioms.{IsListOf}
use Rattle.lk_uses.specs.Closure.{IsIn as IsOneOf, builtins, IsInClosure, own_unit, of_builtin, of_used}
use Rattle.lk_uses.specs.Listed.{IsClosureList}
use Rattle.lk_store.specs.Contents.{Contents, name_at}
use Rattle.lk_env.specs.StoredLibrary.{StoredLibrary}
use Rattle.lk_env.specs.Units.{library_of, AreUnitsIn}
use Rattle.lk_needs.specs.declared.needs.Needs.{Needs}
use Rattle.lk_needs.specs.declared.thing.Thing.{Thing}
use Rattle.lk_needs.specs.declared.thing.Thing.TheVariants.{Unit as a_unit, Name as a_name, Tree as a_tree, Numbered}
use Rattle.lk_needs.specs.Builtins.{IsBuiltinThing, AreBuiltins}
use Rattle.lk_needs.specs.Marks.{IsThing, room_of, IsMarked, IsMarkedUnit, Waits, turns, IsUnmarked, Enters}
use Rattle.lk_needs.specs.Leads.{contents_in, room_at, IsOfLibrary, IsNaming, AreNaming, Has, AnyHas, IsStored, AreNamed, rank, AreBelow, IsTaken, UnitUses, IsGiver, Leads, Opens}
use Rattle.lk_needs.specs.Search.{GivesOnly, IsNeeded, IsKnown, IsDone, IsMet, IsUnderWay, IsSearched}
use Rattle.lk_needs.proofs.Lists.{contains_cases, contains_first, contains_later, contains_none}
use Rattle.lk_needs.proofs.Marked.{still_marked, marked_before}
use Rattle.lk_needs.proofs.Opened.{leads_in}
use Rattle.lk_needs.proofs.Stored.{given_stored}

-- One of several things.
module _ (c : Contents) where
  pub naming_at : (ts : List Thing) (t : Thing) → AreNaming c ts → Contains ts t → IsNaming c t
  naming_at [] t h k = absurd (contains_none t k)
  naming_at (q ∷ ts) t h k = elim (contains_cases q ts t k) [ inl e ↦ subst (IsNaming c) e h.0 | inr i ↦ naming_at ts t h.1 i ]

  pub any_of : (x : Name) (ts : List Thing) (t : Thing) → Contains ts t → Has c x t → AnyHas c x ts
  any_of x [] t k h = absurd (contains_none t k)
  any_of x (q ∷ ts) t k h = elim (contains_cases q ts t k) [ inl e ↦ inl (subst (Has c x) (sym e) h) | inr i ↦ inr (any_of x ts t i h) ]

  -- one that has the name
  pub record IsHolder (x : Name) (ts : List Thing) : Type 0 where
    pub thing : Thing
    pub is_one : Contains ts thing
    pub has : Has c x thing

  pub holder : (x : Name) (ts : List Thing) → AnyHas c x ts → IsHolder x ts
  holder x [] h = absurd h
  holder x (t ∷ ts) (inl h) = record { thing = t; is_one = contains_first t ts; has = h }
  holder x (t ∷ ts) (inr h) = let k = holder x ts h in record { thing = k.thing; is_one = contains_later t ts k.thing k.is_one; has = k.has }

  pub below_at : (k : ℕ) (ts : List Thing) (t : Thing) → AreBelow c k ts → Contains ts t → rank c t < k
  below_at k [] t h i = absurd (contains_none t i)
  below_at k (q ∷ ts) t h i = elim (contains_cases q ts t i) [ inl e ↦ subst (λ y. rank c y < k) e h.0 | inr j ↦ below_at k ts t h.1 j ]

-- What a needed thing leads to is needed.
module _ (l : StoredLibrary) (n : ℕ) (n_in : n < length l.units) where
  named_needed : (P : Name → Type 0) (ts : List Thing) → AreNamed (contents_in l) P ts → ((x : Name) → P x → GivesOnly (library_of l) n x) → (q : Thing) → Contains ts q → IsNeeded l n q
  named_needed P ts a g (a_unit u) k = absurd (naming_at (contents_in l) ts (a_unit u) a.naming k)
  named_needed P ts a g (a_name m) k = λ x h. g x (a.only x (any_of (contents_in l) x ts (a_name m) k h))
  named_needed P ts a g (a_tree e) k = λ x h. g x (a.only x (any_of (contents_in l) x ts (a_tree e) k h))
  named_needed P ts a g (Numbered m) k = λ x h. g x (a.only x (any_of (contents_in l) x ts (Numbered m) k h))

  needed_on : (t : Thing) (ts : List Thing) → IsNeeded l n t → Leads l n t ts → (q : Thing) → Contains ts q → IsNeeded l n q
  needed_on (a_unit u) ts d h = named_needed (UnitUses (library_of l) u) ts h (λ x s. record { gives = λ f e. of_used u s.unit x f d s.stands s.uses e })
  needed_on (a_tree e) ts d h = named_needed (λ x. Has (contents_in l) x (a_tree e)) ts h.named d
  needed_on (Numbered m) ts d h = named_needed (λ x. Has (contents_in l) x (Numbered m)) ts h.named d
  needed_on (a_name m) ts d h = λ q k. let g = h.only q k in subst (IsNeeded l n) (sym g.is_unit) ((d (name_at (contents_in l) m) refl).gives g.found g.given)

  known_on : (t : Thing) (ts : List Thing) → IsKnown l n t → Leads l n t ts → (q : Thing) → Contains ts q → IsKnown l n q
  known_on t ts d h q k = record { known = All-contains (IsOfLibrary l) ts q (leads_in l n n_in t ts h) k; needed = needed_on t ts d.needed h q k }

  -- The search begins.
  builtin_known : (q : Thing) → IsBuiltinThing (contents_in l) q → IsKnown l n q
  builtin_known q b = subst (IsKnown l n) (sym b.is_name) (record {
    known = b.name_in;
    needed = λ x h. record { gives = λ f e. of_builtin x f (subst (λ y. IsOneOf y builtins) h b.is_builtin) e };
  })

  start_known : (bs : List Thing) → AreBuiltins (contents_in l) bs → (q : Thing) → Contains (bs ++ a_unit n ∷ []) q → IsKnown l n q
  start_known bs b q k = elim (Contains-push_cases bs (a_unit n) q k) [
    | inl i ↦ builtin_known q (b.only q i)
    | inr e ↦ subst (IsKnown l n) e (record { known = n_in; needed = own_unit })
  ]

  pub starts_in : (s : Needs) (bs ts : List Thing) → AreBuiltins (contents_in l) bs → ts ≡ bs ++ a_unit n ∷ [] → room_of s ≡ room_at l → All (IsThing (room_of s)) ts
  starts_in s bs ts b is same =
      subst (λ r. All (IsThing r) ts) (sym same)
      (All-weaker (Contains ts) (IsOfLibrary l) (λ q k. (start_known bs b q (subst (λ xs. Contains xs q) is k)).known) ts (All-contains_itself ts))

  pub begun : (old new : Needs) (bs ts : List Thing) → IsUnmarked old (room_at l) → AreBuiltins (contents_in l) bs → ts ≡ bs ++ a_unit n ∷ [] → Enters old new ts → IsUnderWay l n new
  begun old new bs ts u b is e = record {
    room = e.room ∙ u.room;
    known = λ q m. elim (e.only q m) [ inl k ↦ start_known bs b q (subst (λ xs. Contains xs q) is k) | inr o ↦ absurd (u.none q o) ];
    done = λ q m. elim (e.fresh q m) [ inl w ↦ inl w | inr o ↦ absurd (u.none q o) ];
    waiting = λ q w. elim (e.waiting q w) [ inl m ↦ m | inr o ↦ absurd (contains_none q (subst (λ xs. Contains xs q) u.waiting o)) ];
    own = e.each (a_unit n) (subst (λ xs. Contains xs (a_unit n)) (sym is) (Contains-push bs (a_unit n)));
    builtin = λ x i s. record {
      thing = a_name s.0;
      has = s.1.is;
      marked = e.each (a_name s.0) (subst (λ xs. Contains xs (a_name s.0)) (sym is) (Contains-append_left bs (a_unit n ∷ []) (a_name s.0) (b.all s.0 s.1.known (subst (λ y. IsOneOf y builtins) (sym s.1.is) i))));
    };
  }

  -- One thing is looked through.
  module _ (old : Needs) (rest : Vec Thing Global) (t : Thing) (popped : old.waiting.items ≡ rest.items ++ t ∷ []) (u : IsUnderWay l n old) where
    pub next_known : IsKnown l n t
    next_known = u.known t (u.waiting t (subst (λ xs. Contains xs t) (sym popped) (Contains-push rest.items t)))

    module _ (new : Needs) (o : Opens l n t (record old { waiting = rest }) new) where
      stays : (q : Thing) → IsMarked old q → IsMarked new q
      stays q m = o.enters.stays q (still_marked old rest q m)

      done_on : (q : Thing) → Waits old q ⊎ IsDone l n old q → Waits new q ⊎ IsDone l n new q
      done_on q (inl w) = elim (Contains-push_cases rest.items t q (subst (λ xs. Contains xs q) popped w)) [
        | inl k ↦ inl (o.enters.waits q k)
        | inr e ↦ inr (subst (IsDone l n new) e (record { things = o.things; leads = o.leads; marked = o.enters.each }))
      ]
      done_on q (inr d) = inr (record { things = d.things; leads = d.leads; marked = λ p k. stays p (d.marked p k) })

      still_waits : (q : Thing) → Contains rest.items q → Waits old q
      still_waits q k = subst (λ xs. Contains xs q) (sym popped) (Contains-append_left rest.items (t ∷ []) q k)

      pub stepped : IsUnderWay l n new
      stepped = record {
        room = o.enters.room ∙ u.room;
        known = λ q m. elim (o.enters.only q m) [ inl k ↦ known_on t o.things next_known o.leads q k | inr h ↦ u.known q (marked_before old rest q h) ];
        done = λ q m. elim (o.enters.fresh q m) [ inl w ↦ inl w | inr h ↦ done_on q (u.done q (marked_before old rest q h)) ];
        waiting = λ q w. elim (o.enters.waiting q w) [ inl m ↦ m | inr k ↦ stays q (u.waiting q (still_waits q k)) ];
        own = stays (a_unit n) u.own;
        builtin = λ x i s. let m = u.builtin x i s in record { thing = m.thing; has = m.has; marked = stays m.thing m.marked };
      }

      pub stepped_less : turns new < turns old
      stepped_less = let e = ap length popped in let f = length_push rest.items t in omega (arith, e, f, o.enters.fewer)

-- Nothing waits any more.
pub searched : (l : StoredLibrary) (n : ℕ) (s : Needs) (w : Vec Thing Global) → s.waiting.items ≡ [] → w.items ≡ [] → IsUnderWay l n s → IsSearched l n (record s { waiting = w })
searched l n s w before after u = record { under_way = under_way; none = after }
  where
    over : (q : Thing) → Waits s q → ⊥
    over q k = contains_none q (subst (λ xs. Contains xs q) before k)

    done_still : (q : Thing) → Waits s q ⊎ IsDone l n s q → Waits (record s { waiting = w }) q ⊎ IsDone l n (record s { waiting = w }) q
    done_still q (inl k) = absurd (over q k)
    done_still q (inr d) = inr (record { things = d.things; leads = d.leads; marked = λ p k. still_marked s w p (d.marked p k) })

    under_way : IsUnderWay l n (record s { waiting = w })
    under_way = record {
      room = u.room;
      known = λ q m. u.known q (marked_before s w q m);
      done = λ q m. done_still q (u.done q (marked_before s w q m));
      waiting = λ q k. absurd (contains_none q (subst (λ xs. Contains xs q) after k));
      own = still_marked s w (a_unit n) u.own;
      builtin = λ x i h. let m = u.builtin x i h in record { thing = m.thing; has = m.has; marked = still_marked s w m.thing m.marked };
    }

module _ (l : StoredLibrary) (n : ℕ) (s : Needs) (known : AreUnitsIn (contents_in l) l.units) (d : IsSearched l n s) where
  done : (t : Thing) → IsMarked s t → IsDone l n s t
  done t m = elim (d.under_way.done t m) [ inl w ↦ absurd (contains_none t (subst (λ xs. Contains xs t) d.none w)) | inr h ↦ h ]

  -- the name itself is marked
  record IsAsked (x : Name) : Type 0 where
    number : ℕ
    is : name_at (contents_in l) number ≡ x
    marked : IsMarked s (a_name number)

  module _ (x : Name) (stored : IsStored (contents_in l) x) where
    taken_asked : (fuel : ℕ) (t : Thing) → ((q : Thing) → rank (contents_in l) q < fuel → Has (contents_in l) x q → IsMarked s q → IsAsked x) → rank (contents_in l) t < suc fuel → Has (contents_in l) x t → (b : IsDone l n s t) → IsTaken (contents_in l) t b.things → IsAsked x
    taken_asked fuel t again below h b k =
        let p = holder (contents_in l) x b.things (k.named.all x stored h) in
        let lower = below_at (contents_in l) (rank (contents_in l) t) b.things p.thing k.below p.is_one in
        again p.thing (omega (arith, lower, below)) p.has (b.marked p.thing p.is_one)

    asked : (fuel : ℕ) (t : Thing) → rank (contents_in l) t < fuel → Has (contents_in l) x t → IsMarked s t → IsAsked x
    asked zero t below h m = absurd (omega (arith, below))
    asked (suc fuel) (a_unit u) below h m = absurd h
    asked (suc fuel) (a_name k) below h m = record { number = k; is = h; marked = m }
    asked (suc fuel) (a_tree e) below h m = let b = done (a_tree e) m in taken_asked fuel (a_tree e) (asked fuel) below h b b.leads
    asked (suc fuel) (Numbered k) below h m = let b = done (Numbered k) m in taken_asked fuel (Numbered k) (asked fuel) below h b b.leads

    met_marked : IsMet (contents_in l) s x → (f : Found) → first_giving 0 (take n (library_of l)) x ≡ Some f → IsMarkedUnit s f.unit
    met_marked m f given =
        let a = asked (suc (rank (contents_in l) m.thing)) m.thing (omega arith) m.has m.marked in
        let b = done (a_name a.number) a.marked in
        let g : IsGiver (library_of l) n (name_at (contents_in l) a.number) (a_unit f.unit) = record { found = f; given = ap (first_giving 0 (take n (library_of l))) a.is ∙ given; is_unit = refl } in
        b.marked (a_unit f.unit) (b.leads.all (a_unit f.unit) g)

  in_closure : (k : ℕ) → IsInClosure (library_of l) n k → IsMarkedUnit s k
  in_closure k own_unit = d.under_way.own
  in_closure k (of_builtin x f i given) =
      let stored = given_stored (contents_in l) l.units n x f known given in
      met_marked x stored (d.under_way.builtin x i stored) f given
  in_closure k (of_used j u x f h stands uses given) =
      let stored = given_stored (contents_in l) l.units n x f known given in
      let b = done (a_unit j) (in_closure j h) in
      let p = holder (contents_in l) x b.things (b.leads.all x stored (record { unit = u; stands = stands; uses = uses })) in
      met_marked x stored (record { thing = p.thing; has = p.has; marked = b.marked p.thing p.is_one }) f given

  pub closure_listed : (ks : List ℕ) → IsListOf (IsMarkedUnit s) ks → IsClosureList (library_of l) n ks
  closure_listed ks h = record {
    rising = h.rising;
    each = λ k c. (d.under_way.known (a_unit k) (h.each k c)).needed;
    all = λ k c. h.all k (in_closure k c);
  }
