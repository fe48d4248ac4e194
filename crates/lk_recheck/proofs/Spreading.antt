-- Marks that are passed on, until nothing waits.
use Rattle.std.proofs.Common.{ℕ, zero, suc, ◌≡◌, ◌≢◌, ◌+◌, ◌-◌, ◌<◌, ◌≤◌, ◌⊎◌, inl, inr, Bool, true, false, List, [], ◌∷◌, ◌++◌, length, get_or, Some, refl, sym, ap, subst, ◌∙◌, arith}
use Rattle.std.specs.Prelude.{Vec, slice_get}
use Rattle.std.specs.List.{Contains}
use Rattle.std.specs.declared.alloc.Global.{Global}
use Rattle.std.proofs.lemmas.Bool.{cases_eq}
use Rattle.std.proofs.lemmas.List.{length_push}
use Rattle.std.proofs.lemmas.List.Elements.{Contains-append_left, Contains-push, Contains-push_cases}
use Rattle.std.proofs.lemmas.Option.{slice_get_read}
use Rattle.lk_needs.specs.declared.needs.Needs.{Needs}
use Rattle.lk_needs.specs.declared.thing.Thing.{Thing}
use Rattle.lk_needs.specs.declared.thing.Thing.TheVariants.{Unit as a_unit, Name as a_name, Tree as a_tree, Numbered}
use Rattle.lk_needs.specs.Marks.{Room, IsThing, room_of, mark_of, IsMarked, Waits, turns, IsUnmarked, Enters}
use Rattle.lk_needs.proofs.Lists.{contains_cases, contains_first, contains_none}
use Rattle.lk_needs.proofs.Marked.{still_marked, marked_before, none_entered, both_entered}
use Rattle.lk_recheck.specs.declared.sources.Link.{Link}
use Rattle.lk_recheck.specs.declared.sources.Sources.{Sources}
use Rattle.lk_recheck.specs.Sources.{slot, Behind, here, later, last_of, IsSource, AreLinked}
use Rattle.lk_recheck.specs.Counts.{IsThingAt}
use Rattle.lk_recheck.specs.Hits.{IsOpen, Hits, is_changed, leads_on, AreStartedTo, IsPassed, IsSpreading, IsSpread, Passes, IsPassing, Steps, AreWithin}
use Rattle.lk_recheck.proofs.Chained.{behind_cases}
use Rattle.lk_recheck.proofs.Numbers.{one_thing}

-- What is marked has a number below those that there are.
set_in : (bs : List Bool) (i : ℕ) → get_or bs i false ≡ true → i < length bs
set_in [] i e = absurd cc
set_in (b ∷ bs) zero e = omega arith
set_in (b ∷ bs) (suc i) e = let l = set_in bs i e in omega (arith, l)

pub marked_in : (s : Needs) (x : Thing) → IsMarked s x → IsThing (room_of s) x
marked_in s (a_unit u) m = set_in s.units.items u m.mark
marked_in s (a_name n) m = set_in s.names.items n m.mark
marked_in s (a_tree e) m = set_in s.trees.items e m.mark
marked_in s (Numbered n) m = set_in s.numbered.items n m.mark

-- The units that changed are marked.
pub none_started : (r : Room) (changed : List Bool) (s : Needs) → IsUnmarked s r → AreStartedTo r changed 0 s
none_started r changed s u = record {
  room = u.room;
  only = λ x m. absurd (u.none x m);
  each = λ k l c. absurd (omega (arith, l));
  fresh = λ x m. absurd (u.none x m);
  waiting = λ x w. absurd (contains_none x (subst (λ xs. Contains xs x) u.waiting w));
}

module _ (r : Room) (changed : List Bool) (i : ℕ) (old : Needs) (a : AreStartedTo r changed i old) where
  pub not_started : (slice_get changed i ≡ Some true → ⊥) → AreStartedTo r changed (i + 1) old
  not_started none = record {
    room = a.room;
    only = a.only;
    each = λ u l c. elim (cases_eq u i) [
      | inl e ↦ absurd (none (subst (λ k. slice_get changed k ≡ Some true) e c))
      | inr ne ↦ a.each u (omega (arith, l, ne)) c
    ];
    fresh = a.fresh;
    waiting = a.waiting;
  }

  pub one_started : (new : Needs) → i < r.units → slice_get changed i ≡ Some true → Enters old new (a_unit i ∷ []) → AreStartedTo r changed (i + 1) new
  one_started new i_in c e = record {
    room = e.room ∙ a.room;
    only = λ x m. elim (e.only x m) [
      | inl k ↦ elim (contains_cases (a_unit i) [] x k) [ inl is ↦ (i, sym is, i_in, c) | inr n ↦ absurd (contains_none x n) ]
      | inr o ↦ a.only x o
    ];
    each = λ u l d. elim (cases_eq u i) [
      | inl is ↦ subst (λ k. IsMarked new (a_unit k)) (sym is) (e.each (a_unit i) (contains_first (a_unit i) []))
      | inr ne ↦ e.stays (a_unit u) (a.each u (omega (arith, l, ne)) d)
    ];
    fresh = λ x m. elim (e.fresh x m) [ inl w ↦ w | inr o ↦ e.waits x (a.fresh x o) ];
    waiting = λ x w. elim (e.waiting x w) [ inl m ↦ m | inr o ↦ e.stays x (a.waiting x o) ];
  }

module _ (r : Room) (t : Sources) (changed : List Bool) (s : Needs) (i : ℕ) (all : i ≡ r.units) (a : AreStartedTo r changed i s) where
  start_in : (x : Thing) → IsMarked s x → IsThing r x
  start_in x m = let c = a.only x m in subst (IsThing r) (sym c.1) c.2

  pub starts_spreading : IsSpreading r t changed 0 s
  starts_spreading = record {
    room = a.room;
    inside = start_in;
    known = λ x m. let c = a.only x m in subst (Hits r t changed 0) (sym c.1) (is_changed c.0 c.2 c.3);
    starts = λ u l c. a.each u (omega (arith, l, all)) c;
    done = λ y m o. inl (a.fresh y m);
    waiting = a.waiting;
  }

  pub starts_within : AreWithin r s
  starts_within = record { room = a.room; waiting_in = λ x w. start_in x (a.waiting x w) }

-- All that leads to one number is marked, link by link.
module _ (r : Room) (t : Sources) (b : ℕ) (old : Needs) (linked : AreLinked t) where
  pub passing_begins : (h : ℕ) → h ≡ last_of t b → IsPassing r t b old old h
  passing_begins h is = record {
    things = [];
    enters = none_entered old;
    inside = λ x k. absurd (contains_none x k);
    only = λ x k. absurd (contains_none x k);
    each = λ x x_in s. inr (subst (Behind t.links.items (slot r x)) (sym is) s);
    left = λ p k. subst (Behind t.links.items p) is k;
    within = subst (λ k. k ≤ length t.links.items) (sym is) (linked.last_in b);
  }

  module _ (mid new : Needs) (h : ℕ) (l : Link) (z : Thing) (p : IsPassing r t b old mid h) (more : 0 < h) (stands : slice_get t.links.items (h - 1) ≡ Some l) (at : IsThingAt r l.source z) (e : Enters mid new (z ∷ [])) where
    next_each : (x : Thing) → IsThing r x → Contains p.things x ⊎ Behind t.links.items (slot r x) h → Contains (p.things ++ z ∷ []) x ⊎ Behind t.links.items (slot r x) l.previous
    next_each x x_in (inl k) = inl (Contains-append_left p.things (z ∷ []) x k)
    next_each x x_in (inr k) = by_case ((behind_cases t.links.items (slot r x) h k l stands).1)
      where
        by_case : (l.source ≡ slot r x) ⊎ Behind t.links.items (slot r x) l.previous → Contains (p.things ++ z ∷ []) x ⊎ Behind t.links.items (slot r x) l.previous
        by_case (inl s) = inl (subst (Contains (p.things ++ z ∷ [])) (one_thing r z x at.thing_in x_in (at.is ∙ s)) (Contains-push p.things z))
        by_case (inr k) = inr k

    z_leads : IsSource t (slot r z) b
    z_leads = p.left (slot r z) (here h l more stands (sym at.is))

    pub passing_on : IsPassing r t b old new l.previous
    passing_on = record {
      things = p.things ++ z ∷ [];
      enters = both_entered old mid new p.things (z ∷ []) p.enters e;
      inside = λ x k. elim (Contains-push_cases p.things z x k) [ inl c ↦ p.inside x c | inr is ↦ subst (IsThing r) is at.thing_in ];
      only = λ x k. elim (Contains-push_cases p.things z x k) [ inl c ↦ p.only x c | inr is ↦ subst (λ y. IsSource t (slot r y) b) is z_leads ];
      each = λ x x_in s. next_each x x_in (p.each x x_in s);
      left = λ q k. p.left q (later h l more stands k);
      within = let back = linked.back (h - 1) l stands in let w = p.within in omega (arith, back, w);
    }

  -- the last link of the chain
  module _ (mid : Needs) (h : ℕ) (l : Link) (p : IsPassing r t b old mid h) (more : h ≢ 0) (read : l ≡ get_or t.links.items (h - 1) l) where
    pub link_at : slice_get t.links.items (h - 1) ≡ Some l
    link_at = let w = p.within in slice_get_read t.links.items (length t.links.items) (h - 1) l refl (omega (arith, w, more)) read

    pub link_in : (n : ℕ) → length t.last.items ≡ n → l.source < n
    link_in n many = let w = linked.source_in (h - 1) l link_at in omega (arith, w, many)

    pub link_back : l.previous < h
    link_back = let w = linked.back (h - 1) l link_at in omega (arith, w, more)

  pub passing_ends : (new : Needs) (h : ℕ) → h ≡ 0 → IsPassing r t b old new h → Passes r t b old new
  passing_ends new h none p = record {
    things = p.things;
    enters = p.enters;
    inside = p.inside;
    only = p.only;
    each = λ x x_in s. elim (p.each x x_in s) [ inl k ↦ k | inr k ↦ absurd (nothing x k) ];
  }
    where
      at_end : (a k : ℕ) → Behind t.links.items a k → 0 < k
      at_end a k (here _ l m e s) = m
      at_end a k (later _ l m e c) = m

      nothing : (x : Thing) → Behind t.links.items (slot r x) h → ⊥
      nothing x k = let m = at_end (slot r x) h k in absurd (omega (arith, m, none))

-- One thing that waited is passed on, where it is open.
pub open_steps : (r : Room) (t : Sources) (n : ℕ) (y : Thing) (old new : Needs) (b : ℕ) → b ≡ slot r y → IsOpen n y → Passes r t b old new → Steps r t n y old new
open_steps r t n y old new b is o p = record {
  things = p.things;
  enters = p.enters;
  is_open = λ x k. o;
  inside = p.inside;
  only = λ x k. subst (IsSource t (slot r x)) is (p.only x k);
  each = λ x _ x_in s. p.each x x_in (subst (IsSource t (slot r x)) (sym is) s);
}

pub closed_steps : (r : Room) (t : Sources) (n : ℕ) (y : Thing) (s : Needs) → (IsOpen n y → ⊥) → Steps r t n y s s
closed_steps r t n y s shut = record {
  things = [];
  enters = none_entered s;
  is_open = λ x k. absurd (contains_none x k);
  inside = λ x k. absurd (contains_none x k);
  only = λ x k. absurd (contains_none x k);
  each = λ x o x_in e. absurd (shut o);
}

module _ (r : Room) (t : Sources) (n : ℕ) (old : Needs) (rest : Vec Thing Global) (y : Thing) (popped : old.waiting.items ≡ rest.items ++ y ∷ []) where
  pub next_waits : Waits old y
  next_waits = subst (λ xs. Contains xs y) (sym popped) (Contains-push rest.items y)

  still_waits : (x : Thing) → Contains rest.items x → Waits old x
  still_waits x k = subst (λ xs. Contains xs x) (sym popped) (Contains-append_left rest.items (y ∷ []) x k)

  module _ (new : Needs) (o : Steps r t n y (record old { waiting = rest }) new) where
    pub step_within : AreWithin r old → AreWithin r new
    step_within k = record { room = room; waiting_in = waiting_in }
      where
        room : room_of new ≡ r
        room = o.enters.room ∙ k.room

        waiting_in : (x : Thing) → Waits new x → IsThing r x
        waiting_in x w = elim (o.enters.waiting x w) [
          | inl m ↦ subst (λ q. IsThing q x) room (marked_in new x m)
          | inr b ↦ k.waiting_in x (still_waits x b)
        ]

    pub stepped_less : turns new < turns old
    stepped_less = let e = ap length popped in let f = length_push rest.items y in omega (arith, e, f, o.enters.fewer)

    module _ (changed : List Bool) (u : IsSpreading r t changed n old) where
      stays : (x : Thing) → IsMarked old x → IsMarked new x
      stays x m = o.enters.stays x (still_marked old rest x m)

      y_marked : IsMarked old y
      y_marked = u.waiting y next_waits

      done_on : (x : Thing) → IsOpen n x → Waits old x ⊎ IsPassed r t old x → Waits new x ⊎ IsPassed r t new x
      done_on x x_open (inl w) = elim (Contains-push_cases rest.items y x (subst (λ xs. Contains xs x) popped w)) [
        | inl k ↦ inl (o.enters.waits x k)
        | inr e ↦ inr (subst (IsPassed r t new) e (record { marked = λ q q_in s. o.enters.each q (o.each q (subst (IsOpen n) (sym e) x_open) q_in s) }))
      ]
      done_on x x_open (inr d) = inr (record { marked = λ q q_in s. stays q (d.marked q q_in s) })

      pub stepped : IsSpreading r t changed n new
      stepped = record {
        room = o.enters.room ∙ u.room;
        inside = λ x m. elim (o.enters.only x m) [ inl k ↦ o.inside x k | inr b ↦ u.inside x (marked_before old rest x b) ];
        known = λ x m. elim (o.enters.only x m) [
          | inl k ↦ leads_on x y (o.inside x k) (u.inside y y_marked) (o.only x k) (o.is_open x k) (u.known y y_marked)
          | inr b ↦ u.known x (marked_before old rest x b)
        ];
        starts = λ v l c. stays (a_unit v) (u.starts v l c);
        done = λ x m x_open. elim (o.enters.fresh x m) [ inl w ↦ inl w | inr b ↦ done_on x x_open (u.done x (marked_before old rest x b) x_open) ];
        waiting = λ x w. elim (o.enters.waiting x w) [ inl m ↦ m | inr k ↦ stays x (u.waiting x (still_waits x k)) ];
      }

pub spread_ends : (r : Room) (t : Sources) (n : ℕ) (s : Needs) (w : Vec Thing Global) → s.waiting.items ≡ [] → w.items ≡ [] → (changed : List Bool) → IsSpreading r t changed n s → IsSpread r t changed n (record s { waiting = w })
spread_ends r t n s w before after changed u = record { spreading = spreading; none = after }
  where
    done_still : (y : Thing) → Waits s y ⊎ IsPassed r t s y → Waits (record s { waiting = w }) y ⊎ IsPassed r t (record s { waiting = w }) y
    done_still y (inl k) = absurd (contains_none y (subst (λ xs. Contains xs y) before k))
    done_still y (inr d) = inr (record { marked = λ x x_in e. still_marked s w x (d.marked x x_in e) })

    spreading : IsSpreading r t changed n (record s { waiting = w })
    spreading = record {
      room = u.room;
      inside = λ x m. u.inside x (marked_before s w x m);
      known = λ x m. u.known x (marked_before s w x m);
      starts = λ v l c. still_marked s w (a_unit v) (u.starts v l c);
      done = λ y m o. done_still y (u.done y (marked_before s w y m) o);
      waiting = λ y k. absurd (contains_none y (subst (λ xs. Contains xs y) after k));
    }

pub end_within : (r : Room) (s : Needs) (w : Vec Thing Global) → w.items ≡ [] → AreWithin r s → AreWithin r (record s { waiting = w })
end_within r s w after k = record { room = k.room; waiting_in = λ x c. absurd (contains_none x (subst (λ xs. Contains xs x) after c)) }

-- One unit more is open.
open_more : (n : ℕ) (y : Thing) → IsOpen n y → IsOpen (n + 1) y
open_more n (a_unit u) o = omega (arith, o)
open_more n (a_name m) o = tt
open_more n (a_tree e) o = tt
open_more n (Numbered m) o = tt

hits_more : (r : Room) (t : Sources) (changed : List Bool) (n : ℕ) (x : Thing) → Hits r t changed n x → Hits r t changed (n + 1) x
hits_more r t changed n x (is_changed u l c) = is_changed u l c
hits_more r t changed n x (leads_on _ y x_in y_in s o h) = leads_on x y x_in y_in s (open_more n y o) (hits_more r t changed n y h)

open_before : (n : ℕ) (y : Thing) → IsOpen (n + 1) y → IsOpen n y ⊎ (y ≡ a_unit n)
open_before n (a_unit u) o = elim (cases_eq u n) [ inl e ↦ inr (ap a_unit e) | inr ne ↦ inl (omega (arith, o, ne)) ]
open_before n (a_name m) o = inl tt
open_before n (a_tree e) o = inl tt
open_before n (Numbered m) o = inl tt

module _ (r : Room) (t : Sources) (changed : List Bool) (n : ℕ) (s : Needs) (u : IsSpread r t changed n s) where
  passed : (y : Thing) → IsMarked s y → IsOpen n y → IsPassed r t s y
  passed y m o = elim (u.spreading.done y m o) [ inl w ↦ absurd (contains_none y (subst (λ xs. Contains xs y) u.none w)) | inr d ↦ d ]

  -- what leads to a unit that changed is marked
  pub hit_marked : (x : Thing) → Hits r t changed n x → IsMarked s x
  hit_marked x (is_changed v l c) = u.spreading.starts v l c
  hit_marked x (leads_on _ y x_in y_in e o h) = (passed y (hit_marked y h) o).marked x x_in e

  pub still_shut : mark_of s (a_unit n) ≡ false → IsSpreading r t changed (n + 1) s
  still_shut none = record {
    room = u.spreading.room;
    inside = u.spreading.inside;
    known = λ x m. hits_more r t changed n x (u.spreading.known x m);
    starts = u.spreading.starts;
    done = λ y m o. elim (open_before n y o) [
      | inl b ↦ u.spreading.done y m b
      | inr e ↦ absurd (let clash : true ≡ false = sym m.mark ∙ ap (mark_of s) e ∙ none in cc)
    ];
    waiting = u.spreading.waiting;
  }

  pub unit_opened : (w : Vec Thing Global) → mark_of s (a_unit n) ≡ true → w.items ≡ s.waiting.items ++ a_unit n ∷ [] → IsSpreading r t changed (n + 1) (record s { waiting = w })
  unit_opened w set pushed = record {
    room = u.spreading.room;
    inside = λ x m. u.spreading.inside x (marked_before s w x m);
    known = λ x m. hits_more r t changed n x (u.spreading.known x (marked_before s w x m));
    starts = λ v l c. still_marked s w (a_unit v) (u.spreading.starts v l c);
    done = λ y m o. elim (open_before n y o) [
      | inl b ↦ inr (record { marked = λ x x_in e. still_marked s w x ((passed y (marked_before s w y m) b).marked x x_in e) })
      | inr e ↦ inl (subst (Contains w.items) (sym e) unit_waits)
    ];
    waiting = λ y k. elim (Contains-push_cases s.waiting.items (a_unit n) y (subst (λ xs. Contains xs y) pushed k)) [
      | inl c ↦ absurd (contains_none y (subst (λ xs. Contains xs y) u.none c))
      | inr e ↦ still_marked s w y (subst (IsMarked s) e (record { mark = set }))
    ];
  }
    where
      unit_waits : Contains w.items (a_unit n)
      unit_waits = subst (λ xs. Contains xs (a_unit n)) (sym pushed) (Contains-push s.waiting.items (a_unit n))

pub open_within : (r : Room) (n : ℕ) (s : Needs) (w : Vec Thing Global) → n < r.units → w.items ≡ s.waiting.items ++ a_unit n ∷ [] → AreWithin r s → AreWithin r (record s { waiting = w })
open_within r n s w n_in pushed k = record {
  room = k.room;
  waiting_in = λ x c. elim (Contains-push_cases s.waiting.items (a_unit n) x (subst (λ xs. Contains xs x) pushed c)) [ inl b ↦ k.waiting_in x b | inr e ↦ subst (IsThing r) e n_in ];
}
