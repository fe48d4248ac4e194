-- Marks that are set, and things that are entered.
use Rattle.std.proofs.Common.{ℕ, zero, suc, ◌≡◌, ◌+◌, ◌<◌, ◌≤◌, ◌⊎◌, inl, inr, Bool, true, false, List, [], ◌∷◌, ◌++◌, take, length, get_or, set, refl, sym, ap, subst, ◌∙◌, arith, get_or-set_other, get_or-set_same}
use Rattle.std.specs.Prelude.{All, Vec}
use Rattle.std.specs.List.{Contains}
use Rattle.std.specs.declared.alloc.Global.{Global}
use Rattle.std.proofs.lemmas.Bool.{cases_eq}
use Rattle.std.proofs.lemmas.List.{take_more}
use Rattle.std.proofs.lemmas.List.Elements.{All-get_or, Contains-append_left, Contains-append_right, Contains-append_cases, Contains-push, Contains-push_cases}
use Rattle.std.proofs.Math.ListN.{length-set}
use Rattle.lk_needs.specs.declared.thing.Thing.{Thing}
use Rattle.lk_needs.specs.declared.thing.Thing.TheVariants.{Unit as a_unit, Name as a_name, Tree as a_tree, Numbered}
use Rattle.lk_needs.specs.declared.needs.Needs.{Needs}
use Rattle.lk_needs.specs.Marks.{IsThing, room_of, mark_of, IsMarked, unset, unmarked, Marks, Enters}
use Rattle.lk_needs.proofs.Lists.{contains_first, contains_cases, contains_none}

set_one : (bs : List Bool) (i j : ℕ) → get_or (set bs i true) j false ≡ true → (i ≡ j) ⊎ (get_or bs j false ≡ true)
set_one bs i j h = elim (cases_eq j i) [ inl e ↦ inl (sym e) | inr ne ↦ inr (sym (get_or-set_other bs i j true false ne) ∙ h) ]

still_set : (bs : List Bool) (i j : ℕ) → get_or bs j false ≡ true → get_or (set bs i true) j false ≡ true
still_set [] i j h = h
still_set (b ∷ bs) zero zero h = refl
still_set (b ∷ bs) zero (suc j) h = h
still_set (b ∷ bs) (suc i) zero h = h
still_set (b ∷ bs) (suc i) (suc j) h = still_set bs i j h

unset_fewer : (bs : List Bool) (i : ℕ) → i < length bs → get_or bs i false ≡ false → unset (set bs i true) + 1 ≡ unset bs
unset_fewer [] i l h = absurd (omega arith)
unset_fewer (true ∷ bs) zero l h = absurd cc
unset_fewer (false ∷ bs) zero l h = omega arith
unset_fewer (true ∷ bs) (suc i) l h = unset_fewer bs i (omega arith) h
unset_fewer (false ∷ bs) (suc i) l h = let e = unset_fewer bs i (omega arith) h in omega arith

unset_no_more : (bs : List Bool) (i : ℕ) → unset (set bs i true) ≤ unset bs
unset_no_more [] i = omega arith
unset_no_more (true ∷ bs) zero = omega arith
unset_no_more (false ∷ bs) zero = omega arith
unset_no_more (true ∷ bs) (suc i) = unset_no_more bs i
unset_no_more (false ∷ bs) (suc i) = let e = unset_no_more bs i in omega arith

-- One mark is set: bs are the marks of its kind before, and those of the other kinds stay.
record IsSetMark (old new : Needs) (kind : ℕ → Thing) (bs : List Bool) (i : ℕ) : Type 0 where
  within : i < length bs
  olds : (j : ℕ) → mark_of old (kind j) ≡ get_or bs j false
  news : (j : ℕ) → mark_of new (kind j) ≡ get_or (set bs i true) j false
  each : (t : Thing) → ((j : ℕ) × (kind j ≡ t)) ⊎ (mark_of new t ≡ mark_of old t)
  room : room_of new ≡ room_of old
  waiting : new.waiting.items ≡ old.waiting.items
  others : ℕ
  unset_old : unmarked old ≡ others + unset bs
  unset_new : unmarked new ≡ others + unset (set bs i true)

module _ (old new : Needs) (kind : ℕ → Thing) (bs : List Bool) (i : ℕ) (m : IsSetMark old new kind bs i) where
  only_kind : (j : ℕ) (t : Thing) → kind j ≡ t → IsMarked new t → (kind i ≡ t) ⊎ IsMarked old t
  only_kind j t e h = elim (set_one bs i j (sym (m.news j) ∙ ap (mark_of new) e ∙ h.mark)) [
    | inl s ↦ inl (ap kind s ∙ e)
    | inr k ↦ inr (record { mark = ap (mark_of old) (sym e) ∙ m.olds j ∙ k })
  ]

  only : (t : Thing) → IsMarked new t → (kind i ≡ t) ⊎ IsMarked old t
  only t h = elim (m.each t) [ inl k ↦ only_kind k.0 t k.1 h | inr e ↦ inr (record { mark = sym e ∙ h.mark }) ]

  stays : (t : Thing) → IsMarked old t → IsMarked new t
  stays t h = elim (m.each t) [
    | inl k ↦ record { mark = ap (mark_of new) (sym k.1) ∙ m.news k.0 ∙ still_set bs i k.0 (sym (m.olds k.0) ∙ ap (mark_of old) k.1 ∙ h.mark) }
    | inr e ↦ record { mark = e ∙ h.mark }
  ]

  set_marks : (was : Bool) → was ≡ mark_of old (kind i) → Marks old new (kind i) was
  set_marks was before = record {
    before = before;
    here = record { mark = m.news i ∙ get_or-set_same bs i true false m.within };
    only = only;
    stays = stays;
    room = m.room;
    waiting = m.waiting;
    no_more = let e = unset_no_more bs i in omega (arith, e, m.unset_old, m.unset_new);
    fewer = λ none. let e = unset_fewer bs i m.within (sym (m.olds i) ∙ sym before ∙ none) in omega (arith, e, m.unset_old, m.unset_new);
  }

-- A mark of each kind.
module _ (old : Needs) (v : Vec Bool Global) (i : ℕ) (was : Bool) where
  pub unit_marks : i < length old.units.items → was ≡ get_or old.units.items i false → v.items ≡ set old.units.items i true → Marks old (record old { units = v }) (a_unit i) was
  unit_marks l before is = set_marks old (record old { units = v }) a_unit old.units.items i (record {
    within = l;
    olds = λ j. refl;
    news = λ j. ap (λ bs. get_or bs j false) is;
    each = each;
    room = ap (λ k. record (room_of old) { units = k }) (ap length is ∙ length-set old.units.items i true);
    waiting = refl;
    others = unset old.names.items + unset old.trees.items + unset old.numbered.items;
    unset_old = omega arith;
    unset_new = let f : unset v.items ≡ unset (set old.units.items i true) = ap unset is in omega arith;
  }) was before
    where
      each : (t : Thing) → ((j : ℕ) × (a_unit j ≡ t)) ⊎ (mark_of (record old { units = v }) t ≡ mark_of old t)
      each (a_unit j) = inl (j, refl)
      each (a_name j) = inr refl
      each (a_tree j) = inr refl
      each (Numbered j) = inr refl

  pub name_marks : i < length old.names.items → was ≡ get_or old.names.items i false → v.items ≡ set old.names.items i true → Marks old (record old { names = v }) (a_name i) was
  name_marks l before is = set_marks old (record old { names = v }) a_name old.names.items i (record {
    within = l;
    olds = λ j. refl;
    news = λ j. ap (λ bs. get_or bs j false) is;
    each = each;
    room = ap (λ k. record (room_of old) { names = k }) (ap length is ∙ length-set old.names.items i true);
    waiting = refl;
    others = unset old.units.items + unset old.trees.items + unset old.numbered.items;
    unset_old = omega arith;
    unset_new = let f : unset v.items ≡ unset (set old.names.items i true) = ap unset is in omega arith;
  }) was before
    where
      each : (t : Thing) → ((j : ℕ) × (a_name j ≡ t)) ⊎ (mark_of (record old { names = v }) t ≡ mark_of old t)
      each (a_unit j) = inr refl
      each (a_name j) = inl (j, refl)
      each (a_tree j) = inr refl
      each (Numbered j) = inr refl

  pub tree_marks : i < length old.trees.items → was ≡ get_or old.trees.items i false → v.items ≡ set old.trees.items i true → Marks old (record old { trees = v }) (a_tree i) was
  tree_marks l before is = set_marks old (record old { trees = v }) a_tree old.trees.items i (record {
    within = l;
    olds = λ j. refl;
    news = λ j. ap (λ bs. get_or bs j false) is;
    each = each;
    room = ap (λ k. record (room_of old) { trees = k }) (ap length is ∙ length-set old.trees.items i true);
    waiting = refl;
    others = unset old.units.items + unset old.names.items + unset old.numbered.items;
    unset_old = omega arith;
    unset_new = let f : unset v.items ≡ unset (set old.trees.items i true) = ap unset is in omega arith;
  }) was before
    where
      each : (t : Thing) → ((j : ℕ) × (a_tree j ≡ t)) ⊎ (mark_of (record old { trees = v }) t ≡ mark_of old t)
      each (a_unit j) = inr refl
      each (a_name j) = inr refl
      each (a_tree j) = inl (j, refl)
      each (Numbered j) = inr refl

  pub numbered_marks : i < length old.numbered.items → was ≡ get_or old.numbered.items i false → v.items ≡ set old.numbered.items i true → Marks old (record old { numbered = v }) (Numbered i) was
  numbered_marks l before is = set_marks old (record old { numbered = v }) Numbered old.numbered.items i (record {
    within = l;
    olds = λ j. refl;
    news = λ j. ap (λ bs. get_or bs j false) is;
    each = each;
    room = ap (λ k. record (room_of old) { numbered = k }) (ap length is ∙ length-set old.numbered.items i true);
    waiting = refl;
    others = unset old.units.items + unset old.names.items + unset old.trees.items;
    unset_old = omega arith;
    unset_new = let f : unset v.items ≡ unset (set old.numbered.items i true) = ap unset is in omega arith;
  }) was before
    where
      each : (t : Thing) → ((j : ℕ) × (Numbered j ≡ t)) ⊎ (mark_of (record old { numbered = v }) t ≡ mark_of old t)
      each (a_unit j) = inr refl
      each (a_name j) = inr refl
      each (a_tree j) = inr refl
      each (Numbered j) = inl (j, refl)

-- marks do not rest on what waits
pub still_marked : (s : Needs) (w : Vec Thing Global) (t : Thing) → IsMarked s t → IsMarked (record s { waiting = w }) t
still_marked s w (a_unit u) m = record { mark = m.mark }
still_marked s w (a_name n) m = record { mark = m.mark }
still_marked s w (a_tree e) m = record { mark = m.mark }
still_marked s w (Numbered n) m = record { mark = m.mark }

pub marked_before : (s : Needs) (w : Vec Thing Global) (t : Thing) → IsMarked (record s { waiting = w }) t → IsMarked s t
marked_before s w (a_unit u) m = record { mark = m.mark }
marked_before s w (a_name n) m = record { mark = m.mark }
marked_before s w (a_tree e) m = record { mark = m.mark }
marked_before s w (Numbered n) m = record { mark = m.mark }

-- One thing is entered.
module _ (old mid : Needs) (thing : Thing) (was : Bool) (m : Marks old mid thing was) where
  first_marked : (t : Thing) → Contains (thing ∷ []) t → IsMarked mid t
  first_marked t h = elim (contains_cases thing [] t h) [ inl e ↦ subst (IsMarked mid) e m.here | inr k ↦ absurd (contains_none t k) ]

  only_first : (t : Thing) → IsMarked mid t → Contains (thing ∷ []) t ⊎ IsMarked old t
  only_first t h = elim (m.only t h) [ inl e ↦ inl (subst (Contains (thing ∷ [])) e (contains_first thing [])) | inr k ↦ inr k ]

  pub known_entered : was ≡ true → Enters old mid (thing ∷ [])
  known_entered known = record {
    each = first_marked;
    only = only_first;
    stays = m.stays;
    fresh = λ t h. elim (m.only t h) [ inl e ↦ inr (subst (IsMarked old) e (record { mark = sym m.before ∙ known })) | inr k ↦ inr k ];
    waits = λ t w. subst (λ xs. Contains xs t) (sym m.waiting) w;
    waiting = λ t w. inr (subst (λ xs. Contains xs t) m.waiting w);
    room = m.room;
    fewer = let e = ap length m.waiting in omega (arith, e, m.no_more);
  }

  pub new_entered : (w : Vec Thing Global) → was ≡ false → w.items ≡ mid.waiting.items ++ thing ∷ [] → Enters old (record mid { waiting = w }) (thing ∷ [])
  new_entered w fresh pushed = record {
    each = λ t h. still_marked mid w t (first_marked t h);
    only = λ t h. only_first t (marked_before mid w t h);
    stays = λ t h. still_marked mid w t (m.stays t h);
    fresh = λ t h. elim (m.only t (marked_before mid w t h)) [
      | inl e ↦ inl (subst (Contains w.items) e (subst (λ xs. Contains xs thing) (sym pushed) (Contains-push mid.waiting.items thing)))
      | inr k ↦ inr k
    ];
    waits = λ t h. subst (λ xs. Contains xs t) (sym pushed) (Contains-append_left mid.waiting.items (thing ∷ []) t (subst (λ xs. Contains xs t) (sym m.waiting) h));
    waiting = λ t h. elim (Contains-push_cases mid.waiting.items thing t (subst (λ xs. Contains xs t) pushed h)) [
      | inl k ↦ inr (subst (λ xs. Contains xs t) m.waiting k)
      | inr e ↦ inl (still_marked mid w t (subst (IsMarked mid) e m.here))
    ];
    room = m.room;
    fewer = let e = ap length m.waiting in let f = ap length pushed in let g = length_pushed mid.waiting.items in omega (arith, e, f, g, m.fewer fresh);
  }
    where
      length_pushed : (xs : List Thing) → length (xs ++ thing ∷ []) ≡ length xs + 1
      length_pushed [] = refl
      length_pushed (x ∷ xs) = let e = length_pushed xs in omega arith

-- Several things are.
pub none_entered : (s : Needs) → Enters s s []
none_entered s = record {
  each = λ t h. absurd (contains_none t h);
  only = λ t h. inr h;
  stays = λ t h. h;
  fresh = λ t h. inr h;
  waits = λ t h. h;
  waiting = λ t h. inr h;
  room = refl;
  fewer = omega arith;
}

pub both_entered : (a b d : Needs) (xs ys : List Thing) → Enters a b xs → Enters b d ys → Enters a d (xs ++ ys)
both_entered a b d xs ys p q = record {
  each = λ t h. elim (Contains-append_cases xs ys t h) [ inl k ↦ q.stays t (p.each t k) | inr k ↦ q.each t k ];
  only = λ t h. elim (q.only t h) [
    | inl k ↦ inl (Contains-append_right xs ys t k)
    | inr m ↦ elim (p.only t m) [ inl k ↦ inl (Contains-append_left xs ys t k) | inr n ↦ inr n ]
  ];
  stays = λ t h. q.stays t (p.stays t h);
  fresh = λ t h. elim (q.fresh t h) [ inl w ↦ inl w | inr m ↦ elim (p.fresh t m) [ inl w ↦ inl (q.waits t w) | inr n ↦ inr n ] ];
  waits = λ t h. q.waits t (p.waits t h);
  waiting = λ t h. elim (q.waiting t h) [ inl m ↦ inl m | inr w ↦ elim (p.waiting t w) [ inl m ↦ inl (q.stays t m) | inr n ↦ inr n ] ];
  room = q.room ∙ p.room;
  fewer = omega (arith, p.fewer, q.fewer);
}

pub one_more_entered : (a b d : Needs) (ts : List Thing) (i : ℕ) (t : Thing) → i < length ts → Enters a b (take i ts) → Enters b d (get_or ts i t ∷ []) → Enters a d (take (i + 1) ts)
one_more_entered a b d ts i t l p q = subst (Enters a d) (sym (take_more ts i t l)) (both_entered a b d (take i ts) (get_or ts i t ∷ []) p q)

pub next_in : (a b : Needs) (ts : List Thing) (i : ℕ) (t : Thing) → All (IsThing (room_of a)) ts → i < length ts → room_of b ≡ room_of a → IsThing (room_of b) (get_or ts i t)
next_in a b ts i t all l same = subst (λ r. IsThing r (get_or ts i t)) (sym same) (All-get_or (IsThing (room_of a)) ts i t l all)
