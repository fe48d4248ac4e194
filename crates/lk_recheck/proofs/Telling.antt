-- Marks that tell which units are hit, and which are touched.
use Rattle.std.proofs.Common.{ℕ, ◌≡◌, ◌+◌, ◌<◌, ◌≤◌, ◌⊎◌, inl, inr, Bool, true, false, List, [], ◌∷◌, ◌++◌, take, length, get_or, Some, sym, ap, subst, ◌∙◌, arith}
use Rattle.std.specs.Prelude.{All, slice_get, IsTrue, ◌↔◌}
use Rattle.std.specs.List.{Contains}
use Rattle.std.proofs.lemmas.Bool.{cases_eq}
use Rattle.std.proofs.lemmas.List.{length-map, length_push, take_more, take_all}
use Rattle.std.proofs.lemmas.List.Elements.{All-weaker, Contains-get_or, Contains-push_cases, All-contains_itself}
use Rattle.std.proofs.lemmas.Option.{slice_get_within}
use Rattle.lk_env.specs.StoredLibrary.{StoredLibrary}
use Rattle.lk_env.specs.Units.{library_of, unit_at, AreUnitsIn}
use Rattle.lk_needs.specs.declared.needs.Needs.{Needs}
use Rattle.lk_needs.specs.declared.thing.Thing.{Thing}
use Rattle.lk_needs.specs.declared.thing.Thing.TheVariants.{Unit as a_unit}
use Rattle.lk_needs.specs.Builtins.{IsBuiltinThing, AreBuiltins}
use Rattle.lk_needs.specs.Marks.{Room, mark_of, IsMarkedUnit}
use Rattle.lk_needs.specs.Leads.{contents_in, room_at, IsOfLibrary}
use Rattle.lk_needs.proofs.Lists.{contains_none}
use Rattle.lk_recheck.specs.declared.sources.Sources.{Sources}
use Rattle.lk_recheck.specs.Stale.{MarksTouched}
use Rattle.lk_recheck.specs.Built.{IsBuilt}
use Rattle.lk_recheck.specs.Hits.{IsHit, IsSpread, AnyMarked, TellHits}
use Rattle.lk_recheck.proofs.Chained.{get_back, get_last}
use Rattle.lk_recheck.proofs.Reaching.{touched, hit}
use Rattle.lk_recheck.proofs.Spreading.{hit_marked}

-- One of the first things is marked, or none.
pub found_marked : (s : Needs) (ts : List Thing) (i : ℕ) (d : Thing) → i < length ts → mark_of s (get_or ts i d) ≡ true → AnyMarked s ts
found_marked s ts i d l m = record { thing = get_or ts i d; is_one = Contains-get_or ts i d l; marked = record { mark = m } }

pub none_marked : (s : Needs) → AnyMarked s [] → ⊥
none_marked s a = contains_none a.thing a.is_one

pub not_marked : (s : Needs) (ts : List Thing) (i : ℕ) (d : Thing) → i < length ts → mark_of s (get_or ts i d) ≡ false → (AnyMarked s (take i ts) → ⊥) → AnyMarked s (take (i + 1) ts) → ⊥
not_marked s ts i d l m none a =
    elim (Contains-push_cases (take i ts) (get_or ts i d) a.thing (subst (λ xs. Contains xs a.thing) (take_more ts i d l) a.is_one)) [
      | inl k ↦ none (record { thing = a.thing; is_one = k; marked = a.marked })
      | inr e ↦ let clash : true ≡ false = sym a.marked.mark ∙ ap (mark_of s) (sym e) ∙ m in cc
    ]

pub all_unmarked : (s : Needs) (ts : List Thing) (i : ℕ) → length ts ≤ i → (AnyMarked s (take i ts) → ⊥) → AnyMarked s ts → ⊥
all_unmarked s ts i l none = subst (λ xs. AnyMarked s xs → ⊥) (take_all i ts l) none

module _ (r : Room) (t : Sources) (changed : List Bool) (ts : List Thing) where
  pub none_told : (marks : List Bool) → marks ≡ [] → TellHits r t changed ts 0 marks
  none_told marks is = record { as_many = ap length is; hit = λ n e. absurd (nothing n true e); unhit = λ n e h. nothing n false e }
    where
      nothing : (n : ℕ) (b : Bool) → slice_get marks n ≡ Some b → ⊥
      nothing n b e = let none : slice_get [] n ≡ Some b = ap (λ (xs : List Bool). slice_get xs n) (sym is) ∙ e in absurd cc

  -- One mark more.
  module _ (i : ℕ) (s : Needs) (u : IsSpread r t changed i s) (b : Bool) (tells : IsTrue b ↔ (IsMarkedUnit s i ⊎ AnyMarked s ts)) where
    marked_hit : IsMarkedUnit s i ⊎ AnyMarked s ts → IsHit r t changed ts i
    marked_hit (inl m) = inl (u.spreading.known (a_unit i) m)
    marked_hit (inr a) = inr (record { thing = a.thing; is_one = a.is_one; hits = u.spreading.known a.thing a.marked })

    hit_is_marked : IsHit r t changed ts i → IsMarkedUnit s i ⊎ AnyMarked s ts
    hit_is_marked (inl h) = inl (hit_marked r t changed i s u (a_unit i) h)
    hit_is_marked (inr a) = inr (record { thing = a.thing; is_one = a.is_one; marked = hit_marked r t changed i s u a.thing a.hits })

    pub one_told : (old new : List Bool) → TellHits r t changed ts i old → new ≡ old ++ b ∷ [] → TellHits r t changed ts (i + 1) new
    one_told old new a is = record {
      as_many = ap length is ∙ length_push old b ∙ ap (λ k. k + 1) a.as_many;
      hit = λ n e. elim (which n true e) [
        | inl k ↦ a.hit n k
        | inr k ↦ subst (IsHit r t changed ts) (sym k.0) (marked_hit (tells.0 k.1))
      ];
      unhit = λ n e h. elim (which n false e) [
        | inl k ↦ a.unhit n k h
        | inr k ↦ let yes : b ≡ true = tells.1 (hit_is_marked (subst (IsHit r t changed ts) k.0 h)) in let clash : true ≡ false = sym yes ∙ k.1 in cc
      ];
    }
      where
        which : (n : ℕ) (x : Bool) → slice_get new n ≡ Some x → (slice_get old n ≡ Some x) ⊎ ((n ≡ i) × (b ≡ x))
        which n x e = go (cases_eq n i)
          where
            here : slice_get (old ++ b ∷ []) n ≡ Some x
            here = ap (λ (xs : List Bool). slice_get xs n) (sym is) ∙ e

            go : (n ≡ i) ⊎ (n ≡ i → ⊥) → (slice_get old n ≡ Some x) ⊎ ((n ≡ i) × (b ≡ x))
            go (inl k) =
                let at : slice_get (old ++ b ∷ []) n ≡ Some b = get_last old b n (k ∙ sym a.as_many) in
                let both : Some b ≡ Some x = sym at ∙ here in
                let same : b ≡ x = cc in
                inr (k, same)
            go (inr ne) =
                let within = slice_get_within (old ++ b ∷ []) n x here in
                let count = length_push old b in
                let lower : n < length old = omega (arith, within, count, a.as_many, ne) in
                inl (sym (get_back old (b ∷ []) n lower) ∙ here)

-- what tells of hits tells of closures
pub marks_touched : (l : StoredLibrary) (t : Sources) (changed marks : List Bool) (ts : List Thing) → IsBuilt l t → AreUnitsIn (contents_in l) l.units → AreBuiltins (contents_in l) ts
    → TellHits (room_at l) t changed ts (length l.units) marks → MarksTouched (library_of l) changed marks
marks_touched l t changed marks ts b known a m = record {
  as_many = m.as_many ∙ sym (length-map l.units (unit_at (contents_in l)));
  touched = λ n e. touched l t changed n b ts a (m.hit n e);
  untouched = λ n k e inside c.
      let within = slice_get_within marks n false e in
      m.unhit n e (hit l t changed n b (omega (arith, within, m.as_many)) known ts a (k, inside, c));
}

-- the built-in names that are listed are of the library
pub builtins_in : (l : StoredLibrary) (ts : List Thing) → AreBuiltins (contents_in l) ts → All (IsOfLibrary l) ts
builtins_in l ts a = All-weaker (Contains ts) (IsOfLibrary l) (λ x k. one x (a.only x k)) ts (All-contains_itself ts)
  where
    one : (x : Thing) → IsBuiltinThing (contents_in l) x → IsOfLibrary l x
    one x i = subst (IsOfLibrary l) (sym i.is_name) i.name_in

-- the same of a room by another name
pub told_at : (r q : Room) (t : Sources) (changed marks : List Bool) (ts : List Thing) → r ≡ q → TellHits r t changed ts r.units marks → TellHits q t changed ts q.units marks
told_at r q t changed marks ts is h = subst (λ (x : Room). TellHits x t changed ts x.units marks) is h
