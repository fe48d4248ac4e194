-- Parameters gathered.
use Rattle.std.proofs.Common.{ℕ, zero, suc, ◌≡◌, ◌≢◌, ◌<◌, ◌≤◌, ◌+◌, Bool, true, false, List, [], ◌∷◌, ◌++◌, take, length, get_or, refl, ap, ◌∙◌, arith, inl, inr, append_assoc}
use Rattle.std.specs.Prelude.{Some, ◌||◌}
use Rattle.std.proofs.lemmas.List.Sums.{sum_by_push}
use Rattle.std.proofs.lemmas.Grind.{common_steps}
use Rattle.std.proofs.lemmas.List.{map-append}
use Rattle.std.proofs.lemmas.List.Elements.{All-push, All-pop, All-weaker}
use Rattle.lk_tree.specs.Tree.{Name, Level, zero_level, succ_level, max_level, imax_level, param}
use Rattle.lk_tree.specs.Mentions.{is_one_of}
use Rattle.lk_tree.specs.LevelTest.{params_of, right_params}
use Rattle.lk_tree.proofs.LevelTests.{bool_cases, in_cases, in_first, in_rest, in_left, in_right, name_is, name_same}
use Rattle.lk_store.specs.Contents.{Contents, name_at, level_at}
use Rattle.lk_store.specs.Measures.{level_has_params}
use Rattle.lk_store.specs.Values.{AreApart}
use Rattle.lk_subst.proofs.LevelCosts.{cost_where_positive}
use Rattle.lk_level_order.specs.declared.parameters.Parameter.{Parameter}
use Rattle.lk_level_order.specs.declared.gathering.Side.{Side}
use Rattle.lk_level_order.specs.declared.gathering.Turn.{Turn}
use Rattle.lk_level_order.specs.Parameters.{IsWithin, names_of, AreParameters, Gathers, wanted}
use Rattle.lk_level_order.specs.Compared.{HasParameters}
use Rattle.lk_level_order.specs.Gathering.{wanted_of, AreGathered, AreTurns, turn_cost, turns_cost, IsMet}
use Rattle.lk_level_order.proofs.Names.{within_left, within_right, within_both, within_trans, different_push}

-- where the name of one of them stands
index_of : (c : Contents) (ps : List Parameter) (n : Name) → is_one_of (names_of c ps) n ≡ true
    → (k : ℕ) × (k < length ps) × ((d : Parameter) → name_at c (get_or ps k d).name ≡ n)
index_of c [] n h = absurd cc
index_of c (p ∷ ps) n h = elim (in_cases (name_at c p.name) (names_of c ps) n h) [
  | inl e ↦ (0, omega arith, λ d. name_is (name_at c p.name) n e)
  | inr e ↦ let r = index_of c ps n e in (suc r.0, let l = r.1 in omega arith, r.2)
]

in_index : (c : Contents) (ps : List Parameter) (k : ℕ) (n : ℕ) → k < length ps → ((d : Parameter) → (get_or ps k d).name ≡ n) → is_one_of (names_of c ps) (name_at c n) ≡ true
in_index c [] k n h e = absurd (omega arith)
in_index c (p ∷ ps) zero n h e = let s : p.name ≡ n = e p in rw s (in_first (name_at c n) (names_of c ps) (name_at c n) (name_same (name_at c n)))
in_index c (p ∷ ps) (suc k) n h e = in_rest (name_at c p.name) (names_of c ps) (name_at c n) (in_index c ps k n (omega arith) e)

one_within : (n : Name) (ns : List Name) → is_one_of ns n ≡ true → IsWithin (n ∷ []) ns
one_within n ns h = record { each = λ m i. elim (in_cases n [] m i) [ inl e ↦ let s : n ≡ m = name_is n m e in rw (← s) h | inr none ↦ absurd cc ] }

pub found_within : (c : Contents) (ps : List Parameter) (k n : ℕ) → k < length ps → ((d : Parameter) → (get_or ps k d).name ≡ n) → IsWithin (name_at c n ∷ []) (names_of c ps)
found_within c ps k n h e = one_within (name_at c n) (names_of c ps) (in_index c ps k n h e)

pub names_push : (c : Contents) (ps : List Parameter) (p : Parameter) → names_of c (ps ++ p ∷ []) ≡ names_of c ps ++ name_at c p.name ∷ []
names_push c ps p = map-append (λ (p : Parameter). name_at c p.name) ps (p ∷ [])

-- a name whose number is not there is not there
pub fresh_name : (c : Contents) (ps : List Parameter) (p : Parameter) → AreApart [] c.names → p.name < length c.names
    → ((k : ℕ) (d : Parameter) → k < length ps → (get_or ps k d).name ≢ p.name) → AreParameters c ps → is_one_of (names_of c ps) (name_at c p.name) ≡ false
fresh_name c ps p apart known absent are = elim (bool_cases (is_one_of (names_of c ps) (name_at c p.name))) [
  | inl e ↦
      let i = index_of c ps (name_at c p.name) e in
      absurd (absent i.0 p i.1 (apart.apart (get_or ps i.0 p).name p.name (are.known i.0 p i.1) known (i.2 p)))
  | inr e ↦ e
]

-- it is added
pub added : (c : Contents) (ps : List Parameter) (p : Parameter) → AreApart [] c.names → p.name < length c.names
    → ((k : ℕ) (d : Parameter) → k < length ps → (get_or ps k d).name ≢ p.name) → Gathers c (name_at c p.name ∷ []) ps (ps ++ p ∷ [])
added c ps p apart known absent = record {
  grown = (p ∷ [], refl);
  sound = λ s a b. rw (names_push c ps p) (within_both (names_of c ps) (name_at c p.name ∷ []) s a b);
  fine = λ f. record {
    known = All-push (λ (p : Parameter). p.name < length c.names) ps p f.known known;
    different = rw (names_push c ps p) (different_push (names_of c ps) (name_at c p.name) f.different (fresh_name c ps p apart known absent f));
  };
}

pub added_within : (c : Contents) (ps : List Parameter) (p : Parameter) → IsWithin (name_at c p.name ∷ []) (names_of c (ps ++ p ∷ []))
added_within c ps p =
    let n = name_at c p.name in
    rw (names_push c ps p) (one_within n (names_of c ps ++ n ∷ []) (in_right (names_of c ps) (n ∷ []) n (in_first n [] n (name_same n))))

-- a level of two parts
pub wanted_max : (b : Bool) (l m : Level) → wanted b (max_level l m) ≡ wanted b l ++ wanted b m
wanted_max true l m = refl
wanted_max false l m = refl

pub wanted_imax : (b : Bool) (l m : Level) → wanted b (imax_level l m) ≡ wanted b l ++ wanted true m
wanted_imax true l m = refl
wanted_imax false l m = refl

pub met_within : (c : Contents) (ps : List Parameter) (met : List Side) (s : Side) → IsMet s met → AreGathered c ps met → IsWithin (wanted_of c s) (names_of c ps)
met_within c ps met s m g = let h = g m.0 s m.1 in rw (m.2 s) at h

pub two_met : (c : Contents) (ps : List Parameter) (met : List Side) (s t : Side) (ns : List Name) → ns ≡ wanted_of c s ++ wanted_of c t → IsMet s met → IsMet t met
    → AreGathered c ps met → IsWithin ns (names_of c ps)
two_met c ps met s t ns e a b g = rw e (within_both (wanted_of c s) (wanted_of c t) (names_of c ps) (met_within c ps met s a g) (met_within c ps met t b g))

-- the stack
abbrev pub opened_at : Side → Turn
opened_at s = record { side = s; opened = true }

abbrev pub closed_at : Side → Turn
closed_at s = record { side = s; opened = false }

abbrev pub IsTurn : Contents → List Name → Turn → Type 0
IsTurn c among t = (t.side.level < length c.levels) × IsWithin (wanted_of c t.side) among

pub three_pushed : (c : Contents) (among : List Name) (stack : List Turn) (t u v : Turn) → AreTurns c among stack → IsTurn c among t → IsTurn c among u → IsTurn c among v
    → AreTurns c among (((stack ++ t ∷ []) ++ u ∷ []) ++ v ∷ [])
three_pushed c among stack t u v h x y z =
    let one = All-push (IsTurn c among) stack t h x in
    let two = All-push (IsTurn c among) (stack ++ t ∷ []) u one y in
    All-push (IsTurn c among) ((stack ++ t ∷ []) ++ u ∷ []) v two z

-- the parts of a side are among what it is among
pub parts_opened : (c : Contents) (among : List Name) (stack : List Turn) (side left right : Side) → wanted_of c side ≡ wanted_of c left ++ wanted_of c right
    → side.level < length c.levels → left.level < length c.levels → right.level < length c.levels → AreTurns c among stack → IsWithin (wanted_of c side) among
    → AreTurns c among (((stack ++ opened_at side ∷ []) ++ closed_at right ∷ []) ++ closed_at left ∷ [])
parts_opened c among stack side left right e k l r h w =
    let both : IsWithin (wanted_of c left ++ wanted_of c right) among = rw e at w in
    three_pushed c among stack (opened_at side) (closed_at right) (closed_at left) h (k, w)
    (r, within_right (wanted_of c left) (wanted_of c right) among both)
    (l, within_left (wanted_of c left) (wanted_of c right) among both)

pub turn_popped : (c : Contents) (among : List Name) (stack rest : List Turn) (t : Turn) → stack ≡ rest ++ t ∷ [] → AreTurns c among stack → AreTurns c among rest × IsTurn c among t
turn_popped c among stack rest t popped h = All-pop (IsTurn c among) stack rest (Some t) popped h

pub turn_less : (c : Contents) (stack rest : List Turn) (t : Turn) → stack ≡ rest ++ t ∷ [] → turns_cost c rest < turns_cost c stack
turn_less c stack rest t popped =
    let p : turns_cost c stack ≡ turns_cost c rest + turn_cost c t = rw popped (sum_by_push (turn_cost c) rest t) in
    let q = cost_where_positive t.opened (level_at c t.side.level) in
    omega arith

-- what was gathered stays
names_grown : (c : Contents) (old new : List Parameter) → (more : List Parameter) × (new ≡ old ++ more) → IsWithin (names_of c old) (names_of c new)
names_grown c old new g =
    let e : names_of c new ≡ names_of c old ++ names_of c g.0 = ap (names_of c) g.1 ∙ map-append (λ (p : Parameter). name_at c p.name) old g.0 in
    rw e (record { each = λ n h. in_left (names_of c old) (names_of c g.0) n h })

pub gathers_more : (c : Contents) (all some : List Name) (old mid new : List Parameter) → Gathers c all old mid → Gathers c some mid new → IsWithin some all → Gathers c all old new
gathers_more c all some old mid new a b w = record {
  grown = (a.grown.0 ++ b.grown.0, b.grown.1 ∙ ap (λ xs. xs ++ b.grown.0) a.grown.1 ∙ append_assoc old a.grown.0 b.grown.0);
  sound = λ s x y. b.sound s (a.sound s x y) (within_trans some all s w y);
  fine = λ f. b.fine (a.fine f);
}

pub gathered_more : (c : Contents) (some : List Name) (old new : List Parameter) (met : List Side) (s : Side) → Gathers c some old new → AreGathered c old met
    → IsWithin (wanted_of c s) (names_of c new) → AreGathered c new (met ++ s ∷ [])
gathered_more c some old new met s g h w =
    let kept = All-weaker (λ (s : Side). IsWithin (wanted_of c s) (names_of c old)) (λ (s : Side). IsWithin (wanted_of c s) (names_of c new))
    (λ s w. within_trans (wanted_of c s) (names_of c old) (names_of c new) w (names_grown c old new g.grown)) met h in
    All-push (λ (s : Side). IsWithin (wanted_of c s) (names_of c new)) met s kept w

names_front : (c : Contents) (qs ss : List Parameter) → (more : List Parameter) × (ss ≡ qs ++ more) → take (length qs) (names_of c ss) ≡ names_of c qs
names_front c qs ss m = ap (λ xs. take (length qs) (names_of c xs)) m.1 ∙ go qs m.0
  where
    go : (qs more : List Parameter) → take (length qs) (names_of c (qs ++ more)) ≡ names_of c qs
    go [] more = refl
    go (q ∷ qs) more = ap (λ (ns : List Name). name_at c q.name ∷ ns) (go qs more)

pub length_map : (c : Contents) (ps : List Parameter) → length (names_of c ps) ≡ length ps
length_map c [] = refl
length_map c (p ∷ ps) = ap suc (length_map c ps)

pub no_parameters : (c : Contents) (none : List Parameter) → none ≡ [] → AreParameters c none
no_parameters c none empty = rw empty (record { known = λ k p h. absurd (omega arith); different = tt })

-- the parameters of two levels, gathered one after another
pub has_parameters : (c : Contents) (l m : Level) (none ps qs rs ss : List Parameter) → none ≡ []
    → Gathers c (right_params l) none ps → IsWithin (right_params l) (names_of c ps)
    → Gathers c (right_params m) ps qs → IsWithin (right_params m) (names_of c qs)
    → Gathers c (params_of l) qs rs → IsWithin (params_of l) (names_of c rs)
    → Gathers c (params_of m) rs ss → IsWithin (params_of m) (names_of c ss)
    → HasParameters (names_of c ss) (length qs) l m
has_parameters c l m none ps qs rs ss empty a a' b b' d d' e e' =
    let start = no_parameters c none empty in
    let rights = right_params l ++ right_params m in
    let more : (more : List Parameter) × (ss ≡ qs ++ more) =
    (d.grown.0 ++ e.grown.0, e.grown.1 ∙ ap (λ xs. xs ++ e.grown.0) d.grown.1 ∙ append_assoc qs d.grown.0 e.grown.0) in
    let front : take (length qs) (names_of c ss) ≡ names_of c qs = names_front c qs ss more in
    let length_is : length (names_of c ss) ≡ length ss = length_map c ss in
    let long : length qs ≤ length ss = let s : length ss ≡ length (qs ++ more.0) = ap length more.1 in let t : length (qs ++ more.0) ≡ length qs + length more.0 = grind (arith, common_steps) in omega arith in
    record {
      different = (e.fine (d.fine (b.fine (a.fine start)))).different;
      within = omega arith;
      left = within_trans (params_of l) (names_of c rs) (names_of c ss) d' (names_grown c rs ss e.grown);
      right = e';
      only_rights = rw front (b.sound rights
          (a.sound rights (rw empty (record { each = λ n h. absurd cc })) (record { each = λ n h. in_left (right_params l) (right_params m) n h }))
          (record { each = λ n h. in_right (right_params l) (right_params m) n h }));
      all_rights = rw front (within_both (right_params l) (right_params m) (names_of c qs) (within_trans (right_params l) (names_of c ps) (names_of c qs) a' (names_grown c ps qs b.grown)) b');
    }

-- levels without parameters
or_left : (a b : Bool) → (a || b) ≡ false → a ≡ false
or_left false b h = refl
or_left true b h = absurd cc

or_right : (a b : Bool) → (a || b) ≡ false → b ≡ false
or_right false b h = h
or_right true b h = absurd cc

no_params : (l : Level) → level_has_params l ≡ false → (params_of l ≡ []) × (right_params l ≡ [])
no_params zero_level h = (refl, refl)
no_params (succ_level l) h = no_params l h
no_params (max_level l m) h =
    let left = no_params l (or_left (level_has_params l) (level_has_params m) h) in
    let right = no_params m (or_right (level_has_params l) (level_has_params m) h) in
    (rw (left.0, right.0) refl, rw (left.1, right.1) refl)
no_params (imax_level l m) h =
    let left = no_params l (or_left (level_has_params l) (level_has_params m) h) in
    let right = no_params m (or_right (level_has_params l) (level_has_params m) h) in
    (rw (left.0, right.0) refl, rw (left.1, right.0) refl)
no_params (param n) h = absurd cc

none_within : (ns : List Name) → IsWithin [] ns
none_within ns = record { each = λ n h. absurd cc }

pub has_none : (c : Contents) (l m : Level) (none : List Parameter) → none ≡ [] → level_has_params l ≡ false → level_has_params m ≡ false → HasParameters (names_of c none) 0 l m
has_none c l m none empty l_none m_none =
    let left = no_params l l_none in
    let right = no_params m m_none in
    rw empty (record {
      different = tt;
      within = omega arith;
      left = rw left.0 (none_within []);
      right = rw right.0 (none_within []);
      only_rights = none_within (right_params l ++ right_params m);
      all_rights = rw (left.1, right.1) (none_within []);
    })
