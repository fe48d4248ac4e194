-- The names of a closed set of units.
use Rattle.std.proofs.Common.{ℕ, suc, ◌≡◌, ◌⊎◌, inl, inr, List, [], ◌∷◌, take, Some, refl, Bool, true, false, ◌&&◌, ◌||◌}
use Rattle.std.specs.Prelude.{slice_get}
use Rattle.lk_tree.specs.Tree.{Name, Tree, var, sort, const, app, lam, pi, let_in, proj, lit, wide, str, local}
use Rattle.lk_rulebook.specs.Place.{RecRule, BlockRecursor, BlockType}
use Rattle.lk_tree.specs.Mentions.{is_one_of, mentions}
use Rattle.lk_tree.specs.Scan.{is_bound}
use Rattle.lk_tree.proofs.LevelTests.{both, name_same, in_first}
use Rattle.lk_rulebook.specs.Names.{bool_name}
use Rattle.lk_rulebook.specs.Units.{LibraryUnit, of_decl, of_block, Library, Members, members_of, Trees, trees_of, Found, first_giving, all_bound}
use Rattle.lk_inductive.specs.Recursors.{rec_name}
use Rattle.lk_inductive.specs.Restore.{first_name, rec_numbered}
use Rattle.lk_reach.specs.Reach.{TreesMention}
use Rattle.lk_closure.proofs.Names.{Over, HasBuiltins}
use Rattle.lk_closure.proofs.Over.{TreesOver, NamesOver, RulesFor, RecsFor, UnitFor, TypesGive, MayGive, UnitOver, IsClosureOver}
use Rattle.lk_uses.specs.Closure.{Bears, HasRuleFor, HaveRuleFor, IsRecOf, BlockUses, Uses, IsIn, builtins, IsClosure}

-- a kept unit that uses the name
pub record IsUsed (us : Library) (keep : ℕ → Bool) (c : Name) : Type 0 where
  pub number : ℕ
  pub unit : LibraryUnit
  pub is_kept : keep number ≡ true
  pub stands : slice_get us number ≡ Some unit
  pub uses : Uses c unit

-- the names that may be looked up
abbrev pub NamesOf : Library → (ℕ → Bool) → Name → Type 0
NamesOf us keep c = IsIn c builtins ⊎ IsUsed us keep c

or_left : (a b : Bool) → a ≡ true → (a || b) ≡ true
or_left true b h = refl
or_left false b h = absurd cc

or_right : (a b : Bool) → b ≡ true → (a || b) ≡ true
or_right true b h = refl
or_right false b h = h

-- a tree without Locals is over the names that it mentions
over_own : (P : Name → Type 0) (d : ℕ) (e : Tree) → is_bound d e ≡ true → ((c : Name) → mentions (c ∷ []) e ≡ true → P c) → Over P e
over_own P d (const c ls) b h = h c (in_first c [] c (name_same c))
over_own P d (app f a) b h =
    let x : (is_bound d f ≡ true) × (is_bound d a ≡ true) = both (is_bound d f) (is_bound d a) b in
    (over_own P d f x.0 (λ c m. h c (or_left (mentions (c ∷ []) f) (mentions (c ∷ []) a) m)), over_own P d a x.1 (λ c m. h c (or_right (mentions (c ∷ []) f) (mentions (c ∷ []) a) m)))
over_own P d (lam A e) b h =
    let x : (is_bound d A ≡ true) × (is_bound (suc d) e ≡ true) = both (is_bound d A) (is_bound (suc d) e) b in
    (over_own P d A x.0 (λ c m. h c (or_left (mentions (c ∷ []) A) (mentions (c ∷ []) e) m)), over_own P (suc d) e x.1 (λ c m. h c (or_right (mentions (c ∷ []) A) (mentions (c ∷ []) e) m)))
over_own P d (pi A e) b h =
    let x : (is_bound d A ≡ true) × (is_bound (suc d) e ≡ true) = both (is_bound d A) (is_bound (suc d) e) b in
    (over_own P d A x.0 (λ c m. h c (or_left (mentions (c ∷ []) A) (mentions (c ∷ []) e) m)), over_own P (suc d) e x.1 (λ c m. h c (or_right (mentions (c ∷ []) A) (mentions (c ∷ []) e) m)))
over_own P d (let_in A v e) b h =
    let x : (is_bound d A ≡ true) × ((is_bound d v && is_bound (suc d) e) ≡ true) = both (is_bound d A) (is_bound d v && is_bound (suc d) e) b in
    let y : (is_bound d v ≡ true) × (is_bound (suc d) e ≡ true) = both (is_bound d v) (is_bound (suc d) e) x.1 in (
      over_own P d A x.0 (λ c m. h c (or_left (mentions (c ∷ []) A) (mentions (c ∷ []) v || mentions (c ∷ []) e) m)),
      over_own P d v y.0 (λ c m. h c (or_right (mentions (c ∷ []) A) (mentions (c ∷ []) v || mentions (c ∷ []) e) (or_left (mentions (c ∷ []) v) (mentions (c ∷ []) e) m))),
      over_own P (suc d) e y.1 (λ c m. h c (or_right (mentions (c ∷ []) A) (mentions (c ∷ []) v || mentions (c ∷ []) e) (or_right (mentions (c ∷ []) v) (mentions (c ∷ []) e) m))),
    )
over_own P d (proj S i s) b h = over_own P d s b (λ c m. h c (or_right (is_one_of (c ∷ []) S) (mentions (c ∷ []) s) m))
over_own P d (local k T) b h = absurd cc
over_own P d (var i) b h = tt
over_own P d (sort l) b h = tt
over_own P d (lit n) b h = tt
over_own P d wide b h = tt
over_own P d (str s) b h = tt

trees_own : (P : Name → Type 0) (es : Trees) → all_bound es ≡ true → ((c : Name) → TreesMention c es → P c) → TreesOver P es
trees_own P [] b h = tt
trees_own P (e ∷ es) b h =
    let x : (is_bound 0 e.1 ≡ true) × (all_bound es ≡ true) = both (is_bound 0 e.1) (all_bound es) b in
    (over_own P 0 e.1 x.0 (λ c m. h c (inl m)), trees_own P es x.1 (λ c m. h c (inr m)))

names_own : (P : Name → Type 0) (ms : Members) → ((c : Name) → Bears c ms → P c) → NamesOver P ms
names_own P [] h = tt
names_own P (m ∷ ms) h = (h m.0 (inl refl), names_own P ms (λ c x. h c (inr x)))

rules_own : (P : Name → Type 0) (rs : List RecRule) → ((c : Name) → HasRuleFor c rs → P c) → RulesFor P rs
rules_own P [] h = tt
rules_own P (r ∷ rs) h = (h r.ctor (inl refl), rules_own P rs (λ c x. h c (inr x)))

recs_own : (P : Name → Type 0) (rs : List BlockRecursor) → ((c : Name) → HaveRuleFor c rs → P c) → RecsFor P rs
recs_own P [] h = tt
recs_own P (r ∷ rs) h = (rules_own P r.recursor.rules (λ c x. h c (inl x)), recs_own P rs (λ c x. h c (inr x)))

types_own : (P : Name → Type 0) (ts : List BlockType) → ((c : Name) → IsRecOf c ts → P c) → TypesGive P ts
types_own P [] h = tt
types_own P (t ∷ ts) h = (h (rec_name t.name) (inl refl), types_own P ts (λ c x. h c (inr x)))

unit_for : (P : Name → Type 0) (u : LibraryUnit) → ((c : Name) → BlockUses c u → P c) → UnitFor P u
unit_for P (of_decl d) h = tt
unit_for P (of_block b rs) h = recs_own P rs (λ c x. h c (inl x))

may_give : (P : Name → Type 0) (u : LibraryUnit) → ((c : Name) → BlockUses c u → P c) → MayGive P u
may_give P (of_decl d) h = tt
may_give P (of_block b rs) h = (types_own P b.types (λ c x. h c (inr (inl x))), λ k. h (rec_numbered (first_name b.types) (suc k)) (inr (inr (k, refl))))

unit_own : (P : Name → Type 0) (u : LibraryUnit) → ((c : Name) → Uses c u → P c) → UnitOver P u
unit_own P u h = record {
  trees = λ b. trees_own P (trees_of u) b (λ c x. h c (inl x));
  names = names_own P (members_of u) (λ c x. h c (inr (inl x)));
  rules = unit_for P u (λ c x. h c (inr (inr x)));
  recursors = may_give P u (λ c x. h c (inr (inr x)));
}

pub has_builtins : (P : Name → Type 0) → ((c : Name) → IsIn c builtins → P c) → HasBuiltins P
has_builtins P h = record {
  of_nat = h _ (inl refl);
  of_zero = h _ (inr (inl refl));
  of_succ = h _ (inr (inr (inl refl)));
  of_bool = bools (h (bool_name true) (inr (inr (inr (inl refl))))) (h (bool_name false) (inr (inr (inr (inr (inl refl))))));
  of_string = h _ (inr (inr (inr (inr (inr (inl refl))))));
  of_mk = h _ (inr (inr (inr (inr (inr (inr (inl refl)))))));
  of_nil = h _ (inr (inr (inr (inr (inr (inr (inr (inl refl))))))));
  of_cons = h _ (inr (inr (inr (inr (inr (inr (inr (inr (inl refl)))))))));
  of_char = h _ (inr (inr (inr (inr (inr (inr (inr (inr (inr (inl refl))))))))));
  of_char_nat = h _ (inr (inr (inr (inr (inr (inr (inr (inr (inr (inr (inl refl)))))))))));
  of_eq = h _ (inr (inr (inr (inr (inr (inr (inr (inr (inr (inr (inr (inl refl))))))))))));
  of_quot = h _ (inr (inr (inr (inr (inr (inr (inr (inr (inr (inr (inr (inr (inl refl)))))))))))));
  of_quot_mk = h _ (inr (inr (inr (inr (inr (inr (inr (inr (inr (inr (inr (inr (inr (inl refl))))))))))))));
  of_pred = h _ (inr (inr (inr (inr (inr (inr (inr (inr (inr (inr (inr (inr (inr (inr (inl refl)))))))))))))));
  of_add = h _ (inr (inr (inr (inr (inr (inr (inr (inr (inr (inr (inr (inr (inr (inr (inr (inl refl))))))))))))))));
  of_mul = h _ (inr (inr (inr (inr (inr (inr (inr (inr (inr (inr (inr (inr (inr (inr (inr (inr (inl refl)))))))))))))))));
}
  where
    bools : P (bool_name true) → P (bool_name false) → (b : Bool) → P (bool_name b)
    bools t f true = t
    bools t f false = f

-- with more names, of which no unit but a kept one gives any before n
pub closure_over_more : (us : Library) (n : ℕ) (keep : ℕ → Bool) (R : Name → Type 0) → IsClosure us n keep → ((c : Name) (f : Found) → R c → first_giving 0 (take n us) c ≡ Some f → keep f.unit ≡ true) →
    IsClosureOver us n (λ c. NamesOf us keep c ⊎ R c) keep
closure_over_more us n keep R h more = record {
  own = h.own;
  builtins = has_builtins (λ c. NamesOf us keep c ⊎ R c) (λ c x. inl (inl x));
  units = λ k u y e. unit_own (λ c. NamesOf us keep c ⊎ R c) u (λ c x. inl (inr (record { number = k; unit = u; is_kept = y; stands = e; uses = x })));
  given = λ c f p e. given c f p e;
}
  where
    given : (c : Name) (f : Found) → NamesOf us keep c ⊎ R c → first_giving 0 (take n us) c ≡ Some f → keep f.unit ≡ true
    given c f (inl (inl x)) e = h.builtin c f x e
    given c f (inl (inr x)) e = h.used x.number x.unit c f x.is_kept x.stands x.uses e
    given c f (inr x) e = more c f x e
