-- A library whose store grows, and one that gets more units.
use Rattle.std.proofs.Common.{◌≡◌, ℕ, suc, ◌+◌, ◌<◌, ◌≤◌, ◌⊎◌, inl, inr, List, [], ◌∷◌, ◌++◌, ◌-◌, length, get_or, take, drop, map, Vec, Option, Some, None, refl, ap, sym, ◌∙◌, subst, arith}
use Rattle.std.specs.Prelude.{All}
use Rattle.std.specs.declared.alloc.Global.{Global}
use Rattle.std.proofs.lemmas.Bool.{cases_lt}
use Rattle.std.proofs.lemmas.List.{get_or_past, get_or-map, get_or-drop, get_or_default, length-map, length-drop, map-append, take_more}
use Rattle.std.proofs.Math.Seq.{drop-append_seam}
use Rattle.std.proofs.lemmas.List.Elements.{All-weaker, All-append}
use Rattle.lk_tree.specs.Tree.{Name}
use Rattle.lk_tree.specs.declared.rule.Rule.{Rule}
use Rattle.lk_rulebook.specs.Units.{Library, members_of, flaw_of}
use Rattle.lk_store.specs.Values.{AreApart}
use Rattle.lk_store.specs.Contents.{Contents, name_at, Extends}
use Rattle.lk_env.specs.declared.budget.Budget.{Budget}
use Rattle.lk_env.specs.declared.position.Position.{Position}
use Rattle.lk_env.specs.declared.unit.Unit.{Unit as StoredUnit}
use Rattle.lk_env.specs.Units.{library_at, unit_at, IsUnitIn, AreUnitsIn}
use Rattle.lk_env.specs.Places.{member_in, first_place, at_member, position_in}
use Rattle.lk_env.specs.Index.{member_names, cell_at, AreNoted, AreNames, IsIndex, IsIndexUpTo, AreCells}
use Rattle.lk_env.specs.Scan.{AreFlaws}
use Rattle.lk_env.specs.Budgets.{own_budget, budget_at, budgets_at, limit_at, AreBudgetsIn, AreLimits}
use Rattle.lk_env.proofs.Members.{absent_position, beyond_names}
use Rattle.lk_env.proofs.Noted.{names_known, next_unit}
use Rattle.lk_env.proofs.Stays.{all_stay, units_in_stay, library_stays}

-- an index over all names is one over the first
pub index_cells : (c : Contents) (us : List StoredUnit) (cells : List (Option Position)) → IsIndex c us cells → AreCells c us cells
index_cells c us cells i = record { within = let e = i.one_each in omega arith; right = i.right }

-- The store grows.
module _ (c d : Contents) (x : Extends c d) (apart : AreApart [] d.names) (us : List StoredUnit) (known : AreUnitsIn c us) where
  cells_stay : (cells : List (Option Position)) → AreCells c us cells → AreCells d us cells
  cells_stay cells a = record {
    within = let longer = x.names.longer in let w = a.within in omega arith;
    right = λ n h. right n h (cases_lt n (length c.names));
  }
    where
      right : (n : ℕ) → n < length d.names → (n < length c.names) ⊎ (length c.names ≤ n) → cell_at cells n ≡ position_in 0 (library_at d us) (name_at d n)
      right n h (inl below) = rw (library_stays c d x us known, x.names.same n below) (a.right n below)
      right n h (inr beyond) =
          let w = a.within in
          let past : get_or cells n None ≡ None = get_or_past cells n None (omega arith) in
          rw (past, library_stays c d x us known)
          (sym (absent_position c (name_at d n) (beyond_names c d x apart n beyond h) 0 us known))

  budgets_stay : (bs : List Budget) → AreBudgetsIn c bs → AreBudgetsIn d bs
  budgets_stay bs h = All-weaker (λ (b : Budget). b.name < length c.names) (λ (b : Budget). b.name < length d.names) (λ b small. let longer = x.names.longer in omega arith) bs h

  stated_stay : (bs : List Budget) → AreBudgetsIn c bs → budgets_at d bs ≡ budgets_at c bs
  stated_stay bs h = all_stay (λ (b : Budget). b.name < length c.names) (budget_at d) (budget_at c) (λ b small. rw (x.names.same b.name small) refl) bs h

  -- all that a library has beside its store is right for the larger store
  pub library_grown : (bs : List Budget) (cells : List (Option Position)) (flaws : List (Option Rule)) (limits : List (Option ℕ))
      → AreCells c us cells → AreFlaws c us flaws → AreBudgetsIn c bs → AreLimits c us bs limits
      → AreUnitsIn d us × AreCells d us cells × AreFlaws d us flaws × AreBudgetsIn d bs × AreLimits d us bs limits
  library_grown bs cells flaws limits a f b l = (
    units_in_stay c d x us known,
    cells_stay cells a,
    rw (library_stays c d x us known) f,
    budgets_stay bs b,
    λ n. rw (library_stays c d x us known, stated_stay bs b) (l n),
  )

-- the names of one unit more
pub names_more : (us : List StoredUnit) (i : ℕ) (u : StoredUnit) (names grown : List (Vec ℕ Global)) (v : Vec ℕ Global) → i < length us → u ≡ get_or us i u → v.items ≡ member_names u
    → grown ≡ names ++ v ∷ [] → AreNames names (take i us) → AreNames grown (take (i + 1) us)
names_more us i u names grown v l is are e a =
    ap (map (λ (w : Vec ℕ Global). w.items)) e
    ∙ map-append (λ (w : Vec ℕ Global). w.items) names (v ∷ [])
    ∙ ap (λ ns. ns ++ v.items ∷ []) a
    ∙ ap (λ ns. map member_names (take i us) ++ ns ∷ []) are
    ∙ sym (map-append member_names (take i us) (u ∷ []))
    ∙ ap (map member_names) (ap (λ w. take i us ++ w ∷ []) is ∙ sym (take_more us i u l))

-- Names that are at hand, of the units from a number on.
module _ (us : List StoredUnit) (first : ℕ) (names : List (Vec ℕ Global)) (are : AreNames names (drop first us)) (within : first ≤ length us) where
  pub names_count : first + length names ≡ length us
  names_count =
      let a : length (map (λ (w : Vec ℕ Global). w.items) names) ≡ length names = length-map names (λ (w : Vec ℕ Global). w.items) in
      let b : length (map member_names (drop first us)) ≡ length (drop first us) = length-map (drop first us) member_names in
      let e : length names ≡ length (drop first us) = sym a ∙ ap length are ∙ b in
      let k : length (drop first us) ≡ length us - first = length-drop first us in
      omega arith

  -- the unit of a number, with its names
  pub named : (j : ℕ) (v : Vec ℕ Global) → j < length names → v ≡ get_or names j v → (u : StoredUnit) × (u ≡ get_or us (first + j) u) × (v.items ≡ member_names u)
  named j v l is = there us refl
    where
      there : (vs : List StoredUnit) → us ≡ vs → (u : StoredUnit) × (u ≡ get_or us (first + j) u) × (v.items ≡ member_names u)
      there [] none = let count = names_count in let z : length us ≡ 0 = ap length none in absurd (omega arith)
      there (d ∷ vs) some =
          let count = names_count in
          let h : first + j < length us = omega arith in
          let u : StoredUnit = get_or us (first + j) d in
          let left : j < length (drop first us) = rw (length-drop first us) (omega arith) in
          let own : get_or (map (λ (w : Vec ℕ Global). w.items) names) j [] ≡ v.items = get_or-map (λ (w : Vec ℕ Global). w.items) names j v [] l ∙ ap (λ (w : Vec ℕ Global). w.items) (sym is) in
          let its : get_or (map member_names (drop first us)) j [] ≡ member_names u = get_or-map member_names (drop first us) j d [] left ∙ ap member_names (get_or-drop first us j d) in
          (u, get_or_default us (first + j) d u h, sym own ∙ ap (λ ns. get_or ns j []) are ∙ its)

  module _ (c : Contents) (apart : AreApart [] c.names) (known : AreUnitsIn c us) (j : ℕ) (v : Vec ℕ Global) (l : j < length names) (is : v ≡ get_or names j v) (cells : List (Option Position)) (before : IsIndexUpTo c us (first + j) cells) where
    pub next_known : All (λ n. n < length cells) v.items
    next_known =
        let count = names_count in
        let n = named j v l is in
        names_known c us (first + j) n.0 v.items cells known (omega arith) n.1 n.2 before.one_each

    pub next_noted : (after : List (Option Position)) → length after ≡ length cells → AreNoted (first + j) v.items cells after → IsIndexUpTo c us (first + (j + 1)) after
    next_noted after same noted =
        let count = names_count in
        let n = named j v l is in
        let e : first + j + 1 ≡ first + (j + 1) = omega arith in
        subst (λ k. IsIndexUpTo c us k after) e (next_unit c us (first + j) n.0 v.items cells after apart known (omega arith) n.1 n.2 same noted before)

position_after : (us vs : Library) (i : ℕ) (x : Name) → position_in i (us ++ vs) x ≡ first_place (position_in i us x) (position_in (i + length us) vs x)
position_after [] vs i x = let e : i ≡ i + 0 = omega arith in ap (λ k. position_in k vs x) e
position_after (u ∷ us) vs i x = go (at_member i (member_in 0 (members_of u) x)) (position_after us vs (suc i) x)
  where
    go : (o : Option (ℕ × ℕ)) → position_in (suc i) (us ++ vs) x ≡ first_place (position_in (suc i) us x) (position_in (suc i + length us) vs x)
        → first_place o (position_in (suc i) (us ++ vs) x) ≡ first_place (first_place o (position_in (suc i) us x)) (position_in (i + suc (length us)) vs x)
    go (Some p) h = refl
    go None h = let e : suc i + length us ≡ i + suc (length us) = omega arith in h ∙ ap (λ k. first_place (position_in (suc i) us x) (position_in k vs x)) e

-- More units stand behind those of an index.
module _ (c : Contents) (us vs : List StoredUnit) (cells : List (Option Position)) (a : AreCells c us cells) where
  pub index_before : (grown : List (Option Position)) → length grown ≡ length c.names → ((k : ℕ) → cell_at grown k ≡ cell_at cells k) → IsIndexUpTo c (us ++ vs) (length us) grown
  index_before grown one_each same = record {
    one_each = one_each;
    right = λ n h.
        let x : Name = name_at c n in
        let e : 0 + length (library_at c us) ≡ length us = let f : length (library_at c us) ≡ length us = length-map us (unit_at c) in omega arith in
        ap (λ o. first_place o (position_in (length us) (library_at c (drop (length us) (us ++ vs))) x)) (same n ∙ a.right n h)
        ∙ ap (λ ws. first_place (position_in 0 (library_at c us) x) (position_in (length us) (library_at c ws) x)) (drop-append_seam us vs)
        ∙ ap (λ k. first_place (position_in 0 (library_at c us) x) (position_in k (library_at c vs) x)) (sym e)
        ∙ sym (position_after (library_at c us) (library_at c vs) 0 x)
        ∙ sym (ap (λ ws. position_in 0 ws x) (map-append (unit_at c) us vs));
  }

pub flaws_before : (c : Contents) (us vs : List StoredUnit) (old more : List (Option Rule)) → AreFlaws c us old → AreFlaws c vs more → AreFlaws c (us ++ vs) (old ++ more)
flaws_before c us vs old more e f = rw (e, f) (sym (map-append flaw_of (library_at c us) (library_at c vs)) ∙ sym (ap (map flaw_of) (map-append (unit_at c) us vs)))

-- cells that got longer say what they said
pub longer_cells : (c : Contents) (us : List StoredUnit) (cells grown : List (Option Position)) → length grown ≤ length c.names → ((k : ℕ) → cell_at grown k ≡ cell_at cells k) → AreCells c us cells → AreCells c us grown
longer_cells c us cells grown within same a = record { within = within; right = λ n h. same n ∙ a.right n h }

-- where no line states a budget, none does, whatever the units are
pub limits_empty : (c : Contents) (us vs : List StoredUnit) (bs : List Budget) (limits : List (Option ℕ)) → bs ≡ [] → AreLimits c us bs limits → AreLimits c vs bs limits
limits_empty c us vs bs limits none l n =
    let old : limit_at limits n ≡ None = subst (λ (b : List Budget). limit_at limits n ≡ own_budget (library_at c us) (budgets_at c b) n) none (l n) in
    subst (λ (b : List Budget). limit_at limits n ≡ own_budget (library_at c vs) (budgets_at c b) n) (sym none) old

-- what a library has once these units came behind its own
pub library_joined : (c : Contents) (us vs whole : List StoredUnit) (bs : List Budget) (cells : List (Option Position)) (old more flaws : List (Option Rule)) (limits : List (Option ℕ)) → whole ≡ us ++ vs → flaws ≡ old ++ more → bs ≡ []
    → AreUnitsIn c us → AreUnitsIn c vs → IsIndex c whole cells → AreFlaws c us old → AreFlaws c vs more → AreBudgetsIn c bs → AreLimits c us bs limits
    → AreUnitsIn c whole × AreCells c whole cells × AreFlaws c whole flaws × AreBudgetsIn c bs × AreLimits c whole bs limits
library_joined c us vs whole bs cells old more flaws limits w f none k h i a b j l = (
  rw w (All-append (IsUnitIn c) us vs k h),
  index_cells c whole cells i,
  rw (w, f) (flaws_before c us vs old more a b),
  j,
  limits_empty c us whole bs limits none l,
)
