-- What names mean in a scope: auxiliary types beside the partial members of the unit at work.
use Rattle.std.proofs.Common.{◌≡◌, ℕ, ◌+◌, ◌<◌, Bool, true, false, List, [], ◌∷◌, ◌++◌, length, take, map, nat_lt, Option, Some, None, Result, Ok, Err, All, refl, ap, sym, subst, ◌∙◌, arith}
use Rattle.std.specs.Prelude.{IfOk, option_map, option_and_then, slice_get, if◌then◌else◌}
use Rattle.std.proofs.lemmas.Bool.Decides.{nat_tests}
use Rattle.std.proofs.lemmas.List.{append_assoc}
use Rattle.std.proofs.lemmas.List.Elements.{All-nil, All-cons, All-same, All-head, All-tail}
use Rattle.std.proofs.lemmas.Option.{slice_get-map}
use Rattle.lk_tree.specs.Tree.{Name, name_discrete}
use Rattle.lk_tree.specs.declared.rule.Rule.{Rule}
use Rattle.lk_rulebook.specs.Place.{Entry as PlainEntry, Place, Block as PlainBlock, BlockType as PlainType, a_type}
use Rattle.lk_rulebook.specs.Units.{Members, Library, LibraryUnit, of_decl, of_block, kind_of, type_entries, partial_types, Found, given_by, first_of_two, at_partial, first_giving, flawless, unit_or, place_of}
use Rattle.lk_rulebook.specs.Scan.{is_none}
use Rattle.lk_store.specs.Contents.{Contents, name_at, tree_at, Extends}
use Rattle.lk_env.specs.declared.entry.Entry.{Entry}
use Rattle.lk_env.specs.declared.entry.Kind.{Kind}
use Rattle.lk_env.specs.declared.entry.Kind.TheVariants as kind
use Rattle.lk_env.specs.declared.entry.Partial.{Partial}
use Rattle.lk_env.specs.declared.entry.Partial.TheVariants.{Nothing, Types, Members as AllMembers}
use Rattle.lk_env.specs.declared.entry.Site.{Site}
use Rattle.lk_env.specs.declared.unit.Body.{Body}
use Rattle.lk_env.specs.declared.unit.Body.TheVariants.{Axiom, Definition, Theorem, Opaque, Quotient}
use Rattle.lk_env.specs.declared.unit.Block.{Block}
use Rattle.lk_env.specs.declared.unit.BlockType.{BlockType}
use Rattle.lk_env.specs.declared.unit.Declaration.{Declaration}
use Rattle.lk_env.specs.declared.unit.Unit.{Unit as StoredUnit}
use Rattle.lk_env.specs.declared.unit.Unit.TheVariants as unit
use Rattle.lk_env.specs.Units.{block_at, type_at, unit_at, IsBodyIn, IsConstructorIn, IsTypeIn, IsRecursorIn, IsUnitIn, AreUnitsIn}
use Rattle.lk_env.specs.Places.{partial_of, position_in, position_below, new_among, partial_at, partial_first, partial_last, first_at, last_at, beside_at}
use Rattle.lk_env.specs.Entries.{entry_of, plain_entry, IsKindIn, IsEntryIn, IsMeaning, IsAnswer}
use Rattle.lk_env.specs.Scopes.{auxiliary_members, alone_members, only_types, of_types, IsAlone, AreAlone, IsAloneOf, AreAloneOf, AnswersAmong, AnswersAlone}
use Rattle.lk_env.proofs.Before.{position_before_is}
use Rattle.lk_env.proofs.Given.{unit_is}
use Rattle.lk_env.proofs.Lending.{entry_there, not_there}
use Rattle.lk_env.proofs.Standing.{get_left, holds_at}
use Rattle.lk_env.proofs.Stays.{body_stays, unit_stays}

-- what a list gives a name, put together
abbrev pub or_else : Option PlainEntry → Option PlainEntry → Option PlainEntry
or_else (Some e) o = Some e
or_else None o = o

pub given_both : (a b : Members) (x : Name) → given_by (a ++ b) x ≡ or_else (given_by a x) (given_by b x)
given_both [] b x = refl
given_both (m ∷ ms) b x = go (name_discrete m.0 x) (given_both ms b x)
  where
    go : (d : Dec (m.0 ≡ x)) → given_by (ms ++ b) x ≡ or_else (given_by ms x) (given_by b x)
        → elim d as (λ y. Option PlainEntry) [ yes e ↦ Some m.1 | no f ↦ given_by (ms ++ b) x ] ≡ or_else (elim d as (λ y. Option PlainEntry) [ yes e ↦ Some m.1 | no f ↦ given_by ms x ]) (given_by b x)
    go (yes e) h = refl
    go (no f) h = h

-- auxiliary types one after another
module _ (c : Contents) (x : Name) where
  pub alone_first : (u : StoredUnit) (us : List StoredUnit) (number : ℕ) (e : Entry) → e.unit ≡ number → AnswersAlone c u x (Some e) → AnswersAmong c number (u ∷ us) x (Some e)
  alone_first u us number e unit a =
      let given = given_both (partial_of (unit_at c u) Types) (auxiliary_members c us) x in
      (a.0, given ∙ ap (λ o. or_else o (given_by (auxiliary_members c us) x)) a.1, a.3, (λ before count. there before (unit ∙ sym count) ∙ a.2))
    where
      unit_there : (before : List StoredUnit) → slice_get (before ++ u ∷ us) (length before) ≡ Some u
      unit_there [] = refl
      unit_there (v ∷ vs) = unit_there vs

      there : (before : List StoredUnit) → e.unit ≡ length before → plain_entry c (before ++ u ∷ us) e ≡ entry_of c (unit_at c u) e.kind (tree_at c e.stated)
      there before at =
          ap (option_and_then (λ v. entry_of c v e.kind (tree_at c e.stated)))
          (slice_get-map (unit_at c) (before ++ u ∷ us) e.unit ∙ ap (option_map (unit_at c)) (ap (slice_get (before ++ u ∷ us)) at ∙ unit_there before))

  pub alone_later : (u : StoredUnit) (us : List StoredUnit) (number : ℕ) (o : Option Entry) → AnswersAlone c u x None → AnswersAmong c (number + 1) us x o → AnswersAmong c number (u ∷ us) x o
  alone_later u us number None a h = given_both (partial_of (unit_at c u) Types) (auxiliary_members c us) x ∙ ap (λ o. or_else o (given_by (auxiliary_members c us) x)) a ∙ h
  alone_later u us number (Some e) a h = (
    h.0,
    given_both (partial_of (unit_at c u) Types) (auxiliary_members c us) x ∙ ap (λ o. or_else o (given_by (auxiliary_members c us) x)) a ∙ h.1,
    h.2,
    (λ before count. ap (λ vs. plain_entry c vs e) (sym (append_assoc before (u ∷ []) us)) ∙ h.3 (before ++ u ∷ []) (longer before ∙ ap (λ n. n + 1) count)),
  )
    where
      longer : (before : List StoredUnit) → length (before ++ u ∷ []) ≡ length before + 1
      longer [] = refl
      longer (v ∷ vs) = let h = longer vs in omega (arith, h)

-- a type as a block alone
pub alone_is : (t own : BlockType) (b : Block) → b.types.items ≡ own ∷ [] → b.recursors.value.items ≡ [] → own.name ≡ t.name → own.levels.items ≡ t.levels.items → own.ty ≡ t.ty
    → own.parameters ≡ t.parameters → own.indices ≡ t.indices → own.constructors.items ≡ [] → IsAloneOf t (unit.Block b)
alone_is t own b types recursors name levels ty parameters indices constructors = record {
  alone = record { block = b; type = own; is = refl; types = types };
  is = λ c. rw (types, recursors, name, levels, ty, parameters, indices, constructors) refl;
  known = λ c h. (
    All-same (IsTypeIn c) b.types.items (own ∷ []) types (All-cons (IsTypeIn c) own [] (record {
      stated = record { name_in = rw name h.stated.name_in; levels_in = rw levels h.stated.levels_in; ty_in = rw ty h.stated.ty_in };
      constructors_in = All-same (IsConstructorIn c) own.constructors.items [] constructors (All-nil (IsConstructorIn c));
    }) (All-nil (IsTypeIn c))),
    All-same (IsRecursorIn c) b.recursors.value.items [] recursors (All-nil (IsRecursorIn c)),
  );
}

pub alone_pushed : (done : List BlockType) (made : List StoredUnit) (t : BlockType) (u : StoredUnit) → AreAloneOf done made → IsAloneOf t u → AreAloneOf (done ++ t ∷ []) (made ++ u ∷ [])
alone_pushed [] [] t u h a = (a, tt)
alone_pushed [] (v ∷ made) t u h a = absurd h
alone_pushed (d ∷ done) [] t u h a = absurd h
alone_pushed (d ∷ done) (v ∷ made) t u h a = (h.0, alone_pushed done made t u h.1 a)

pub all_alone : (ts : List BlockType) (us : List StoredUnit) → AreAloneOf ts us → AreAlone us
all_alone [] [] h = All-nil IsAlone
all_alone [] (u ∷ us) h = absurd h
all_alone (t ∷ ts) [] h = absurd h
all_alone (t ∷ ts) (u ∷ us) h = All-cons IsAlone u us h.0.alone (all_alone ts us h.1)

pub alone_known : (c : Contents) (ts : List BlockType) (us : List StoredUnit) → AreAloneOf ts us → All (IsTypeIn c) ts → AreUnitsIn c us
alone_known c [] [] h k = All-nil (IsUnitIn c)
alone_known c [] (u ∷ us) h k = absurd h
alone_known c (t ∷ ts) [] h k = absurd h
alone_known c (t ∷ ts) (u ∷ us) h k = All-cons (IsUnitIn c) u us (h.0.known c (All-head (IsTypeIn c) t ts k)) (alone_known c ts us h.1 (All-tail (IsTypeIn c) t ts k))

pub alone_give : (c : Contents) (ts : List BlockType) (us : List StoredUnit) → AreAloneOf ts us → auxiliary_members c us ≡ alone_members (map (type_at c) ts)
alone_give c [] [] h = refl
alone_give c [] (u ∷ us) h = absurd h
alone_give c (t ∷ ts) [] h = absurd h
alone_give c (t ∷ ts) (u ∷ us) h = rw (h.0.is c, alone_give c ts us h.1) refl

-- the one type of such a unit, by its name
pub alone_has : (c : Contents) (x : Name) (b : Block) (t : BlockType) (e : Entry) → b.types.items ≡ t ∷ [] → name_at c t.name ≡ x → e.kind ≡ kind.Type 0 → e.stated ≡ t.ty → IsUnitIn c (unit.Block b)
    → AnswersAlone c (unit.Block b) x (Some e)
alone_has c x b t e types name kind_is stated known =
    let plain : PlainBlock = block_at c b in
    let p : PlainEntry = record { levels = map (name_at c) t.levels.items; type = tree_at c t.ty; kind = a_type plain (type_at c t) } in
    let ty_in : t.ty < length c.trees = (All-head (IsTypeIn c) t [] (All-same (IsTypeIn c) (t ∷ []) b.types.items (sym types) known.0)).stated.ty_in in (
      p,
      ap (λ ts. given_by (type_entries plain (map (type_at c) ts)) x) types ∙ go p (name_discrete (name_at c t.name) x) name,
      ap (λ k. entry_of c (unit_at c (unit.Block b)) k (tree_at c e.stated)) kind_is
          ∙ ap (λ n. entry_of c (unit_at c (unit.Block b)) (kind.Type 0) (tree_at c n)) stated
          ∙ ap (λ ts. option_map (λ (s : PlainType). record { levels = s.levels; type = tree_at c t.ty; kind = a_type plain s }) (slice_get (map (type_at c) ts) 0)) types,
      record { kind_in = rw kind_is tt; stated_in = rw stated ty_in },
    )
  where
    go : (p : PlainEntry) (d : Dec (name_at c t.name ≡ x)) → name_at c t.name ≡ x → elim d as (λ y. Option PlainEntry) [ yes e ↦ Some p | no f ↦ None ] ≡ Some p
    go p (yes e) h = refl
    go p (no f) h = absurd (f h)

pub alone_lacks : (c : Contents) (x : Name) (b : Block) (t : BlockType) → b.types.items ≡ t ∷ [] → (name_at c t.name ≡ x → ⊥) → AnswersAlone c (unit.Block b) x None
alone_lacks c x b t types other = ap (λ ts. given_by (type_entries (block_at c b) (map (type_at c) ts)) x) types ∙ go (record { levels = map (name_at c) t.levels.items; type = tree_at c t.ty; kind = a_type (block_at c b) (type_at c t) }) (name_discrete (name_at c t.name) x)
  where
    go : (p : PlainEntry) (d : Dec (name_at c t.name ≡ x)) → elim d as (λ y. Option PlainEntry) [ yes e ↦ Some p | no f ↦ None ] ≡ None
    go p (yes e) = absurd (other e)
    go p (no f) = refl

-- what the library has stands in the scope for what it stood for
module _ (c d : Contents) (grown : Extends c d) (us more : List StoredUnit) (units_in : AreUnitsIn c us) where
  entry_stays : (u : StoredUnit) (e : Entry) → IsUnitIn c u → IsEntryIn c e → entry_of d (unit_at d u) e.kind (tree_at d e.stated) ≡ entry_of c (unit_at c u) e.kind (tree_at c e.stated)
  entry_stays u e h k =
      ap (λ v. entry_of d v e.kind (tree_at d e.stated)) (unit_stays c d grown u h)
      ∙ ap (entry_of d (unit_at c u) e.kind) (grown.trees.same e.stated k.stated_in)
      ∙ kinds (unit_at c u) e.kind k.kind_in
    where
      kinds : (v : LibraryUnit) (k : Kind) → IsKindIn c k → entry_of d v k (tree_at c e.stated) ≡ entry_of c v k (tree_at c e.stated)
      kinds (of_decl a) (kind.Declared b) h = ap (λ body. Some (record { levels = a.levels; type = tree_at c e.stated; kind = kind_of body })) (body_stays c d grown b h)
      kinds (of_decl a) (kind.Type i) h = refl
      kinds (of_decl a) (kind.Constructor i j) h = refl
      kinds (of_decl a) (kind.Recursor i) h = refl
      kinds (of_decl a) (kind.BareRecursor i) h = refl
      kinds (of_block b rs) (kind.Declared a) h = refl
      kinds (of_block b rs) (kind.Type i) h = refl
      kinds (of_block b rs) (kind.Constructor i j) h = refl
      kinds (of_block b rs) (kind.Recursor i) h = refl
      kinds (of_block b rs) (kind.BareRecursor i) h = refl

  pub known_stays : (e : Entry) → IsEntryIn c e → IsEntryIn d e
  known_stays e h = record { kind_in = kinds e.kind h.kind_in; stated_in = let longer = grown.trees.longer in let small = h.stated_in in omega arith }
    where
      bodies : (b : Body) → IsBodyIn c b → IsBodyIn d b
      bodies Axiom h = tt
      bodies (Definition hint v) h = let longer = grown.trees.longer in omega (arith, h)
      bodies (Theorem v) h = let longer = grown.trees.longer in omega (arith, h)
      bodies (Opaque v) h = let longer = grown.trees.longer in omega (arith, h)
      bodies Quotient h = tt

      kinds : (k : Kind) → IsKindIn c k → IsKindIn d k
      kinds (kind.Declared b) h = bodies b h
      kinds (kind.Type i) h = tt
      kinds (kind.Constructor i j) h = tt
      kinds (kind.Recursor i) h = tt
      kinds (kind.BareRecursor i) h = tt

  plain_stays : (e : Entry) (p : PlainEntry) → IsEntryIn c e → plain_entry c us e ≡ Some p → plain_entry d (us ++ more) e ≡ Some p
  plain_stays e p k h = go (slice_get us e.unit) refl
    where
      go : (o : Option StoredUnit) → slice_get us e.unit ≡ o → plain_entry d (us ++ more) e ≡ Some p
      go None at = absurd (not_there c us e p at h)
      go (Some u) at =
          entry_there d (us ++ more) e u (get_left us more e.unit u at)
          ∙ entry_stays u e (holds_at (IsUnitIn c) us e.unit u at units_in) k
          ∙ sym (entry_there c us e u at) ∙ h

  pub answer_stays : (w v : Place) (x : Name) (r : Result Entry Rule) → v.means x ≡ w.means x → v.origin x ≡ w.origin x → v.flaw x ≡ w.flaw x → IfOk r (IsEntryIn c) → IsAnswer c us w x r → IsAnswer d (us ++ more) v x r
  answer_stays w v x (Err r) means origin flaw known a = record { means = means ∙ a.means; rule = rw flaw a.rule; unknown = λ is. flaw ∙ a.unknown is }
  answer_stays w v x (Ok e) means origin flaw known a = go (w.means x) refl
    where
      go : (o : Option PlainEntry) → w.means x ≡ o → IsAnswer d (us ++ more) v x (Ok e)
      go None is = let no : false ≡ true = rw is at a.given in absurd cc
      go (Some p) is = record {
        given = rw (means ∙ is) refl;
        means = means ∙ is ∙ sym (plain_stays e p known (sym a.means ∙ is));
        origin = origin ∙ a.origin;
      }

-- places whose partial members give the name alike
module _ (us : Library) (n : ℕ) (M N : Members) (x : Name) (same : given_by M x ≡ given_by N x) where
  pub same_means : (place_of us n M).means x ≡ (place_of us n N).means x
  same_means = ap (λ o. option_and_then flawless (first_of_two (at_partial n o) (first_giving 0 (take n us) x))) same

  pub same_origin : (place_of us n M).origin x ≡ (place_of us n N).origin x
  same_origin = ap (λ o. unit_or (first_of_two (at_partial n o) (first_giving 0 (take n us) x)) n) same

  pub same_flaw : (place_of us n M).flaw x ≡ (place_of us n N).flaw x
  same_flaw = ap (λ o. option_and_then (λ (f : Found). f.flaw) (first_of_two (at_partial n o) (first_giving 0 (take n us) x))) same

new_among_both : (us : Library) (n : ℕ) (a b : Members) → new_among us n (a ++ b) ≡ new_among us n a ++ new_among us n b
new_among_both us n [] b = refl
new_among_both us n (m ∷ ms) b = go (is_none (first_giving 0 (take n us) m.0)) (new_among_both us n ms b)
  where
    go : (t : Bool) → new_among us n (ms ++ b) ≡ new_among us n ms ++ new_among us n b
        → (if t then m ∷ new_among us n (ms ++ b) else new_among us n (ms ++ b)) ≡ (if t then m ∷ new_among us n ms else new_among us n ms) ++ new_among us n b
    go true h = ap (λ k. m ∷ k) h
    go false h = h

append_nil : {A : Type 0} (xs : List A) → xs ++ [] ≡ xs
append_nil [] = refl
append_nil (x ∷ xs) = ap (λ k. x ∷ k) (append_nil xs)

pub parted : (u : LibraryUnit) (p : Partial) → partial_of u p ≡ partial_first u p ++ partial_last u p
parted u Nothing = refl
parted (of_decl d) Types = refl
parted (of_decl d) AllMembers = refl
parted (of_block b rs) Types = sym (append_nil (partial_types b))
parted (of_block b rs) AllMembers = refl

first_is : (u : LibraryUnit) (p : Partial) → partial_first u p ≡ partial_of u (only_types p)
first_is u Nothing = refl
first_is (of_decl d) Types = refl
first_is (of_decl d) AllMembers = refl
first_is (of_block b rs) Types = refl
first_is (of_block b rs) AllMembers = refl

module _ (us : Library) (s : Site) (aux : Members) (x : Name) where
  site_parted : given_by (partial_at us s) x ≡ or_else (given_by (first_at us s) x) (given_by (last_at us s) x)
  site_parted = go (slice_get us s.unit)
    where
      go : (o : Option LibraryUnit)
          → given_by (elim o as (λ y. Members) [ None ↦ [] | Some u ↦ new_among us s.unit (partial_of u s.partial) ]) x
          ≡ or_else (given_by (elim o as (λ y. Members) [ None ↦ [] | Some u ↦ new_among us s.unit (partial_first u s.partial) ]) x) (given_by (elim o as (λ y. Members) [ None ↦ [] | Some u ↦ new_among us s.unit (partial_last u s.partial) ]) x)
      go None = refl
      go (Some u) =
          ap (λ ms. given_by (new_among us s.unit ms) x) (parted u s.partial)
          ∙ ap (λ ms. given_by ms x) (new_among_both us s.unit (partial_first u s.partial) (partial_last u s.partial))
          ∙ given_both (new_among us s.unit (partial_first u s.partial)) (new_among us s.unit (partial_last u s.partial)) x

  beside_parted : given_by (beside_at us s aux) x ≡ or_else (or_else (given_by (first_at us s) x) (given_by aux x)) (given_by (last_at us s) x)
  beside_parted = given_both (first_at us s ++ aux) (last_at us s) x ∙ ap (λ o. or_else o (given_by (last_at us s) x)) (given_both (first_at us s) aux x)

  first_of_types : first_at us s ≡ partial_at us (of_types s)
  first_of_types = go (slice_get us s.unit)
    where
      go : (o : Option LibraryUnit) → elim o as (λ y. Members) [ None ↦ [] | Some u ↦ new_among us s.unit (partial_first u s.partial) ] ≡ elim o as (λ y. Members) [ None ↦ [] | Some u ↦ new_among us s.unit (partial_of u (only_types s.partial)) ]
      go None = refl
      go (Some u) = ap (new_among us s.unit) (first_is u s.partial)

  -- no auxiliary type has the name
  pub beside_none : given_by aux x ≡ None → given_by (beside_at us s aux) x ≡ given_by (partial_at us s) x
  beside_none h = beside_parted ∙ ap (λ o. or_else (or_else (given_by (first_at us s) x) o) (given_by (last_at us s) x)) h ∙ go (given_by (first_at us s) x) ∙ sym site_parted
    where
      go : (o : Option PlainEntry) → or_else (or_else o None) (given_by (last_at us s) x) ≡ or_else o (given_by (last_at us s) x)
      go None = refl
      go (Some p) = refl

  -- a partial type of the unit has it
  pub beside_own : (p : PlainEntry) → given_by (partial_at us (of_types s)) x ≡ Some p → given_by (beside_at us s aux) x ≡ given_by (partial_at us (of_types s)) x
  beside_own p h =
      let first : given_by (first_at us s) x ≡ Some p = ap (λ ms. given_by ms x) first_of_types ∙ h in
      beside_parted ∙ ap (λ o. or_else (or_else o (given_by aux x)) (given_by (last_at us s) x)) first ∙ sym h

  -- an auxiliary type has it, and no partial type of the unit
  pub beside_auxiliary : (p : PlainEntry) → given_by (partial_at us (of_types s)) x ≡ None → given_by aux x ≡ Some p → given_by (beside_at us s aux) x ≡ Some p
  beside_auxiliary p h a =
      let first : given_by (first_at us s) x ≡ None = ap (λ ms. given_by ms x) first_of_types ∙ h in
      beside_parted ∙ ap (λ o. or_else (or_else o (given_by aux x)) (given_by (last_at us s) x)) first ∙ ap (λ o. or_else o (given_by (last_at us s) x)) a

-- what an earlier unit gives has a number below
given_below : (us : Library) (n : ℕ) (x : Name) (f : Found) → first_giving 0 (take n us) x ≡ Some f → f.unit < n
given_below us n x f h = go (position_in 0 us x) (ap (option_map (λ (g : Found). g.unit)) (sym h) ∙ unit_is (take n us) x ∙ ap (option_map (λ (p : ℕ × ℕ). p.0)) (position_before_is x us n))
  where
    go : (o : Option (ℕ × ℕ)) → Some f.unit ≡ option_map (λ (p : ℕ × ℕ). p.0) (position_below n o) → f.unit < n
    go None e = absurd cc
    go (Some p) e = test (nat_lt p.0 n) (λ t. grind (arith, nat_tests)) e
      where
        test : (b : Bool) → (b ≡ true → p.0 < n) → Some f.unit ≡ option_map (λ (q : ℕ × ℕ). q.0) (if b then Some p else None) → f.unit < n
        test true l e = let same : f.unit ≡ p.0 = cc in rw same (l refl)
        test false l e = absurd cc

-- what is given where the name comes from is partial there, and nothing else is
module _ (c : Contents) (units : List StoredUnit) (us : Library) (n : ℕ) (M : Members) (x : Name) where
  pub given_here : (e : Entry) → IsMeaning c units (place_of us n M) x e → e.origin ≡ n → (p : PlainEntry) × (given_by M x ≡ Some p)
  given_here e m at = go (given_by M x) refl
    where
      later : (o : Option Found) → first_giving 0 (take n us) x ≡ o → given_by M x ≡ None → ⊥
      later None is none = let no : false ≡ true = rw (none, is) at m.given in absurd cc
      later (Some f) is none =
          let here : unit_or (first_of_two (at_partial n (given_by M x)) (first_giving 0 (take n us) x)) n ≡ f.unit = rw (none, is) refl in
          let below = given_below us n x f is in
          let same : f.unit ≡ n = sym here ∙ m.origin ∙ at in
          absurd (omega (arith, below, same))

      go : (o : Option PlainEntry) → given_by M x ≡ o → (p : PlainEntry) × (given_by M x ≡ Some p)
      go None is = absurd (later (first_giving 0 (take n us) x) refl is)
      go (Some p) is = (p, is)

  pub not_here : (r : Result Entry Rule) → IsAnswer c units (place_of us n M) x r → IfOk r (λ e. e.origin ≡ n → ⊥) → given_by M x ≡ None
  not_here r a other = go (given_by M x) refl r a other
    where
      go : (o : Option PlainEntry) → given_by M x ≡ o → (r : Result Entry Rule) → IsAnswer c units (place_of us n M) x r → IfOk r (λ e. e.origin ≡ n → ⊥) → given_by M x ≡ None
      go None is r a other = is
      go (Some p) is (Err r) a other =
          let here : (place_of us n M).means x ≡ Some p = rw is refl in
          absurd (let none : None ≡ Some p = sym a.means ∙ here in cc)
      go (Some p) is (Ok e) a other =
          let here : (place_of us n M).origin x ≡ n = rw is refl in
          absurd (other (sym a.origin ∙ here))

  -- what is partial there is the answer
  pub partial_answer : (p : PlainEntry) (e : Entry) → given_by M x ≡ Some p → plain_entry c units e ≡ Some p → e.origin ≡ n → IsAnswer c units (place_of us n M) x (Ok e)
  partial_answer p e is stands at = record { given = rw is refl; means = rw is (sym stands); origin = rw is (sym at) }

-- the type of a block that is one type alone
pub one_type : (u : StoredUnit) (b : Block) → IsAlone u → u ≡ unit.Block b → (t : BlockType) → Some t ≡ slice_get b.types.items 0 → b.types.items ≡ t ∷ []
one_type u b a is t first =
    let blocks : unit.Block b ≡ unit.Block a.block = sym is ∙ a.is in
    let same : b ≡ a.block = cc in
    let items : b.types.items ≡ a.type ∷ [] = ap (λ (k : Block). k.types.items) same ∙ a.types in
    let found : Some t ≡ Some a.type = first ∙ ap (λ ts. slice_get ts 0) items in
    let type : t ≡ a.type = cc in
    items ∙ ap (λ k. k ∷ []) (sym type)

pub no_type : (u : StoredUnit) (b : Block) → IsAlone u → u ≡ unit.Block b → None ≡ slice_get b.types.items 0 → ⊥
no_type u b a is first =
    let blocks : unit.Block b ≡ unit.Block a.block = sym is ∙ a.is in
    let same : b ≡ a.block = cc in
    let items : b.types.items ≡ a.type ∷ [] = ap (λ (k : Block). k.types.items) same ∙ a.types in
    let found : None ≡ Some a.type = first ∙ ap (λ ts. slice_get ts 0) items in
    absurd cc

pub no_declaration : (u : StoredUnit) (d : Declaration) → IsAlone u → u ≡ unit.Declaration d → ⊥
no_declaration u d a is = let same : unit.Declaration d ≡ unit.Block a.block = sym is ∙ a.is in absurd cc

-- its name stays
pub alone_name : (c d : Contents) → Extends c d → (b : Block) (t : BlockType) → b.types.items ≡ t ∷ [] → IsUnitIn c (unit.Block b) → name_at d t.name ≡ name_at c t.name
alone_name c d grown b t types known = grown.names.same t.name (All-head (IsTypeIn c) t [] (All-same (IsTypeIn c) (t ∷ []) b.types.items (sym types) known.0)).stated.name_in

-- a list parted into its first and the rest
pub first_of : {A : Type 0} (P : A → Type 0) (xs : List A) (x : A) (more : List A) → xs ≡ x ∷ more → All P xs → P x
first_of P xs x more parts all = All-head P x more (All-same P (x ∷ more) xs (sym parts) all)

pub rest_of : {A : Type 0} (P : A → Type 0) (xs : List A) (x : A) (more : List A) → xs ≡ x ∷ more → All P xs → All P more
rest_of P xs x more parts all = All-tail P x more (All-same P (x ∷ more) xs (sym parts) all)

-- nothing is found in no unit
pub none_found : (c : Contents) (x : Name) (us : List StoredUnit) → length us ≡ 0 → given_by (auxiliary_members c us) x ≡ None
none_found c x [] h = refl
none_found c x (u ∷ us) h = absurd cc

-- all are done where none is left
pub all_done : (ts done left : List BlockType) (made : List StoredUnit) → ts ≡ done ++ left → length left ≡ 0 → AreAloneOf done made → AreAloneOf ts made
all_done ts done [] made split none h = subst (λ k. AreAloneOf k made) (sym (split ∙ append_nil done)) h
all_done ts done (t ∷ left) made split none h = absurd cc
