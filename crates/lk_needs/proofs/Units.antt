-- The things that a unit states have the names that it uses.
use Rattle.std.proofs.Common.{ℕ, suc, ◌≡◌, ◌<◌, ◌⊎◌, inl, inr, List, [], ◌∷◌, ◌++◌, length, map, Option, Some, None, sym, ap, ◌∙◌}
use Rattle.std.specs.Prelude.{All}
use Rattle.std.specs.List.{Contains, flat_map}
use Rattle.std.proofs.lemmas.List.Elements.{All-head, All-tail}
use Rattle.lk_tree.specs.Tree.{Name}
use Rattle.lk_rulebook.specs.Place.{BlockRecursor, BlockType as PlainType, Block as PlainBlock}
use Rattle.lk_rulebook.specs.Units.{Members, Trees, body_trees, type_trees, ctor_trees, all_ctor_trees, rule_trees, rec_trees, type_entries, ctor_entries, all_ctor_entries, rec_members}
use Rattle.lk_reach.specs.Reach.{TreesMention}
use Rattle.lk_inductive.specs.Restore.{first_name, rec_numbered}
use Rattle.lk_uses.specs.Closure.{Bears, HasRuleFor, HaveRuleFor, IsRecOf, Uses}
use Rattle.lk_store.specs.Contents.{Contents, name_at}
use Rattle.lk_env.specs.declared.unit.Body.{Body}
use Rattle.lk_env.specs.declared.unit.Body.TheVariants.{Axiom, Definition, Theorem, Opaque, Quotient}
use Rattle.lk_env.specs.declared.unit.Constructor.{Constructor}
use Rattle.lk_env.specs.declared.unit.BlockType.{BlockType}
use Rattle.lk_env.specs.declared.unit.RecursorRule.{RecursorRule}
use Rattle.lk_env.specs.declared.unit.Recursor.{Recursor}
use Rattle.lk_env.specs.declared.unit.Unit.{Unit as StoredUnit}
use Rattle.lk_env.specs.declared.unit.Unit.TheVariants as unit
use Rattle.lk_env.specs.Units.{body_at, declared_levels, constructor_at, type_at, rule_at, recursor_at, block_at, unit_at, IsBodyIn, IsConstructorIn, IsTypeIn, IsRuleIn, IsRecursorIn, IsUnitIn}
use Rattle.lk_needs.specs.declared.endings.Ending.TheVariants as ending
use Rattle.lk_needs.specs.declared.thing.Thing.{Thing}
use Rattle.lk_needs.specs.declared.thing.Thing.TheVariants.{Name as a_name}
use Rattle.lk_needs.specs.Followers.{followers_at, AreFollowers}
use Rattle.lk_needs.specs.Things.{body_things, constructor_things, type_things, rule_things, recursor_things, own_things, numbered_things, unit_things, IsFirst, IsFirstOf}
use Rattle.lk_needs.specs.Leads.{AreNaming, AnyHas, IsStored, AreNamed}
use Rattle.lk_needs.proofs.Lists.{contains_cases, contains_first, contains_later, contains_none}

module _ (c : Contents) where
  naming_append : (xs ys : List Thing) → AreNaming c xs → AreNaming c ys → AreNaming c (xs ++ ys)
  naming_append [] ys h k = k
  naming_append (x ∷ xs) ys h k = (h.0, naming_append xs ys h.1 k)

  -- They are things of the store.
  body_naming : (b : Body) → IsBodyIn c b → AreNaming c (body_things b)
  body_naming Axiom h = tt
  body_naming (Definition i v) h = (h, tt)
  body_naming (Theorem v) h = (h, tt)
  body_naming (Opaque v) h = (h, tt)
  body_naming Quotient h = tt

  constructors_naming : (ks : List Constructor) → All (IsConstructorIn c) ks → AreNaming c (flat_map constructor_things ks)
  constructors_naming [] h = tt
  constructors_naming (k ∷ ks) h =
      let first : IsConstructorIn c k = All-head (IsConstructorIn c) k ks h in
      (first.stated.name_in, (first.stated.ty_in, constructors_naming ks (All-tail (IsConstructorIn c) k ks h)))

  types_naming : (ts : List BlockType) → All (IsTypeIn c) ts → AreNaming c (flat_map type_things ts)
  types_naming [] h = tt
  types_naming (t ∷ ts) h =
      let first : IsTypeIn c t = All-head (IsTypeIn c) t ts h in
      (first.stated.name_in, (first.stated.ty_in, naming_append (flat_map constructor_things t.constructors.items) (flat_map type_things ts) (constructors_naming t.constructors.items first.constructors_in) (types_naming ts (All-tail (IsTypeIn c) t ts h))))

  rules_naming : (rs : List RecursorRule) → All (IsRuleIn c) rs → AreNaming c (flat_map rule_things rs)
  rules_naming [] h = tt
  rules_naming (r ∷ rs) h =
      let first : IsRuleIn c r = All-head (IsRuleIn c) r rs h in
      (first.constructor_in, (first.value_in, rules_naming rs (All-tail (IsRuleIn c) r rs h)))

  recursors_naming : (rs : List Recursor) → All (IsRecursorIn c) rs → AreNaming c (flat_map recursor_things rs)
  recursors_naming [] h = tt
  recursors_naming (r ∷ rs) h =
      let first : IsRecursorIn c r = All-head (IsRecursorIn c) r rs h in
      (first.stated.name_in, (first.stated.ty_in, naming_append (flat_map rule_things r.rules.items) (flat_map recursor_things rs) (rules_naming r.rules.items first.rules_in) (recursors_naming rs (All-tail (IsRecursorIn c) r rs h))))

  pub names_naming : (ns : List ℕ) → ((m : ℕ) → Contains ns m → m < length c.names) → AreNaming c (map a_name ns)
  names_naming [] h = tt
  names_naming (n ∷ ns) h = (h n (contains_first n ns), names_naming ns (λ m k. h m (contains_later n ns m k)))

  numbered_naming : (ts : List BlockType) (o : Option ℕ) → IsFirst c ts o → AreNaming c (numbered_things o)
  numbered_naming ts None h = tt
  numbered_naming ts (Some p) h = (h.known, tt)

  -- One of the names is x.
  module _ (x : Name) where
    any_left : (xs ys : List Thing) → AnyHas c x xs → AnyHas c x (xs ++ ys)
    any_left [] ys h = absurd h
    any_left (t ∷ xs) ys (inl h) = inl h
    any_left (t ∷ xs) ys (inr h) = inr (any_left xs ys h)

    any_right : (xs ys : List Thing) → AnyHas c x ys → AnyHas c x (xs ++ ys)
    any_right [] ys h = h
    any_right (t ∷ xs) ys h = inr (any_right xs ys h)

    any_cases : (xs ys : List Thing) → AnyHas c x (xs ++ ys) → AnyHas c x xs ⊎ AnyHas c x ys
    any_cases [] ys h = inr h
    any_cases (t ∷ xs) ys (inl h) = inl (inl h)
    any_cases (t ∷ xs) ys (inr h) = elim (any_cases xs ys h) [ inl k ↦ inl (inr k) | inr k ↦ inr k ]

    mention_left : (xs ys : Trees) → TreesMention x xs → TreesMention x (xs ++ ys)
    mention_left [] ys h = absurd h
    mention_left (t ∷ xs) ys (inl h) = inl h
    mention_left (t ∷ xs) ys (inr h) = inr (mention_left xs ys h)

    mention_right : (xs ys : Trees) → TreesMention x ys → TreesMention x (xs ++ ys)
    mention_right [] ys h = h
    mention_right (t ∷ xs) ys h = inr (mention_right xs ys h)

    mention_cases : (xs ys : Trees) → TreesMention x (xs ++ ys) → TreesMention x xs ⊎ TreesMention x ys
    mention_cases [] ys h = inr h
    mention_cases (t ∷ xs) ys (inl h) = inl (inl h)
    mention_cases (t ∷ xs) ys (inr h) = elim (mention_cases xs ys h) [ inl k ↦ inl (inr k) | inr k ↦ inr k ]

    bears_left : (xs ys : Members) → Bears x xs → Bears x (xs ++ ys)
    bears_left [] ys h = absurd h
    bears_left (t ∷ xs) ys (inl h) = inl h
    bears_left (t ∷ xs) ys (inr h) = inr (bears_left xs ys h)

    bears_right : (xs ys : Members) → Bears x ys → Bears x (xs ++ ys)
    bears_right [] ys h = h
    bears_right (t ∷ xs) ys h = inr (bears_right xs ys h)

    bears_cases : (xs ys : Members) → Bears x (xs ++ ys) → Bears x xs ⊎ Bears x ys
    bears_cases [] ys h = inr h
    bears_cases (t ∷ xs) ys (inl h) = inl (inl h)
    bears_cases (t ∷ xs) ys (inr h) = elim (bears_cases xs ys h) [ inl k ↦ inl (inr k) | inr k ↦ inr k ]

    -- of a declaration
    body_only : (ps : List Name) (b : Body) → AnyHas c x (body_things b) → TreesMention x (body_trees ps (body_at c b))
    body_only ps Axiom h = absurd h
    body_only ps (Definition i v) h = h
    body_only ps (Theorem v) h = h
    body_only ps (Opaque v) h = h
    body_only ps Quotient h = absurd h

    body_all : (ps : List Name) (b : Body) → TreesMention x (body_trees ps (body_at c b)) → AnyHas c x (body_things b)
    body_all ps Axiom h = absurd h
    body_all ps (Definition i v) h = h
    body_all ps (Theorem v) h = h
    body_all ps (Opaque v) h = h
    body_all ps Quotient h = absurd h

    -- of constructors
    module _ (p : PlainBlock) (t : PlainType) where
      constructors_only : (ks : List Constructor) → AnyHas c x (flat_map constructor_things ks) → TreesMention x (ctor_trees (map (constructor_at c) ks)) ⊎ Bears x (ctor_entries p t (map (constructor_at c) ks))
      constructors_only [] h = absurd h
      constructors_only (k ∷ ks) (inl h) = inr (inl h)
      constructors_only (k ∷ ks) (inr (inl h)) = inl (inl h)
      constructors_only (k ∷ ks) (inr (inr h)) = elim (constructors_only ks h) [ inl i ↦ inl (inr i) | inr i ↦ inr (inr i) ]

      constructors_all : (ks : List Constructor) → TreesMention x (ctor_trees (map (constructor_at c) ks)) ⊎ Bears x (ctor_entries p t (map (constructor_at c) ks)) → AnyHas c x (flat_map constructor_things ks)
      constructors_all [] (inl h) = absurd h
      constructors_all [] (inr h) = absurd h
      constructors_all (k ∷ ks) (inl (inl h)) = inr (inl h)
      constructors_all (k ∷ ks) (inl (inr h)) = inr (inr (constructors_all ks (inl h)))
      constructors_all (k ∷ ks) (inr (inl h)) = inl h
      constructors_all (k ∷ ks) (inr (inr h)) = inr (inr (constructors_all ks (inr h)))

    -- of types
    data OfTypes (p : PlainBlock) (ts : List PlainType) : Type 0 where
      in_type : TreesMention x (type_trees ts) → OfTypes p ts
      in_ctor : TreesMention x (all_ctor_trees ts) → OfTypes p ts
      of_type : Bears x (type_entries p ts) → OfTypes p ts
      of_ctor : Bears x (all_ctor_entries p ts) → OfTypes p ts

    module _ (p : PlainBlock) where
      later_types : (t : PlainType) (ts : List PlainType) → OfTypes p ts → OfTypes p (t ∷ ts)
      later_types t ts (in_type h) = in_type (inr h)
      later_types t ts (in_ctor h) = in_ctor (mention_right (ctor_trees t.ctors) (all_ctor_trees ts) h)
      later_types t ts (of_type h) = of_type (inr h)
      later_types t ts (of_ctor h) = of_ctor (bears_right (ctor_entries p t t.ctors) (all_ctor_entries p ts) h)

      types_only : (ts : List BlockType) → AnyHas c x (flat_map type_things ts) → OfTypes p (map (type_at c) ts)
      types_only [] h = absurd h
      types_only (t ∷ ts) (inl h) = of_type (inl h)
      types_only (t ∷ ts) (inr (inl h)) = in_type (inl h)
      types_only (t ∷ ts) (inr (inr h)) =
          let u : PlainType = type_at c t in
          let us : List PlainType = map (type_at c) ts in
          elim (any_cases (flat_map constructor_things t.constructors.items) (flat_map type_things ts) h) [
            | inl k ↦ elim (constructors_only p u t.constructors.items k) [
              | inl i ↦ in_ctor (mention_left (ctor_trees u.ctors) (all_ctor_trees us) i)
              | inr i ↦ of_ctor (bears_left (ctor_entries p u u.ctors) (all_ctor_entries p us) i)
            ]
            | inr k ↦ later_types u us (types_only ts k)
          ]

      types_all : (ts : List BlockType) → OfTypes p (map (type_at c) ts) → AnyHas c x (flat_map type_things ts)
      types_all [] (in_type h) = absurd h
      types_all [] (in_ctor h) = absurd h
      types_all [] (of_type h) = absurd h
      types_all [] (of_ctor h) = absurd h
      types_all (t ∷ ts) (in_type (inl h)) = inr (inl h)
      types_all (t ∷ ts) (in_type (inr h)) = inr (inr (any_right (flat_map constructor_things t.constructors.items) (flat_map type_things ts) (types_all ts (in_type h))))
      types_all (t ∷ ts) (of_type (inl h)) = inl h
      types_all (t ∷ ts) (of_type (inr h)) = inr (inr (any_right (flat_map constructor_things t.constructors.items) (flat_map type_things ts) (types_all ts (of_type h))))
      types_all (t ∷ ts) (in_ctor h) =
          let u : PlainType = type_at c t in
          inr (inr (elim (mention_cases (ctor_trees u.ctors) (all_ctor_trees (map (type_at c) ts)) h) [
            | inl k ↦ any_left (flat_map constructor_things t.constructors.items) (flat_map type_things ts) (constructors_all p u t.constructors.items (inl k))
            | inr k ↦ any_right (flat_map constructor_things t.constructors.items) (flat_map type_things ts) (types_all ts (in_ctor k))
          ]))
      types_all (t ∷ ts) (of_ctor h) =
          let u : PlainType = type_at c t in
          inr (inr (elim (bears_cases (ctor_entries p u u.ctors) (all_ctor_entries p (map (type_at c) ts)) h) [
            | inl k ↦ any_left (flat_map constructor_things t.constructors.items) (flat_map type_things ts) (constructors_all p u t.constructors.items (inr k))
            | inr k ↦ any_right (flat_map constructor_things t.constructors.items) (flat_map type_things ts) (types_all ts (of_ctor k))
          ]))

    -- of rules
    module _ (ps : List Name) where
      rules_only : (rs : List RecursorRule) → AnyHas c x (flat_map rule_things rs) → TreesMention x (rule_trees ps (map (rule_at c) rs)) ⊎ HasRuleFor x (map (rule_at c) rs)
      rules_only [] h = absurd h
      rules_only (r ∷ rs) (inl h) = inr (inl h)
      rules_only (r ∷ rs) (inr (inl h)) = inl (inl h)
      rules_only (r ∷ rs) (inr (inr h)) = elim (rules_only rs h) [ inl i ↦ inl (inr i) | inr i ↦ inr (inr i) ]

      rules_all : (rs : List RecursorRule) → TreesMention x (rule_trees ps (map (rule_at c) rs)) ⊎ HasRuleFor x (map (rule_at c) rs) → AnyHas c x (flat_map rule_things rs)
      rules_all [] (inl h) = absurd h
      rules_all [] (inr h) = absurd h
      rules_all (r ∷ rs) (inl (inl h)) = inr (inl h)
      rules_all (r ∷ rs) (inl (inr h)) = inr (inr (rules_all rs (inl h)))
      rules_all (r ∷ rs) (inr (inl h)) = inl h
      rules_all (r ∷ rs) (inr (inr h)) = inr (inr (rules_all rs (inr h)))

    -- of recursors
    data OfRecursors (rs : List BlockRecursor) : Type 0 where
      in_recursor : TreesMention x (rec_trees rs) → OfRecursors rs
      of_recursor : Bears x (rec_members rs) → OfRecursors rs
      of_rule : HaveRuleFor x rs → OfRecursors rs

    later_recursors : (r : BlockRecursor) (rs : List BlockRecursor) → OfRecursors rs → OfRecursors (r ∷ rs)
    later_recursors r rs (in_recursor h) = in_recursor (inr (mention_right (rule_trees r.levels r.recursor.rules) (rec_trees rs) h))
    later_recursors r rs (of_recursor h) = of_recursor (inr h)
    later_recursors r rs (of_rule h) = of_rule (inr h)

    recursors_only : (rs : List Recursor) → AnyHas c x (flat_map recursor_things rs) → OfRecursors (map (recursor_at c) rs)
    recursors_only [] h = absurd h
    recursors_only (r ∷ rs) (inl h) = of_recursor (inl h)
    recursors_only (r ∷ rs) (inr (inl h)) = in_recursor (inl h)
    recursors_only (r ∷ rs) (inr (inr h)) =
        let q : BlockRecursor = recursor_at c r in
        elim (any_cases (flat_map rule_things r.rules.items) (flat_map recursor_things rs) h) [
          | inl k ↦ elim (rules_only q.levels r.rules.items k) [
            | inl i ↦ in_recursor (inr (mention_left (rule_trees q.levels q.recursor.rules) (rec_trees (map (recursor_at c) rs)) i))
            | inr i ↦ of_rule (inl i)
          ]
          | inr k ↦ later_recursors q (map (recursor_at c) rs) (recursors_only rs k)
        ]

    recursors_all : (rs : List Recursor) → OfRecursors (map (recursor_at c) rs) → AnyHas c x (flat_map recursor_things rs)
    recursors_all [] (in_recursor h) = absurd h
    recursors_all [] (of_recursor h) = absurd h
    recursors_all [] (of_rule h) = absurd h
    recursors_all (r ∷ rs) (in_recursor (inl h)) = inr (inl h)
    recursors_all (r ∷ rs) (in_recursor (inr h)) =
        let q : BlockRecursor = recursor_at c r in
        inr (inr (elim (mention_cases (rule_trees q.levels q.recursor.rules) (rec_trees (map (recursor_at c) rs)) h) [
          | inl k ↦ any_left (flat_map rule_things r.rules.items) (flat_map recursor_things rs) (rules_all q.levels r.rules.items (inl k))
          | inr k ↦ any_right (flat_map rule_things r.rules.items) (flat_map recursor_things rs) (recursors_all rs (in_recursor k))
        ]))
    recursors_all (r ∷ rs) (of_recursor (inl h)) = inl h
    recursors_all (r ∷ rs) (of_recursor (inr h)) = inr (inr (any_right (flat_map rule_things r.rules.items) (flat_map recursor_things rs) (recursors_all rs (of_recursor h))))
    recursors_all (r ∷ rs) (of_rule (inl h)) = inr (inr (any_left (flat_map rule_things r.rules.items) (flat_map recursor_things rs) (rules_all (map (name_at c) r.levels.items) r.rules.items (inr h))))
    recursors_all (r ∷ rs) (of_rule (inr h)) = inr (inr (any_right (flat_map rule_things r.rules.items) (flat_map recursor_things rs) (recursors_all rs (of_rule h))))

    -- of names
    pub names_only : (ns : List ℕ) → AnyHas c x (map a_name ns) → (m : ℕ) × Contains ns m × (name_at c m ≡ x)
    names_only [] h = absurd h
    names_only (n ∷ ns) (inl h) = (n, contains_first n ns, h)
    names_only (n ∷ ns) (inr h) = let t = names_only ns h in (t.0, contains_later n ns t.0 t.1, t.2)

    pub names_all : (ns : List ℕ) (m : ℕ) → Contains ns m → name_at c m ≡ x → AnyHas c x (map a_name ns)
    names_all [] m h e = absurd (contains_none m h)
    names_all (n ∷ ns) m h e = elim (contains_cases n ns m h) [ inl i ↦ inl (ap (name_at c) i ∙ e) | inr k ↦ inr (names_all ns m k e) ]

-- The recursors that a block may give.
module _ (c : Contents) (plain : List (List ℕ)) (f : AreFollowers c ending.Plain plain) where
  own_naming : (ts : List BlockType) → AreNaming c (flat_map (own_things plain) ts)
  own_naming [] = tt
  own_naming (t ∷ ts) =
      naming_append c (own_things plain t) (flat_map (own_things plain) ts)
      (names_naming c (followers_at plain t.name) (λ m k. (f.only t.name m k).0)) (own_naming ts)

  own_only : (x : Name) (ts : List BlockType) → AnyHas c x (flat_map (own_things plain) ts) → IsRecOf x (map (type_at c) ts)
  own_only x [] h = absurd h
  own_only x (t ∷ ts) h = elim (any_cases c x (own_things plain t) (flat_map (own_things plain) ts) h) [
    | inl k ↦ let m = names_only c x (followers_at plain t.name) k in inl ((f.only t.name m.0 m.1).1 ∙ m.2)
    | inr k ↦ inr (own_only x ts k)
  ]

  own_all : (x : Name) (ts : List BlockType) → All (IsTypeIn c) ts → IsStored c x → IsRecOf x (map (type_at c) ts) → AnyHas c x (flat_map (own_things plain) ts)
  own_all x [] a s h = absurd h
  own_all x (t ∷ ts) a s (inl h) =
      let first : IsTypeIn c t = All-head (IsTypeIn c) t ts a in
      any_left c x (own_things plain t) (flat_map (own_things plain) ts)
      (names_all c x (followers_at plain t.name) s.0 (f.all t.name s.0 s.1.known first.stated.name_in (h ∙ sym s.1.is)) s.1.is)
  own_all x (t ∷ ts) a s (inr h) = any_right c x (own_things plain t) (flat_map (own_things plain) ts) (own_all x ts (All-tail (IsTypeIn c) t ts a) s h)

module _ (c : Contents) (ts : List BlockType) where
  abbrev pub IsOfFirst : Name → Type 0
  IsOfFirst x = (k : ℕ) × (rec_numbered (first_name (map (type_at c) ts)) (suc k) ≡ x)

  numbered_only : (x : Name) (o : Option ℕ) → IsFirst c ts o → AnyHas c x (numbered_things o) → IsOfFirst x
  numbered_only x None h a = absurd a
  numbered_only x (Some p) h (inl a) = (a.0, ap (λ n. rec_numbered n (suc a.0)) (sym h.is) ∙ a.1)
  numbered_only x (Some p) h (inr a) = absurd a

  numbered_all : (ls : List (List ℕ)) → AreFollowers c ending.Numbered ls → (x : Name) (o : Option ℕ) → IsFirst c ts o → IsStored c x → IsOfFirst x → AnyHas c x (numbered_things o)
  numbered_all ls g x None h s a =
      let p = g.before (first_name (map (type_at c) ts)) s.0 s.1.known (a.0, a.1 ∙ sym s.1.is) in
      absurd (h p.0 p.1.known p.1.is)
  numbered_all ls g x (Some p) h s a = inl (a.0, ap (λ n. rec_numbered n (suc a.0)) h.is ∙ a.1)

-- All names of a unit.
module _ (c : Contents) (plain ls : List (List ℕ)) (f : AreFollowers c ending.Plain plain) (g : AreFollowers c ending.Numbered ls) where
  unit_naming : (u : StoredUnit) (o : Option ℕ) → IsUnitIn c u → IsFirstOf c u o → AreNaming c (unit_things plain o u)
  unit_naming (unit.Declaration d) o h i = (h.0.name_in, (h.0.ty_in, body_naming c d.body h.1))
  unit_naming (unit.Block b) o h i =
      let ts = b.types.items in
      let rs = b.recursors.value.items in
      naming_append c (flat_map type_things ts) (flat_map recursor_things rs ++ (flat_map (own_things plain) ts ++ numbered_things o)) (types_naming c ts h.0)
      (naming_append c (flat_map recursor_things rs) (flat_map (own_things plain) ts ++ numbered_things o) (recursors_naming c rs h.1)
      (naming_append c (flat_map (own_things plain) ts) (numbered_things o) (own_naming c plain f ts) (numbered_naming c ts o i)))

  unit_only : (u : StoredUnit) (o : Option ℕ) → IsFirstOf c u o → (x : Name) → AnyHas c x (unit_things plain o u) → Uses x (unit_at c u)
  unit_only (unit.Declaration d) o i x (inl h) = inr (inl (inl h))
  unit_only (unit.Declaration d) o i x (inr (inl h)) = inl (inl h)
  unit_only (unit.Declaration d) o i x (inr (inr h)) = inl (inr (body_only c x (map (name_at c) (declared_levels d)) d.body h))
  unit_only (unit.Block b) o i x h =
      elim (any_cases c x (flat_map type_things ts) (flat_map recursor_things rs ++ (flat_map (own_things plain) ts ++ numbered_things o)) h) [
        | inl k ↦ of_types (types_only c x p ts k)
        | inr k ↦ elim (any_cases c x (flat_map recursor_things rs) (flat_map (own_things plain) ts ++ numbered_things o) k) [
          | inl m ↦ of_recursors (recursors_only c x rs m)
          | inr m ↦ elim (any_cases c x (flat_map (own_things plain) ts) (numbered_things o) m) [
            | inl q ↦ inr (inr (inr (inl (own_only c plain f x ts q))))
            | inr q ↦ inr (inr (inr (inr (numbered_only c ts x o i q))))
          ]
        ]
      ]
    where
      ts : List BlockType
      ts = b.types.items

      rs : List Recursor
      rs = b.recursors.value.items

      p : PlainBlock
      p = block_at c b

      us : List PlainType
      us = map (type_at c) ts

      qs : List BlockRecursor
      qs = map (recursor_at c) rs

      of_types : OfTypes c x p us → Uses x (unit_at c (unit.Block b))
      of_types (in_type k) = inl (mention_left c x (type_trees us) (all_ctor_trees us ++ rec_trees qs) k)
      of_types (in_ctor k) = inl (mention_right c x (type_trees us) (all_ctor_trees us ++ rec_trees qs) (mention_left c x (all_ctor_trees us) (rec_trees qs) k))
      of_types (of_type k) = inr (inl (bears_left c x (type_entries p us) (all_ctor_entries p us ++ rec_members qs) k))
      of_types (of_ctor k) = inr (inl (bears_right c x (type_entries p us) (all_ctor_entries p us ++ rec_members qs) (bears_left c x (all_ctor_entries p us) (rec_members qs) k)))

      of_recursors : OfRecursors c x qs → Uses x (unit_at c (unit.Block b))
      of_recursors (in_recursor k) = inl (mention_right c x (type_trees us) (all_ctor_trees us ++ rec_trees qs) (mention_right c x (all_ctor_trees us) (rec_trees qs) k))
      of_recursors (of_recursor k) = inr (inl (bears_right c x (type_entries p us) (all_ctor_entries p us ++ rec_members qs) (bears_right c x (all_ctor_entries p us) (rec_members qs) k)))
      of_recursors (of_rule k) = inr (inr (inl k))

  unit_all : (u : StoredUnit) (o : Option ℕ) → IsUnitIn c u → IsFirstOf c u o → (x : Name) → IsStored c x → Uses x (unit_at c u) → AnyHas c x (unit_things plain o u)
  unit_all (unit.Declaration d) o h i x s (inl (inl k)) = inr (inl k)
  unit_all (unit.Declaration d) o h i x s (inl (inr k)) = inr (inr (body_all c x (map (name_at c) (declared_levels d)) d.body k))
  unit_all (unit.Declaration d) o h i x s (inr (inl (inl k))) = inl k
  unit_all (unit.Declaration d) o h i x s (inr (inl (inr k))) = absurd k
  unit_all (unit.Declaration d) o h i x s (inr (inr k)) = absurd k
  unit_all (unit.Block b) o h i x s k = go k
    where
      ts : List BlockType
      ts = b.types.items

      rs : List Recursor
      rs = b.recursors.value.items

      p : PlainBlock
      p = block_at c b

      us : List PlainType
      us = map (type_at c) ts

      qs : List BlockRecursor
      qs = map (recursor_at c) rs

      rest : List Thing
      rest = flat_map (own_things plain) ts ++ numbered_things o

      by_types : OfTypes c x p us → AnyHas c x (unit_things plain o (unit.Block b))
      by_types t = any_left c x (flat_map type_things ts) (flat_map recursor_things rs ++ rest) (types_all c x p ts t)

      by_recursors : OfRecursors c x qs → AnyHas c x (unit_things plain o (unit.Block b))
      by_recursors t = any_right c x (flat_map type_things ts) (flat_map recursor_things rs ++ rest) (any_left c x (flat_map recursor_things rs) rest (recursors_all c x rs t))

      by_rest : AnyHas c x rest → AnyHas c x (unit_things plain o (unit.Block b))
      by_rest t = any_right c x (flat_map type_things ts) (flat_map recursor_things rs ++ rest) (any_right c x (flat_map recursor_things rs) rest t)

      go : Uses x (unit_at c (unit.Block b)) → AnyHas c x (unit_things plain o (unit.Block b))
      go (inl t) = elim (mention_cases c x (type_trees us) (all_ctor_trees us ++ rec_trees qs) t) [
        | inl m ↦ by_types (in_type m)
        | inr m ↦ elim (mention_cases c x (all_ctor_trees us) (rec_trees qs) m) [ inl q ↦ by_types (in_ctor q) | inr q ↦ by_recursors (in_recursor q) ]
      ]
      go (inr (inl t)) = elim (bears_cases c x (type_entries p us) (all_ctor_entries p us ++ rec_members qs) t) [
        | inl m ↦ by_types (of_type m)
        | inr m ↦ elim (bears_cases c x (all_ctor_entries p us) (rec_members qs) m) [ inl q ↦ by_types (of_ctor q) | inr q ↦ by_recursors (of_recursor q) ]
      ]
      go (inr (inr (inl t))) = by_recursors (of_rule t)
      go (inr (inr (inr (inl t)))) = by_rest (any_left c x (flat_map (own_things plain) ts) (numbered_things o) (own_all c plain f x ts h.0 s t))
      go (inr (inr (inr (inr t)))) = by_rest (any_right c x (flat_map (own_things plain) ts) (numbered_things o) (numbered_all c ts ls g x o i s t))

  pub unit_named : (u : StoredUnit) (o : Option ℕ) → IsUnitIn c u → IsFirstOf c u o → AreNamed c (λ x. Uses x (unit_at c u)) (unit_things plain o u)
  unit_named u o h i = record { naming = unit_naming u o h i; only = unit_only u o i; all = unit_all u o h i }
