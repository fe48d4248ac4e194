-- Lines as the store grows.
use Rattle.std.proofs.Common.{◌≡◌, ℕ, ◌<◌, List, [], ◌∷◌, map, length, refl, ap, arith}
use Rattle.std.specs.Prelude.{All}
use Rattle.std.proofs.lemmas.List.Elements.{All-weaker, All-head, All-tail}
use Rattle.lk_rulebook.specs.Units.{as_def, as_thm, as_opaque}
use Rattle.lk_store.specs.Contents.{Contents, name_at, tree_at, Extends}
use Rattle.lk_env.specs.Units.{declared_levels, hint_of, body_at, declaration_at, constructor_at, rule_at, recursor_at, IsBodyIn, IsStatedIn, IsConstructorIn, IsRuleIn, IsRecursorIn}
use Rattle.lk_env.specs.declared.unit.Body.{Body}
use Rattle.lk_env.specs.declared.unit.Body.TheVariants.{Axiom, Definition, Theorem, Opaque, Quotient}
use Rattle.lk_env.specs.declared.unit.Declaration.{Declaration}
use Rattle.lk_env.specs.declared.unit.Constructor.{Constructor}
use Rattle.lk_env.specs.declared.unit.RecursorRule.{RecursorRule}
use Rattle.lk_env.specs.declared.unit.Recursor.{Recursor}
use Rattle.lk_members.specs.declared.line.TypeHead.{TypeHead}
use Rattle.lk_members.specs.declared.line.StoredMember.{StoredMember}
use Rattle.lk_members.specs.declared.line.StoredMember.TheVariants as stored
use Rattle.lk_members.specs.declared.line.StoredLine.{StoredLine}
use Rattle.lk_tree.specs.Tree.{Name}
use Rattle.lk_rulebook.specs.Place.{Ctor, BlockRecursor}
use Rattle.lk_members.specs.Lines.{alone, a_type, a_ctor, a_recursor}
use Rattle.lk_members.specs.Stored.{AreNames, IsStoredMemberIn, AreLinesIn}
use Rattle.lk_members.specs.Plain.{Head, PlainMember, head_at, said_at, line_at, lines_at}

-- two functions that agree on each element
map_same : {X Y : Type 0} (P : X → Type 0) (f g : X → Y) → ((x : X) → P x → g x ≡ f x) → (xs : List X) → All P xs → map g xs ≡ map f xs
map_same P f g same [] h = refl
map_same P f g same (x ∷ xs) h =
    let first = same x (All-head P x xs h) in
    let others = map_same P f g same xs (All-tail P x xs h) in
    cc

abbrev type_said : Name → List Name → List Name → Head → PlainMember
type_said n ts cs t = a_type n ts cs t

typed : (n m : Name) (ts us cs ds : List Name) (t u : Head) → n ≡ m → ts ≡ us → cs ≡ ds → t ≡ u → type_said n ts cs t ≡ type_said m us ds u
typed n m ts us cs ds t u a b e f = rw (a, b, e, f) refl

abbrev ctor_said : Name → Name → Ctor → PlainMember
ctor_said p n k = a_ctor p n k

built_of : (p q n m : Name) (k l : Ctor) → p ≡ q → n ≡ m → k ≡ l → ctor_said p n k ≡ ctor_said q m l
built_of p q n m k l a b e = rw (a, b, e) refl

abbrev recursor_said : List Name → Name → BlockRecursor → PlainMember
recursor_said ts n r = a_recursor ts n r

eliminated : (ts us : List Name) (n m : Name) (r s : BlockRecursor) → ts ≡ us → n ≡ m → r ≡ s → recursor_said ts n r ≡ recursor_said us m s
eliminated ts us n m r s a b e = rw (a, b, e) refl

module _ (c d : Contents) (x : Extends c d) where
  tree_same : (e : ℕ) → e < length c.trees → tree_at d e ≡ tree_at c e
  tree_same e h = x.trees.same e h

  names_same : (ns : List ℕ) → All (λ n. n < length c.names) ns → map (name_at d) ns ≡ map (name_at c) ns
  names_same ns h = map_same (λ n. n < length c.names) (name_at c) (name_at d) x.names.same ns h

  body_same : (b : Body) → IsBodyIn c b → body_at d b ≡ body_at c b
  body_same Axiom h = refl
  body_same (Definition hint v) h = ap (as_def (hint_of hint)) (tree_same v h)
  body_same (Theorem v) h = ap as_thm (tree_same v h)
  body_same (Opaque v) h = ap as_opaque (tree_same v h)
  body_same Quotient h = refl

  declaration_same : (t : Declaration) → IsStatedIn c t.name (declared_levels t) t.ty → IsBodyIn c t.body → declaration_at d t ≡ declaration_at c t
  declaration_same t h b = rw (x.names.same t.name h.name_in, names_same (declared_levels t) h.levels_in, tree_same t.ty h.ty_in, body_same t.body b) refl

  constructor_same : (k : Constructor) → IsConstructorIn c k → constructor_at d k ≡ constructor_at c k
  constructor_same k h = rw (x.names.same k.name h.stated.name_in, names_same k.levels.items h.stated.levels_in, tree_same k.ty h.stated.ty_in, x.names.same k.parent h.parent_in) refl

  pub rule_same : (r : RecursorRule) → IsRuleIn c r → rule_at d r ≡ rule_at c r
  rule_same r h = rw (x.names.same r.constructor h.constructor_in, tree_same r.value h.value_in) refl

  recursor_same : (r : Recursor) → IsRecursorIn c r → recursor_at d r ≡ recursor_at c r
  recursor_same r h =
      let rules = map_same (IsRuleIn c) (rule_at c) (rule_at d) rule_same r.rules.items h.rules_in in
      rw (x.names.same r.name h.stated.name_in, names_same r.levels.items h.stated.levels_in, tree_same r.ty h.stated.ty_in, rules) refl

  head_same : (t : TypeHead) → IsStatedIn c t.name t.levels.items t.ty → head_at d t ≡ head_at c t
  head_same t h = rw (x.names.same t.name h.name_in, names_same t.levels.items h.levels_in, tree_same t.ty h.ty_in) refl

  said_same : (s : StoredMember) → IsStoredMemberIn c s → said_at d s ≡ said_at c s
  said_same (stored.Alone t) h = ap alone (declaration_same t h.0 h.1)
  said_same (stored.Type head types) h =
      let t : TypeHead = head.value in
      let name : name_at d t.name ≡ name_at c t.name = x.names.same t.name h.0.name_in in
      let listed : map (name_at d) types.items ≡ map (name_at c) types.items = names_same types.items h.1.0 in
      let ctors : map (name_at d) t.constructors.items ≡ map (name_at c) t.constructors.items = names_same t.constructors.items h.1.1 in
      typed (name_at d t.name) (name_at c t.name) _ _ _ _ (head_at d t) (head_at c t) name listed ctors (head_same t h.0)
  said_same (stored.Constructor kept) h =
      let k : Constructor = kept.value in
      built_of (name_at d k.parent) (name_at c k.parent) _ _ (constructor_at d k) (constructor_at c k) (x.names.same k.parent h.parent_in) (x.names.same k.name h.stated.name_in) (constructor_same k h)
  said_same (stored.Recursor types r) h = eliminated _ _ (name_at d r.value.name) (name_at c r.value.name) (recursor_at d r.value) (recursor_at c r.value) (names_same types.items h.0) (x.names.same r.value.name h.1.stated.name_in) (recursor_same r.value h.1)

  line_same : (l : StoredLine) → IsStoredMemberIn c l.said → line_at d l ≡ line_at c l
  line_same l h = ap (λ s. record { number = l.number; said = s }) (said_same l.said h)

  -- lines that are held stand for the same for good
  pub lines_steady : (ls : List StoredLine) → AreLinesIn c ls → lines_at d ls ≡ lines_at c ls
  lines_steady ls h = map_same (λ (l : StoredLine). IsStoredMemberIn c l.said) (line_at c) (line_at d) line_same ls h

  body_stays : (b : Body) → IsBodyIn c b → IsBodyIn d b
  body_stays Axiom h = tt
  body_stays (Definition hint v) h = let l = x.trees.longer in omega arith
  body_stays (Theorem v) h = let l = x.trees.longer in omega arith
  body_stays (Opaque v) h = let l = x.trees.longer in omega arith
  body_stays Quotient h = tt

  name_stays : (n : ℕ) → n < length c.names → n < length d.names
  name_stays n h = let l = x.names.longer in omega arith

  stated_stays : (name : ℕ) (levels : List ℕ) (ty : ℕ) → IsStatedIn c name levels ty → IsStatedIn d name levels ty
  stated_stays name levels ty h = record {
    name_in = name_stays name h.name_in;
    levels_in = All-weaker (λ n. n < length c.names) (λ n. n < length d.names) name_stays levels h.levels_in;
    ty_in = let k = h.ty_in in let l = x.trees.longer in omega arith;
  }

  constructor_stays : (k : Constructor) → IsConstructorIn c k → IsConstructorIn d k
  constructor_stays k h = record { stated = stated_stays k.name k.levels.items k.ty h.stated; parent_in = name_stays k.parent h.parent_in }

  pub rule_stays : (r : RecursorRule) → IsRuleIn c r → IsRuleIn d r
  rule_stays r h = record { constructor_in = name_stays r.constructor h.constructor_in; value_in = let v = h.value_in in let l = x.trees.longer in omega arith }

  recursor_stays : (r : Recursor) → IsRecursorIn c r → IsRecursorIn d r
  recursor_stays r h = record {
    stated = stated_stays r.name r.levels.items r.ty h.stated;
    rules_in = All-weaker (IsRuleIn c) (IsRuleIn d) rule_stays r.rules.items h.rules_in;
  }

  names_stay : (ns : List ℕ) → AreNames c ns → AreNames d ns
  names_stay ns h = All-weaker (λ n. n < length c.names) (λ n. n < length d.names) name_stays ns h

  said_stays : (s : StoredMember) → IsStoredMemberIn c s → IsStoredMemberIn d s
  said_stays (stored.Alone t) h = (stated_stays t.name (declared_levels t) t.ty h.0, body_stays t.body h.1)
  said_stays (stored.Type t types) h = (stated_stays t.value.name t.value.levels.items t.value.ty h.0, (names_stay types.items h.1.0, names_stay t.value.constructors.items h.1.1))
  said_stays (stored.Constructor k) h = constructor_stays k.value h
  said_stays (stored.Recursor types r) h = (names_stay types.items h.0, recursor_stays r.value h.1)

  pub lines_stay : (ls : List StoredLine) → AreLinesIn c ls → AreLinesIn d ls
  lines_stay ls h = All-weaker (λ (l : StoredLine). IsStoredMemberIn c l.said) (λ (l : StoredLine). IsStoredMemberIn d l.said) (λ l. said_stays l.said) ls h
