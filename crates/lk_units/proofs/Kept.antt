-- The names that items of a file make hold no line feed, and so do those of what it states.
use Rattle.std.proofs.Common.{◌≡◌, ℕ, ◌+◌, ◌==◌, Bool, true, false, List, [], ◌∷◌, ◌++◌, Some, None, nat_lt, refl}
use Rattle.std.specs.Prelude.{◌&&◌, IfSome, IfOk, is_some, if◌then◌else◌, ◌^◌, ◌-◌, Result, Ok, Err}
use Rattle.std.specs.declared.option.Option.{Option}
use Rattle.lk_tree.specs.Tree.{Name, text, number, Level, max_level, imax_level, Tree, var, sort, const, app, lam, pi, let_in, proj, str}
use Rattle.lk_tree.proofs.Scans.{both_true, and_true}
use Rattle.lk_tree.specs.Mentions.{same_name}
use Rattle.lk_rulebook.specs.Place.{Ctor, RecRule, BlockRecursor}
use Rattle.lk_rulebook.specs.Units.{Body, as_axiom, as_def, as_thm, as_opaque, as_quot}
use Rattle.lk_rulebook.specs.Spelled.{no_lf, is_spelled, tree_spelled}
use Rattle.lk_members.specs.declared.fault.MemberFault.{MemberFault}
use Rattle.lk_members.specs.Lines.{alone, a_type, a_ctor, a_recursor}
use Rattle.lk_members.specs.Faults.{fault_of}
use Rattle.lk_members.specs.Plain.{Head, PlainMember, PlainLine}
use Rattle.lk_num.specs.declared.numeral.Nat.{Nat}
use Rattle.lk_num.specs.declared.numeral.Nat.TheVariants as nats
use Rattle.lk_lines.specs.declared.words.Word.{Word}
use Rattle.lk_lines.specs.declared.words.Word.TheVariants.{IndexTaken, TooManyItems}
use Rattle.lk_lines.specs.declared.tags.EntryTag.{EntryTag}
use Rattle.lk_lines.specs.declared.tags.EntryTag.TheVariants as entry
use Rattle.lk_lines.specs.declared.tags.DeclarationTag.{DeclarationTag}
use Rattle.lk_lines.specs.declared.tags.DeclarationTag.TheVariants as decl
use Rattle.lk_lines.specs.declared.tags.Tag.{Tag}
use Rattle.lk_lines.specs.declared.tags.Tag.TheVariants.{Entry, Declaration, Budget, Go, Trace, Section, Parts, Local, Derivation}
use Rattle.lk_lines.specs.Reading.{◌>>=◌}
use Rattle.lk_lines.specs.Items.{Item}
use Rattle.lk_lines.specs.Values.{Value}
use Rattle.lk_lines.specs.Values as value
use Rattle.lk_units.proofs.Spellings.{Each, each_append, AreSpelledValues, IsSpelledItem, IsSpelledName, IsSpelledTree, IsSpelledBody, IsSpelledRule, IsSpelledMember, AreSpelledLines, AreSpelledParts}
use Rattle.lk_units.specs.State.{State, Counts, begin, known, known_of, all_known, fresh, put, with_name, with_level, with_tree, with_rule, longer_name, successor_level, pair_level, parameter_level, sort_tree, constant_tree, application_tree, binder_tree, let_tree, projection_tree, number_literal, rule_of, type_said, ctor_said, recursor_said, declaration_of, hint_said, value_body, valued_of, entry_added, declaration_said, counted, unless_fault, with_line, declared, with_budget, next_part, added, take_item}

pub record IsSpelledState (s : State) : Type 0 where
  pub names : (n : ℕ) → IfSome (s.names n) IsSpelledName
  pub trees : (n : ℕ) → IfSome (s.trees n) IsSpelledTree
  pub rules : (n : ℕ) → IfSome (s.rules n) IsSpelledRule
  pub parts : AreSpelledParts s.parts
  pub lines : AreSpelledLines s.lines

put_if : {X : Type 0} (P : X → Type 0) (b : Bool) (x : X) (o : Option X) → P x → IfSome o P → IfSome (if b then Some x else o) P
put_if P true x o p h = p
put_if P false x o p h = h

-- what follows something that has P
if_then : {X Y : Type 0} (P : X → Type 0) (Q : Y → Type 0) (r : Result X Word) (f : X → Result Y Word) → IfOk r P → ((x : X) → P x → IfOk (f x) Q) → IfOk (r >>= f) Q
if_then P Q (Ok x) f h g = g x h
if_then P Q (Err w) f h g = tt

if_known : {X : Type 0} (P : X → Type 0) (mean : ℕ → Option X) (n : ℕ) → IfSome (mean n) P → IfOk (known mean n) P
if_known {X} P mean n h = go (mean n) h
  where
    go : (o : Option X) → IfSome o P → IfOk (known_of o) P
    go (Some x) h = h
    go None h = tt

if_fresh : {X : Type 0} (P : X → Type 0) (b : Bool) (r : Result X Word) → IfOk r P → IfOk (if b then Err IndexTaken else r) P
if_fresh P true r h = tt
if_fresh P false r h = h

kept_name : (s : State) (own : ℕ) (said : Result Name Word) → IsSpelledState s → IfOk said IsSpelledName → IfOk (with_name s own said) IsSpelledState
kept_name s own said k h = if_then IsSpelledName IsSpelledState (fresh s.names own said) (λ x. Ok (record s { names = put s.names own x })) (if_fresh IsSpelledName (is_some (s.names own)) said h) (λ x p. record { names = λ q. put_if IsSpelledName (q == own) x (s.names q) p (k.names q); trees = k.trees; rules = k.rules; parts = k.parts; lines = k.lines })

-- no level counts: parameters are names of no constant
kept_level : (s : State) (own : ℕ) (said : Result Level Word) → IsSpelledState s → IfOk (with_level s own said) IsSpelledState
kept_level s own said k = go (fresh s.levels own said)
  where
    go : (r : Result Level Word) → IfOk (r >>= λ x. Ok (record s { levels = put s.levels own x })) IsSpelledState
    go (Ok x) = record { names = k.names; trees = k.trees; rules = k.rules; parts = k.parts; lines = k.lines }
    go (Err w) = tt

kept_tree : (s : State) (own : ℕ) (said : Result Tree Word) → IsSpelledState s → IfOk said IsSpelledTree → IfOk (with_tree s own said) IsSpelledState
kept_tree s own said k h = if_then IsSpelledTree IsSpelledState (fresh s.trees own said) (λ x. Ok (record s { trees = put s.trees own x })) (if_fresh IsSpelledTree (is_some (s.trees own)) said h) (λ x p. record { names = k.names; trees = λ q. put_if IsSpelledTree (q == own) x (s.trees q) p (k.trees q); rules = k.rules; parts = k.parts; lines = k.lines })

kept_rule : (s : State) (own : ℕ) (said : Result RecRule Word) → IsSpelledState s → IfOk said IsSpelledRule → IfOk (with_rule s own said) IsSpelledState
kept_rule s own said k h = if_then IsSpelledRule IsSpelledState (fresh s.rules own said) (λ x. Ok (record s { rules = put s.rules own x })) (if_fresh IsSpelledRule (is_some (s.rules own)) said h) (λ x p. record { names = k.names; trees = k.trees; rules = λ q. put_if IsSpelledRule (q == own) x (s.rules q) p (k.rules q); parts = k.parts; lines = k.lines })

each_push : {X : Type 0} (P : X → Type 0) (xs : List X) (x : X) → Each P xs → P x → Each P (xs ++ x ∷ [])
each_push P xs x h p = each_append P xs (x ∷ []) h (p, tt)

text_push : (n : Name) (bytes : List ℕ) → no_lf bytes ≡ true → IsSpelledName n → IsSpelledName (n ++ text bytes ∷ [])
text_push [] bytes p h = and_true (no_lf bytes) true p refl
text_push (text b ∷ parts) bytes p h = let both = both_true (no_lf b) (is_spelled parts) h in and_true (no_lf b) (is_spelled (parts ++ text bytes ∷ [])) both.0 (text_push parts bytes p both.1)
text_push (number n ∷ parts) bytes p h = text_push parts bytes p h

number_push : (n : Name) (i : ℕ) → IsSpelledName n → IsSpelledName (n ++ number i ∷ [])
number_push [] i h = refl
number_push (text b ∷ parts) i h = let both = both_true (no_lf b) (is_spelled parts) h in and_true (no_lf b) (is_spelled (parts ++ number i ∷ [])) both.0 (number_push parts i both.1)
number_push (number n ∷ parts) i h = number_push parts i h

-- what several numbers stand for
if_all_known : {X : Type 0} (P : X → Type 0) (mean : ℕ → Option X) (ns : List ℕ) → ((n : ℕ) → IfSome (mean n) P) → IfOk (all_known mean ns) (Each P)
if_all_known P mean [] h = tt
if_all_known P mean (n ∷ ns) h = if_then P (Each P) (known mean n) (λ x. (all_known mean ns >>= λ xs. Ok (x ∷ xs))) (if_known P mean n (h n))
    (λ x px. if_then (Each P) (Each P) (all_known mean ns) (λ xs. Ok (x ∷ xs)) (if_all_known P mean ns h) (λ xs pxs. (px, pxs)))

-- what follows something, whatever it is
for_any : {X Y : Type 0} (Q : Y → Type 0) (r : Result X Word) (f : X → Result Y Word) → ((x : X) → IfOk (f x) Q) → IfOk (r >>= f) Q
for_any Q (Ok x) f h = h x
for_any Q (Err w) f h = tt

kept_constant : (s : State) (n : ℕ) (ls : List ℕ) → IsSpelledState s → IfOk (constant_tree s n ls) IsSpelledTree
kept_constant s n ls k =
    if_then IsSpelledName IsSpelledTree (known s.names n) (λ name. (all_known s.levels ls >>= λ levels. Ok (const name levels))) (if_known IsSpelledName s.names n (k.names n))
    (λ name p. for_any IsSpelledTree (all_known s.levels ls) (λ levels. Ok (const name levels)) (λ levels. p))

kept_sort : (s : State) (u : ℕ) → IfOk (sort_tree s u) IsSpelledTree
kept_sort s u = for_any IsSpelledTree (known s.levels u) (λ l. Ok (sort l)) (λ l. refl)

kept_application : (s : State) (f a : ℕ) → IsSpelledState s → IfOk (application_tree s f a) IsSpelledTree
kept_application s f a k =
    if_then IsSpelledTree IsSpelledTree (known s.trees f) (λ x. (known s.trees a >>= λ y. Ok (app x y))) (if_known IsSpelledTree s.trees f (k.trees f))
    (λ x px. if_then IsSpelledTree IsSpelledTree (known s.trees a) (λ y. Ok (app x y)) (if_known IsSpelledTree s.trees a (k.trees a)) (λ y py. and_true (tree_spelled x) (tree_spelled y) px py))

kept_binder : (f : Tree → Tree → Tree) → ((a b : Tree) → IsSpelledTree a → IsSpelledTree b → IsSpelledTree (f a b)) → (s : State) (n a b : ℕ) → IsSpelledState s → IfOk (binder_tree s f n a b) IsSpelledTree
kept_binder f g s n a b k =
    for_any IsSpelledTree (known s.names n) (λ name. (known s.trees a >>= λ x. (known s.trees b >>= λ y. Ok (f x y))))
    (λ name. if_then IsSpelledTree IsSpelledTree (known s.trees a) (λ x. (known s.trees b >>= λ y. Ok (f x y))) (if_known IsSpelledTree s.trees a (k.trees a))
    (λ x px. if_then IsSpelledTree IsSpelledTree (known s.trees b) (λ y. Ok (f x y)) (if_known IsSpelledTree s.trees b (k.trees b)) (λ y py. g x y px py)))

kept_let : (s : State) (n a v b : ℕ) → IsSpelledState s → IfOk (let_tree s n a v b) IsSpelledTree
kept_let s n a v b k =
    for_any IsSpelledTree (known s.names n) (λ name. (known s.trees a >>= λ x. (known s.trees v >>= λ y. (known s.trees b >>= λ z. Ok (let_in x y z)))))
    (λ name. if_then IsSpelledTree IsSpelledTree (known s.trees a) (λ x. (known s.trees v >>= λ y. (known s.trees b >>= λ z. Ok (let_in x y z)))) (if_known IsSpelledTree s.trees a (k.trees a))
    (λ x px. if_then IsSpelledTree IsSpelledTree (known s.trees v) (λ y. (known s.trees b >>= λ z. Ok (let_in x y z))) (if_known IsSpelledTree s.trees v (k.trees v))
    (λ y py. if_then IsSpelledTree IsSpelledTree (known s.trees b) (λ z. Ok (let_in x y z)) (if_known IsSpelledTree s.trees b (k.trees b))
    (λ z pz. and_true (tree_spelled x) (tree_spelled y && tree_spelled z) px (and_true (tree_spelled y) (tree_spelled z) py pz)))))

kept_projection : (s : State) (n i e : ℕ) → IsSpelledState s → IfOk (projection_tree s n i e) IsSpelledTree
kept_projection s n i e k =
    for_any IsSpelledTree (known s.names n) (λ name. (known s.trees e >>= λ x. Ok (proj name i x)))
    (λ name. if_then IsSpelledTree IsSpelledTree (known s.trees e) (λ x. Ok (proj name i x)) (if_known IsSpelledTree s.trees e (k.trees e)) (λ x px. px))

kept_number : (n : Nat) → IsSpelledTree (number_literal n)
kept_number (nats.Fits n) = refl
kept_number nats.Wide = refl

abbrev stated : Name → Tree → Body → List Name → PlainMember
stated n a b ps = alone (record { name = n; levels = ps; type = a; body = b })

kept_stated : (s : State) (n a : ℕ) (said : Result Body Word) (ps : List ℕ) → IsSpelledState s → IfOk said IsSpelledBody → IfOk (declaration_of s n a said ps) IsSpelledMember
kept_stated s n a said ps k h =
    if_then IsSpelledName IsSpelledMember (known s.names n) (λ name. (known s.trees a >>= λ type. (said >>= λ body. (all_known s.names ps >>= λ levels. Ok (stated name type body levels))))) (if_known IsSpelledName s.names n (k.names n))
    (λ name pn. if_then IsSpelledTree IsSpelledMember (known s.trees a) (λ type. (said >>= λ body. (all_known s.names ps >>= λ levels. Ok (stated name type body levels)))) (if_known IsSpelledTree s.trees a (k.trees a))
    (λ type pt. if_then IsSpelledBody IsSpelledMember said (λ body. (all_known s.names ps >>= λ levels. Ok (stated name type body levels))) h
    (λ body pb. for_any IsSpelledMember (all_known s.names ps) (λ levels. Ok (stated name type body levels)) (λ levels. (pn, pt, pb)))))

kept_rule_of : (s : State) (n fields v : ℕ) → IsSpelledState s → IfOk (rule_of s n fields v) IsSpelledRule
kept_rule_of s n fields v k =
    for_any IsSpelledRule (known s.names n) (λ name. (known s.trees v >>= λ value. Ok (record { ctor = name; fields = fields; value = value })))
    (λ name. if_then IsSpelledTree IsSpelledRule (known s.trees v) (λ value. Ok (record { ctor = name; fields = fields; value = value })) (if_known IsSpelledTree s.trees v (k.trees v)) (λ value pv. pv))

abbrev head_stated : Name → Tree → ℕ → ℕ → List Name → Head
head_stated n a p i ls = record { name = n; levels = ls; type = a; parameters = p; indices = i }

kept_type : (s : State) (n a p i : ℕ) (ts cs ps : List ℕ) → IsSpelledState s → IfOk (type_said s n a p i ts cs ps) IsSpelledMember
kept_type s n a p i ts cs ps k =
    if_then IsSpelledName IsSpelledMember (known s.names n) (λ name. (known s.trees a >>= λ type. (all_known s.names ts >>= λ types. (all_known s.names cs >>= λ ctors. (all_known s.names ps >>= λ levels. Ok (a_type name types ctors (head_stated name type p i levels)))))))
    (if_known IsSpelledName s.names n (k.names n))
    (λ name pn. if_then IsSpelledTree IsSpelledMember (known s.trees a) (λ type. (all_known s.names ts >>= λ types. (all_known s.names cs >>= λ ctors. (all_known s.names ps >>= λ levels. Ok (a_type name types ctors (head_stated name type p i levels))))))
    (if_known IsSpelledTree s.trees a (k.trees a))
    (λ type pt. for_any IsSpelledMember (all_known s.names ts) (λ types. (all_known s.names cs >>= λ ctors. (all_known s.names ps >>= λ levels. Ok (a_type name types ctors (head_stated name type p i levels)))))
    (λ types. for_any IsSpelledMember (all_known s.names cs) (λ ctors. (all_known s.names ps >>= λ levels. Ok (a_type name types ctors (head_stated name type p i levels))))
    (λ ctors. for_any IsSpelledMember (all_known s.names ps) (λ levels. Ok (a_type name types ctors (head_stated name type p i levels))) (λ levels. (pn, pt))))))

abbrev ctor_stated : Name → Tree → Name → ℕ → ℕ → ℕ → List Name → Ctor
ctor_stated n a parent i p f ls = record { name = n; levels = ls; type = a; parent = parent; place = i; parameters = p; fields = f }

kept_ctor : (s : State) (n a q i p f : ℕ) (ps : List ℕ) → IsSpelledState s → IfOk (ctor_said s n a q i p f ps) IsSpelledMember
kept_ctor s n a q i p f ps k =
    if_then IsSpelledName IsSpelledMember (known s.names n) (λ name. (known s.trees a >>= λ type. (known s.names q >>= λ parent. (all_known s.names ps >>= λ levels. Ok (a_ctor parent name (ctor_stated name type parent i p f levels))))))
    (if_known IsSpelledName s.names n (k.names n))
    (λ name pn. if_then IsSpelledTree IsSpelledMember (known s.trees a) (λ type. (known s.names q >>= λ parent. (all_known s.names ps >>= λ levels. Ok (a_ctor parent name (ctor_stated name type parent i p f levels))))) (if_known IsSpelledTree s.trees a (k.trees a))
    (λ type pt. for_any IsSpelledMember (known s.names q) (λ parent. (all_known s.names ps >>= λ levels. Ok (a_ctor parent name (ctor_stated name type parent i p f levels))))
    (λ parent. for_any IsSpelledMember (all_known s.names ps) (λ levels. Ok (a_ctor parent name (ctor_stated name type parent i p f levels))) (λ levels. (pn, pt)))))

abbrev rec_stated : Name → Tree → Counts → List RecRule → List Name → BlockRecursor
rec_stated n a c rs ls = record { name = n; levels = ls; type = a; recursor = record { parameters = c.parameters; indices = c.indices; motives = c.motives; minors = c.minors; k = c.k; rules = rs } }

kept_recursor : (s : State) (n a : ℕ) (ts : List ℕ) (c : Counts) (rs ps : List ℕ) → IsSpelledState s → IfOk (recursor_said s n a ts c rs ps) IsSpelledMember
kept_recursor s n a ts c rs ps k =
    if_then IsSpelledName IsSpelledMember (known s.names n) (λ name. (known s.trees a >>= λ type. (all_known s.names ts >>= λ types. (all_known s.rules rs >>= λ rules. (all_known s.names ps >>= λ levels. Ok (a_recursor types name (rec_stated name type c rules levels)))))))
    (if_known IsSpelledName s.names n (k.names n))
    (λ name pn. if_then IsSpelledTree IsSpelledMember (known s.trees a) (λ type. (all_known s.names ts >>= λ types. (all_known s.rules rs >>= λ rules. (all_known s.names ps >>= λ levels. Ok (a_recursor types name (rec_stated name type c rules levels))))))
    (if_known IsSpelledTree s.trees a (k.trees a))
    (λ type pt. for_any IsSpelledMember (all_known s.names ts) (λ types. (all_known s.rules rs >>= λ rules. (all_known s.names ps >>= λ levels. Ok (a_recursor types name (rec_stated name type c rules levels)))))
    (λ types. if_then (Each IsSpelledRule) IsSpelledMember (all_known s.rules rs) (λ rules. (all_known s.names ps >>= λ levels. Ok (a_recursor types name (rec_stated name type c rules levels)))) (if_all_known IsSpelledRule s.rules rs k.rules)
    (λ rules pr. for_any IsSpelledMember (all_known s.names ps) (λ levels. Ok (a_recursor types name (rec_stated name type c rules levels))) (λ levels. (pn, pt, pr))))))

kept_value : (f : Tree → Body) → ((e : Tree) → IsSpelledTree e → IsSpelledBody (f e)) → (s : State) (v : ℕ) → IsSpelledState s → IfOk (value_body s f v) IsSpelledBody
kept_value f g s v k = if_then IsSpelledTree IsSpelledBody (known s.trees v) (λ value. Ok (f value)) (if_known IsSpelledTree s.trees v (k.trees v)) g

kept_valued : (f : Tree → Body) → ((e : Tree) → IsSpelledTree e → IsSpelledBody (f e)) → (s : State) (n a v : ℕ) (ps : List ℕ) → IsSpelledState s → IfOk (valued_of s f n a v ps) IsSpelledMember
kept_valued f g s n a v ps k = kept_stated s n a (value_body s f v) ps k (kept_value f g s v k)

kept_entry : (s : State) (own : ℕ) (t : EntryTag) (values : List Value) → AreSpelledValues (Entry t) values → IsSpelledState s → IfOk (entry_added s own t values) IsSpelledState
unfolding entry_added
kept_entry s own entry.NameText (value.Number p ∷ value.Bytes bytes ∷ []) i k = kept_name s own (longer_name s p (text bytes)) k (if_then IsSpelledName IsSpelledName (known s.names p) (λ x. Ok (x ++ text bytes ∷ [])) (if_known IsSpelledName s.names p (k.names p)) (λ x px. text_push x bytes i px))
kept_entry s own entry.NameNumber (value.Number p ∷ value.Number n ∷ []) i k = kept_name s own (longer_name s p (number n)) k (if_then IsSpelledName IsSpelledName (known s.names p) (λ x. Ok (x ++ number n ∷ [])) (if_known IsSpelledName s.names p (k.names p)) (λ x px. number_push x n px))
kept_entry s own entry.Successor (value.Number l ∷ []) i k = kept_level s own (successor_level s l) k
kept_entry s own entry.Max (value.Number l ∷ value.Number m ∷ []) i k = kept_level s own (pair_level s (λ x y. max_level x y) l m) k
kept_entry s own entry.Imax (value.Number l ∷ value.Number m ∷ []) i k = kept_level s own (pair_level s (λ x y. imax_level x y) l m) k
kept_entry s own entry.Parameter (value.Number n ∷ []) i k = kept_level s own (parameter_level s n) k
kept_entry s own entry.Variable (value.Number x ∷ []) i k = kept_tree s own (Ok (var x)) k refl
kept_entry s own entry.Sort (value.Number u ∷ []) i k = kept_tree s own (sort_tree s u) k (kept_sort s u)
kept_entry s own entry.Constant (value.Number n ∷ value.Numbers ls ∷ []) i k = kept_tree s own (constant_tree s n ls) k (kept_constant s n ls k)
kept_entry s own entry.Apply (value.Number f ∷ value.Number a ∷ []) i k = kept_tree s own (application_tree s f a) k (kept_application s f a k)
kept_entry s own entry.Lambda (value.OfInfo o ∷ value.Number n ∷ value.Number a ∷ value.Number b ∷ []) i k = kept_tree s own (binder_tree s (λ A e. lam A e) n a b) k (kept_binder (λ A e. lam A e) (λ a b h j. and_true (tree_spelled a) (tree_spelled b) h j) s n a b k)
kept_entry s own entry.Pi (value.OfInfo o ∷ value.Number n ∷ value.Number a ∷ value.Number b ∷ []) i k = kept_tree s own (binder_tree s (λ A e. pi A e) n a b) k (kept_binder (λ A e. pi A e) (λ a b h j. and_true (tree_spelled a) (tree_spelled b) h j) s n a b k)
kept_entry s own entry.Let (value.Number n ∷ value.Number a ∷ value.Number v ∷ value.Number b ∷ []) i k = kept_tree s own (let_tree s n a v b) k (kept_let s n a v b k)
kept_entry s own entry.Project (value.Number n ∷ value.Number f ∷ value.Number e ∷ []) i k = kept_tree s own (projection_tree s n f e) k (kept_projection s n f e k)
kept_entry s own entry.NatLiteral (value.Literal n ∷ []) i k = kept_tree s own (Ok (number_literal n)) k (kept_number n)
kept_entry s own entry.TextLiteral (value.Bytes bytes ∷ []) i k = kept_tree s own (Ok (str bytes)) k refl
kept_entry s own entry.Rule (value.Number n ∷ value.Number f ∷ value.Number v ∷ []) i k = kept_rule s own (rule_of s n f v) k (kept_rule_of s n f v k)
kept_entry s own t values i k = tt

kept_declaration : (s : State) (t : DeclarationTag) (values : List Value) → IsSpelledState s → IfOk (declaration_said s t values) IsSpelledMember
unfolding declaration_said
kept_declaration s decl.Definition (value.Number n ∷ value.Number a ∷ value.Number v ∷ value.OfHint h ∷ value.Numbers ps ∷ []) k = kept_valued (λ e. as_def (hint_said h) e) (λ e p. p) s n a v ps k
kept_declaration s decl.Theorem (value.Number n ∷ value.Number a ∷ value.Number v ∷ value.Numbers ps ∷ []) k = kept_valued (λ e. as_thm e) (λ e p. p) s n a v ps k
kept_declaration s decl.Opaque (value.Number n ∷ value.Number a ∷ value.Number v ∷ value.Numbers ps ∷ []) k = kept_valued (λ e. as_opaque e) (λ e p. p) s n a v ps k
kept_declaration s decl.Axiom (value.Number n ∷ value.Number a ∷ value.Numbers ps ∷ []) k = kept_stated s n a (Ok as_axiom) ps k tt
kept_declaration s decl.Quotient (value.Number n ∷ value.Number a ∷ value.Numbers ps ∷ []) k = kept_stated s n a (Ok as_quot) ps k tt
kept_declaration s decl.Inductive (value.Number n ∷ value.Number a ∷ value.Number u ∷ value.Number v ∷ value.Number p ∷ value.Number i ∷ value.Numbers ts ∷ value.Numbers cs ∷ value.Numbers ps ∷ []) k = kept_type s n a p i ts cs ps k
kept_declaration s decl.Constructor (value.Number n ∷ value.Number a ∷ value.Number q ∷ value.Number i ∷ value.Number p ∷ value.Number f ∷ value.Numbers ps ∷ []) k = kept_ctor s n a q i p f ps k
kept_declaration s decl.Recursor (value.Number n ∷ value.Number a ∷ value.Numbers ts ∷ value.Number p ∷ value.Number i ∷ value.Number m ∷ value.Number o ∷ value.Numbers rs ∷ value.Flag b ∷ value.Numbers ps ∷ []) k = kept_recursor s n a ts _ rs ps k
kept_declaration s t values k = tt

kept_counted : (s : State) → IsSpelledState s → IfOk (counted s) IsSpelledState
kept_counted s k = go (nat_lt s.count (2 ^ 32 - 1))
  where
    go : (b : Bool) → IfOk (if b then Ok (record s { count = s.count + 1 }) else Err TooManyItems) IsSpelledState
    go true = record { names = k.names; trees = k.trees; rules = k.rules; parts = k.parts; lines = k.lines }
    go false = tt

kept_line : (l : ℕ) (s : State) (x : PlainMember) → IsSpelledState s → IsSpelledMember x → IfOk (with_line l s x) IsSpelledState
kept_line l s x k h = go (fault_of same_name s.lines x)
  where
    go : (o : Option MemberFault) → IfOk (unless_fault o (record s { lines = s.lines ++ record { number = l; said = x } ∷ [] })) IsSpelledState
    go None = record { names = k.names; trees = k.trees; rules = k.rules; parts = k.parts; lines = each_push (λ (m : PlainLine). IsSpelledMember m.said) s.lines (record { number = l; said = x }) k.lines h }
    go (Some f) = tt

kept_declared : (l : ℕ) (s : State) (said : Result PlainMember Word) → IsSpelledState s → IfOk said IsSpelledMember → IfOk (declared l s said) IsSpelledState
kept_declared l s said k h =
    if_then IsSpelledMember IsSpelledState said (λ x. (counted s >>= λ t. with_line l t x)) h
    (λ x p. if_then IsSpelledState IsSpelledState (counted s) (λ t. with_line l t x) (kept_counted s k) (λ t kt. kept_line l t x kt p))

kept_budget : (s : State) (n steps : ℕ) → IsSpelledState s → IfOk (with_budget s n steps) IsSpelledState
kept_budget s n steps k = for_any IsSpelledState (known s.names n) (λ name. Ok (record s { budgets = s.budgets ++ record { name = name; steps = steps } ∷ [] })) (λ name. record { names = k.names; trees = k.trees; rules = k.rules; parts = k.parts; lines = k.lines })

-- the parts, and the lines behind them
pub spelled_parts : (s : State) → IsSpelledState s → AreSpelledParts (s.parts ++ s.lines ∷ [])
spelled_parts s k = each_push AreSpelledLines s.parts s.lines k.parts k.lines

kept_part : (s : State) → IsSpelledState s → IsSpelledState (next_part s)
kept_part s k = record { names = k.names; trees = k.trees; rules = k.rules; parts = spelled_parts s k; lines = tt }

kept_added : (l : ℕ) (s : State) (own : Option ℕ) (t : Tag) (values : List Value) → AreSpelledValues t values → IsSpelledState s → IfOk (added l s own t values) IsSpelledState
kept_added l s (Some own) (Entry t) values i k = if_then IsSpelledState IsSpelledState (entry_added s own t values) (λ u. counted u) (kept_entry s own t values i k) (λ u ku. kept_counted u ku)
kept_added l s None (Declaration t) values i k = kept_declared l s (declaration_said s t values) k (kept_declaration s t values k)
kept_added l s None Budget (value.Number n ∷ value.Number steps ∷ []) i k = kept_budget s n steps k
kept_added l s None Budget values i k = tt
kept_added l s None Go [] i k = kept_part s k
kept_added l s None Go (v ∷ values) i k = tt
kept_added l s (Some own) (Declaration t) values i k = tt
kept_added l s (Some own) Budget values i k = tt
kept_added l s (Some own) Go values i k = tt
kept_added l s None (Entry t) values i k = tt
kept_added l s (Some own) Trace values i k = tt
kept_added l s (Some own) Section values i k = tt
kept_added l s (Some own) Parts values i k = tt
kept_added l s (Some own) Local values i k = tt
kept_added l s (Some own) (Derivation f) values i k = tt
kept_added l s None Trace values i k = tt
kept_added l s None Section values i k = tt
kept_added l s None Parts values i k = tt
kept_added l s None Local values i k = tt
kept_added l s None (Derivation f) values i k = tt

pub kept_item : (l : ℕ) (s : State) (item : Item) → IsSpelledItem item → IsSpelledState s → IfOk (take_item l s item) IsSpelledState
unfolding take_item
kept_item l s item i k = kept_added l s item.own item.tag item.values i k

pub kept_begin : IsSpelledState begin
kept_begin = record { names = λ q. put_if IsSpelledName (q == 0) [] None refl tt; trees = λ q. tt; rules = λ q. tt; parts = tt; lines = tt }
