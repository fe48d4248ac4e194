-- Nested occurrences: the walk that builds the larger block.
use Rattle.std.specs.Prelude.{ℕ, zero, suc, ◌+◌, Bool, true, false, ◌&&◌, ◌||◌, not, nat_eq, nat_le, List, [], ◌∷◌, ◌++◌, length, map, Option, Some, None, if◌then◌else◌}
use Rattle.lk_tree.specs.Tree.{Name, Level, param, Tree, var, const, app, lam, pi, let_in, proj, local}
use Rattle.lk_tree.specs.LevelTest.{level_test}
use Rattle.lk_tree.specs.Bind.{opened, close}
use Rattle.lk_tree.specs.Levels.{put_levels}
use Rattle.lk_tree.specs.Spine.{apply, head, args}
use Rattle.lk_tree.specs.declared.rule.Rule.TheVariants.{UnknownConstant, LevelCount, BlockShape, NestedForm}
use Rattle.lk_rulebook.specs.Place.{Kind, Block, BlockType, Ctor, a_type}
use Rattle.lk_tree.specs.Mentions.{same_name, is_one_of}
use Rattle.lk_questions.specs.Program.{Program, done, refuse, look, ◌>>=◌}
use Rattle.lk_questions.specs.Steps.{given, is_same_tree}
use Rattle.lk_questions.specs.Levels.{tested}
use Rattle.lk_questions.specs.Declarations.{Yes, checked}
use Rattle.lk_inductive.specs.BlockSteps.{mention_none, is_among, as_level}
use Rattle.lk_inductive.specs.Recursors.{number, pis}
pub use Rattle.lk_inductive.specs.Enlarged.{Aux, Setting, aux_name, aux_ctor, aux_from, Larger, larger_block, bare, bare_entries}

-- a variable that n binders leave loose
abbrev pub is_loose : ℕ → Tree → Bool
is_loose n (var i) = nat_le n i
is_loose n (app f a) = is_loose n f || is_loose n a
is_loose n (lam A b) = is_loose n A || is_loose (suc n) b
is_loose n (pi A B) = is_loose n A || is_loose (suc n) B
is_loose n (let_in A v b) = is_loose n A || (is_loose n v || is_loose (suc n) b)
is_loose n (proj S i s) = is_loose n s
is_loose n _ = false

-- each Local is one of these
abbrev pub has_only : List Tree → Tree → Bool
has_only ps (local k T) = is_among (local k T) ps
has_only ps (app f a) = has_only ps f && has_only ps a
has_only ps (lam A b) = has_only ps A && has_only ps b
has_only ps (pi A B) = has_only ps A && has_only ps B
has_only ps (let_in A v b) = has_only ps A && (has_only ps v && has_only ps b)
has_only ps (proj S i s) = has_only ps s
has_only ps _ = true

abbrev pub may_nest : List Tree → List Tree → Bool
may_nest ps [] = true
may_nest ps (b ∷ bs) = (not (is_loose 0 b) && has_only ps b) && may_nest ps bs

-- the place of J ls b1 .. bq among the auxiliary types
abbrev pub same_aux : Name → List Level → List Tree → Aux → Bool
same_aux J ls bs a = is_same_tree (apply (const J ls) bs) (apply (const a.name a.levels) a.args)

abbrev pub aux_at : ℕ → List Aux → Name → List Level → List Tree → Option ℕ
aux_at i [] J ls bs = None
aux_at i (a ∷ as_) J ls bs = if same_aux J ls bs a then Some i else aux_at (suc i) as_ J ls bs

-- whether so many Pis stand at the head
abbrev pub has_pis : ℕ → Tree → Bool
has_pis zero e = true
has_pis (suc n) (pi A B) = has_pis n B
has_pis (suc n) _ = false

-- these put for the Pis that stand at the head
abbrev pub past_pis : List Tree → Tree → Program Tree
past_pis [] e = done e
past_pis (x ∷ xs) (pi A B) = past_pis xs (opened B x)
past_pis (x ∷ xs) _ = refuse BlockShape

-- a tree of J's block at ls and b1 .., where us are its level parameters
abbrev pub at_args : List Level → List Tree → List Name → Tree → Program Tree
at_args ls bs us e =
    given (nat_eq (length ls) (length us)) LevelCount
    (given (has_pis (length bs) e) BlockShape (past_pis bs (put_levels us ls e)))

-- n Pis that stand at the head, opened with Locals from number j on
abbrev pub stated_pis : ℕ → ℕ → Tree → Program (List Tree × Tree)
stated_pis j zero r = done ([], r)
stated_pis j (suc n) (pi A B) = do
  t ← stated_pis (suc j) n (opened B (local j A))
  done (local j A ∷ t.0, t.1)
stated_pis j (suc n) _ = refuse BlockShape

abbrev pub ctors_at : List Level → List Tree → List Ctor → Program (List Tree)
ctors_at ls bs [] = done []
ctors_at ls bs (c ∷ cs) = do
  r ← at_args ls bs c.levels c.type
  rs ← ctors_at ls bs cs
  done (r ∷ rs)

-- the type t named c as an auxiliary type
abbrev pub aux_of : Setting → List Level → List Tree → Name → BlockType → Program Aux
aux_of s ls bs c t = do
  r ← at_args ls bs t.levels t.type
  x ← stated_pis (length s.params) t.indices r
  l ← as_level x.1
  cs ← ctors_at ls bs t.ctors
  done (record { name = c; own = t; levels = ls; args = bs; type = r; indices = x.0; sort = l; ctors = cs })

-- the types of J's block but J, in order
abbrev pub others_of : Setting → List Level → List Tree → Name → List BlockType → Program (List Aux)
others_of s ls bs J [] = done []
others_of s ls bs J (t ∷ ts) = if same_name J t.name then others_of s ls bs J ts else (do
  a ← aux_of s ls bs t.name t
  as_ ← others_of s ls bs J ts
  done (a ∷ as_))

abbrev pub family_of : Setting → List Level → List Tree → Name → Block → BlockType → Program (List Aux)
family_of s ls bs J b t = do
  a ← aux_of s ls bs J t
  as_ ← others_of s ls bs J b.types
  done (a ∷ as_)

-- how many types J's block has but J
abbrev pub other_count : Name → List BlockType → ℕ
other_count J [] = 0
other_count J (t ∷ ts) = if same_name J t.name then other_count J ts else suc (other_count J ts)

-- auxiliary type i applied to P0 ..
abbrev pub aux_applied : Setting → ℕ → Tree
aux_applied s i = apply (const (aux_name i) (map param s.levels)) s.params

-- J ls b1 .. bq
abbrev pub met : Setting → List Aux → Name → List Level → List Tree → Block → BlockType → Option ℕ → Program (Tree × List Aux)
met s as_ J ls bs b t (Some i) = done (aux_applied s i, as_)
met s as_ J ls bs b t None =
    given (nat_le (length as_ + suc (other_count J b.types)) 1024) NestedForm (do
      ms ← family_of s ls bs J b t
      done (aux_applied s (length as_), as_ ++ ms))

abbrev pub replaced : Setting → List Aux → Name → List Level → List Tree → Block → BlockType → Program (Tree × List Aux)
replaced s as_ J ls bs b t = given (may_nest s.params bs) NestedForm (met s as_ J ls bs b t (aux_at 0 as_ J ls bs))

-- J is a type with as many parameters as there are arguments; what is applied to more holds such an application
abbrev pub at_kind : Setting → List Aux → Name → List Level → List Tree → Kind → Program (Tree × List Aux) → Program (Tree × List Aux)
at_kind s as_ J ls xs (a_type b t) next = if nat_eq (length xs) t.parameters then replaced s as_ J ls xs b t else next
at_kind s as_ J ls xs _ next = next

-- a head is looked up where it is no type of the block, and an argument mentions one
abbrev pub at_head : Setting → List Aux → Tree → List Tree → Program (Tree × List Aux) → Program (Tree × List Aux)
at_head s as_ (const J ls) xs next = if is_one_of s.names J || mention_none s.names xs then next else look UnknownConstant J λ g. at_kind s as_ J ls xs g.kind next
at_head s as_ _ xs next = next

-- each occurrence becomes its auxiliary type, from left to right, outermost first
abbrev pub nest : Setting → Tree → List Aux → Program (Tree × List Aux)
nest s (app f a) as_ = at_head s as_ (head (app f a)) (args (app f a)) (do
  g ← nest s f as_
  b ← nest s a g.1
  done (app g.0 b.0, b.1))
nest s (lam A b) as_ = do
  D ← nest s A as_
  c ← nest s b D.1
  done (lam D.0 c.0, c.1)
nest s (pi A B) as_ = do
  D ← nest s A as_
  C ← nest s B D.1
  done (pi D.0 C.0, C.1)
nest s (let_in A v b) as_ = do
  D ← nest s A as_
  u ← nest s v D.1
  c ← nest s b u.1
  done (let_in D.0 u.0 c.0, c.1)
nest s (proj S i e) as_ = do
  f ← nest s e as_
  done (proj S i f.0, f.1)
nest s e as_ = done (e, as_)

-- whether there is a nested occurrence
abbrev pub holds_kind : List Tree → Kind → Program Bool → Program Bool
holds_kind xs (a_type b t) next = if nat_eq (length xs) t.parameters then done true else next
holds_kind xs _ next = next

abbrev pub holds_head : List Name → Tree → List Tree → Program Bool → Program Bool
holds_head ns (const J ls) xs next = if is_one_of ns J || mention_none ns xs then next else look UnknownConstant J λ g. holds_kind xs g.kind next
holds_head ns _ xs next = next

abbrev pub either_holds : Program Bool → Program Bool → Program Bool
either_holds p q = do
  h ← p
  if h then done true else q

abbrev pub holds_nested : List Name → Tree → Program Bool
holds_nested ns (app f a) = holds_head ns (head (app f a)) (args (app f a)) (either_holds (holds_nested ns f) (holds_nested ns a))
holds_nested ns (lam A b) = either_holds (holds_nested ns A) (holds_nested ns b)
holds_nested ns (pi A B) = either_holds (holds_nested ns A) (holds_nested ns B)
holds_nested ns (let_in A v b) = either_holds (holds_nested ns A) (either_holds (holds_nested ns v) (holds_nested ns b))
holds_nested ns (proj S i e) = holds_nested ns e
holds_nested ns _ = done false

-- a constructor of the block past its parameters, whose stated domains stay
abbrev pub nest_past : Setting → List Tree → Tree → List Aux → Program (Tree × List Aux)
nest_past s [] e as_ = nest s e as_
nest_past s (P ∷ ps) (pi A B) as_ = do
  e ← nest_past s ps (opened B P) as_
  done (pi A (close (number P) e.0), e.1)
nest_past s (P ∷ ps) _ as_ = refuse BlockShape

-- only where it holds an occurrence
abbrev pub held_ctor : Setting → Ctor → List Aux → Bool → Program (Ctor × List Aux)
held_ctor s c as_ false = done (c, as_)
held_ctor s c as_ true = given (has_pis (length s.params) c.type) BlockShape (do
  e ← nest_past s s.params c.type as_
  done (record c { type = e.0 }, e.1))

abbrev pub own_ctor : Setting → Ctor → List Aux → Program (Ctor × List Aux)
own_ctor s c as_ = do
  h ← holds_nested s.names c.type
  held_ctor s c as_ h

abbrev pub own_ctors : Setting → List Ctor → List Aux → Program (List Ctor × List Aux)
own_ctors s [] as_ = done ([], as_)
own_ctors s (c ∷ cs) as_ = do
  d ← own_ctor s c as_
  ds ← own_ctors s cs d.1
  done (d.0 ∷ ds.0, ds.1)

abbrev pub own_types : Setting → List BlockType → List Aux → Program (List BlockType × List Aux)
own_types s [] as_ = done ([], as_)
own_types s (t ∷ ts) as_ = do
  cs ← own_ctors s t.ctors as_
  us ← own_types s ts cs.1
  done (record t { ctors = cs.0 } ∷ us.0, us.1)

-- the constructors of auxiliary type i, closed over the types of P0 ..
abbrev pub aux_ctors : Setting → ℕ → List Ctor → List Tree → List Aux → Program (List Ctor × List Aux)
aux_ctors s i (c ∷ cs) (r ∷ rs) as_ = do
  e ← nest s r as_
  ds ← aux_ctors s i cs rs e.1
  done (record { name = aux_ctor i c.name; levels = s.levels; type = pis s.params e.0; parent = aux_name i; place = c.place; parameters = length s.params; fields = c.fields } ∷ ds.0, ds.1)
aux_ctors s i [] rs as_ = done ([], as_)
aux_ctors s i (c ∷ cs) [] as_ = done ([], as_)

abbrev pub aux_type : Setting → ℕ → Aux → List Ctor → BlockType
aux_type s i a cs = record { name = aux_name i; levels = s.levels; type = pis s.params a.type; parameters = length s.params; indices = a.own.indices; ctors = cs }

-- the auxiliary types from number i on, while there are more; as there are at most 1,024, a number above that is never used up
abbrev pub next_aux : (ℕ → List Aux → Program (List BlockType × List Aux)) → Setting → ℕ → List Aux → Option Aux → Program (List BlockType × List Aux)
next_aux next s i as_ None = done ([], as_)
next_aux next s i as_ (Some a) = do
  cs ← aux_ctors s i a.own.ctors a.ctors as_
  ts ← next (suc i) cs.1
  done (aux_type s i a cs.0 ∷ ts.0, ts.1)

abbrev pub aux_types : ℕ → Setting → ℕ → List Aux → Program (List BlockType × List Aux)
aux_types zero s i as_ = refuse NestedForm
aux_types (suc n) s i as_ = next_aux (aux_types n s) s i as_ (aux_from as_ i)

-- the walk
abbrev pub enlarge : Setting → List BlockType → Program Larger
enlarge s ts = do
  own ← own_types s ts []
  aux ← aux_types 1025 s 0 own.1
  done (record { own = own.0; aux = aux.0; auxs = aux.1 })

-- the result sort of each auxiliary type is the block's
abbrev pub aux_sorts : Level → List Aux → Program Yes
aux_sorts l [] = done checked
aux_sorts l (a ∷ as_) = do
  equal ← tested (level_test a.sort l)
  given equal BlockShape (aux_sorts l as_)

abbrev pub aux_indices : List Aux → List (List Tree)
aux_indices [] = []
aux_indices (a ∷ as_) = a.indices ∷ aux_indices as_
