-- Core of a recursor that is applied.
use Rattle.std.specs.Prelude.{ℕ, suc, ◌+◌, Bool, true, false, nat_eq, nat_le, ◌&&◌, List, [], ◌∷◌, ◌++◌, length, take, drop, slice_get, Option, Some, None, if◌then◌else◌}
use Rattle.lk_tree.specs.Tree.{Name, Level, Tree, const, proj}
use Rattle.lk_tree.specs.Level.{is_zero_level}
use Rattle.lk_tree.specs.Spine.{apply, head, args}
use Rattle.lk_tree.specs.declared.rule.Rule.TheVariants.{UnknownConstant}
use Rattle.lk_rulebook.specs.Place.{Entry, Kind, Block, BlockType, Ctor, Recursor, RecRule, a_quot, a_ctor, a_rec}
use Rattle.lk_tree.specs.Mentions.{same_name}
use Rattle.lk_rulebook.specs.Structures.{is_structure_like, projections, before_major}
use Rattle.lk_questions.specs.Query.{core, whnf, infer, same}
use Rattle.lk_questions.specs.Program.{Program, done, look, asked, ◌>>=◌}
use Rattle.lk_questions.specs.Steps.{sort_of, with_levels}
use Rattle.lk_questions.specs.Strings.{literal_to_ctor, text_to_ctor}
use Rattle.lk_questions.specs.Quotients.{core_quot}

-- a constructor applied
pub record CtorApp : Type 0 where
  pub name : Name
  pub levels : List Level
  pub entry : Entry
  pub block : Block
  pub ind : BlockType
  pub ctor : Ctor
  pub args : List Tree

abbrev pub ctor_app_by : Name → List Level → List Tree → Entry → Kind → Option CtorApp
ctor_app_by c ks xs g (a_ctor b i k) = Some (record { name = c; levels = ks; entry = g; block = b; ind = i; ctor = k; args = xs })
ctor_app_by c ks xs g _ = None

abbrev pub ctor_app_of : Tree → List Tree → Program (Option CtorApp)
ctor_app_of (const c ks) xs = look UnknownConstant c λ g. done (ctor_app_by c ks xs g g.kind)
ctor_app_of _ xs = done None

-- the constructor of a recursor that has exactly one rule
abbrev pub only_ctor : List RecRule → Program (Option CtorApp)
only_ctor [] = done None
only_ctor (rule ∷ []) = look UnknownConstant rule.ctor λ g. done (ctor_app_by rule.ctor [] [] g g.kind)
only_ctor (r ∷ s ∷ rs) = done None

-- the levels of T, where its head is the type J
abbrev pub levels_at : Name → Tree → Option (List Level)
levels_at J (const c ks) = if same_name J c then Some ks else None
levels_at J _ = None

-- the constructor applied that the major premise is taken for, where the recursor has K
abbrev pub k_from : CtorApp → Tree → Option (List Level) → Program (Option Tree)
k_from b T None = done None
k_from b T (Some ks) =
    if nat_le b.ctor.parameters (length (args T)) then (do
      D ← asked (infer (apply (const b.name ks) (take b.ctor.parameters (args T))))
      equal ← asked (same T D)
      if equal then done (Some (apply (const b.name ks) (take b.ctor.parameters (args T)))) else done None)
    else done None

abbrev pub to_ctor_when_k : Recursor → Tree → Option CtorApp → Program (Option Tree)
to_ctor_when_k r major None = done None
to_ctor_when_k r major (Some b) = do
  T₀ ← asked (infer major)
  T ← asked (whnf T₀)
  k_from b T (levels_at b.ind.name (head T))

-- the first rule for c whose fields, after p parameters, make n arguments
abbrev pub fitting_rule : List RecRule → Name → ℕ → ℕ → Option RecRule
fitting_rule [] c p n = None
fitting_rule (r ∷ rs) c p n = if same_name r.ctor c && nat_eq n (p + r.fields) then Some r else fitting_rule rs c p n

-- e is R ls front m rest, where m is this constructor applied
abbrev pub by_rule : Tree → Entry → List Level → Recursor → List Tree → List Tree → CtorApp → Option RecRule → Program Tree
by_rule e g ls r front rest b None = done e
by_rule e g ls r front rest b (Some rule) = do
  v ← with_levels g ls rule.value
  asked (core (apply (apply (apply v (take (r.parameters + r.motives + r.minors) front)) (drop b.ctor.parameters b.args)) rest))

abbrev pub iota_at_ctor : Tree → Entry → List Level → Recursor → List Tree → List Tree → Option CtorApp → Program Tree
iota_at_ctor e g ls r front rest None = done e
iota_at_ctor e g ls r front rest (Some b) = by_rule e g ls r front rest b (fitting_rule r.rules b.name b.ctor.parameters (length b.args))

abbrev pub has_one_ctor : List Ctor → Bool
has_one_ctor (c ∷ []) = true
has_one_ctor [] = false
has_one_ctor (c ∷ d ∷ cs) = false

abbrev pub expanded : CtorApp → List Level → Tree → List Tree → CtorApp
expanded k ls m bs = record k { levels = ls; args = bs ++ projections k.ind.name m 0 k.ctor.fields }

-- the parent of the constructor is structure-like
abbrev pub builds_structure : CtorApp → Bool
builds_structure k = has_one_ctor k.ind.ctors && is_structure_like k.block k.ind k.ctor

abbrev pub expand_at : CtorApp → Tree → Tree → Option (List Level) → Program (Option CtorApp)
expand_at k m T None = done None
expand_at k m T (Some ls) =
    if nat_eq (length (args T)) k.ctor.parameters then (do
      l ← sort_of T
      if is_zero_level l then done None else done (Some (expanded k ls m (args T))))
    else done None

-- m in a structure-like type is taken for the constructor of its projections, unless it is a proof; nothing is asked where the
-- type is not structure-like
abbrev pub to_ctor_when_structure : Tree → Option CtorApp → Program (Option CtorApp)
to_ctor_when_structure m None = done None
to_ctor_when_structure m (Some k) =
    if builds_structure k then (do
      T₀ ← asked (infer m)
      T ← asked (whnf T₀)
      expand_at k m T (levels_at k.ind.name (head T)))
    else done None

abbrev pub as_ctor_app : Recursor → Tree → Option CtorApp → Program (Option CtorApp)
as_ctor_app r m (Some b) = done (Some b)
as_ctor_app r m None = do
  k ← only_ctor r.rules
  to_ctor_when_structure m k

abbrev pub iota_of : Tree → Entry → List Level → Recursor → List Tree → List Tree → Tree → Program Tree
iota_of e g ls r front rest m = do
  b ← ctor_app_of (head m) (args m)
  c ← as_ctor_app r m b
  iota_at_ctor e g ls r front rest c

-- after K
abbrev pub iota_after_k : Tree → Entry → List Level → Recursor → List Tree → Tree → List Tree → Option Tree → Program Tree
iota_after_k e g ls r front major rest (Some d) = iota_of e g ls r front rest d
iota_after_k e g ls r front major rest None = do
  w ← asked (whnf major)
  m ← literal_to_ctor w
  iota_of e g ls r front rest m

abbrev pub iota : Tree → Entry → List Level → Recursor → List Tree → Option Tree → List Tree → Program Tree
iota e g ls r front None rest = done e
iota e g ls r front (Some major) rest =
    if r.k then (do
      b ← only_ctor r.rules
      d ← to_ctor_when_k r major b
      iota_after_k e g ls r front major rest d)
    else iota_after_k e g ls r front major rest None

-- e is the constant c ls of this entry, applied
abbrev pub core_constant : Tree → Name → List Level → List Tree → Entry → Kind → Program Tree
core_constant e c ls xs g (a_rec r) = iota e g ls r (take (before_major r) xs) (slice_get xs (before_major r)) (drop (suc (before_major r)) xs)
core_constant e c ls xs g a_quot = core_quot e c xs
core_constant e c ls xs g _ = done e

-- Core(Proj(S, i, s))
abbrev pub picked : Tree → Option Tree → Program Tree
picked e (Some x) = asked (core x)
picked e None = done e

abbrev pub core_field : Tree → Name → ℕ → Option CtorApp → Program Tree
core_field e S i None = done e
core_field e S i (Some b) = if same_name b.ind.name S then picked e (slice_get b.args (b.ctor.parameters + i)) else done e

abbrev pub core_proj : Name → ℕ → Tree → Program Tree
core_proj S i s = do
  w ← asked (whnf s)
  m ← text_to_ctor w
  b ← ctor_app_of (head m) (args m)
  core_field (proj S i s) S i b
