-- The recomputed recursors of a block, from its shape.
use Rattle.std.specs.Prelude.{ℕ, suc, ◌+◌, max, Bool, false, ◌&&◌, nat_eq, List, [], ◌∷◌, ◌++◌, length, map, if◌then◌else◌}
use Rattle.lk_tree.specs.Tree.{Name, text, Level, zero_level, param, Tree, sort, const, app, lam, pi, local}
use Rattle.lk_tree.specs.Level.{is_zero_level}
use Rattle.lk_tree.specs.Bind.{close, bound}
use Rattle.lk_tree.specs.Spine.{apply}
use Rattle.lk_rulebook.specs.Place.{RecRule}
pub use Rattle.lk_rulebook.specs.Place.{BlockRecursor}
use Rattle.lk_tree.specs.Mentions.{same_name}
use Rattle.lk_inductive.specs.Block.{FieldKind, plain, recursive, Field, CtorShape, TypeShape, Shape, domain}

abbrev pub number : Tree → ℕ
number (local k A) = k
number e = 0

-- (x : A) -> .. -> e over these Locals
abbrev pub pis : List Tree → Tree → Tree
pis [] e = e
pis (x ∷ xs) e = pi (domain x) (close (number x) (pis xs e))

abbrev pub lams : List Tree → Tree → Tree
lams [] e = e
lams (x ∷ xs) e = lam (domain x) (close (number x) (lams xs e))

-- A -> .. -> e
abbrev pub arrows : List Tree → Tree → Tree
arrows [] e = e
arrows (A ∷ As) e = pi A (arrows As e)

-- Locals for these types, numbered from k on
abbrev pub locals_from : ℕ → List Tree → List Tree
locals_from k [] = []
locals_from k (A ∷ As) = local k A ∷ locals_from (suc k) As

-- the least number above every Local of a list
abbrev pub bounds : List Tree → ℕ
bounds [] = 0
bounds (e ∷ es) = max (bound e) (bounds es)

abbrev pub kind_bound : FieldKind → ℕ
kind_bound plain = 0
kind_bound (recursive ys T is) = max (bounds ys) (bounds is)

abbrev pub fields_bound : List Field → ℕ
fields_bound [] = 0
fields_bound (f ∷ fs) = max (bound f.variable) (max (kind_bound f.kind) (fields_bound fs))

abbrev pub ctors_bound : List CtorShape → ℕ
ctors_bound [] = 0
ctors_bound (c ∷ cs) = max (max (fields_bound c.fields) (bounds c.indices)) (ctors_bound cs)

abbrev pub types_bound : List TypeShape → ℕ
types_bound [] = 0
types_bound (t ∷ ts) = max (max (bounds t.indices) (ctors_bound t.ctors)) (types_bound ts)

abbrev pub shape_bound : Shape → ℕ
shape_bound s = max (bounds s.params) (types_bound s.types)

-- the level parameter that large elimination adds; no file spells LF
abbrev pub motive_level : Name
motive_level = text (10 ∷ []) ∷ []

abbrev pub elim_level : Shape → Level
elim_level s = if s.large then param motive_level else zero_level

abbrev pub rec_params : Shape → List Name
rec_params s = if s.large then motive_level ∷ s.levels else s.levels

abbrev pub rec_name : Name → Name
rec_name T = T ++ (text (114 ∷ 101 ∷ 99 ∷ []) ∷ [])

-- c us P0 ..
abbrev pub at_params : Shape → Name → Tree
at_params s c = apply (const c (map param s.levels)) s.params

-- Cj : indices -> (t : Tj P indices) -> Sort v
abbrev pub motive_type : Shape → TypeShape → Tree
motive_type s t = pis t.indices (pi (apply (at_params s t.name) t.indices) (sort (elim_level s)))

abbrev pub motives : Shape → List Tree
motives s = locals_from (shape_bound s) (map (motive_type s) s.types)

-- the motive of the type T
abbrev pub motive_in : List TypeShape → List Tree → Name → Tree
motive_in (t ∷ ts) (C ∷ Cs) T = if same_name t.name T then C else motive_in ts Cs T
motive_in [] Cs T = const T []
motive_in (t ∷ ts) [] T = const T []

abbrev pub motive_of : Shape → Name → Tree
motive_of s T = motive_in s.types (motives s) T

abbrev pub variables : List Field → List Tree
variables [] = []
variables (f ∷ fs) = f.variable ∷ variables fs

-- (ys) -> Cj is (x ys), for each recursive field x : (ys) -> Tj P is
abbrev pub with_hypothesis : Shape → Tree → FieldKind → List Tree → List Tree
with_hypothesis s x plain rest = rest
with_hypothesis s x (recursive ys T is) rest = pis ys (app (apply (motive_of s T) is) (apply x ys)) ∷ rest

abbrev pub hypotheses : Shape → List Field → List Tree
hypotheses s [] = []
hypotheses s (f ∷ fs) = with_hypothesis s f.variable f.kind (hypotheses s fs)

abbrev pub minor_type : Shape → TypeShape → CtorShape → Tree
minor_type s t c =
    pis (variables c.fields) (arrows (hypotheses s c.fields)
    (app (apply (motive_of s t.name) c.indices) (apply (at_params s c.name) (variables c.fields))))

abbrev pub minor_types : Shape → List TypeShape → List Tree
minor_types s [] = []
minor_types s (t ∷ ts) = map (minor_type s t) t.ctors ++ minor_types s ts

abbrev pub minors : Shape → List Tree
minors s = locals_from (shape_bound s + length s.types) (minor_types s s.types)

-- P, all motives, all minors
abbrev pub front : Shape → List Tree
front s = s.params ++ (motives s ++ minors s)

-- what is done to names and trees before the parameters are closed; nothing, where no occurrence is nested
pub record Restoring : Type 0 where
  pub named : Name → Name
  pub tree : Tree → Tree

abbrev pub as_they_are : Restoring
as_they_are = record { named = λ c. c; tree = λ e. e }

abbrev pub major : Shape → TypeShape → Tree
major s t = local (shape_bound s + (length s.types + length (minors s))) (apply (at_params s t.name) t.indices)

-- all motives, all minors, indices, t, result
abbrev pub rec_body : Shape → TypeShape → Tree
rec_body s t = pis (motives s ++ minors s) (pis t.indices (pis (major s t ∷ []) (app (apply (motive_of s t.name) t.indices) (major s t))))

abbrev pub rec_type : Restoring → Shape → TypeShape → Tree
rec_type w s t = pis s.params (w.tree (rec_body s t))

-- the recursor of its type, for each recursive field
abbrev pub with_induction : Shape → Tree → FieldKind → List Tree → List Tree
with_induction s x plain rest = rest
with_induction s x (recursive ys T is) rest = lams ys (app (apply (apply (const (rec_name T) (map param (rec_params s))) (front s)) is) (apply x ys)) ∷ rest

abbrev pub inductions : Shape → List Field → List Tree
inductions s [] = []
inductions s (f ∷ fs) = with_induction s f.variable f.kind (inductions s fs)

abbrev pub rule_body : Shape → Tree → CtorShape → Tree
rule_body s minor c = lams (motives s ++ minors s) (lams (variables c.fields) (apply (apply minor (variables c.fields)) (inductions s c.fields)))

abbrev pub rule_value : Restoring → Shape → Tree → CtorShape → Tree
rule_value w s minor c = lams s.params (w.tree (rule_body s minor c))

abbrev pub rules_of : Restoring → Shape → List Tree → List CtorShape → List RecRule
rules_of w s (m ∷ ms) (c ∷ cs) = record { ctor = w.named c.name; fields = length c.fields; value = rule_value w s m c } ∷ rules_of w s ms cs
rules_of w s [] cs = []
rules_of w s (m ∷ ms) [] = []

-- the minors after those of a type
abbrev pub past_minors : List CtorShape → List Tree → List Tree
past_minors [] ms = ms
past_minors (c ∷ cs) [] = []
past_minors (c ∷ cs) (m ∷ ms) = past_minors cs ms

abbrev pub is_k : Shape → Bool
is_k s = elim s.types [
  | [] ↦ false
  | t ∷ ts ↦ elim ts [
    | [] ↦ elim t.ctors [
      | [] ↦ false
      | c ∷ cs ↦ elim cs [ [] ↦ is_zero_level s.sort && nat_eq (length c.fields) 0 | d ∷ ds ↦ false ]
    ]
    | u ∷ us ↦ false
  ]
]

abbrev pub rec_of : Restoring → Shape → List Tree → TypeShape → BlockRecursor
rec_of w s ms t = record {
  name = w.named (rec_name t.name);
  levels = rec_params s;
  type = rec_type w s t;
  recursor = record {
    parameters = length s.params;
    indices = length t.indices;
    motives = length s.types;
    minors = length (minors s);
    k = is_k s;
    rules = rules_of w s ms t.ctors;
  };
}

abbrev pub recs_from : Restoring → Shape → List Tree → List TypeShape → List BlockRecursor
recs_from w s ms [] = []
recs_from w s ms (t ∷ ts) = rec_of w s ms t ∷ recs_from w s (past_minors t.ctors ms) ts

-- the recursors of a block
abbrev pub recursors_by : Restoring → Shape → List BlockRecursor
recursors_by w s = recs_from w s (minors s) s.types

abbrev pub recursors : Shape → List BlockRecursor
recursors s = recursors_by as_they_are s
