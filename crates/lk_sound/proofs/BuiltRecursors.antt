-- What is recomputed is closed and well scoped.
use Rattle.std.proofs.Common.{ℕ, suc, ◌≡◌, ◌≤◌, ◌+◌, Bool, true, false, List, [], ◌∷◌, ◌++◌, length, map, refl, ap, arith, if◌then◌else◌}
use Rattle.lk_tree.specs.Tree.{Name, Level, param, Tree, sort, const, app, lam, pi, local}
use Rattle.lk_tree.specs.Bind.{close, bound}
use Rattle.lk_tree.specs.Spine.{apply}
use Rattle.lk_tree.specs.WellFormed.{IsWellFormed, AllWellFormed}
use Rattle.lk_tree.proofs.Binding.{close_fine, fine_more}
use Rattle.lk_tree.proofs.Locals.{local_of_close, bound_within}
use Rattle.lk_rulebook.specs.Place.{RecRule}
use Rattle.lk_tree.specs.Mentions.{same_name}
use Rattle.lk_inductive.specs.Block.{FieldKind, plain, recursive, Field, CtorShape, TypeShape, Shape, domain}
use Rattle.lk_inductive.specs.Recursors.{number, pis, lams, arrows, locals_from, bounds, kind_bound, fields_bound, ctors_bound, types_bound, shape_bound, elim_level, rec_params, rec_name, at_params, motive_type, motives, motive_in, motive_of, variables, with_hypothesis, hypotheses, minor_type, minor_types, minors, front, major, Restoring, as_they_are, rec_body, rec_type, with_induction, inductions, rule_body, rule_value, rules_of, past_minors, BlockRecursor, recs_from, recursors_by, recursors}
use Rattle.lk_sound.proofs.Scoped.{In, AllIn, all_in_more, fine_domain}

close_bound_same : (k : ℕ) (e : Tree) → bound (close k e) ≤ bound e
close_bound_same k e = bound_within e (close k e) (λ j T h. local_of_close j T 0 k e h)

domain_bound : (P : Tree) → bound (domain P) ≤ bound P
unfolding bound
domain_bound (local k A) = omega arith
domain_bound _ = omega arith

in_pi : (n : ℕ) (A e : Tree) (k : ℕ) → In n A → In n e → In n (pi A (close k e))
unfolding bound
in_pi n A e k a h = ((a.0, close_fine 0 k e h.0), omega (arith, a.1, h.1, close_bound_same k e))

in_lam : (n : ℕ) (A e : Tree) (k : ℕ) → In n A → In n e → In n (lam A (close k e))
unfolding bound
in_lam n A e k a h = ((a.0, close_fine 0 k e h.0), omega (arith, a.1, h.1, close_bound_same k e))

in_domain : (n : ℕ) (P : Tree) → In n P → In n (domain P)
in_domain n P h = (fine_domain P h.0, omega (arith, h.1, domain_bound P))

pub in_pis : (n : ℕ) (xs : List Tree) (e : Tree) → AllIn n xs → In n e → In n (pis xs e)
in_pis n [] e hs h = h
in_pis n (x ∷ xs) e hs h = in_pi n (domain x) (pis xs e) (number x) (in_domain n x hs.0) (in_pis n xs e hs.1 h)

pub in_lams : (n : ℕ) (xs : List Tree) (e : Tree) → AllIn n xs → In n e → In n (lams xs e)
in_lams n [] e hs h = h
in_lams n (x ∷ xs) e hs h = in_lam n (domain x) (lams xs e) (number x) (in_domain n x hs.0) (in_lams n xs e hs.1 h)

in_arrow : (n : ℕ) (A e : Tree) → In n A → In n e → In n (pi A e)
unfolding bound
in_arrow n A e a h = ((a.0, fine_more 0 1 e (omega arith) h.0), omega (arith, a.1, h.1))

in_arrows : (n : ℕ) (As : List Tree) (e : Tree) → AllIn n As → In n e → In n (arrows As e)
in_arrows n [] e hs h = h
in_arrows n (A ∷ As) e hs h = in_arrow n A (arrows As e) hs.0 (in_arrows n As e hs.1 h)

in_app : (n : ℕ) (f a : Tree) → In n f → In n a → In n (app f a)
unfolding bound
in_app n f a hf ha = ((hf.0, ha.0), omega (arith, hf.1, ha.1))

pub in_apply : (n : ℕ) (h : Tree) (xs : List Tree) → In n h → AllIn n xs → In n (apply h xs)
in_apply n h [] i is = i
in_apply n h (x ∷ xs) i is = in_apply n (app h x) xs (in_app n h x i is.0) is.1

in_const : (n : ℕ) (c : Name) (ls : List Level) → In n (const c ls)
unfolding bound
in_const n c ls = (tt, omega arith)

in_sort : (n : ℕ) (l : Level) → In n (sort l)
unfolding bound
in_sort n l = (tt, omega arith)

all_in : (n : ℕ) (xs : List Tree) → AllWellFormed xs → bounds xs ≤ n → AllIn n xs
all_in n [] f h = tt
all_in n (x ∷ xs) f h = ((f.0, omega arith), all_in n xs f.1 (omega arith))

all_in_append : (n : ℕ) (xs ys : List Tree) → AllIn n xs → AllIn n ys → AllIn n (xs ++ ys)
all_in_append n [] ys h i = i
all_in_append n (x ∷ xs) ys h i = (h.0, all_in_append n xs ys h.1 i)

in_local : (k n : ℕ) (A : Tree) → In k A → suc k ≤ n → In n (local k A)
unfolding bound
in_local k n A h l = ((h.0, h.1), omega (arith, h.1))

locals_in : (k n : ℕ) (As : List Tree) → AllIn k As → k + length As ≤ n → AllIn n (locals_from k As)
locals_in k n [] h l = tt
locals_in k n (A ∷ As) h l = (in_local k n A h.0 (omega arith), locals_in (suc k) n As (all_in_more k (suc k) As (omega arith) h.1) (omega arith))

-- the parts of a shape are closed and well scoped
abbrev pub KindWellFormed : FieldKind → Type 0
KindWellFormed plain = Unit {0}
KindWellFormed (recursive ys T is) = AllWellFormed ys × AllWellFormed is

abbrev pub FieldsWellFormed : List Field → Type 0
FieldsWellFormed [] = Unit {0}
FieldsWellFormed (f ∷ fs) = IsWellFormed f.variable × KindWellFormed f.kind × FieldsWellFormed fs

abbrev pub CtorShapesWellFormed : List CtorShape → Type 0
CtorShapesWellFormed [] = Unit {0}
CtorShapesWellFormed (c ∷ cs) = FieldsWellFormed c.fields × AllWellFormed c.indices × CtorShapesWellFormed cs

abbrev pub TypeShapesWellFormed : List TypeShape → Type 0
TypeShapesWellFormed [] = Unit {0}
TypeShapesWellFormed (t ∷ ts) = AllWellFormed t.indices × CtorShapesWellFormed t.ctors × TypeShapesWellFormed ts

abbrev pub ShapeWellFormed : Shape → Type 0
ShapeWellFormed s = AllWellFormed s.params × TypeShapesWellFormed s.types

-- and below n
abbrev KindIn : ℕ → FieldKind → Type 0
KindIn n plain = Unit {0}
KindIn n (recursive ys T is) = AllIn n ys × AllIn n is

abbrev FieldsIn : ℕ → List Field → Type 0
FieldsIn n [] = Unit {0}
FieldsIn n (f ∷ fs) = In n f.variable × KindIn n f.kind × FieldsIn n fs

kind_in : (n : ℕ) (k : FieldKind) → KindWellFormed k → kind_bound k ≤ n → KindIn n k
kind_in n plain f h = tt
kind_in n (recursive ys T is) f h = (all_in n ys f.0 (omega arith), all_in n is f.1 (omega arith))

fields_in : (n : ℕ) (fs : List Field) → FieldsWellFormed fs → fields_bound fs ≤ n → FieldsIn n fs
fields_in n [] f h = tt
fields_in n (x ∷ fs) f h = ((f.0, omega arith), kind_in n x.kind f.1 (omega arith), fields_in n fs f.2 (omega arith))

variables_in : (n : ℕ) (fs : List Field) → FieldsIn n fs → AllIn n (variables fs)
variables_in n [] h = tt
variables_in n (f ∷ fs) h = (h.0, variables_in n fs h.2)

at_params_in : (n : ℕ) (s : Shape) (c : Name) → AllIn n s.params → In n (at_params s c)
at_params_in n s c h = in_apply n (const c (map param s.levels)) s.params (in_const n c (map param s.levels)) h

motive_type_in : (n : ℕ) (s : Shape) (t : TypeShape) → AllIn n s.params → AllIn n t.indices → In n (motive_type s t)
motive_type_in n s t ps is =
    in_pis n t.indices _ is (in_arrow n (apply (at_params s t.name) t.indices) (sort (elim_level s)) (in_apply n (at_params s t.name) t.indices (at_params_in n s t.name ps) is) (in_sort n (elim_level s)))

motive_types_in : (n : ℕ) (s : Shape) (ts : List TypeShape) → AllIn n s.params → TypeShapesWellFormed ts → types_bound ts ≤ n → AllIn n (map (motive_type s) ts)
motive_types_in n s [] ps f h = tt
motive_types_in n s (t ∷ ts) ps f h = (motive_type_in n s t ps (all_in n t.indices f.0 (omega arith)), motive_types_in n s ts ps f.2 (omega arith))

length_mapped : {A B : Type 0} (f : A → B) (xs : List A) → length (map f xs) ≡ length xs
length_mapped f [] = refl
length_mapped f (x ∷ xs) = ap suc (length_mapped f xs)

params_in : (n : ℕ) (s : Shape) → ShapeWellFormed s → shape_bound s ≤ n → AllIn n s.params
params_in n s f h = all_in n s.params f.0 (omega arith)

motives_in : (n : ℕ) (s : Shape) → ShapeWellFormed s → shape_bound s + length s.types ≤ n → AllIn n (motives s)
motives_in n s f h =
    let l : length (map (motive_type s) s.types) ≡ length s.types = length_mapped (motive_type s) s.types in
    locals_in (shape_bound s) n (map (motive_type s) s.types) (motive_types_in (shape_bound s) s s.types (params_in (shape_bound s) s f (omega arith)) f.1 (omega arith)) (omega (arith, l))

motive_in_in : (n : ℕ) (ts : List TypeShape) (Cs : List Tree) (T : Name) → AllIn n Cs → In n (motive_in ts Cs T)
motive_in_in n [] Cs T h = in_const n T []
motive_in_in n (t ∷ ts) [] T h = in_const n T []
motive_in_in n (t ∷ ts) (C ∷ Cs) T h = go (motive_in_in n ts Cs T h.1) (same_name t.name T)
  where
    go : In n (motive_in ts Cs T) → (b : Bool) → In n (if b then C else motive_in ts Cs T)
    go i true = h.0
    go i false = i

motive_of_in : (n : ℕ) (s : Shape) (T : Name) → ShapeWellFormed s → shape_bound s + length s.types ≤ n → In n (motive_of s T)
motive_of_in n s T f h = motive_in_in n s.types (motives s) T (motives_in n s f h)

with_hypothesis_in : (n : ℕ) (s : Shape) (x : Tree) (k : FieldKind) (rest : List Tree) → ShapeWellFormed s → shape_bound s + length s.types ≤ n → In n x → KindIn n k → AllIn n rest → AllIn n (with_hypothesis s x k rest)
with_hypothesis_in n s x plain rest f h i k r = r
with_hypothesis_in n s x (recursive ys T is) rest f h i k r = (
  in_pis n ys _ k.0 (in_app n (apply (motive_of s T) is) (apply x ys) (in_apply n (motive_of s T) is (motive_of_in n s T f h) k.1) (in_apply n x ys i k.0)),
  r,
)

hypotheses_in : (n : ℕ) (s : Shape) (fs : List Field) → ShapeWellFormed s → shape_bound s + length s.types ≤ n → FieldsIn n fs → AllIn n (hypotheses s fs)
hypotheses_in n s [] f h i = tt
hypotheses_in n s (x ∷ fs) f h i = with_hypothesis_in n s x.variable x.kind (hypotheses s fs) f h i.0 i.1 (hypotheses_in n s fs f h i.2)

minor_type_in : (n : ℕ) (s : Shape) (t : TypeShape) (c : CtorShape) → ShapeWellFormed s → shape_bound s + length s.types ≤ n → FieldsIn n c.fields → AllIn n c.indices → In n (minor_type s t c)
minor_type_in n s t c f h fs is =
    let vs : AllIn n (variables c.fields) = variables_in n c.fields fs in
    in_pis n (variables c.fields) _ vs (in_arrows n (hypotheses s c.fields) _ (hypotheses_in n s c.fields f h fs)
    (in_app n (apply (motive_of s t.name) c.indices) (apply (at_params s c.name) (variables c.fields))
    (in_apply n (motive_of s t.name) c.indices (motive_of_in n s t.name f h) is)
    (in_apply n (at_params s c.name) (variables c.fields) (at_params_in n s c.name (params_in n s f (omega arith))) vs)))

ctor_minors_in : (n : ℕ) (s : Shape) (t : TypeShape) (cs : List CtorShape) → ShapeWellFormed s → shape_bound s + length s.types ≤ n → CtorShapesWellFormed cs → ctors_bound cs ≤ n → AllIn n (map (minor_type s t) cs)
ctor_minors_in n s t [] f h i b = tt
ctor_minors_in n s t (c ∷ cs) f h i b = (
  minor_type_in n s t c f h (fields_in n c.fields i.0 (omega arith)) (all_in n c.indices i.1 (omega arith)),
  ctor_minors_in n s t cs f h i.2 (omega arith),
)

minor_types_in : (n : ℕ) (s : Shape) (ts : List TypeShape) → ShapeWellFormed s → shape_bound s + length s.types ≤ n → TypeShapesWellFormed ts → types_bound ts ≤ n → AllIn n (minor_types s ts)
minor_types_in n s [] f h i b = tt
minor_types_in n s (t ∷ ts) f h i b =
    all_in_append n (map (minor_type s t) t.ctors) (minor_types s ts) (ctor_minors_in n s t t.ctors f h i.1 (omega arith)) (minor_types_in n s ts f h i.2 (omega arith))

length_locals : (k : ℕ) (As : List Tree) → length (locals_from k As) ≡ length As
length_locals k [] = refl
length_locals k (A ∷ As) = ap suc (length_locals (suc k) As)

minors_in : (n : ℕ) (s : Shape) → ShapeWellFormed s → shape_bound s + (length s.types + length (minors s)) ≤ n → AllIn n (minors s)
minors_in n s f h =
    let l : length (minors s) ≡ length (minor_types s s.types) = length_locals (shape_bound s + length s.types) (minor_types s s.types) in
    locals_in (shape_bound s + length s.types) n (minor_types s s.types) (minor_types_in (shape_bound s + length s.types) s s.types f (omega arith) f.1 (omega arith)) (omega (arith, l))

front_in : (n : ℕ) (s : Shape) → ShapeWellFormed s → shape_bound s + (length s.types + length (minors s)) ≤ n → AllIn n (front s)
front_in n s f h =
    all_in_append n s.params (motives s ++ minors s) (params_in n s f (omega arith))
    (all_in_append n (motives s) (minors s) (motives_in n s f (omega arith)) (minors_in n s f h))

-- above all in a recursor
top : Shape → ℕ
top s = suc (shape_bound s + (length s.types + length (minors s)))

major_in : (s : Shape) (t : TypeShape) → ShapeWellFormed s → AllWellFormed t.indices → bounds t.indices ≤ shape_bound s → In (top s) (major s t)
unfolding top
major_in s t f i b =
    let n : ℕ = shape_bound s + (length s.types + length (minors s)) in
    in_local n (top s) (apply (at_params s t.name) t.indices)
    (in_apply n (at_params s t.name) t.indices (at_params_in n s t.name (params_in n s f (omega arith))) (all_in n t.indices i (omega (arith, b)))) (omega arith)

-- what is done before the parameters are closed keeps trees closed and well scoped
abbrev pub KeepsWellFormed : Restoring → Type 0
KeepsWellFormed w = (e : Tree) → IsWellFormed e → IsWellFormed (w.tree e)

pub pis_fine : (xs : List Tree) (e : Tree) → AllWellFormed xs → IsWellFormed e → IsWellFormed (pis xs e)
pis_fine [] e hs h = h
pis_fine (x ∷ xs) e hs h = (fine_domain x hs.0, close_fine 0 (number x) (pis xs e) (pis_fine xs e hs.1 h))

lams_fine : (xs : List Tree) (e : Tree) → AllWellFormed xs → IsWellFormed e → IsWellFormed (lams xs e)
lams_fine [] e hs h = h
lams_fine (x ∷ xs) e hs h = (fine_domain x hs.0, close_fine 0 (number x) (lams xs e) (lams_fine xs e hs.1 h))

middle_in : (n : ℕ) (s : Shape) → ShapeWellFormed s → shape_bound s + (length s.types + length (minors s)) ≤ n → AllIn n (motives s ++ minors s)
middle_in n s f h = all_in_append n (motives s) (minors s) (motives_in n s f (omega arith)) (minors_in n s f h)

rec_type_fine : (w : Restoring) (s : Shape) (t : TypeShape) → KeepsWellFormed w → ShapeWellFormed s → AllWellFormed t.indices → bounds t.indices ≤ shape_bound s → IsWellFormed (rec_type w s t)
unfolding top
rec_type_fine w s t k f i b =
    let is : AllIn (top s) t.indices = all_in (top s) t.indices i (omega (arith, b)) in
    let m : In (top s) (major s t) = major_in s t f i b in
    pis_fine s.params (w.tree (rec_body s t)) f.0 (k (rec_body s t)
    (in_pis (top s) (motives s ++ minors s) _ (middle_in (top s) s f (omega arith)) (in_pis (top s) t.indices _ is (in_pis (top s) (major s t ∷ []) _ (m, tt)
    (in_app (top s) (apply (motive_of s t.name) t.indices) (major s t) (in_apply (top s) (motive_of s t.name) t.indices (motive_of_in (top s) s t.name f (omega arith)) is) m)))).0)

with_induction_in : (s : Shape) (x : Tree) (k : FieldKind) (rest : List Tree) → ShapeWellFormed s → In (top s) x → KindIn (top s) k → AllIn (top s) rest → AllIn (top s) (with_induction s x k rest)
unfolding top
with_induction_in s x plain rest f i k r = r
with_induction_in s x (recursive ys T is) rest f i k r = (
  in_lams (top s) ys _ k.0 (in_app (top s) (apply (apply (const (rec_name T) (map param (rec_params s))) (front s)) is) (apply x ys)
      (in_apply (top s) (apply (const (rec_name T) (map param (rec_params s))) (front s)) is (in_apply (top s) (const (rec_name T) (map param (rec_params s))) (front s) (in_const (top s) (rec_name T) (map param (rec_params s))) (front_in (top s) s f (omega arith))) k.1)
      (in_apply (top s) x ys i k.0)),
  r,
)

inductions_in : (s : Shape) (fs : List Field) → ShapeWellFormed s → FieldsIn (top s) fs → AllIn (top s) (inductions s fs)
inductions_in s [] f i = tt
inductions_in s (x ∷ fs) f i = with_induction_in s x.variable x.kind (inductions s fs) f i.0 i.1 (inductions_in s fs f i.2)

rule_value_fine : (w : Restoring) (s : Shape) (minor : Tree) (c : CtorShape) → KeepsWellFormed w → ShapeWellFormed s → In (top s) minor → FieldsWellFormed c.fields → fields_bound c.fields ≤ shape_bound s → IsWellFormed (rule_value w s minor c)
unfolding top
rule_value_fine w s minor c k f m fs b =
    let i : FieldsIn (top s) c.fields = fields_in (top s) c.fields fs (omega (arith, b)) in
    let vs : AllIn (top s) (variables c.fields) = variables_in (top s) c.fields i in
    lams_fine s.params (w.tree (rule_body s minor c)) f.0 (k (rule_body s minor c)
    (in_lams (top s) (motives s ++ minors s) _ (middle_in (top s) s f (omega arith)) (in_lams (top s) (variables c.fields) _ vs
    (in_apply (top s) (apply minor (variables c.fields)) (inductions s c.fields) (in_apply (top s) minor (variables c.fields) m vs) (inductions_in s c.fields f i)))).0)

abbrev pub ValuesWellFormed : List RecRule → Type 0
ValuesWellFormed [] = Unit {0}
ValuesWellFormed (r ∷ rs) = IsWellFormed r.value × ValuesWellFormed rs

abbrev pub RecsWellFormed : List BlockRecursor → Type 0
RecsWellFormed [] = Unit {0}
RecsWellFormed (r ∷ rs) = (IsWellFormed r.type × ValuesWellFormed r.recursor.rules) × RecsWellFormed rs

rules_fine : (w : Restoring) (s : Shape) (ms : List Tree) (cs : List CtorShape) → KeepsWellFormed w → ShapeWellFormed s → AllIn (top s) ms → CtorShapesWellFormed cs → ctors_bound cs ≤ shape_bound s → ValuesWellFormed (rules_of w s ms cs)
rules_fine w s [] cs k f m i b = tt
rules_fine w s (x ∷ ms) [] k f m i b = tt
rules_fine w s (x ∷ ms) (c ∷ cs) k f m i b = (rule_value_fine w s x c k f m.0 i.0 (omega (arith, b)), rules_fine w s ms cs k f m.1 i.2 (omega (arith, b)))

past_in : (n : ℕ) (cs : List CtorShape) (ms : List Tree) → AllIn n ms → AllIn n (past_minors cs ms)
past_in n [] ms h = h
past_in n (c ∷ cs) [] h = tt
past_in n (c ∷ cs) (m ∷ ms) h = past_in n cs ms h.1

recs_fine : (w : Restoring) (s : Shape) (ms : List Tree) (ts : List TypeShape) → KeepsWellFormed w → ShapeWellFormed s → AllIn (top s) ms → TypeShapesWellFormed ts → types_bound ts ≤ shape_bound s → RecsWellFormed (recs_from w s ms ts)
recs_fine w s ms [] k f m i b = tt
recs_fine w s ms (t ∷ ts) k f m i b = (
  (rec_type_fine w s t k f i.0 (omega (arith, b)), rules_fine w s ms t.ctors k f m i.1 (omega (arith, b))),
  recs_fine w s (past_minors t.ctors ms) ts k f (past_in (top s) t.ctors ms m) i.2 (omega (arith, b)),
)

pub recursors_by_fine : (w : Restoring) (s : Shape) → KeepsWellFormed w → ShapeWellFormed s → RecsWellFormed (recursors_by w s)
unfolding top
recursors_by_fine w s k f = recs_fine w s (minors s) s.types k f (minors_in (top s) s f (omega arith)) f.1 (omega arith)

pub recursors_fine : (s : Shape) → ShapeWellFormed s → RecsWellFormed (recursors s)
recursors_fine s f = recursors_by_fine as_they_are s (λ e h. h) f
