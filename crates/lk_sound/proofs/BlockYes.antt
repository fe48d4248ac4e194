-- Sorts of constructors' types and the stated recursors, and that what is partial is well stated.
use Rattle.std.proofs.Common.{ℕ, suc, ◌≡◌, inl, inr, Bool, true, false, ◌&&◌, nat_eq, List, [], ◌∷◌, ◌++◌, length, map, Option, Some, None, refl, arith}
use Rattle.std.proofs.lemmas.Bool.Decides.{nat_tests}
use Rattle.lk_tree.specs.Tree.{Name, param, Tree, const, local}
use Rattle.lk_tree.specs.Bind.{opened, bound}
use Rattle.lk_tree.specs.Spine.{apply}
use Rattle.lk_tree.specs.WellFormed.{IsWellFormed, AllWellFormed}
use Rattle.lk_tree.specs.declared.rule.Rule.TheVariants.{RecursorDiffers}
use Rattle.lk_tree.proofs.Within.{fine_put_levels}
use Rattle.lk_tree.proofs.Spines.{well_formed_of_apply, all_fine_split}
use Rattle.lk_rulebook.specs.Place.{Place, Block, BlockType, Ctor, RecRule}
use Rattle.lk_tree.specs.Mentions.{same_name}
use Rattle.lk_rulebook.specs.Rules.{HasSort}
use Rattle.lk_rulebook.proofs.Scopes.{well_formed_of_reduct}
use Rattle.lk_questions.specs.Steps.{sort_of}
use Rattle.lk_questions.specs.Sound.{IsSound, IsStated, CtorsStated, TypesStated, RulesStated, IsListed}
use Rattle.lk_questions.proofs.Soundness.{sound_bind, sound_map}
use Rattle.lk_claims.proofs.Pieces.{sound_given, of_yes, sound_sort_of}
use Rattle.lk_inductive.specs.Block.{Frame, frame_of, FieldKind, plain, recursive, under, Field, CtorShape, TypeShape, Shape, type_entries, ctor_entries, all_ctor_entries}
use Rattle.lk_inductive.specs.Relation.{IsPositive, mentions_none, arrow, member, AreFields, no_field, a_field, IsCtor, AreCtors, no_ctor, a_ctor_more, AreTypes, no_type, a_type_more, AreNumbered, IsBlock}
use Rattle.lk_inductive.specs.BlockSteps.{ctor_sorts, all_ctor_sorts}
use Rattle.lk_inductive.specs.Recursors.{BlockRecursor}
use Rattle.lk_inductive.specs.Compare.{renamed, same_rules, same_bool, same_counts, rules_steps, rec_steps, rec_named, compare_found, compare_steps, rec_entries, AreRules, no_rule, a_rule, IsRec, IsOneOf, AreRecs}
use Rattle.lk_inductive.specs.Whole.{CtorsSorted, TypesSorted, AllCtorsSorted, RecsStated}
use Rattle.lk_inductive.proofs.Partials.{MembersStated, stated_append}
use Rattle.lk_sound.proofs.Telescopes.{numbered, params_numbered}
use Rattle.lk_sound.proofs.BlockTypes.{AreFound, none_found, one_found}
use Rattle.lk_sound.proofs.Positive.{name_of}
use Rattle.lk_sound.proofs.BuiltRecursors.{KindWellFormed, FieldsWellFormed, CtorShapesWellFormed, TypeShapesWellFormed, ShapeWellFormed, ValuesWellFormed, RecsWellFormed}

-- the parts of the shape of a block are closed and well scoped
pub numbered_fine : (j : ℕ) (xs : List Tree) → AreNumbered j xs → AllWellFormed xs
numbered_fine j [] h = tt
numbered_fine j (x ∷ xs) h = (rw h.0.1 h.0.2, numbered_fine (suc j) xs h.1)

under_fine : (y : Tree) (k : FieldKind) → IsWellFormed y → KindWellFormed k → KindWellFormed (under y k)
under_fine y plain f h = tt
under_fine y (recursive ys T is) f h = ((f, h.0), h.1)

kind_fine : (w : Place) (F : Frame) (j : ℕ) (A : Tree) (k : FieldKind) → IsPositive w F j A k → KindWellFormed k
unfolding bound
kind_fine w F j A k (mentions_none c h) = tt
kind_fine w F j A k (arrow {j = i} {D = D} {E = E} {k = l} c b h p) =
    under_fine (local i D) l ((well_formed_of_reduct c).1.0, omega arith) (kind_fine w F (suc i) (opened E (local i D)) l p)
kind_fine w F j A k (member {T = T} {is = is} c b m) =
    let f : IsWellFormed (apply (const T F.levels) (F.params ++ is)) = rw m.spelled at (well_formed_of_reduct c).1 in
    (tt, (all_fine_split F.params is (well_formed_of_apply (const T F.levels) (F.params ++ is) f).1).1)

fields_fine : (w : Place) (F : Frame) (j n : ℕ) (r rest : Tree) (fs : List Field) → AreFields w F j n r fs rest → FieldsWellFormed fs
unfolding bound
fields_fine w F j n r rest fs no_field = tt
fields_fine w F j n r rest fs (a_field {j = i} {n = m} {A = A} {B = B} {k = k} {fs = gs} c b u p h) =
    (((well_formed_of_reduct c).1.0, omega arith), kind_fine w F (suc i) A k p, fields_fine w F (suc i) m (opened B (local i A)) rest gs h)

ctor_indices_fine : (w : Place) (F : Frame) (T : Name) (c : Ctor) (s : CtorShape) → IsCtor w F T c s → AllWellFormed s.indices
ctor_indices_fine w F T c s h =
    let f : IsWellFormed (apply (const T F.levels) (F.params ++ s.indices)) = rw h.own.spelled at (well_formed_of_reduct h.ends).1 in
    (all_fine_split F.params s.indices (well_formed_of_apply (const T F.levels) (F.params ++ s.indices) f).1).1

ctors_fine : (w : Place) (F : Frame) (T : Name) (cs : List Ctor) (ss : List CtorShape) → AreCtors w F T cs ss → CtorShapesWellFormed ss
ctors_fine w F T cs ss no_ctor = tt
ctors_fine w F T cs ss (a_ctor_more {c = c} {s = s} {cs = ds} {ss = us} h k) =
    (fields_fine w F (length F.params) c.fields h.rest h.last s.fields h.fields, ctor_indices_fine w F T c s h, ctors_fine w F T ds us k)

types_fine : (before w : Place) (F : Frame) (ts : List BlockType) (ss : List TypeShape) → AreTypes before w F ts ss → TypeShapesWellFormed ss
types_fine before w F ts ss no_type = tt
types_fine before w F ts ss (a_type_more {t = t} {s = s} {ts = us} {ss = vs} n o c k) =
    (numbered_fine (length F.params) s.indices (numbered before (length F.params) t.indices o.rest o.last s.indices o.indices), ctors_fine w F t.name t.ctors s.ctors c, types_fine before w F us vs k)

pub shape_fine : (before w : Place) (b : Block) (s : Shape) → IsBlock before w b s → ShapeWellFormed s
shape_fine before w b s h = (numbered_fine 0 s.params (params_numbered before b.types s.params h.params), types_fine before w (frame_of b s.params s.sort) b.types s.types h.types)

-- comparison
and_both : (a b : Bool) → (a && b) ≡ true → (a ≡ true) × (b ≡ true)
and_both true true h = (refl, refl)
and_both true false h = absurd cc
and_both false b h = absurd cc

number_of : (m n : ℕ) → nat_eq m n ≡ true → m ≡ n
number_of m n h = grind (arith, nat_tests)

bool_of : (a b : Bool) → same_bool a b ≡ true → a ≡ b
bool_of true true h = refl
bool_of true false h = absurd cc
bool_of false true h = absurd cc
bool_of false false h = refl

renamed_fine : (stated r : BlockRecursor) (e : Tree) → IsWellFormed e → IsWellFormed (renamed stated r e)
renamed_fine stated r e f = fine_put_levels r.levels (map param stated.levels) 0 e f

sound_rules : (w : Place) (stated r : BlockRecursor) (as_ bs : List RecRule) → same_rules as_ bs ≡ true → RulesStated as_ → ValuesWellFormed bs → IsSound w (rules_steps stated r as_ bs) (λ y. AreRules w stated r as_ bs)
sound_rules w stated r [] [] e f g = no_rule
sound_rules w stated r [] (b ∷ bs) e f g = absurd cc
sound_rules w stated r (a ∷ as_) [] e f g = absurd cc
sound_rules w stated r (a ∷ as_) (b ∷ bs) e f g =
    let t : ((same_name a.ctor b.ctor && nat_eq a.fields b.fields) ≡ true) × (same_rules as_ bs ≡ true) = and_both (same_name a.ctor b.ctor && nat_eq a.fields b.fields) (same_rules as_ bs) e in
    let u : (same_name a.ctor b.ctor ≡ true) × (nat_eq a.fields b.fields ≡ true) = and_both (same_name a.ctor b.ctor) (nat_eq a.fields b.fields) t.0 in (
      f.0.0,
      λ V mV. (
        (f.0.0, renamed_fine stated r b.value g.0),
        λ equal mE. sound_given w equal RecursorDiffers (rules_steps stated r as_ bs) (λ y. AreRules w stated r (a ∷ as_) (b ∷ bs))
            (λ y. sound_map w (rules_steps stated r as_ bs) (λ z. AreRules w stated r as_ bs) (λ z. AreRules w stated r (a ∷ as_) (b ∷ bs))
            (λ z h. a_rule (name_of a.ctor b.ctor u.0) (number_of a.fields b.fields u.1) mV.0 (of_yes equal y mE) h)
            (sound_rules w stated r as_ bs t.1 f.1 g.1)),
      ),
    )

sound_rec : (w : Place) (stated r : BlockRecursor) → stated.name ≡ r.name → IsStated stated.type → RulesStated stated.recursor.rules → IsWellFormed r.type → ValuesWellFormed r.recursor.rules →
    IsSound w (rec_steps stated r) (λ y. IsRec w stated r)
sound_rec w a b n sa ra fb vb =
    sound_given w (same_counts a b) RecursorDiffers _ (λ y. IsRec w a b) (λ e.
    let c1 : _ = and_both (nat_eq a.recursor.parameters b.recursor.parameters && nat_eq a.recursor.indices b.recursor.indices) _ e in
    let c2 : _ = and_both (nat_eq a.recursor.parameters b.recursor.parameters) (nat_eq a.recursor.indices b.recursor.indices) c1.0 in
    let c3 : _ = and_both (nat_eq a.recursor.motives b.recursor.motives && nat_eq a.recursor.minors b.recursor.minors) _ c1.1 in
    let c4 : _ = and_both (nat_eq a.recursor.motives b.recursor.motives) (nat_eq a.recursor.minors b.recursor.minors) c3.0 in
    let c5 : _ = and_both (same_bool a.recursor.k b.recursor.k && nat_eq (length a.levels) (length b.levels)) (same_rules a.recursor.rules b.recursor.rules) c3.1 in
    let c6 : _ = and_both (same_bool a.recursor.k b.recursor.k) (nat_eq (length a.levels) (length b.levels)) c5.0 in
    sound_bind w (sort_of a.type) _ (λ l. HasSort w a.type l) (λ y. IsRec w a b) (sound_sort_of w a.type sa.0)
    (λ l h. (
      (sa.0, renamed_fine a b b.type fb),
      λ equal mE. sound_given w equal RecursorDiffers (rules_steps a b a.recursor.rules b.recursor.rules) (λ y. IsRec w a b)
          (λ y. sound_map w (rules_steps a b a.recursor.rules b.recursor.rules) (λ z. AreRules w a b a.recursor.rules b.recursor.rules) (λ z. IsRec w a b)
          (λ z hr. record {
            name = n;
            parameters = number_of a.recursor.parameters b.recursor.parameters c2.0;
            indices = number_of a.recursor.indices b.recursor.indices c2.1;
            motives = number_of a.recursor.motives b.recursor.motives c4.0;
            minors = number_of a.recursor.minors b.recursor.minors c4.1;
            k = bool_of a.recursor.k b.recursor.k c6.0;
            levels = number_of (length a.levels) (length b.levels) c6.1;
            type_sort = (l, h);
            type = of_yes equal y mE;
            rules = hr;
          })
          (sound_rules w a b a.recursor.rules b.recursor.rules c5.1 ra vb)),
    )))

-- the recomputed recursor of a name
abbrev IfNamed : Name → List BlockRecursor → Option BlockRecursor → Type 0
IfNamed c rs None = Unit {0}
IfNamed c rs (Some r) = (c ≡ r.name) × IsWellFormed r.type × ValuesWellFormed r.recursor.rules × ((w : Place) (s : BlockRecursor) → IsRec w s r → IsOneOf w s rs)

if_named : (rs : List BlockRecursor) (c : Name) → RecsWellFormed rs → IfNamed c rs (rec_named rs c)
if_named [] c f = tt
if_named (r ∷ rs) c f = go (same_name r.name c) refl (if_named rs c f.1)
  where
    more : (o : Option BlockRecursor) → IfNamed c rs o → IfNamed c (r ∷ rs) o
    more None h = tt
    more (Some x) h = (h.0, h.1, h.2, λ w s i. inr (h.3 w s i))

    go : (b : Bool) → same_name r.name c ≡ b → IfNamed c rs (rec_named rs c) → IfNamed c (r ∷ rs) (elim b as (λ y. Option BlockRecursor) [ true ↦ Some r | false ↦ rec_named rs c ])
    go true e h = let n : r.name ≡ c = name_of r.name c e in (rw n refl, f.0.0, f.0.1, λ w s i. inl i)
    go false e h = more (rec_named rs c) h

sound_found : (w : Place) (rs : List BlockRecursor) (s : BlockRecursor) (o : Option BlockRecursor) → IfNamed s.name rs o → IsStated s.type → RulesStated s.recursor.rules → IsSound w (compare_found s o) (λ y. IsOneOf w s rs)
sound_found w rs s (Some r) h st ru = sound_map w (rec_steps s r) (λ y. IsRec w s r) (λ y. IsOneOf w s rs) (λ y i. h.3 w s i) (sound_rec w s r h.0 st ru h.1 h.2)
sound_found w rs s None h st ru = tt

pub sound_compare : (w : Place) (rs ss : List BlockRecursor) → RecsWellFormed rs → RecsStated ss → IsSound w (compare_steps rs ss) (λ y. AreRecs w rs ss)
sound_compare w rs [] f st = tt
sound_compare w rs (s ∷ ss) f st =
    sound_bind w (compare_found s (rec_named rs s.name)) _ (λ y. IsOneOf w s rs) (λ y. AreRecs w rs (s ∷ ss))
    (sound_found w rs s (rec_named rs s.name) (if_named rs s.name f) st.0.0 st.0.1)
    (λ y h. sound_map w (compare_steps rs ss) (λ y. AreRecs w rs ss) (λ y. AreRecs w rs (s ∷ ss)) (λ z k. (h, k)) (sound_compare w rs ss f st.1))

-- sorts of constructors
sound_ctor_sorts : (w : Place) (cs : List Ctor) → CtorsStated cs → IsSound w (ctor_sorts cs) (λ ls. CtorsSorted w cs)
sound_ctor_sorts w [] st = tt
sound_ctor_sorts w (c ∷ cs) st =
    sound_bind w (sort_of c.type) _ (λ l. HasSort w c.type l) (λ ls. CtorsSorted w (c ∷ cs)) (sound_sort_of w c.type st.0.0)
    (λ l h. sound_bind w (ctor_sorts cs) _ (λ ls. CtorsSorted w cs) (λ ls. CtorsSorted w (c ∷ cs)) (sound_ctor_sorts w cs st.1) (λ ls k. ((l, h), k)))

pub sound_all_ctor_sorts : (w : Place) (ts : List BlockType) → TypesStated ts → IsSound w (all_ctor_sorts ts) (λ ls. AllCtorsSorted w ts)
sound_all_ctor_sorts w [] st = tt
sound_all_ctor_sorts w (t ∷ ts) st =
    sound_bind w (ctor_sorts t.ctors) _ (λ ls. CtorsSorted w t.ctors) (λ ls. AllCtorsSorted w (t ∷ ts)) (sound_ctor_sorts w t.ctors st.0.1)
    (λ l h. sound_bind w (all_ctor_sorts ts) _ (λ ls. AllCtorsSorted w ts) (λ ls. AllCtorsSorted w (t ∷ ts)) (sound_all_ctor_sorts w ts st.1) (λ ls k. (h, k)))

pub types_sorted : (w : Place) (F : Frame) (ts : List BlockType) (xs : List (List Tree)) → AreFound w F ts xs → TypesSorted w ts
types_sorted w F ts xs none_found = tt
types_sorted w F ts xs (one_found {ts = us} {xss = ys} g h) = (g.sorted, types_sorted w F us ys h)

-- what is partial is well stated
pub type_entries_stated : (b : Block) (ts : List BlockType) → TypesStated b.types → TypesStated ts → MembersStated (type_entries b ts)
type_entries_stated b [] all st = tt
type_entries_stated b (t ∷ ts) all st = ((st.0.0, (st.0, all)), type_entries_stated b ts all st.1)

ctor_entries_stated : (b : Block) (t : BlockType) (cs : List Ctor) → CtorsStated cs → ((c : Ctor) → IsListed c cs → IsListed c t.ctors) → MembersStated (ctor_entries b t cs)
ctor_entries_stated b t [] st i = tt
ctor_entries_stated b t (c ∷ cs) st i = ((st.0, (st.0, i c (inl refl))), ctor_entries_stated b t cs st.1 (λ d h. i d (inr h)))

pub all_ctor_entries_stated : (b : Block) (ts : List BlockType) → TypesStated ts → MembersStated (all_ctor_entries b ts)
all_ctor_entries_stated b [] st = tt
all_ctor_entries_stated b (t ∷ ts) st =
    stated_append (ctor_entries b t t.ctors) (all_ctor_entries b ts) (ctor_entries_stated b t t.ctors st.0.1 (λ c h. h)) (all_ctor_entries_stated b ts st.1)

pub rec_entries_stated : (rs : List BlockRecursor) → RecsStated rs → MembersStated (rec_entries rs)
rec_entries_stated [] st = tt
rec_entries_stated (r ∷ rs) st = ((st.0.0, tt), rec_entries_stated rs st.1)
