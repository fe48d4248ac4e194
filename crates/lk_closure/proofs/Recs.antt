-- The recomputed recursors are over a set of names, and so is their comparison with the stated ones.
use Rattle.std.proofs.Common.{ℕ, suc, ◌+◌, ◌++◌, length, map, Bool, true, false, List, [], ◌∷◌, Some, None, Option, if◌then◌else◌}
use Rattle.lk_tree.specs.Tree.{Name, Level, param, Tree, var, sort, const, app, lam, pi, let_in, proj, lit, wide, str, local}
use Rattle.lk_tree.specs.declared.rule.Rule.TheVariants.{RecursorDiffers}
use Rattle.lk_tree.specs.Spine.{apply}
use Rattle.lk_rulebook.specs.Place.{BlockRecursor, RecRule, Ctor}
use Rattle.lk_tree.specs.Mentions.{same_name}
use Rattle.lk_questions.specs.Query.{same}
use Rattle.lk_questions.specs.Program.{asked, ◌>>=◌}
use Rattle.lk_questions.specs.Steps.{given, is_same_tree, sort_of}
use Rattle.lk_inductive.specs.Block.{FieldKind, plain, recursive, Field, CtorShape, TypeShape, Shape}
use Rattle.lk_inductive.specs.BlockSteps.{after_params}
use Rattle.lk_inductive.specs.Recursors.{number, pis, lams, arrows, locals_from, shape_bound, elim_level, rec_params, rec_name, at_params, motive_type, motives, motive_in, motive_of, variables, with_hypothesis, hypotheses, minor_type, minor_types, minors, front, Restoring, major, rec_body, rec_type, with_induction, inductions, rule_body, rule_value, rules_of, past_minors, recs_from, recursors_by, as_they_are, recursors}
use Rattle.lk_inductive.specs.Nested.{Aux, Setting}
use Rattle.lk_inductive.specs.Restore.{Original, applied_to, renamed_as, ctors_stand, rec_numbered, all_stand, stands_for, put_at, after_own, put_back, restore, restoring}
use Rattle.lk_inductive.specs.Compare.{renamed, same_counts, rules_steps, rec_named, compare_found, compare_steps}
use Rattle.lk_closure.proofs.Names.{Over, AllOver, CtorsOver}
use Rattle.lk_closure.proofs.Within.{Within}
use Rattle.lk_closure.proofs.Trees.{over_close, over_levels, over_apply, over_append}
use Rattle.lk_closure.proofs.Pieces.{Any, within_bind, within_given, within_sort_of}
use Rattle.lk_closure.proofs.Shapes.{FieldKindOver, FieldsOver, CtorShapeOver, CtorShapesOver, TypeShapesOver, ShapeOver, ListOver, over_after, over_domain}
use Rattle.lk_closure.proofs.Nests.{AuxsOver, over_pis}

over_lams : (P : Name → Type 0) (xs : List Tree) (e : Tree) → AllOver P xs → Over P e → Over P (lams xs e)
over_lams P [] e os h = h
over_lams P (x ∷ xs) e os h = (over_domain P x os.0, over_close P 0 (number x) (lams xs e) (over_lams P xs e os.1 h))

over_arrows : (P : Name → Type 0) (xs : List Tree) (e : Tree) → AllOver P xs → Over P e → Over P (arrows xs e)
over_arrows P [] e os h = h
over_arrows P (x ∷ xs) e os h = (os.0, over_arrows P xs e os.1 h)

over_locals : (P : Name → Type 0) (k : ℕ) (xs : List Tree) → AllOver P xs → AllOver P (locals_from k xs)
over_locals P k [] h = tt
over_locals P k (x ∷ xs) h = (h.0, over_locals P (suc k) xs h.1)

over_at_params : (P : Name → Type 0) (s : Shape) (c : Name) → AllOver P s.params → P c → Over P (at_params s c)
over_at_params P s c os h = over_apply P (const c (map param s.levels)) s.params h os

over_motive_types : (P : Name → Type 0) (s : Shape) (ts : List TypeShape) → AllOver P s.params → TypeShapesOver P ts → AllOver P (map (motive_type s) ts)
over_motive_types P s [] op h = tt
over_motive_types P s (t ∷ ts) op h = (
  over_pis P t.indices (pi (apply (at_params s t.name) t.indices) (sort (elim_level s))) h.0.1.0 (over_apply P (at_params s t.name) t.indices (over_at_params P s t.name op h.0.0) h.0.1.0, tt),
  over_motive_types P s ts op h.1,
)

over_motives : (P : Name → Type 0) (s : Shape) → ShapeOver P s → AllOver P (motives s)
over_motives P s h = over_locals P (shape_bound s) (map (motive_type s) s.types) (over_motive_types P s s.types h.0 h.1)

tree_if : (P : Name → Type 0) (b : Bool) (x y : Tree) → Over P x → Over P y → Over P (if b then x else y)
tree_if P true x y h i = h
tree_if P false x y h i = i

over_motive_in : (P : Name → Type 0) (ts : List TypeShape) (cs : List Tree) (T : Name) → AllOver P cs → P T → Over P (motive_in ts cs T)
over_motive_in P (t ∷ ts) (C ∷ Cs) T os h = tree_if P (same_name t.name T) C (motive_in ts Cs T) os.0 (over_motive_in P ts Cs T os.1 h)
over_motive_in P [] Cs T os h = h
over_motive_in P (t ∷ ts) [] T os h = h

over_motive_of : (P : Name → Type 0) (s : Shape) (T : Name) → ShapeOver P s → P T → Over P (motive_of s T)
over_motive_of P s T h n = over_motive_in P s.types (motives s) T (over_motives P s h) n

over_variables : (P : Name → Type 0) (fs : List Field) → FieldsOver P fs → AllOver P (variables fs)
over_variables P [] h = tt
over_variables P (f ∷ fs) h = (h.0.0, over_variables P fs h.1)

over_hypothesis : (P : Name → Type 0) (s : Shape) (x : Tree) (k : FieldKind) (rest : List Tree) → ShapeOver P s → Over P x → FieldKindOver P k → AllOver P rest → AllOver P (with_hypothesis s x k rest)
over_hypothesis P s x plain rest h ox ok os = os
over_hypothesis P s x (recursive ys T is) rest h ox ok os = (
  over_pis P ys (app (apply (motive_of s T) is) (apply x ys)) ok.0.0 (over_apply P (motive_of s T) is (over_motive_of P s T h ok.0.1.0) ok.1, over_apply P x ys ox ok.0.0),
  os,
)

over_hypotheses : (P : Name → Type 0) (s : Shape) (fs : List Field) → ShapeOver P s → FieldsOver P fs → AllOver P (hypotheses s fs)
over_hypotheses P s [] h os = tt
over_hypotheses P s (f ∷ fs) h os = over_hypothesis P s f.variable f.kind (hypotheses s fs) h os.0.0 os.0.1 (over_hypotheses P s fs h os.1)

over_minor : (P : Name → Type 0) (s : Shape) (t : TypeShape) (c : CtorShape) → ShapeOver P s → P t.name → CtorShapeOver P c → Over P (minor_type s t c)
over_minor P s t c h n o =
    over_pis P (variables c.fields) (arrows (hypotheses s c.fields) (app (apply (motive_of s t.name) c.indices) (apply (at_params s c.name) (variables c.fields)))) (over_variables P c.fields o.1.0)
    (over_arrows P (hypotheses s c.fields) (app (apply (motive_of s t.name) c.indices) (apply (at_params s c.name) (variables c.fields))) (over_hypotheses P s c.fields h o.1.0)
    (over_apply P (motive_of s t.name) c.indices (over_motive_of P s t.name h n) o.1.1, over_apply P (at_params s c.name) (variables c.fields) (over_at_params P s c.name h.0 o.0) (over_variables P c.fields o.1.0)))

over_minors_at : (P : Name → Type 0) (s : Shape) (t : TypeShape) (cs : List CtorShape) → ShapeOver P s → P t.name → CtorShapesOver P cs → AllOver P (map (minor_type s t) cs)
over_minors_at P s t [] h n o = tt
over_minors_at P s t (c ∷ cs) h n o = (over_minor P s t c h n o.0, over_minors_at P s t cs h n o.1)

over_minor_types : (P : Name → Type 0) (s : Shape) (ts : List TypeShape) → ShapeOver P s → TypeShapesOver P ts → AllOver P (minor_types s ts)
over_minor_types P s [] h o = tt
over_minor_types P s (t ∷ ts) h o = over_append P (map (minor_type s t) t.ctors) (minor_types s ts) (over_minors_at P s t t.ctors h o.0.0 o.0.1.1) (over_minor_types P s ts h o.1)

over_minors : (P : Name → Type 0) (s : Shape) → ShapeOver P s → AllOver P (minors s)
over_minors P s h = over_locals P (shape_bound s + length s.types) (minor_types s s.types) (over_minor_types P s s.types h h.1)

over_both : (P : Name → Type 0) (s : Shape) → ShapeOver P s → AllOver P (motives s ++ minors s)
over_both P s h = over_append P (motives s) (minors s) (over_motives P s h) (over_minors P s h)

-- what restoring a tree restore keeps
abbrev KeepsTrees : (Name → Type 0) → Restoring → Type 0
KeepsTrees P w = (e : Tree) → Over P e → Over P (w.tree e)

over_rec_type : (P : Name → Type 0) (w : Restoring) (s : Shape) (t : TypeShape) → KeepsTrees P w → ShapeOver P s → P t.name → AllOver P t.indices → Over P (rec_type w s t)
over_rec_type P w s t r h n os =
    let om : Over P (major s t) = over_apply P (at_params s t.name) t.indices (over_at_params P s t.name h.0 n) os in
    over_pis P s.params (w.tree (rec_body s t)) h.0 (r (rec_body s t)
    (over_pis P (motives s ++ minors s) (pis t.indices (pis (major s t ∷ []) (app (apply (motive_of s t.name) t.indices) (major s t)))) (over_both P s h)
    (over_pis P t.indices (pis (major s t ∷ []) (app (apply (motive_of s t.name) t.indices) (major s t))) os
    (over_pis P (major s t ∷ []) (app (apply (motive_of s t.name) t.indices) (major s t)) (om, tt) (over_apply P (motive_of s t.name) t.indices (over_motive_of P s t.name h n) os, om)))))

over_induction : (P : Name → Type 0) (s : Shape) (x : Tree) (k : FieldKind) (rest : List Tree) → ShapeOver P s → Over P x → FieldKindOver P k → AllOver P rest → AllOver P (with_induction s x k rest)
over_induction P s x plain rest h ox ok os = os
over_induction P s x (recursive ys T is) rest h ox ok os = (
  over_lams P ys (app (apply (apply (const (rec_name T) (map param (rec_params s))) (front s)) is) (apply x ys)) ok.0.0 (
    over_apply P (apply (const (rec_name T) (map param (rec_params s))) (front s)) is
        (over_apply P (const (rec_name T) (map param (rec_params s))) (front s) ok.0.1.1 (over_append P s.params (motives s ++ minors s) h.0 (over_both P s h))) ok.1,
    over_apply P x ys ox ok.0.0,
  ),
  os,
)

over_inductions : (P : Name → Type 0) (s : Shape) (fs : List Field) → ShapeOver P s → FieldsOver P fs → AllOver P (inductions s fs)
over_inductions P s [] h os = tt
over_inductions P s (f ∷ fs) h os = over_induction P s f.variable f.kind (inductions s fs) h os.0.0 os.0.1 (over_inductions P s fs h os.1)

over_rule : (P : Name → Type 0) (w : Restoring) (s : Shape) (minor : Tree) (c : CtorShape) → KeepsTrees P w → ShapeOver P s → Over P minor → CtorShapeOver P c → Over P (rule_value w s minor c)
over_rule P w s minor c r h om oc =
    over_lams P s.params (w.tree (rule_body s minor c)) h.0 (r (rule_body s minor c)
    (over_lams P (motives s ++ minors s) (lams (variables c.fields) (apply (apply minor (variables c.fields)) (inductions s c.fields))) (over_both P s h)
    (over_lams P (variables c.fields) (apply (apply minor (variables c.fields)) (inductions s c.fields)) (over_variables P c.fields oc.1.0)
    (over_apply P (apply minor (variables c.fields)) (inductions s c.fields) (over_apply P minor (variables c.fields) om (over_variables P c.fields oc.1.0)) (over_inductions P s c.fields h oc.1.0)))))

-- the values of rules
abbrev pub ValuesOver : (Name → Type 0) → List RecRule → Type 0
ValuesOver P [] = Unit {0}
ValuesOver P (r ∷ rs) = Over P r.value × ValuesOver P rs

abbrev pub RecTreesOver : (Name → Type 0) → List BlockRecursor → Type 0
RecTreesOver P [] = Unit {0}
RecTreesOver P (r ∷ rs) = (Over P r.type × ValuesOver P r.recursor.rules) × RecTreesOver P rs

over_rules : (P : Name → Type 0) (w : Restoring) (s : Shape) (ms : List Tree) (cs : List CtorShape) → KeepsTrees P w → ShapeOver P s → AllOver P ms → CtorShapesOver P cs → ValuesOver P (rules_of w s ms cs)
over_rules P w s (m ∷ ms) (c ∷ cs) r h om oc = (over_rule P w s m c r h om.0 oc.0, over_rules P w s ms cs r h om.1 oc.1)
over_rules P w s [] cs r h om oc = tt
over_rules P w s (m ∷ ms) [] r h om oc = tt

over_past : (P : Name → Type 0) (cs : List CtorShape) (ms : List Tree) → AllOver P ms → AllOver P (past_minors cs ms)
over_past P [] ms h = h
over_past P (c ∷ cs) [] h = tt
over_past P (c ∷ cs) (m ∷ ms) h = over_past P cs ms h.1

over_recs_from : (P : Name → Type 0) (w : Restoring) (s : Shape) (ms : List Tree) (ts : List TypeShape) → KeepsTrees P w → ShapeOver P s → AllOver P ms → TypeShapesOver P ts → RecTreesOver P (recs_from w s ms ts)
over_recs_from P w s ms [] r h om ot = tt
over_recs_from P w s ms (t ∷ ts) r h om ot = (
  (over_rec_type P w s t r h ot.0.0 ot.0.1.0, over_rules P w s ms t.ctors r h om ot.0.1.1),
  over_recs_from P w s (past_minors t.ctors ms) ts r h (over_past P t.ctors ms om) ot.1,
)

-- what stands for auxiliary things
abbrev StandsOver : (Name → Type 0) → Original → Type 0
StandsOver P (applied_to J ls bs) = P J × AllOver P bs
StandsOver P (renamed_as R) = P R

abbrev IfStands : (Name → Type 0) → Option Original → Type 0
IfStands P None = Unit {0}
IfStands P (Some s) = StandsOver P s

abbrev AllStand : (Name → Type 0) → List (Name × Original) → Type 0
AllStand P [] = Unit {0}
AllStand P (m ∷ ms) = StandsOver P m.1 × AllStand P ms

stand_append : (P : Name → Type 0) (xs ys : List (Name × Original)) → AllStand P xs → AllStand P ys → AllStand P (xs ++ ys)
stand_append P [] ys h i = i
stand_append P (x ∷ xs) ys h i = (h.0, stand_append P xs ys h.1 i)

ctors_stand_over : (P : Name → Type 0) (i : ℕ) (a : Aux) (cs : List Ctor) → AllOver P a.args → CtorsOver P cs → AllStand P (ctors_stand i a cs)
ctors_stand_over P i a [] os h = tt
ctors_stand_over P i a (c ∷ cs) os h = ((h.0.0, os), ctors_stand_over P i a cs os h.1)

all_stand_over : (P : Name → Type 0) (T : Name) (i : ℕ) (as_ : List Aux) → ((k : ℕ) → P (rec_numbered T (suc k))) → AuxsOver P as_ → AllStand P (all_stand T i as_)
all_stand_over P T i [] n h = tt
all_stand_over P T i (a ∷ as_) n h =
    ((h.0.0.0, h.0.1.0), (n i, stand_append P (ctors_stand i a a.own.ctors) (all_stand T (suc i) as_) (ctors_stand_over P i a a.own.ctors h.0.1.0 h.0.0.1) (all_stand_over P T (suc i) as_ n h.1)))

stands_if : (P : Name → Type 0) (b : Bool) (x y : Option Original) → IfStands P x → IfStands P y → IfStands P (if b then x else y)
stands_if P true x y h i = h
stands_if P false x y h i = i

stands_for_over : (P : Name → Type 0) (ms : List (Name × Original)) (c : Name) → AllStand P ms → IfStands P (stands_for ms c)
stands_for_over P [] c h = tt
stands_for_over P (m ∷ ms) c h = stands_if P (same_name m.0 c) (Some m.1) (stands_for ms c) h.0 (stands_for_over P ms c h.1)

over_put_at : (P : Name → Type 0) (c : Name) (ls : List Level) (xs : List Tree) (J : Name) (ks : List Level) (bs : List Tree) (o : Option (List Tree)) → P c → AllOver P xs → P J → AllOver P bs → ListOver P o → Over P (put_at c ls xs J ks bs o)
over_put_at P c ls xs J ks bs (Some rest) n os h ob or = over_apply P (apply (const J ks) bs) rest (over_apply P (const J ks) bs h ob) or
over_put_at P c ls xs J ks bs None n os h ob or = over_apply P (const c ls) xs n os

over_after_if : (P : Name → Type 0) (b : Bool) (o : Option (List Tree)) → ListOver P o → ListOver P (if b then o else None)
over_after_if P true o h = h
over_after_if P false o h = tt

over_after_own : (P : Name → Type 0) (t : Setting) (c : Name) (ls : List Level) (xs : List Tree) → AllOver P xs → ListOver P (after_own t c ls xs)
over_after_own P t c ls xs os = over_after_if P (is_same_tree (const c ls) (const c (map param t.levels))) (after_params t.params xs) (over_after P t.params xs os)

over_put_back : (P : Name → Type 0) (t : Setting) (c : Name) (ls : List Level) (xs : List Tree) (o : Option Original) → P c → AllOver P xs → IfStands P o → Over P (put_back t c ls xs o)
over_put_back P t c ls xs (Some (applied_to J ks bs)) n os h = over_put_at P c ls xs J ks bs (after_own t c ls xs) n os h.0 h.1 (over_after_own P t c ls xs os)
over_put_back P t c ls xs (Some (renamed_as R)) n os h = over_apply P (const R ls) xs h os
over_put_back P t c ls xs None n os h = over_apply P (const c ls) xs n os

over_back : (P : Name → Type 0) (ms : List (Name × Original)) (t : Setting) (e : Tree) (xs : List Tree) → AllStand P ms → Over P e → AllOver P xs → Over P (restore ms t e xs)
over_back P ms t (app f a) xs m h os = over_back P ms t f (restore ms t a [] ∷ xs) m h.0 (over_back P ms t a [] m h.1 tt, os)
over_back P ms t (const c ls) xs m h os = over_put_back P t c ls xs (stands_for ms c) h os (stands_for_over P ms c m)
over_back P ms t (lam A b) xs m h os = over_apply P (lam (restore ms t A []) (restore ms t b [])) xs (over_back P ms t A [] m h.0 tt, over_back P ms t b [] m h.1 tt) os
over_back P ms t (pi A b) xs m h os = over_apply P (pi (restore ms t A []) (restore ms t b [])) xs (over_back P ms t A [] m h.0 tt, over_back P ms t b [] m h.1 tt) os
over_back P ms t (let_in A v b) xs m h os =
    over_apply P (let_in (restore ms t A []) (restore ms t v []) (restore ms t b [])) xs (over_back P ms t A [] m h.0 tt, over_back P ms t v [] m h.1 tt, over_back P ms t b [] m h.2 tt) os
over_back P ms t (proj S i e) xs m h os = over_apply P (proj S i (restore ms t e [])) xs (over_back P ms t e [] m h tt) os
over_back P ms t (var i) xs m h os = over_apply P (var i) xs h os
over_back P ms t (sort l) xs m h os = over_apply P (sort l) xs h os
over_back P ms t (lit n) xs m h os = over_apply P (lit n) xs h os
over_back P ms t wide xs m h os = over_apply P wide xs h os
over_back P ms t (str s) xs m h os = over_apply P (str s) xs h os
over_back P ms t (local k T) xs m h os = over_apply P (local k T) xs h os

-- the recursors of the larger block, read restore
pub over_recursors : (P : Name → Type 0) (T : Name) (as_ : List Aux) (t : Setting) (s : Shape) → ((k : ℕ) → P (rec_numbered T (suc k))) → AuxsOver P as_ → ShapeOver P s →
    RecTreesOver P (recursors_by (restoring (all_stand T 0 as_) t) s)
over_recursors P T as_ t s n oa h =
    over_recs_from P (restoring (all_stand T 0 as_) t) s (minors s) s.types (λ e o. over_back P (all_stand T 0 as_) t e [] (all_stand_over P T 0 as_ n oa) o tt) h (over_minors P s h) h.1

-- the recursors of a shape as they are
pub over_own_recursors : (P : Name → Type 0) (s : Shape) → ShapeOver P s → RecTreesOver P (recursors s)
over_own_recursors P s h = over_recs_from P as_they_are s (minors s) s.types (λ e o. o) h (over_minors P s h) h.1

-- the comparison
within_rules : (P : Name → Type 0) (stated r : BlockRecursor) (as_ bs : List RecRule) → ValuesOver P as_ → ValuesOver P bs → Within P (rules_steps stated r as_ bs) Any
within_rules P stated r (a ∷ as_) (b ∷ bs) h i = (
  h.0,
  λ V oV. ((h.0, over_levels P r.levels (map param stated.levels) b.value i.0), λ equal x. within_given P equal RecursorDiffers (rules_steps stated r as_ bs) Any (within_rules P stated r as_ bs h.1 i.1)),
)
within_rules P stated r [] bs h i = tt
within_rules P stated r (a ∷ as_) [] h i = tt

abbrev IfRec : (Name → Type 0) → Option BlockRecursor → Type 0
IfRec P None = Unit {0}
IfRec P (Some r) = Over P r.type × ValuesOver P r.recursor.rules

rec_named_over : (P : Name → Type 0) (rs : List BlockRecursor) (c : Name) → RecTreesOver P rs → IfRec P (rec_named rs c)
rec_named_over P [] c h = tt
rec_named_over P (r ∷ rs) c h = go (same_name r.name c) (rec_named_over P rs c h.1)
  where
    go : (b : Bool) → IfRec P (rec_named rs c) → IfRec P (elim b as (λ x. Option BlockRecursor) [ true ↦ Some r | false ↦ rec_named rs c ])
    go true i = h.0
    go false i = i

within_compare_found : (P : Name → Type 0) (stated : BlockRecursor) (o : Option BlockRecursor) → Over P stated.type → ValuesOver P stated.recursor.rules → IfRec P o → Within P (compare_found stated o) Any
within_compare_found P stated (Some r) ot ov h =
    within_given P (same_counts stated r) RecursorDiffers (sort_of stated.type >>= λ l. asked (same stated.type (renamed stated r r.type)) >>= λ equal. given equal RecursorDiffers (rules_steps stated r stated.recursor.rules r.recursor.rules)) Any
    (within_bind P (sort_of stated.type) (λ l. asked (same stated.type (renamed stated r r.type)) >>= λ equal. given equal RecursorDiffers (rules_steps stated r stated.recursor.rules r.recursor.rules)) Any Any (within_sort_of P stated.type ot)
    (λ l a. (
      (ot, over_levels P r.levels (map param stated.levels) r.type h.0),
      λ equal x. within_given P equal RecursorDiffers (rules_steps stated r stated.recursor.rules r.recursor.rules) Any
          (within_rules P stated r stated.recursor.rules r.recursor.rules ov h.1),
    )))
within_compare_found P stated None ot ov h = tt

pub within_compare : (P : Name → Type 0) (rs ss : List BlockRecursor) → RecTreesOver P rs → RecTreesOver P ss → Within P (compare_steps rs ss) Any
within_compare P rs [] h i = tt
within_compare P rs (s ∷ ss) h i =
    within_bind P (compare_found s (rec_named rs s.name)) (λ y. compare_steps rs ss) Any Any (within_compare_found P s (rec_named rs s.name) i.0.0 i.0.1 (rec_named_over P rs s.name h))
    (λ y a. within_compare P rs ss h i.1)
