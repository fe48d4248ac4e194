-- The larger block keeps to a set of names that has those of auxiliary things.
use Rattle.std.proofs.Common.{ℕ, zero, suc, ◌+◌, ◌||◌, ◌++◌, length, map, nat_eq, Bool, true, false, List, [], ◌∷◌, Some, None, Option, if◌then◌else◌, refl, inl, inr}
use Rattle.std.specs.Prelude.{nat_le}
use Rattle.lk_tree.specs.Tree.{Name, Level, param, Tree, var, sort, const, app, lam, pi, let_in, proj, lit, wide, str, local}
use Rattle.lk_tree.specs.declared.rule.Rule.TheVariants.{BlockShape, NestedForm, LevelCount, UnknownConstant}
use Rattle.lk_tree.specs.LevelTest.{level_test}
use Rattle.lk_tree.specs.Levels.{put_levels}
use Rattle.lk_tree.specs.Bind.{opened, close}
use Rattle.lk_tree.specs.Spine.{head, args}
use Rattle.lk_rulebook.specs.Place.{Kind, Block, BlockType, Ctor, a_type}
use Rattle.lk_tree.specs.Mentions.{is_one_of, same_name}
use Rattle.lk_questions.specs.Program.{Program, done, look, ◌>>=◌}
use Rattle.lk_questions.specs.Steps.{given}
use Rattle.lk_questions.specs.Levels.{tested}
use Rattle.lk_inductive.specs.BlockSteps.{as_level, mention_none}
use Rattle.lk_inductive.specs.Recursors.{number, pis, rec_name}
use Rattle.lk_inductive.specs.Nested.{Aux, Setting, aux_name, aux_ctor, may_nest, aux_at, has_pis, past_pis, at_args, stated_pis, ctors_at, aux_of, others_of, family_of, other_count, aux_applied, met, replaced, at_kind, at_head, nest, holds_kind, holds_head, either_holds, holds_nested, nest_past, held_ctor, own_ctor, own_ctors, own_types, aux_ctors, aux_from, aux_type, next_aux, aux_types, Larger, enlarge, aux_sorts}
use Rattle.lk_inductive.specs.NestedRelation.{IsMarked}
use Rattle.lk_closure.proofs.Names.{Over, AllOver, KindOver, CtorsOver, TypeOver, TypesOver}
use Rattle.lk_closure.proofs.Within.{Within}
use Rattle.lk_closure.proofs.Over.{TypesGive}
use Rattle.lk_closure.proofs.Trees.{over_open, over_close, over_levels, over_apply, over_head, over_args}
use Rattle.lk_closure.proofs.Pieces.{Any, within_bind, within_given, within_if, within_tested}
use Rattle.lk_closure.proofs.Shapes.{ScopeOver, within_as_level, over_domain}

abbrev pub HasMarked : (Name → Type 0) → Type 0
HasMarked P = (c : Name) → IsMarked c → P c

abbrev pub AuxOver : (Name → Type 0) → Aux → Type 0
AuxOver P a = (P a.name × CtorsOver P a.own.ctors) × (AllOver P a.args × (Over P a.type × (AllOver P a.indices × AllOver P a.ctors)))

abbrev pub AuxsOver : (Name → Type 0) → List Aux → Type 0
AuxsOver P [] = Unit {0}
AuxsOver P (a ∷ as_) = AuxOver P a × AuxsOver P as_

auxs_append : (P : Name → Type 0) (xs ys : List Aux) → AuxsOver P xs → AuxsOver P ys → AuxsOver P (xs ++ ys)
auxs_append P [] ys h i = i
auxs_append P (x ∷ xs) ys h i = (h.0, auxs_append P xs ys h.1 i)

within_past_pis : (P : Name → Type 0) (xs : List Tree) (e : Tree) → AllOver P xs → Over P e → Within P (past_pis xs e) (Over P)
within_past_pis P [] e os h = h
within_past_pis P (x ∷ xs) (pi A B) os h = within_past_pis P xs (opened B x) os.1 (over_open P 0 x B h.1 os.0)
within_past_pis P (x ∷ xs) _ os h = tt

within_at_args : (P : Name → Type 0) (ls : List Level) (bs : List Tree) (us : List Name) (e : Tree) → AllOver P bs → Over P e → Within P (at_args ls bs us e) (Over P)
within_at_args P ls bs us e os h =
    within_given P (nat_eq (length ls) (length us)) LevelCount (given (has_pis (length bs) e) BlockShape (past_pis bs (put_levels us ls e))) (Over P)
    (within_given P (has_pis (length bs) e) BlockShape (past_pis bs (put_levels us ls e)) (Over P) (within_past_pis P bs (put_levels us ls e) os (over_levels P us ls e h)))

within_stated_pis : (P : Name → Type 0) (j n : ℕ) (r : Tree) → Over P r → Within P (stated_pis j n r) (ScopeOver P)
within_stated_pis P j zero r h = (tt, h)
within_stated_pis P j (suc n) (pi A B) h =
    within_bind P (stated_pis (suc j) n (opened B (local j A))) (λ t. done (local j A ∷ t.0, t.1)) (ScopeOver P) (ScopeOver P)
    (within_stated_pis P (suc j) n (opened B (local j A)) (over_open P 0 (local j A) B h.1 h.0)) (λ t o. ((h.0, o.0), o.1))
within_stated_pis P j (suc n) _ h = tt

within_ctors_at : (P : Name → Type 0) (ls : List Level) (bs : List Tree) (cs : List Ctor) → AllOver P bs → CtorsOver P cs → Within P (ctors_at ls bs cs) (AllOver P)
within_ctors_at P ls bs [] os h = tt
within_ctors_at P ls bs (c ∷ cs) os h =
    within_bind P (at_args ls bs c.levels c.type) (λ r. ctors_at ls bs cs >>= λ rs. done (r ∷ rs)) (Over P) (AllOver P) (within_at_args P ls bs c.levels c.type os h.0.1)
    (λ r or. within_bind P (ctors_at ls bs cs) (λ rs. done (r ∷ rs)) (AllOver P) (AllOver P) (within_ctors_at P ls bs cs os h.1) (λ rs ors. (or, ors)))

within_aux_of : (P : Name → Type 0) (s : Setting) (ls : List Level) (bs : List Tree) (c : Name) (t : BlockType) → AllOver P bs → P c → TypeOver P t → Within P (aux_of s ls bs c t) (AuxOver P)
within_aux_of P s ls bs c t os n h =
    within_bind P (at_args ls bs t.levels t.type) (λ r. stated_pis (length s.params) t.indices r >>= λ x. as_level x.1 >>= λ l. ctors_at ls bs t.ctors >>= λ cs. done (record { name = c; own = t; levels = ls; args = bs; type = r; indices = x.0; sort = l; ctors = cs })) (Over P) (AuxOver P)
    (within_at_args P ls bs t.levels t.type os h.1.0)
    (λ r or. within_bind P (stated_pis (length s.params) t.indices r) (λ x. as_level x.1 >>= λ l. ctors_at ls bs t.ctors >>= λ cs. done (record { name = c; own = t; levels = ls; args = bs; type = r; indices = x.0; sort = l; ctors = cs })) (ScopeOver P) (AuxOver P)
    (within_stated_pis P (length s.params) t.indices r or)
    (λ x ox. within_bind P (as_level x.1) (λ l. ctors_at ls bs t.ctors >>= λ cs. done (record { name = c; own = t; levels = ls; args = bs; type = r; indices = x.0; sort = l; ctors = cs })) Any (AuxOver P) (within_as_level P x.1)
    (λ l a. within_bind P (ctors_at ls bs t.ctors) (λ cs. done (record { name = c; own = t; levels = ls; args = bs; type = r; indices = x.0; sort = l; ctors = cs })) (AllOver P) (AuxOver P) (within_ctors_at P ls bs t.ctors os h.1.1)
    (λ cs ocs. ((n, h.1.1), (os, (or, (ox.0, ocs))))))))

within_others : (P : Name → Type 0) (s : Setting) (ls : List Level) (bs : List Tree) (J : Name) (ts : List BlockType) → AllOver P bs → TypesOver P ts → Within P (others_of s ls bs J ts) (AuxsOver P)
within_others P s ls bs J [] os h = tt
within_others P s ls bs J (t ∷ ts) os h =
    within_if P (same_name J t.name) (others_of s ls bs J ts) (aux_of s ls bs t.name t >>= λ a. others_of s ls bs J ts >>= λ as_. done (a ∷ as_)) (AuxsOver P) (within_others P s ls bs J ts os h.1)
    (within_bind P (aux_of s ls bs t.name t) (λ a. others_of s ls bs J ts >>= λ as_. done (a ∷ as_)) (AuxOver P) (AuxsOver P) (within_aux_of P s ls bs t.name t os h.0.0 h.0)
    (λ a oa. within_bind P (others_of s ls bs J ts) (λ as_. done (a ∷ as_)) (AuxsOver P) (AuxsOver P) (within_others P s ls bs J ts os h.1) (λ as_ o. (oa, o))))

within_family : (P : Name → Type 0) (s : Setting) (ls : List Level) (bs : List Tree) (J : Name) (b : Block) (t : BlockType) → AllOver P bs → P J → TypeOver P t → TypesOver P b.types → Within P (family_of s ls bs J b t) (AuxsOver P)
within_family P s ls bs J b t os n h hs =
    within_bind P (aux_of s ls bs J t) (λ a. others_of s ls bs J b.types >>= λ as_. done (a ∷ as_)) (AuxOver P) (AuxsOver P) (within_aux_of P s ls bs J t os n h)
    (λ a oa. within_bind P (others_of s ls bs J b.types) (λ as_. done (a ∷ as_)) (AuxsOver P) (AuxsOver P) (within_others P s ls bs J b.types os hs) (λ as_ o. (oa, o)))

abbrev pub NestOver : (Name → Type 0) → Tree × List Aux → Type 0
NestOver P x = Over P x.0 × AuxsOver P x.1

over_aux : (P : Name → Type 0) → HasMarked P → (s : Setting) (i : ℕ) → AllOver P s.params → Over P (aux_applied s i)
over_aux P m s i os = over_apply P (const (aux_name i) (map param s.levels)) s.params (m (aux_name i) (_, inl refl)) os

within_met : (P : Name → Type 0) → HasMarked P → (s : Setting) (as_ : List Aux) (J : Name) (ls : List Level) (bs : List Tree) (b : Block) (t : BlockType) (o : Option ℕ) →
    AllOver P s.params → AuxsOver P as_ → AllOver P bs → P J → TypeOver P t → TypesOver P b.types → Within P (met s as_ J ls bs b t o) (NestOver P)
within_met P m s as_ J ls bs b t (Some i) op oa os n h hs = (over_aux P m s i op, oa)
within_met P m s as_ J ls bs b t None op oa os n h hs =
    within_given P (nat_le (length as_ + suc (other_count J b.types)) 1024) NestedForm (family_of s ls bs J b t >>= λ ms. done (aux_applied s (length as_), as_ ++ ms)) (NestOver P)
    (within_bind P (family_of s ls bs J b t) (λ ms. done (aux_applied s (length as_), as_ ++ ms)) (AuxsOver P) (NestOver P) (within_family P s ls bs J b t os n h hs)
    (λ ms oms. (over_aux P m s (length as_) op, auxs_append P as_ ms oa oms)))

within_at_kind : (P : Name → Type 0) → HasMarked P → (s : Setting) (as_ : List Aux) (J : Name) (ls : List Level) (xs : List Tree) (k : Kind) (next : Program (Tree × List Aux)) →
    AllOver P s.params → AuxsOver P as_ → AllOver P xs → P J → KindOver P k → Within P next (NestOver P) → Within P (at_kind s as_ J ls xs k next) (NestOver P)
within_at_kind P m s as_ J ls xs (a_type b t) next op oa os n h r =
    within_if P (nat_eq (length xs) t.parameters) (replaced s as_ J ls xs b t) next (NestOver P)
    (within_given P (may_nest s.params xs) NestedForm (met s as_ J ls xs b t (aux_at 0 as_ J ls xs)) (NestOver P) (within_met P m s as_ J ls xs b t (aux_at 0 as_ J ls xs) op oa os n h.0 h.1)) r
within_at_kind P m s as_ J ls xs _ next op oa os n h r = r

within_at_head : (P : Name → Type 0) → HasMarked P → (s : Setting) (as_ : List Aux) (h : Tree) (xs : List Tree) (next : Program (Tree × List Aux)) →
    AllOver P s.params → AuxsOver P as_ → Over P h → AllOver P xs → Within P next (NestOver P) → Within P (at_head s as_ h xs next) (NestOver P)
within_at_head P m s as_ (const J ls) xs next op oa oh os r =
    within_if P (is_one_of s.names J || mention_none s.names xs) next (look UnknownConstant J λ g. at_kind s as_ J ls xs g.kind next) (NestOver P) r
    (oh, λ g o. within_at_kind P m s as_ J ls xs g.kind next op oa os oh o.1 r)
within_at_head P m s as_ _ xs next op oa oh os r = r

within_nest : (P : Name → Type 0) → HasMarked P → (s : Setting) (e : Tree) (as_ : List Aux) → AllOver P s.params → Over P e → AuxsOver P as_ → Within P (nest s e as_) (NestOver P)
within_nest P m s (app f a) as_ op h oa =
    within_at_head P m s as_ (head (app f a)) (args (app f a)) (nest s f as_ >>= λ g. nest s a g.1 >>= λ b. done (app g.0 b.0, b.1)) op oa (over_head P (app f a) h) (over_args P (app f a) h)
    (within_bind P (nest s f as_) (λ g. nest s a g.1 >>= λ b. done (app g.0 b.0, b.1)) (NestOver P) (NestOver P) (within_nest P m s f as_ op h.0 oa)
    (λ g og. within_bind P (nest s a g.1) (λ b. done (app g.0 b.0, b.1)) (NestOver P) (NestOver P) (within_nest P m s a g.1 op h.1 og.1) (λ b ob. ((og.0, ob.0), ob.1))))
within_nest P m s (lam A b) as_ op h oa =
    within_bind P (nest s A as_) (λ D. nest s b D.1 >>= λ c. done (lam D.0 c.0, c.1)) (NestOver P) (NestOver P) (within_nest P m s A as_ op h.0 oa)
    (λ D oD. within_bind P (nest s b D.1) (λ c. done (lam D.0 c.0, c.1)) (NestOver P) (NestOver P) (within_nest P m s b D.1 op h.1 oD.1) (λ c oc. ((oD.0, oc.0), oc.1)))
within_nest P m s (pi A b) as_ op h oa =
    within_bind P (nest s A as_) (λ D. nest s b D.1 >>= λ c. done (pi D.0 c.0, c.1)) (NestOver P) (NestOver P) (within_nest P m s A as_ op h.0 oa)
    (λ D oD. within_bind P (nest s b D.1) (λ c. done (pi D.0 c.0, c.1)) (NestOver P) (NestOver P) (within_nest P m s b D.1 op h.1 oD.1) (λ c oc. ((oD.0, oc.0), oc.1)))
within_nest P m s (let_in A v b) as_ op h oa =
    within_bind P (nest s A as_) (λ D. nest s v D.1 >>= λ u. nest s b u.1 >>= λ c. done (let_in D.0 u.0 c.0, c.1)) (NestOver P) (NestOver P) (within_nest P m s A as_ op h.0 oa)
    (λ D oD. within_bind P (nest s v D.1) (λ u. nest s b u.1 >>= λ c. done (let_in D.0 u.0 c.0, c.1)) (NestOver P) (NestOver P) (within_nest P m s v D.1 op h.1 oD.1)
    (λ u ou. within_bind P (nest s b u.1) (λ c. done (let_in D.0 u.0 c.0, c.1)) (NestOver P) (NestOver P) (within_nest P m s b u.1 op h.2 ou.1) (λ c oc. ((oD.0, ou.0, oc.0), oc.1))))
within_nest P m s (proj S i e) as_ op h oa = within_bind P (nest s e as_) (λ f. done (proj S i f.0, f.1)) (NestOver P) (NestOver P) (within_nest P m s e as_ op h oa) (λ f of. (of.0, of.1))
within_nest P m s (var i) as_ op h oa = (h, oa)
within_nest P m s (sort l) as_ op h oa = (h, oa)
within_nest P m s (const c ls) as_ op h oa = (h, oa)
within_nest P m s (lit n) as_ op h oa = (h, oa)
within_nest P m s wide as_ op h oa = (h, oa)
within_nest P m s (str x) as_ op h oa = (h, oa)
within_nest P m s (local k T) as_ op h oa = (h, oa)

within_holds_kind : (P : Name → Type 0) (xs : List Tree) (k : Kind) (next : Program Bool) → Within P next Any → Within P (holds_kind xs k next) Any
within_holds_kind P xs (a_type b t) next r = within_if P (nat_eq (length xs) t.parameters) (done true) next Any tt r
within_holds_kind P xs _ next r = r

within_holds_head : (P : Name → Type 0) (ns : List Name) (h : Tree) (xs : List Tree) (next : Program Bool) → Over P h → Within P next Any → Within P (holds_head ns h xs next) Any
within_holds_head P ns (const J ls) xs next oh r =
    within_if P (is_one_of ns J || mention_none ns xs) next (look UnknownConstant J λ g. holds_kind xs g.kind next) Any r (oh, λ g o. within_holds_kind P xs g.kind next r)
within_holds_head P ns _ xs next oh r = r

within_either : (P : Name → Type 0) (p q : Program Bool) → Within P p Any → Within P q Any → Within P (either_holds p q) Any
within_either P p q h i = within_bind P p (λ b. if b then done true else q) Any Any h (λ b a. within_if P b (done true) q Any tt i)

pub within_holds : (P : Name → Type 0) (ns : List Name) (e : Tree) → Over P e → Within P (holds_nested ns e) Any
within_holds P ns (app f a) h =
    within_holds_head P ns (head (app f a)) (args (app f a)) (either_holds (holds_nested ns f) (holds_nested ns a)) (over_head P (app f a) h) (within_either P (holds_nested ns f) (holds_nested ns a) (within_holds P ns f h.0) (within_holds P ns a h.1))
within_holds P ns (lam A b) h = within_either P (holds_nested ns A) (holds_nested ns b) (within_holds P ns A h.0) (within_holds P ns b h.1)
within_holds P ns (pi A b) h = within_either P (holds_nested ns A) (holds_nested ns b) (within_holds P ns A h.0) (within_holds P ns b h.1)
within_holds P ns (let_in A v b) h =
    within_either P (holds_nested ns A) (either_holds (holds_nested ns v) (holds_nested ns b)) (within_holds P ns A h.0) (within_either P (holds_nested ns v) (holds_nested ns b) (within_holds P ns v h.1) (within_holds P ns b h.2))
within_holds P ns (proj S i e) h = within_holds P ns e h
within_holds P ns (var i) h = tt
within_holds P ns (sort l) h = tt
within_holds P ns (const c ls) h = tt
within_holds P ns (lit n) h = tt
within_holds P ns wide h = tt
within_holds P ns (str s) h = tt
within_holds P ns (local k T) h = tt

within_nest_past : (P : Name → Type 0) → HasMarked P → (s : Setting) (ps : List Tree) (e : Tree) (as_ : List Aux) → AllOver P s.params → AllOver P ps → Over P e → AuxsOver P as_ → Within P (nest_past s ps e as_) (NestOver P)
within_nest_past P m s [] e as_ op os h oa = within_nest P m s e as_ op h oa
within_nest_past P m s (p ∷ ps) (pi A B) as_ op os h oa =
    within_bind P (nest_past s ps (opened B p) as_) (λ e. done (pi A (close (number p) e.0), e.1)) (NestOver P) (NestOver P) (within_nest_past P m s ps (opened B p) as_ op os.1 (over_open P 0 p B h.1 os.0) oa)
    (λ e o. ((h.0, over_close P 0 (number p) e.0 o.0), o.1))
within_nest_past P m s (p ∷ ps) _ as_ op os h oa = tt

abbrev OwnOver : (Name → Type 0) → Ctor × List Aux → Type 0
OwnOver P x = (P x.0.name × Over P x.0.type) × AuxsOver P x.1

abbrev OwnsOver : (Name → Type 0) → List Ctor × List Aux → Type 0
OwnsOver P x = CtorsOver P x.0 × AuxsOver P x.1

within_held : (P : Name → Type 0) → HasMarked P → (s : Setting) (c : Ctor) (as_ : List Aux) (b : Bool) → AllOver P s.params → P c.name → Over P c.type → AuxsOver P as_ → Within P (held_ctor s c as_ b) (OwnOver P)
within_held P m s c as_ false op n h oa = ((n, h), oa)
within_held P m s c as_ true op n h oa =
    within_given P (has_pis (length s.params) c.type) BlockShape (nest_past s s.params c.type as_ >>= λ e. done (record c { type = e.0 }, e.1)) (OwnOver P)
    (within_bind P (nest_past s s.params c.type as_) (λ e. done (record c { type = e.0 }, e.1)) (NestOver P) (OwnOver P) (within_nest_past P m s s.params c.type as_ op op h oa) (λ e o. ((n, o.0), o.1)))

within_own_ctor : (P : Name → Type 0) → HasMarked P → (s : Setting) (c : Ctor) (as_ : List Aux) → AllOver P s.params → P c.name → Over P c.type → AuxsOver P as_ → Within P (own_ctor s c as_) (OwnOver P)
within_own_ctor P m s c as_ op n h oa = within_bind P (holds_nested s.names c.type) (λ b. held_ctor s c as_ b) Any (OwnOver P) (within_holds P s.names c.type h) (λ b a. within_held P m s c as_ b op n h oa)

within_own_ctors : (P : Name → Type 0) → HasMarked P → (s : Setting) (cs : List Ctor) (as_ : List Aux) → AllOver P s.params → CtorsOver P cs → AuxsOver P as_ → Within P (own_ctors s cs as_) (OwnsOver P)
within_own_ctors P m s [] as_ op h oa = (tt, oa)
within_own_ctors P m s (c ∷ cs) as_ op h oa =
    within_bind P (own_ctor s c as_) (λ d. own_ctors s cs d.1 >>= λ ds. done (d.0 ∷ ds.0, ds.1)) (OwnOver P) (OwnsOver P) (within_own_ctor P m s c as_ op h.0.0 h.0.1 oa)
    (λ d od. within_bind P (own_ctors s cs d.1) (λ ds. done (d.0 ∷ ds.0, ds.1)) (OwnsOver P) (OwnsOver P) (within_own_ctors P m s cs d.1 op h.1 od.1) (λ ds ods. ((od.0, ods.0), ods.1)))

-- types, their recursors, and the auxiliary types
abbrev pub WalkedOver : (Name → Type 0) → List BlockType × List Aux → Type 0
WalkedOver P x = (TypesOver P x.0 × TypesGive P x.0) × AuxsOver P x.1

within_own_types : (P : Name → Type 0) → HasMarked P → (s : Setting) (ts : List BlockType) (as_ : List Aux) → AllOver P s.params → TypesOver P ts → TypesGive P ts → AuxsOver P as_ → Within P (own_types s ts as_) (WalkedOver P)
within_own_types P m s [] as_ op h g oa = ((tt, tt), oa)
within_own_types P m s (t ∷ ts) as_ op h g oa =
    within_bind P (own_ctors s t.ctors as_) (λ cs. own_types s ts cs.1 >>= λ us. done (record t { ctors = cs.0 } ∷ us.0, us.1)) (OwnsOver P) (WalkedOver P) (within_own_ctors P m s t.ctors as_ op h.0.1.1 oa)
    (λ cs ocs. within_bind P (own_types s ts cs.1) (λ us. done (record t { ctors = cs.0 } ∷ us.0, us.1)) (WalkedOver P) (WalkedOver P) (within_own_types P m s ts cs.1 op h.1 g.1 ocs.1)
    (λ us ous. ((((h.0.0, (h.0.1.0, ocs.0)), ous.0.0), (g.0, ous.0.1)), ous.1)))

pub over_pis : (P : Name → Type 0) (xs : List Tree) (e : Tree) → AllOver P xs → Over P e → Over P (pis xs e)
over_pis P [] e os h = h
over_pis P (x ∷ xs) e os h = (over_domain P x os.0, over_close P 0 (number x) (pis xs e) (over_pis P xs e os.1 h))

within_aux_ctors : (P : Name → Type 0) → HasMarked P → (s : Setting) (i : ℕ) (cs : List Ctor) (rs : List Tree) (as_ : List Aux) → AllOver P s.params → AllOver P rs → AuxsOver P as_ → Within P (aux_ctors s i cs rs as_) (OwnsOver P)
within_aux_ctors P m s i (c ∷ cs) (r ∷ rs) as_ op os oa =
    within_bind P (nest s r as_) (λ e. aux_ctors s i cs rs e.1 >>= λ ds. done (record { name = aux_ctor i c.name; levels = s.levels; type = pis s.params e.0; parent = aux_name i; place = c.place; parameters = length s.params; fields = c.fields } ∷ ds.0, ds.1)) (NestOver P) (OwnsOver P)
    (within_nest P m s r as_ op os.0 oa)
    (λ e o. within_bind P (aux_ctors s i cs rs e.1) (λ ds. done (record { name = aux_ctor i c.name; levels = s.levels; type = pis s.params e.0; parent = aux_name i; place = c.place; parameters = length s.params; fields = c.fields } ∷ ds.0, ds.1)) (OwnsOver P) (OwnsOver P)
    (within_aux_ctors P m s i cs rs e.1 op os.1 o.1) (λ ds ods. (((m (aux_ctor i c.name) (_, inr refl), over_pis P s.params e.0 op o.0), ods.0), ods.1)))
within_aux_ctors P m s i [] rs as_ op os oa = (tt, oa)
within_aux_ctors P m s i (c ∷ cs) [] as_ op os oa = (tt, oa)

abbrev pub IfAux : (Name → Type 0) → Option Aux → Type 0
IfAux P None = Unit {0}
IfAux P (Some a) = AuxOver P a

aux_from_over : (P : Name → Type 0) (as_ : List Aux) (i : ℕ) → AuxsOver P as_ → IfAux P (aux_from as_ i)
aux_from_over P [] i h = tt
aux_from_over P (a ∷ as_) zero h = h.0
aux_from_over P (a ∷ as_) (suc i) h = aux_from_over P as_ i h.1

within_next_aux : (P : Name → Type 0) → HasMarked P → (next : ℕ → List Aux → Program (List BlockType × List Aux)) → ((i : ℕ) (as_ : List Aux) → AuxsOver P as_ → Within P (next i as_) (WalkedOver P)) →
    (s : Setting) (i : ℕ) (as_ : List Aux) (o : Option Aux) → AllOver P s.params → AuxsOver P as_ → IfAux P o → Within P (next_aux next s i as_ o) (WalkedOver P)
within_next_aux P m next r s i as_ None op oa h = ((tt, tt), oa)
within_next_aux P m next r s i as_ (Some a) op oa h =
    within_bind P (aux_ctors s i a.own.ctors a.ctors as_) (λ cs. next (suc i) cs.1 >>= λ ts. done (aux_type s i a cs.0 ∷ ts.0, ts.1)) (OwnsOver P) (WalkedOver P) (within_aux_ctors P m s i a.own.ctors a.ctors as_ op h.1.1.1.1 oa)
    (λ cs ocs. within_bind P (next (suc i) cs.1) (λ ts. done (aux_type s i a cs.0 ∷ ts.0, ts.1)) (WalkedOver P) (WalkedOver P) (r (suc i) cs.1 ocs.1)
    (λ ts ots. ((((m (aux_name i) (_, inl refl), (over_pis P s.params a.type op h.1.1.0, ocs.0)), ots.0.0), (m (rec_name (aux_name i)) (_, inl refl), ots.0.1)), ots.1)))

within_aux_types : (P : Name → Type 0) → HasMarked P → (n : ℕ) (s : Setting) (i : ℕ) (as_ : List Aux) → AllOver P s.params → AuxsOver P as_ → Within P (aux_types n s i as_) (WalkedOver P)
within_aux_types P m zero s i as_ op oa = tt
within_aux_types P m (suc n) s i as_ op oa = within_next_aux P m (aux_types n s) (λ j bs o. within_aux_types P m n s j bs op o) s i as_ (aux_from as_ i) op oa (aux_from_over P as_ i oa)

abbrev pub LargerOver : (Name → Type 0) → Larger → Type 0
LargerOver P l = (TypesOver P l.own × TypesGive P l.own) × WalkedOver P (l.aux, l.auxs)

pub within_enlarge : (P : Name → Type 0) → HasMarked P → (s : Setting) (ts : List BlockType) → AllOver P s.params → TypesOver P ts → TypesGive P ts → Within P (enlarge s ts) (LargerOver P)
within_enlarge P m s ts op h g =
    within_bind P (own_types s ts []) (λ own. aux_types 1025 s 0 own.1 >>= λ aux. done (record { own = own.0; aux = aux.0; auxs = aux.1 })) (WalkedOver P) (LargerOver P) (within_own_types P m s ts [] op h g tt)
    (λ own o. within_bind P (aux_types 1025 s 0 own.1) (λ aux. done (record { own = own.0; aux = aux.0; auxs = aux.1 })) (WalkedOver P) (LargerOver P) (within_aux_types P m 1025 s 0 own.1 op o.1) (λ aux oa. (o.0, oa)))

pub within_aux_sorts : (P : Name → Type 0) (l : Level) (as_ : List Aux) → Within P (aux_sorts l as_) Any
within_aux_sorts P l [] = tt
within_aux_sorts P l (a ∷ as_) =
    within_bind P (tested (level_test a.sort l)) (λ equal. given equal BlockShape (aux_sorts l as_)) Any Any (within_tested P (level_test a.sort l))
    (λ equal x. within_given P equal BlockShape (aux_sorts l as_) Any (within_aux_sorts P l as_))
