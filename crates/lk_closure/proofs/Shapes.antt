-- What the checks of a block's types and constructors ask keeps to a set of names.
use Rattle.std.proofs.Common.{ℕ, zero, suc, ◌≡◌, ◌&&◌, ◌||◌, length, nat_eq, Bool, true, false, List, [], ◌∷◌, Some, None, Option, if◌then◌else◌, refl, subst}
use Rattle.lk_tree.specs.Tree.{Name, Level, Tree, var, sort, const, app, lam, pi, let_in, proj, lit, wide, str, local, zero_level, succ_level}
use Rattle.lk_tree.specs.declared.rule.Rule.TheVariants.{BlockShape, NotPositive, FieldUniverse, ParameterDiffers, ConstructorResult}
use Rattle.lk_tree.specs.Level.{is_zero_level}
use Rattle.lk_tree.specs.LevelTest.{level_test}
use Rattle.lk_tree.specs.Bind.{opened}
use Rattle.lk_tree.specs.Spine.{head, args}
use Rattle.lk_rulebook.specs.Place.{Block, BlockType, Ctor}
use Rattle.lk_tree.specs.Mentions.{mentions, same_name}
use Rattle.lk_questions.specs.Query.{whnf, same}
use Rattle.lk_questions.specs.Program.{Program, done, refuse, asked, ◌>>=◌}
use Rattle.lk_questions.specs.Steps.{given, as_pi, sort_of, is_same_tree}
use Rattle.lk_questions.specs.Levels.{tested}
use Rattle.lk_questions.specs.Declarations.{checked}
use Rattle.lk_tree.proofs.LevelTests.{name_is, both}
use Rattle.lk_inductive.specs.Block.{levels_of, parameters_of, counts_of, Frame, frame_of, FieldKind, plain, recursive, under, Field, CtorShape, TypeShape, Shape, domain}
use Rattle.lk_inductive.specs.Recursors.{rec_name}
use Rattle.lk_inductive.specs.BlockSteps.{types_agree, counts_steps, telescope, over, as_level, type_end, next_type, next_types, TypeParts, types_steps, ctor_sorts, all_ctor_sorts, after_params, mention_none, is_listed, plain_indices, as_member, last_kind, walk_on, walk, fits, fits_in, fields_steps, own_indices, ctor_steps, ctors_steps, shapes_steps, is_among, small_steps, one_ctor_steps, one_type_steps, large_steps, shape_steps}
use Rattle.lk_tree.specs.LevelTest.{level_le_test}
use Rattle.lk_closure.proofs.Names.{Over, AllOver, CtorsOver, TypesOver}
use Rattle.lk_closure.proofs.Within.{Within}
use Rattle.lk_closure.proofs.Trees.{over_open, over_args}
use Rattle.lk_closure.proofs.Pieces.{Any, PairOver, within_bind, within_given, within_if, within_sort_of, within_pi, within_tested}

abbrev pub ListsOver : (Name → Type 0) → List (List Tree) → Type 0
ListsOver P [] = Unit {0}
ListsOver P (x ∷ xs) = AllOver P x × ListsOver P xs

abbrev pub ScopeOver : (Name → Type 0) → List Tree × Tree → Type 0
ScopeOver P x = AllOver P x.0 × Over P x.1

pub within_counts : (P : Name → Type 0) (b : Block) → Within P (counts_steps b) Any
within_counts P b = within_given P (types_agree (parameters_of b) (levels_of b) b.types) BlockShape (done checked) Any tt

pub over_domain : (P : Name → Type 0) (e : Tree) → Over P e → Over P (domain e)
over_domain P (local k A) h = h
over_domain P (var i) h = h
over_domain P (sort l) h = h
over_domain P (const c ls) h = h
over_domain P (app f a) h = h
over_domain P (lam A b) h = h
over_domain P (pi A B) h = h
over_domain P (let_in A v b) h = h
over_domain P (proj S i s) h = h
over_domain P (lit n) h = h
over_domain P wide h = h
over_domain P (str s) h = h

within_telescope : (P : Name → Type 0) (j n : ℕ) (r : Tree) → Over P r → Within P (telescope j n r) (ScopeOver P)
within_telescope P j zero r h = (tt, h)
within_telescope P j (suc n) r h = (
  h,
  λ R oR. within_bind P (as_pi BlockShape R) (λ p. telescope (suc j) n (opened p.1 (local j p.0)) >>= λ t. done (local j p.0 ∷ t.0, t.1)) (PairOver P) (ScopeOver P) (within_pi P BlockShape R oR)
      (λ p op. within_bind P (telescope (suc j) n (opened p.1 (local j p.0))) (λ t. done (local j p.0 ∷ t.0, t.1)) (ScopeOver P) (ScopeOver P)
      (within_telescope P (suc j) n (opened p.1 (local j p.0)) (over_open P 0 (local j p.0) p.1 op.1 op.0)) (λ t o. ((op.0, o.0), o.1))),
)

within_over : (P : Name → Type 0) (ps : List Tree) (r : Tree) → AllOver P ps → Over P r → Within P (over ps r) (Over P)
within_over P [] r os h = h
within_over P (p ∷ ps) r os h = (
  h,
  λ R oR. within_bind P (as_pi BlockShape R) (λ q. asked (same q.0 (domain p)) >>= λ equal. given equal ParameterDiffers (over ps (opened q.1 p))) (PairOver P) (Over P) (within_pi P BlockShape R oR)
      (λ q oq. ((oq.0, over_domain P p os.0), λ equal a. within_given P equal ParameterDiffers (over ps (opened q.1 p)) (Over P) (within_over P ps (opened q.1 p) os.1 (over_open P 0 p q.1 oq.1 os.0)))),
)

pub within_as_level : (P : Name → Type 0) (e : Tree) → Within P (as_level e) Any
within_as_level P (sort l) = tt
within_as_level P _ = tt

abbrev EndOver : (Name → Type 0) → List Tree × Level → Type 0
EndOver P x = AllOver P x.0

within_type_end : (P : Name → Type 0) (p n : ℕ) (r : Tree) → Over P r → Within P (type_end p n r) (EndOver P)
within_type_end P p n r h =
    within_bind P (telescope p n r) (λ xs. asked (whnf xs.1) >>= λ S. as_level S >>= λ l. done (xs.0, l)) (ScopeOver P) (EndOver P) (within_telescope P p n r h)
    (λ xs o. (o.1, λ S oS. within_bind P (as_level S) (λ l. done (xs.0, l)) Any (EndOver P) (within_as_level P S) (λ l a. o.0)))

within_next_type : (P : Name → Type 0) (ps : List Tree) (l : Level) (t : BlockType) → AllOver P ps → Over P t.type → Within P (next_type ps l t) (AllOver P)
within_next_type P ps l t os h =
    within_bind P (sort_of t.type) (λ s. over ps t.type >>= λ r. type_end (length ps) t.indices r >>= λ e. tested (level_test e.1 l) >>= λ equal. given equal BlockShape (done e.0)) Any (AllOver P) (within_sort_of P t.type h)
    (λ s a. within_bind P (over ps t.type) (λ r. type_end (length ps) t.indices r >>= λ e. tested (level_test e.1 l) >>= λ equal. given equal BlockShape (done e.0)) (Over P) (AllOver P) (within_over P ps t.type os h)
    (λ r or. within_bind P (type_end (length ps) t.indices r) (λ e. tested (level_test e.1 l) >>= λ equal. given equal BlockShape (done e.0)) (EndOver P) (AllOver P) (within_type_end P (length ps) t.indices r or)
    (λ e oe. within_bind P (tested (level_test e.1 l)) (λ equal. given equal BlockShape (done e.0)) Any (AllOver P) (within_tested P (level_test e.1 l))
    (λ equal x. within_given P equal BlockShape (done e.0) (AllOver P) oe))))

within_next_types : (P : Name → Type 0) (ps : List Tree) (l : Level) (ts : List BlockType) → AllOver P ps → TypesOver P ts → Within P (next_types ps l ts) (ListsOver P)
within_next_types P ps l [] os h = tt
within_next_types P ps l (t ∷ ts) os h =
    within_bind P (next_type ps l t) (λ x. next_types ps l ts >>= λ xs. done (x ∷ xs)) (AllOver P) (ListsOver P) (within_next_type P ps l t os h.0.1.0)
    (λ x ox. within_bind P (next_types ps l ts) (λ xs. done (x ∷ xs)) (ListsOver P) (ListsOver P) (within_next_types P ps l ts os h.1) (λ xs oxs. (ox, oxs)))

abbrev pub PartsOver : (Name → Type 0) → TypeParts → Type 0
PartsOver P x = AllOver P x.params × ListsOver P x.indices

pub within_types : (P : Name → Type 0) (p : ℕ) (ts : List BlockType) → TypesOver P ts → Within P (types_steps p ts) (PartsOver P)
within_types P p [] h = tt
within_types P p (t ∷ ts) h =
    within_bind P (sort_of t.type) (λ s. telescope 0 p t.type >>= λ ps. type_end p t.indices ps.1 >>= λ e. tested (level_test e.1 e.1) >>= λ equal. given equal BlockShape (next_types ps.0 e.1 ts) >>= λ xs. done (record { params = ps.0; sort = e.1; indices = e.0 ∷ xs })) Any (PartsOver P) (within_sort_of P t.type h.0.1.0)
    (λ s a. within_bind P (telescope 0 p t.type) (λ ps. type_end p t.indices ps.1 >>= λ e. tested (level_test e.1 e.1) >>= λ equal. given equal BlockShape (next_types ps.0 e.1 ts) >>= λ xs. done (record { params = ps.0; sort = e.1; indices = e.0 ∷ xs })) (ScopeOver P) (PartsOver P) (within_telescope P 0 p t.type h.0.1.0)
    (λ ps o. within_bind P (type_end p t.indices ps.1) (λ e. tested (level_test e.1 e.1) >>= λ equal. given equal BlockShape (next_types ps.0 e.1 ts) >>= λ xs. done (record { params = ps.0; sort = e.1; indices = e.0 ∷ xs })) (EndOver P) (PartsOver P) (within_type_end P p t.indices ps.1 o.1)
    (λ e oe. within_bind P (tested (level_test e.1 e.1)) (λ equal. given equal BlockShape (next_types ps.0 e.1 ts) >>= λ xs. done (record { params = ps.0; sort = e.1; indices = e.0 ∷ xs })) Any (PartsOver P) (within_tested P (level_test e.1 e.1))
    (λ equal x. within_bind P (given equal BlockShape (next_types ps.0 e.1 ts)) (λ xs. done (record { params = ps.0; sort = e.1; indices = e.0 ∷ xs })) (ListsOver P) (PartsOver P)
    (within_given P equal BlockShape (next_types ps.0 e.1 ts) (ListsOver P) (within_next_types P ps.0 e.1 ts o.0 h.1)) (λ xs oxs. (o.0, (oe, oxs)))))))

within_ctor_sorts : (P : Name → Type 0) (cs : List Ctor) → CtorsOver P cs → Within P (ctor_sorts cs) Any
within_ctor_sorts P [] h = tt
within_ctor_sorts P (c ∷ cs) h =
    within_bind P (sort_of c.type) (λ s. ctor_sorts cs >>= λ ss. done (s ∷ ss)) Any Any (within_sort_of P c.type h.0.1)
    (λ s a. within_bind P (ctor_sorts cs) (λ ss. done (s ∷ ss)) Any Any (within_ctor_sorts P cs h.1) (λ ss x. tt))

pub within_all_ctor_sorts : (P : Name → Type 0) (ts : List BlockType) → TypesOver P ts → Within P (all_ctor_sorts ts) Any
within_all_ctor_sorts P [] h = tt
within_all_ctor_sorts P (t ∷ ts) h =
    within_bind P (ctor_sorts t.ctors) (λ s. all_ctor_sorts ts >>= λ ss. done (s ∷ ss)) Any Any (within_ctor_sorts P t.ctors h.0.1.1)
    (λ s a. within_bind P (all_ctor_sorts ts) (λ ss. done (s ∷ ss)) Any Any (within_all_ctor_sorts P ts h.1) (λ ss x. tt))

abbrev pub ListOver : (Name → Type 0) → Option (List Tree) → Type 0
ListOver P None = Unit {0}
ListOver P (Some xs) = AllOver P xs

list_if : (P : Name → Type 0) (b : Bool) (x y : Option (List Tree)) → ListOver P x → ListOver P y → ListOver P (if b then x else y)
list_if P true x y h i = h
list_if P false x y h i = i

pub over_after : (P : Name → Type 0) (ps xs : List Tree) → AllOver P xs → ListOver P (after_params ps xs)
over_after P [] xs h = h
over_after P (p ∷ ps) [] h = tt
over_after P (p ∷ ps) (x ∷ xs) h = list_if P (is_same_tree p x) (after_params ps xs) None (over_after P ps xs h.1) tt

-- a type of the block, and its recursor
abbrev pub RecOver : (Name → Type 0) → Name → Type 0
RecOver P T = P T × P (rec_name T)

abbrev pub ListedOver : (Name → Type 0) → List (Name × ℕ) → Type 0
ListedOver P [] = Unit {0}
ListedOver P (t ∷ ts) = RecOver P t.0 × ListedOver P ts

abbrev pub FrameOver : (Name → Type 0) → Frame → Type 0
FrameOver P F = AllOver P F.params × ListedOver P F.types

listed_over : (P : Name → Type 0) (ts : List (Name × ℕ)) (T : Name) (n : ℕ) → ListedOver P ts → is_listed ts T n ≡ true → RecOver P T
listed_over P [] T n h e = absurd cc
listed_over P (t ∷ ts) T n h e = go (same_name t.0 T && nat_eq t.1 n) refl (listed_over P ts T n h.1) e
  where
    go : (b : Bool) → (same_name t.0 T && nat_eq t.1 n) ≡ b → (is_listed ts T n ≡ true → RecOver P T) → (b || is_listed ts T n) ≡ true → RecOver P T
    go true x r k = subst (RecOver P) (name_is t.0 T (both (same_name t.0 T) (nat_eq t.1 n) x).0) h.0
    go false x r k = r k

abbrev MemberOver : (Name → Type 0) → Option (Name × List Tree) → Type 0
MemberOver P None = Unit {0}
MemberOver P (Some t) = RecOver P t.0 × AllOver P t.1

plain_over : (P : Name → Type 0) (F : Frame) (T : Name) (o : Option (List Tree)) → FrameOver P F → ListOver P o → MemberOver P (plain_indices F T o)
plain_over P F T None f h = tt
plain_over P F T (Some is) f h = go (is_listed F.types T (length is) && mention_none F.names is) refl
  where
    go : (b : Bool) → (is_listed F.types T (length is) && mention_none F.names is) ≡ b → MemberOver P (if b then Some (T, is) else None)
    go true e = (listed_over P F.types T (length is) f.1 (both (is_listed F.types T (length is)) (mention_none F.names is) e).0, h)
    go false e = tt

member_if : (P : Name → Type 0) (b : Bool) (x y : Option (Name × List Tree)) → MemberOver P x → MemberOver P y → MemberOver P (if b then x else y)
member_if P true x y h i = h
member_if P false x y h i = i

member_over : (P : Name → Type 0) (F : Frame) (h : Tree) (xs : List Tree) → FrameOver P F → AllOver P xs → MemberOver P (as_member F h xs)
member_over P F (const T ls) xs f os =
    member_if P (is_same_tree (const T ls) (const T F.levels)) (plain_indices F T (after_params F.params xs)) None (plain_over P F T (after_params F.params xs) f (over_after P F.params xs os)) tt
member_over P F _ xs f os = tt

abbrev pub FieldKindOver : (Name → Type 0) → FieldKind → Type 0
FieldKindOver P plain = Unit {0}
FieldKindOver P (recursive ys T is) = (AllOver P ys × RecOver P T) × AllOver P is

over_under : (P : Name → Type 0) (y : Tree) (k : FieldKind) → Over P y → FieldKindOver P k → FieldKindOver P (under y k)
over_under P y plain oy h = tt
over_under P y (recursive ys T is) oy h = (((oy, h.0.0), h.0.1), h.1)

within_last : (P : Name → Type 0) (o : Option (Name × List Tree)) → MemberOver P o → Within P (last_kind o) (FieldKindOver P)
within_last P (Some t) h = ((tt, h.0), h.1)
within_last P None h = tt

within_walk_on : (P : Name → Type 0) (next : ℕ → Tree → Program FieldKind) → ((j : ℕ) (A : Tree) → Over P A → Within P (next j A) (FieldKindOver P)) → (F : Frame) (j : ℕ) (A : Tree) → FrameOver P F → Over P A →
    Within P (walk_on next F j A) (FieldKindOver P)
within_walk_on P next r F j (pi D E) f h =
    within_if P (mentions F.names D) (refuse NotPositive) (next (suc j) (opened E (local j D)) >>= λ k. done (under (local j D) k)) (FieldKindOver P) tt
    (within_bind P (next (suc j) (opened E (local j D))) (λ k. done (under (local j D) k)) (FieldKindOver P) (FieldKindOver P) (r (suc j) (opened E (local j D)) (over_open P 0 (local j D) E h.1 h.0))
    (λ k o. over_under P (local j D) k h.0 o))
within_walk_on P next r F j (var i) f h = within_last P (as_member F (head (var i)) (args (var i))) (member_over P F (head (var i)) (args (var i)) f (over_args P (var i) h))
within_walk_on P next r F j (sort l) f h = within_last P (as_member F (head (sort l)) (args (sort l))) (member_over P F (head (sort l)) (args (sort l)) f (over_args P (sort l) h))
within_walk_on P next r F j (const c ls) f h = within_last P (as_member F (head (const c ls)) (args (const c ls))) (member_over P F (head (const c ls)) (args (const c ls)) f (over_args P (const c ls) h))
within_walk_on P next r F j (app g a) f h = within_last P (as_member F (head (app g a)) (args (app g a))) (member_over P F (head (app g a)) (args (app g a)) f (over_args P (app g a) h))
within_walk_on P next r F j (lam A b) f h = within_last P (as_member F (head (lam A b)) (args (lam A b))) (member_over P F (head (lam A b)) (args (lam A b)) f (over_args P (lam A b) h))
within_walk_on P next r F j (let_in A v b) f h = within_last P (as_member F (head (let_in A v b)) (args (let_in A v b))) (member_over P F (head (let_in A v b)) (args (let_in A v b)) f (over_args P (let_in A v b) h))
within_walk_on P next r F j (proj S i s) f h = within_last P (as_member F (head (proj S i s)) (args (proj S i s))) (member_over P F (head (proj S i s)) (args (proj S i s)) f (over_args P (proj S i s) h))
within_walk_on P next r F j (lit n) f h = within_last P (as_member F (head (lit n)) (args (lit n))) (member_over P F (head (lit n)) (args (lit n)) f (over_args P (lit n) h))
within_walk_on P next r F j wide f h = within_last P (as_member F (head wide) (args wide)) (member_over P F (head wide) (args wide) f (over_args P wide h))
within_walk_on P next r F j (str s) f h = within_last P (as_member F (head (str s)) (args (str s))) (member_over P F (head (str s)) (args (str s)) f (over_args P (str s) h))
within_walk_on P next r F j (local k T) f h = within_last P (as_member F (head (local k T)) (args (local k T))) (member_over P F (head (local k T)) (args (local k T)) f (over_args P (local k T) h))

within_walk : (P : Name → Type 0) (fuel : ℕ) (F : Frame) (j : ℕ) (A : Tree) → FrameOver P F → Over P A → Within P (walk fuel F j A) (FieldKindOver P)
within_walk P zero F j A f h = tt
within_walk P (suc fuel) F j A f h = (
  h,
  λ B oB. within_if P (mentions F.names B) (walk_on (walk fuel F) F j B) (done plain) (FieldKindOver P) (within_walk_on P (walk fuel F) (λ i D oD. within_walk P fuel F i D f oD) F j B f oB) tt,
)

within_fits : (P : Name → Type 0) (l : Level) (A : Tree) → Over P A → Within P (fits_in l A) Any
within_fits P l A h = within_if P (is_zero_level l) (done true) (fits l A) Any tt (within_bind P (sort_of A) (λ s. tested (level_le_test s l)) Any Any (within_sort_of P A h) (λ s a. within_tested P (level_le_test s l)))

abbrev pub FieldsOver : (Name → Type 0) → List Field → Type 0
FieldsOver P [] = Unit {0}
FieldsOver P (f ∷ fs) = (Over P f.variable × FieldKindOver P f.kind) × FieldsOver P fs

abbrev FieldsEnd : (Name → Type 0) → List Field × Tree → Type 0
FieldsEnd P x = FieldsOver P x.0 × Over P x.1

within_fields : (P : Name → Type 0) (fuel : ℕ) (F : Frame) (j n : ℕ) (r : Tree) → FrameOver P F → Over P r → Within P (fields_steps fuel F j n r) (FieldsEnd P)
within_fields P fuel F j zero r f h = (tt, h)
within_fields P fuel F j (suc n) r f h = (
  h,
  λ R oR. within_bind P (as_pi BlockShape R) (λ p. fits_in F.sort p.0 >>= λ allowed. given allowed FieldUniverse (walk fuel F (suc j) p.0) >>= λ k. fields_steps fuel F (suc j) n (opened p.1 (local j p.0)) >>= λ fs. done (record { variable = local j p.0; kind = k } ∷ fs.0, fs.1)) (PairOver P) (FieldsEnd P) (within_pi P BlockShape R oR)
      (λ p op. within_bind P (fits_in F.sort p.0) (λ allowed. given allowed FieldUniverse (walk fuel F (suc j) p.0) >>= λ k. fields_steps fuel F (suc j) n (opened p.1 (local j p.0)) >>= λ fs. done (record { variable = local j p.0; kind = k } ∷ fs.0, fs.1)) Any (FieldsEnd P) (within_fits P F.sort p.0 op.0)
      (λ allowed a. within_bind P (given allowed FieldUniverse (walk fuel F (suc j) p.0)) (λ k. fields_steps fuel F (suc j) n (opened p.1 (local j p.0)) >>= λ fs. done (record { variable = local j p.0; kind = k } ∷ fs.0, fs.1)) (FieldKindOver P) (FieldsEnd P)
      (within_given P allowed FieldUniverse (walk fuel F (suc j) p.0) (FieldKindOver P) (within_walk P fuel F (suc j) p.0 f op.0))
      (λ k ok. within_bind P (fields_steps fuel F (suc j) n (opened p.1 (local j p.0))) (λ fs. done (record { variable = local j p.0; kind = k } ∷ fs.0, fs.1)) (FieldsEnd P) (FieldsEnd P)
      (within_fields P fuel F (suc j) n (opened p.1 (local j p.0)) f (over_open P 0 (local j p.0) p.1 op.1 op.0)) (λ fs o. (((op.0, ok), o.0), o.1))))),
)

abbrev pub CtorShapeOver : (Name → Type 0) → CtorShape → Type 0
CtorShapeOver P c = P c.name × (FieldsOver P c.fields × AllOver P c.indices)

abbrev pub CtorShapesOver : (Name → Type 0) → List CtorShape → Type 0
CtorShapesOver P [] = Unit {0}
CtorShapesOver P (c ∷ cs) = CtorShapeOver P c × CtorShapesOver P cs

abbrev pub TypeShapesOver : (Name → Type 0) → List TypeShape → Type 0
TypeShapesOver P [] = Unit {0}
TypeShapesOver P (t ∷ ts) = (P t.name × (AllOver P t.indices × CtorShapesOver P t.ctors)) × TypeShapesOver P ts

abbrev pub ShapeOver : (Name → Type 0) → Shape → Type 0
ShapeOver P s = AllOver P s.params × TypeShapesOver P s.types

within_own : (P : Name → Type 0) (T : Name) (o : Option (Name × List Tree)) → MemberOver P o → Within P (own_indices T o) (AllOver P)
within_own P T (Some t) h = within_given P (same_name t.0 T) ConstructorResult (done t.1) (AllOver P) h.1
within_own P T None h = tt

within_ctor : (P : Name → Type 0) (fuel : ℕ) (F : Frame) (T : Name) (c : Ctor) → FrameOver P F → P c.name → Over P c.type → Within P (ctor_steps fuel F T c) (CtorShapeOver P)
within_ctor P fuel F T c f n h =
    within_bind P (over F.params c.type) (λ r. fields_steps fuel F (length F.params) c.fields r >>= λ fs. asked (whnf fs.1) >>= λ R. own_indices T (as_member F (head R) (args R)) >>= λ is. done (record { name = c.name; fields = fs.0; indices = is })) (Over P) (CtorShapeOver P)
    (within_over P F.params c.type f.0 h)
    (λ r or. within_bind P (fields_steps fuel F (length F.params) c.fields r) (λ fs. asked (whnf fs.1) >>= λ R. own_indices T (as_member F (head R) (args R)) >>= λ is. done (record { name = c.name; fields = fs.0; indices = is })) (FieldsEnd P) (CtorShapeOver P)
    (within_fields P fuel F (length F.params) c.fields r f or)
    (λ fs o. (
      o.1,
      λ R oR. within_bind P (own_indices T (as_member F (head R) (args R))) (λ is. done (record { name = c.name; fields = fs.0; indices = is })) (AllOver P) (CtorShapeOver P)
          (within_own P T (as_member F (head R) (args R)) (member_over P F (head R) (args R) f (over_args P R oR))) (λ is ois. (n, (o.0, ois))),
    )))

within_ctors : (P : Name → Type 0) (fuel : ℕ) (F : Frame) (T : Name) (cs : List Ctor) → FrameOver P F → CtorsOver P cs → Within P (ctors_steps fuel F T cs) (CtorShapesOver P)
within_ctors P fuel F T [] f h = tt
within_ctors P fuel F T (c ∷ cs) f h =
    within_bind P (ctor_steps fuel F T c) (λ s. ctors_steps fuel F T cs >>= λ ss. done (s ∷ ss)) (CtorShapeOver P) (CtorShapesOver P) (within_ctor P fuel F T c f h.0.0 h.0.1)
    (λ s os. within_bind P (ctors_steps fuel F T cs) (λ ss. done (s ∷ ss)) (CtorShapesOver P) (CtorShapesOver P) (within_ctors P fuel F T cs f h.1) (λ ss oss. (os, oss)))

within_shapes : (P : Name → Type 0) (fuel : ℕ) (F : Frame) (ts : List BlockType) (xs : List (List Tree)) → FrameOver P F → TypesOver P ts → ListsOver P xs → Within P (shapes_steps fuel F ts xs) (TypeShapesOver P)
within_shapes P fuel F [] xs f h os = tt
within_shapes P fuel F (t ∷ ts) [] f h os = tt
within_shapes P fuel F (t ∷ ts) (x ∷ xs) f h os =
    within_bind P (ctors_steps fuel F t.name t.ctors) (λ cs. shapes_steps fuel F ts xs >>= λ ss. done (record { name = t.name; indices = x; ctors = cs } ∷ ss)) (CtorShapesOver P) (TypeShapesOver P)
    (within_ctors P fuel F t.name t.ctors f h.0.1.1)
    (λ cs ocs. within_bind P (shapes_steps fuel F ts xs) (λ ss. done (record { name = t.name; indices = x; ctors = cs } ∷ ss)) (TypeShapesOver P) (TypeShapesOver P) (within_shapes P fuel F ts xs f h.1 os.1)
    (λ ss oss. ((h.0.0, (os.0, ocs)), oss)))

within_small : (P : Name → Type 0) (is : List Tree) (fs : List Field) → FieldsOver P fs → Within P (small_steps is fs) Any
within_small P is [] h = tt
within_small P is (f ∷ fs) h =
    within_bind P (sort_of (domain f.variable)) (λ s. if is_zero_level s || is_among f.variable is then small_steps is fs else done false) Any Any (within_sort_of P (domain f.variable) (over_domain P f.variable h.0.0))
    (λ s a. within_if P (is_zero_level s || is_among f.variable is) (small_steps is fs) (done false) Any (within_small P is fs h.1) tt)

within_one_ctor : (P : Name → Type 0) (cs : List CtorShape) → CtorShapesOver P cs → Within P (one_ctor_steps cs) Any
within_one_ctor P [] h = tt
within_one_ctor P (c ∷ []) h = within_small P c.indices c.fields h.0.1.0
within_one_ctor P (c ∷ d ∷ cs) h = tt

within_one_type : (P : Name → Type 0) (ts : List TypeShape) → TypeShapesOver P ts → Within P (one_type_steps ts) Any
within_one_type P [] h = tt
within_one_type P (t ∷ []) h = within_one_ctor P t.ctors h.0.1.1
within_one_type P (t ∷ u ∷ ts) h = tt

within_large : (P : Name → Type 0) (l : Level) (ts : List TypeShape) → TypeShapesOver P ts → Within P (large_steps l ts) Any
within_large P l ts h =
    within_bind P (tested (level_le_test (succ_level zero_level) l)) (λ above. if above then done true else one_type_steps ts) Any Any (within_tested P (level_le_test (succ_level zero_level) l))
    (λ above a. within_if P above (done true) (one_type_steps ts) Any tt (within_one_type P ts h))

pub within_shape : (P : Name → Type 0) (fuel : ℕ) (b : Block) (ts : TypeParts) → ListedOver P (counts_of b.types) → TypesOver P b.types → PartsOver P ts → Within P (shape_steps fuel b ts) (ShapeOver P)
within_shape P fuel b ts l h o =
    within_bind P (shapes_steps fuel (frame_of b ts.params ts.sort) b.types ts.indices) (λ ss. large_steps ts.sort ss >>= λ large. done (record { levels = levels_of b; params = ts.params; sort = ts.sort; types = ss; large = large })) (TypeShapesOver P) (ShapeOver P)
    (within_shapes P fuel (frame_of b ts.params ts.sort) b.types ts.indices (o.0, l) h o.1)
    (λ ss oss. within_bind P (large_steps ts.sort ss) (λ large. done (record { levels = levels_of b; params = ts.params; sort = ts.sort; types = ss; large = large })) Any (ShapeOver P) (within_large P ts.sort ss oss) (λ large a. (o.0, oss)))
