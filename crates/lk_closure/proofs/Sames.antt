-- Same keeps to a set of names.
use Rattle.std.proofs.Common.{ℕ, zero, suc, max, ◌+◌, ◌&&◌, length, nat_eq, drop, Bool, true, false, List, [], ◌∷◌, Some, None, Option, if◌then◌else◌}
use Rattle.lk_tree.specs.Tree.{Name, name_discrete, Level, Tree, sort, const, app, lam, pi, proj, lit, str, local}
use Rattle.lk_tree.specs.Level.{is_zero_level}
use Rattle.lk_tree.specs.LevelTest.{level_test}
use Rattle.lk_tree.specs.Bind.{opened, bound}
use Rattle.lk_tree.specs.Spine.{apply, head, args}
use Rattle.lk_rulebook.specs.Place.{Entry, Kind, a_def, a_thm}
use Rattle.lk_rulebook.specs.Names.{nat_zero, nat_succ}
use Rattle.lk_tree.specs.Mentions.{same_name}
use Rattle.lk_rulebook.specs.Structures.{is_structure_like}
use Rattle.lk_questions.specs.Query.{infer, same}
use Rattle.lk_questions.specs.Program.{Program, done, asked, ◌>>=◌}
use Rattle.lk_questions.specs.Steps.{is_same_tree, decided, sort_of, with_levels}
use Rattle.lk_questions.specs.Levels.{complete_test, levels_equal}
use Rattle.lk_questions.specs.Pairs.{same_bodies, same_all, Line, otherwise, ◌or_else◌, unless, ◌or_line◌, yes_alone, answers, answers_yes, goes_on}
use Rattle.lk_questions.specs.Strings.{expansion_of}
use Rattle.lk_questions.specs.LiteralLines.{step_of, same_first, same_second, NatCtor, is_zero, is_succ, nat_ctor, lit_first, lit_second, same_numbers, step_first, step_second, by_literals, is_made, text_first, text_second, by_string}
use Rattle.lk_questions.specs.Iota.{CtorApp, ctor_app_of, has_one_ctor}
use Rattle.lk_questions.specs.Unfolding.{Unfolding, is_less, unfolding_by, unfolding_of, unfold_with, unfold_both, unfold_first, unfold_second, same_by_arguments, by_ranks, by_unfolding}
use Rattle.lk_questions.specs.Eta.{same_fields, eta_struct, by_structure_eta, is_unit_like_at, eta_unit, by_unit_eta}
use Rattle.lk_questions.specs.Same.{by_proof_irrelevance, by_parts, eta_long, is_lam, eta_first, eta_second, by_function_eta, same_reduced, by_reduction, by_shape, same_steps}
use Rattle.lk_closure.proofs.Names.{Over, AllOver, KindOver, HasBuiltins}
use Rattle.lk_closure.proofs.Within.{Within}
use Rattle.lk_closure.proofs.Trees.{over_open, over_apply, over_head, over_args, over_drop, IfOver}
use Rattle.lk_closure.proofs.Pieces.{Any, within_bind, within_if, within_sort_of, within_with_levels, within_tested, within_complete, within_levels_equal}
use Rattle.lk_closure.proofs.Literals.{within_expansion, within_literal_step}
use Rattle.lk_closure.proofs.Cores.{BuiltOver, within_built}

-- one question
pub within_same : (P : Name → Type 0) (a b : Tree) → Over P a → Over P b → Within P (asked (same a b)) Any
within_same P a b oa ob = ((oa, ob), λ v x. tt)

within_answers : (P : Name → Type 0) (p : Program Bool) → Within P p Any → Within P (answers p) Any
within_answers P p h = within_bind P p (λ b. done (Some b)) Any Any h (λ v x. tt)

within_answers_yes : (P : Name → Type 0) (p : Program Bool) → Within P p Any → Within P (answers_yes p) Any
within_answers_yes P p h = within_bind P p (λ b. done (yes_alone b)) Any Any h (λ v x. tt)

within_otherwise : (P : Name → Type 0) (o : Option Bool) (next : Program Bool) → Within P next Any → Within P (otherwise o next) Any
within_otherwise P (Some v) next h = tt
within_otherwise P None next h = h

pub within_or_else : (P : Name → Type 0) (line : Line) (next : Program Bool) → Within P line Any → Within P next Any → Within P (line or_else next) Any
within_or_else P line next h i = within_bind P line (λ o. otherwise o next) Any Any h (λ o x. within_otherwise P o next i)

within_unless : (P : Name → Type 0) (o : Option Bool) (next : Line) → Within P next Any → Within P (unless o next) Any
within_unless P (Some v) next h = tt
within_unless P None next h = h

within_or_line : (P : Name → Type 0) (line next : Line) → Within P line Any → Within P next Any → Within P (line or_line next) Any
within_or_line P line next h i = within_bind P line (λ o. unless o next) Any Any h (λ o x. within_unless P o next i)

pub within_bodies : (P : Name → Type 0) (k : ℕ) (A b A' b' : Tree) → Over P A → Over P b → Over P A' → Over P b' → Within P (same_bodies k A b A' b') Any
within_bodies P k A b A' b' oA ob oA' ob' = (
  (oA, oA'),
  λ equal x. within_if P equal (asked (same (opened b (local k A)) (opened b' (local k A)))) (done false) Any
      (within_same P (opened b (local k A)) (opened b' (local k A)) (over_open P 0 (local k A) b ob oA) (over_open P 0 (local k A) b' ob' oA)) tt,
)

pub within_all : (P : Name → Type 0) (xs ys : List Tree) → AllOver P xs → AllOver P ys → Within P (same_all xs ys) Any
within_all P [] [] h i = tt
within_all P (a ∷ xs) (b ∷ ys) h i = ((h.0, i.0), λ equal x. within_if P equal (same_all xs ys) (done false) Any (within_all P xs ys h.1 i.1) tt)
within_all P [] (b ∷ ys) h i = tt
within_all P (a ∷ xs) [] h i = tt

-- two proofs
pub within_by_proof_irrelevance : (P : Name → Type 0) (a b : Tree) → Over P a → Over P b → Within P (by_proof_irrelevance a b) Any
within_by_proof_irrelevance P a b oa ob = (
  oa,
  λ A oA. within_bind P (sort_of A) (λ l. if is_zero_level l then (asked (infer b) >>= λ B. answers_yes (asked (same A B))) else goes_on) Any Any (within_sort_of P A oA)
      (λ l x. within_if P (is_zero_level l) (asked (infer b) >>= λ B. answers_yes (asked (same A B))) goes_on Any
      (ob, λ B oB. within_answers_yes P (asked (same A B)) (within_same P A B oA oB)) tt),
)

-- literals
within_step_of : (P : Name → Type 0) → HasBuiltins P → (e h : Tree) → Over P e → Over P h → Within P (step_of e h) (IfOver P)
within_step_of P b e (const f ls) oe oh = (oh, λ g o. within_literal_step P b e f ls g oe)
within_step_of P b e _ oe oh = tt

within_first : (P : Name → Type 0) (o : Option Tree) (b : Tree) → IfOver P o → Over P b → Within P (same_first o b) Any
within_first P (Some r) b h o = within_answers P (asked (same r b)) (within_same P r b h o)
within_first P None b h o = tt

within_second : (P : Name → Type 0) (a : Tree) (o : Option Tree) → Over P a → IfOver P o → Within P (same_second a o) Any
within_second P a (Some r) o h = within_answers P (asked (same a r)) (within_same P a r o h)
within_second P a None o h = tt

abbrev NatOver : (Name → Type 0) → Option NatCtor → Type 0
NatOver P None = Unit {0}
NatOver P (Some is_zero) = Unit {0}
NatOver P (Some (is_succ x)) = Over P x

nat_if : (P : Name → Type 0) (b : Bool) (x y : Option NatCtor) → NatOver P x → NatOver P y → NatOver P (if b then x else y)
nat_if P true x y h i = h
nat_if P false x y h i = i

nat_over : (P : Name → Type 0) (e : Tree) → Over P e → NatOver P (nat_ctor e)
nat_over P (const c []) h = nat_if P (same_name c nat_zero) (Some is_zero) None tt tt
nat_over P (app (const c []) x) h = nat_if P (same_name c nat_succ) (Some (is_succ x)) None h.1 tt
nat_over P _ h = tt

within_lit_first : (P : Name → Type 0) (n : ℕ) (o : Option NatCtor) → NatOver P o → Within P (lit_first n o) Any
within_lit_first P zero (Some is_zero) h = tt
within_lit_first P (suc n) (Some (is_succ x)) h = within_answers P (asked (same (lit n) x)) (within_same P (lit n) x tt h)
within_lit_first P zero (Some (is_succ x)) h = tt
within_lit_first P (suc n) (Some is_zero) h = tt
within_lit_first P zero None h = tt
within_lit_first P (suc n) None h = tt

within_lit_second : (P : Name → Type 0) (o : Option NatCtor) (n : ℕ) → NatOver P o → Within P (lit_second o n) Any
within_lit_second P (Some is_zero) zero h = tt
within_lit_second P (Some (is_succ x)) (suc n) h = within_answers P (asked (same x (lit n))) (within_same P x (lit n) h tt)
within_lit_second P (Some (is_succ x)) zero h = tt
within_lit_second P (Some is_zero) (suc n) h = tt
within_lit_second P None n h = tt

within_numbers : (P : Name → Type 0) (a b : Tree) → Over P a → Over P b → Within P (same_numbers a b) Any
within_numbers P (lit n) b oa ob = within_lit_first P n (nat_ctor b) (nat_over P b ob)
within_numbers P a (lit n) oa ob = within_lit_second P (nat_ctor a) n (nat_over P a oa)
within_numbers P a b oa ob = tt

within_by_literals : (P : Name → Type 0) → HasBuiltins P → (a b : Tree) → Over P a → Over P b → Within P (by_literals a b) Any
within_by_literals P u a b oa ob =
    within_or_line P (step_first a b) (step_second a b or_line same_numbers a b)
    (within_bind P (step_of a (head a)) (λ r. same_first r b) (IfOver P) Any (within_step_of P u a (head a) oa (over_head P a oa)) (λ r o. within_first P r b o ob))
    (within_or_line P (step_second a b) (same_numbers a b)
    (within_bind P (step_of b (head b)) (λ r. same_second a r) (IfOver P) Any (within_step_of P u b (head b) ob (over_head P b ob)) (λ r o. within_second P a r oa o))
    (within_numbers P a b oa ob))

-- unfolding
abbrev UnfoldingOver : (Name → Type 0) → Option Unfolding → Type 0
UnfoldingOver P None = Unit {0}
UnfoldingOver P (Some u) = Over P u.value

unfolding_over : (P : Name → Type 0) (c : Name) (ls : List Level) (g : Entry) (k : Kind) → KindOver P k → UnfoldingOver P (unfolding_by c ls g k)
unfolding_over P c ls g (a_def h v) o = o
unfolding_over P c ls g (a_thm v) o = o
unfolding_over P c ls g _ o = tt

within_unfolding : (P : Name → Type 0) (h : Tree) → Over P h → Within P (unfolding_of h) (UnfoldingOver P)
within_unfolding P (const c ls) o = (o, λ g e. unfolding_over P c ls g g.kind e.1)
within_unfolding P _ o = tt

within_unfold : (P : Name → Type 0) (u : Unfolding) (e : Tree) → Over P u.value → Over P e → Within P (unfold_with u e) (Over P)
within_unfold P u e h o =
    within_bind P (with_levels u.entry u.levels u.value) (λ v. done (apply v (args e))) (Over P) (Over P) (within_with_levels P u.entry u.levels u.value h)
    (λ v ov. over_apply P v (args e) ov (over_args P e o))

within_unfold_both : (P : Name → Type 0) (a b : Tree) (u v : Unfolding) → Over P a → Over P b → Over P u.value → Over P v.value → Within P (unfold_both a b u v) Any
within_unfold_both P a b u v oa ob hu hv =
    within_bind P (unfold_with u a) (λ a'. unfold_with v b >>= λ b'. asked (same a' b')) (Over P) Any (within_unfold P u a hu oa)
    (λ a' oa'. within_bind P (unfold_with v b) (λ b'. asked (same a' b')) (Over P) Any (within_unfold P v b hv ob) (λ b' ob'. within_same P a' b' oa' ob'))

within_unfold_first : (P : Name → Type 0) (a b : Tree) (u : Unfolding) → Over P a → Over P b → Over P u.value → Within P (unfold_first a b u) Any
within_unfold_first P a b u oa ob h = within_bind P (unfold_with u a) (λ a'. asked (same a' b)) (Over P) Any (within_unfold P u a h oa) (λ a' oa'. within_same P a' b oa' ob)

within_unfold_second : (P : Name → Type 0) (a b : Tree) (v : Unfolding) → Over P a → Over P b → Over P v.value → Within P (unfold_second a b v) Any
within_unfold_second P a b v oa ob h = within_bind P (unfold_with v b) (λ b'. asked (same a b')) (Over P) Any (within_unfold P v b h ob) (λ b' ob'. within_same P a b' oa ob')

within_same_unfolding : (P : Name → Type 0) (a b : Tree) (u v : Unfolding) → Over P a → Over P b → Within P (same_by_arguments a b u v) Any
within_same_unfolding P a b u v oa ob =
    within_if P (decided (name_discrete u.name v.name)) (levels_equal complete_test u.levels v.levels >>= λ one. if one && nat_eq (length (args a)) (length (args b)) then same_all (args a) (args b) else done false) (done false) Any
    (within_bind P (levels_equal complete_test u.levels v.levels) (λ one. if one && nat_eq (length (args a)) (length (args b)) then same_all (args a) (args b) else done false) Any Any
    (within_levels_equal P complete_test (within_complete P) u.levels v.levels)
    (λ one x. within_if P (one && nat_eq (length (args a)) (length (args b))) (same_all (args a) (args b)) (done false) Any
    (within_all P (args a) (args b) (over_args P a oa) (over_args P b ob)) tt)) tt

within_by_ranks : (P : Name → Type 0) (a b : Tree) (o m : Option Unfolding) → Over P a → Over P b → UnfoldingOver P o → UnfoldingOver P m → Within P (by_ranks a b o m) Any
within_by_ranks P a b None None oa ob hu hv = tt
within_by_ranks P a b (Some u) None oa ob hu hv = within_answers P (unfold_first a b u) (within_unfold_first P a b u oa ob hu)
within_by_ranks P a b None (Some v) oa ob hu hv = within_answers P (unfold_second a b v) (within_unfold_second P a b v oa ob hv)
within_by_ranks P a b (Some u) (Some v) oa ob hu hv =
    within_if P (is_less u.rank v.rank) (answers (unfold_second a b v)) _ Any (within_answers P (unfold_second a b v) (within_unfold_second P a b v oa ob hv))
    (within_if P (is_less v.rank u.rank) (answers (unfold_first a b u)) _ Any (within_answers P (unfold_first a b u) (within_unfold_first P a b u oa ob hu))
    (within_answers P (answers_yes (same_by_arguments a b u v) or_else unfold_both a b u v)
    (within_or_else P (answers_yes (same_by_arguments a b u v)) (unfold_both a b u v) (within_answers_yes P (same_by_arguments a b u v) (within_same_unfolding P a b u v oa ob))
    (within_unfold_both P a b u v oa ob hu hv))))

pub within_by_unfolding : (P : Name → Type 0) (a b : Tree) → Over P a → Over P b → Within P (by_unfolding a b) Any
within_by_unfolding P a b oa ob =
    within_bind P (unfolding_of (head a)) (λ u. unfolding_of (head b) >>= λ v. by_ranks a b u v) (UnfoldingOver P) Any (within_unfolding P (head a) (over_head P a oa))
    (λ u ou. within_bind P (unfolding_of (head b)) (λ v. by_ranks a b u v) (UnfoldingOver P) Any (within_unfolding P (head b) (over_head P b ob))
    (λ v ov. within_by_ranks P a b u v oa ob ou ov))

-- part by part
within_by_parts : (P : Name → Type 0) (a b : Tree) → Over P a → Over P b → Within P (by_parts a b) Any
within_by_parts P (const c ls) (const d ms) oa ob =
    within_if P (decided (name_discrete c d)) (answers_yes (levels_equal complete_test ls ms)) goes_on Any (within_answers_yes P (levels_equal complete_test ls ms) (within_levels_equal P complete_test (within_complete P) ls ms)) tt
within_by_parts P (app f a) (app g b) oa ob =
    within_if P (nat_eq (length (args (app f a))) (length (args (app g b)))) (answers_yes (same_all (head f ∷ args (app f a)) (head g ∷ args (app g b)))) goes_on Any
    (within_answers_yes P (same_all (head f ∷ args (app f a)) (head g ∷ args (app g b)))
    (within_all P (head f ∷ args (app f a)) (head g ∷ args (app g b)) (over_head P f oa.0, over_args P (app f a) oa) (over_head P g ob.0, over_args P (app g b) ob))) tt
within_by_parts P (proj S i s) (proj T j t) oa ob =
    within_if P (decided (name_discrete S T) && nat_eq i j) (answers_yes (asked (same s t))) goes_on Any (within_answers_yes P (asked (same s t)) (within_same P s t oa ob)) tt
within_by_parts P _ _ oa ob = tt

-- functions
within_eta_first : (P : Name → Type 0) (o e T : Tree) → Over P o → Over P e → Over P T → Within P (eta_first o e T) Any
within_eta_first P o e (pi A B) oo oe ot = within_answers_yes P (asked (same (eta_long A o) e)) (within_same P (eta_long A o) e (ot.0, (oo, tt)) oe)
within_eta_first P o e _ oo oe ot = tt

within_eta_second : (P : Name → Type 0) (o e T : Tree) → Over P o → Over P e → Over P T → Within P (eta_second o e T) Any
within_eta_second P o e (pi A B) oo oe ot = within_answers_yes P (asked (same e (eta_long A o))) (within_same P e (eta_long A o) oe (ot.0, (oo, tt)))
within_eta_second P o e _ oo oe ot = tt

within_by_function_eta : (P : Name → Type 0) (a b : Tree) → Over P a → Over P b → Within P (by_function_eta a b) Any
within_by_function_eta P a b oa ob =
    within_if P (is_lam a) _ _ Any
    (within_if P (is_lam b) goes_on _ Any tt (ob, λ T oT. (oT, λ U oU. within_eta_second P b a U ob oa oU)))
    (within_if P (is_lam b) _ goes_on Any (oa, λ T oT. (oT, λ U oU. within_eta_first P a b U oa ob oU)) tt)

-- structures, and types with one element
within_fields : (P : Name → Type 0) (J : Name) (a : Tree) (j : ℕ) (xs : List Tree) → Over P a → AllOver P xs → Within P (same_fields J a j xs) Any
within_fields P J a j [] oa os = tt
within_fields P J a j (x ∷ xs) oa os = ((oa, os.0), λ equal y. within_if P equal (same_fields J a (suc j) xs) (done false) Any (within_fields P J a (suc j) xs oa os.1) tt)

within_eta_struct : (P : Name → Type 0) (a b : Tree) (o : Option CtorApp) → Over P a → Over P b → BuiltOver P o → Within P (eta_struct a b o) Any
within_eta_struct P a b None oa ob h = tt
within_eta_struct P a b (Some k) oa ob h =
    within_if P (nat_eq (length k.args) (k.ctor.parameters + k.ctor.fields) && (has_one_ctor k.ind.ctors && is_structure_like k.block k.ind k.ctor)) _ goes_on Any (
      oa,
      λ A oA. (
        ob,
        λ B oB. (
          (oA, oB),
          λ equal x. within_if P equal (answers_yes (same_fields k.ind.name a 0 (drop k.ctor.parameters k.args))) goes_on Any
              (within_answers_yes P (same_fields k.ind.name a 0 (drop k.ctor.parameters k.args)) (within_fields P k.ind.name a 0 (drop k.ctor.parameters k.args) oa (over_drop P k.ctor.parameters k.args h.1))) tt,
        ),
      ),
    ) tt

within_by_structure_eta : (P : Name → Type 0) (a b : Tree) → Over P a → Over P b → Within P (by_structure_eta a b) Any
within_by_structure_eta P a b oa ob = within_bind P (ctor_app_of (head b) (args b)) (λ k. eta_struct a b k) (BuiltOver P) Any (within_built P (head b) (args b) (over_head P b ob) (over_args P b ob))
    (λ k ok. within_eta_struct P a b k oa ob ok)

within_eta_unit : (P : Name → Type 0) (a b A h : Tree) (bs : List Tree) → Over P b → Over P A → Over P h → Within P (eta_unit a b A h bs) Any
within_eta_unit P a b A (const J ls) bs ob oA oh = (
  oh,
  λ g o. within_if P (is_unit_like_at g.kind bs) _ goes_on Any (ob, λ B oB. within_answers P (asked (same A B)) (within_same P A B oA oB)) tt,
)
within_eta_unit P a b A _ bs ob oA oh = tt

within_by_unit_eta : (P : Name → Type 0) (a b : Tree) → Over P a → Over P b → Within P (by_unit_eta a b) Any
within_by_unit_eta P a b oa ob = (oa, λ A oA. (oA, λ T oT. within_eta_unit P a b A (head T) (args T) ob oA (over_head P T oT)))

-- texts
within_text_first : (P : Name → Type 0) → HasBuiltins P → (a b : Tree) → Over P a → Over P b → Within P (text_first a b) Any
within_text_first P u (str s) b oa ob =
    within_if P (is_made (head b) (args b)) (expansion_of s >>= λ x. same_first x b) goes_on Any
    (within_bind P (expansion_of s) (λ x. same_first x b) (IfOver P) Any (within_expansion P u s) (λ x o. within_first P x b o ob)) tt
within_text_first P u _ b oa ob = tt

within_text_second : (P : Name → Type 0) → HasBuiltins P → (a b : Tree) → Over P a → Over P b → Within P (text_second a b) Any
within_text_second P u a (str s) oa ob =
    within_if P (is_made (head a) (args a)) (expansion_of s >>= λ x. same_second a x) goes_on Any
    (within_bind P (expansion_of s) (λ x. same_second a x) (IfOver P) Any (within_expansion P u s) (λ x o. within_second P a x oa o)) tt
within_text_second P u a _ oa ob = tt

within_by_string : (P : Name → Type 0) → HasBuiltins P → (a b : Tree) → Over P a → Over P b → Within P (by_string a b) Any
within_by_string P u a b oa ob = within_or_line P (text_first a b) (text_second a b) (within_text_first P u a b oa ob) (within_text_second P u a b oa ob)

-- trees whose heads take no step
within_reduced : (P : Name → Type 0) → HasBuiltins P → (a b : Tree) → Over P a → Over P b → Within P (same_reduced a b) Any
within_reduced P u a b oa ob =
    within_or_else P (by_proof_irrelevance a b) _ (within_by_proof_irrelevance P a b oa ob)
    (within_or_else P (by_literals a b) _ (within_by_literals P u a b oa ob)
    (within_or_else P (by_unfolding a b) _ (within_by_unfolding P a b oa ob)
    (within_or_else P (by_parts a b) _ (within_by_parts P a b oa ob)
    (within_or_else P (by_function_eta a b) _ (within_by_function_eta P a b oa ob)
    (within_or_else P (by_structure_eta a b) _ (within_by_structure_eta P a b oa ob)
    (within_or_else P (by_structure_eta b a) _ (within_by_structure_eta P b a ob oa)
    (within_or_else P (by_unit_eta a b) _ (within_by_unit_eta P a b oa ob)
    (within_or_else P (by_string a b) (done false) (within_by_string P u a b oa ob) tt))))))))

within_by_reduction : (P : Name → Type 0) → HasBuiltins P → (a b : Tree) → Over P a → Over P b → Within P (by_reduction a b) Any
within_by_reduction P u a b oa ob = (
  oa,
  λ a' oa'. (
    ob,
    λ b' ob'. within_if P (is_same_tree a' a && is_same_tree b' b) (same_reduced a b) (asked (same a' b')) Any (within_reduced P u a b oa ob) (within_same P a' b' oa' ob'),
  ),
)

within_by_shape : (P : Name → Type 0) → HasBuiltins P → (a b : Tree) → Over P a → Over P b → Within P (by_shape a b) Any
within_by_shape P u (sort l) (sort m) oa ob = within_tested P (level_test l m)
within_by_shape P u (lam A b) (lam A' b') oa ob = within_bodies P (max (bound (lam A b)) (bound (lam A' b'))) A b A' b' oa.0 oa.1 ob.0 ob.1
within_by_shape P u (pi A b) (pi A' b') oa ob = within_bodies P (max (bound (pi A b)) (bound (pi A' b'))) A b A' b' oa.0 oa.1 ob.0 ob.1
within_by_shape P u (lit m) (lit n) oa ob = tt
within_by_shape P u (str s) (str t) oa ob = tt
within_by_shape P u a b oa ob = within_by_reduction P u a b oa ob

pub within_same_steps : (P : Name → Type 0) → HasBuiltins P → (a b : Tree) → Over P a → Over P b → Within P (same_steps a b) Any
within_same_steps P u a b oa ob = within_if P (is_same_tree a b) (done true) (by_shape a b) Any tt (within_by_shape P u a b oa ob)
