-- What is read back is closed and well scoped.
use Rattle.std.proofs.Common.{ℕ, suc, Bool, true, false, if◌then◌else◌, List, [], ◌∷◌, ◌++◌, map, Option, Some, None, arith}
use Rattle.lk_tree.specs.Tree.{Name, Level, param, Tree, var, sort, const, app, lam, pi, let_in, proj, lit, wide, str, local}
use Rattle.lk_tree.specs.Spine.{apply}
use Rattle.lk_tree.specs.WellFormed.{IsWellFormedUnder, AllWellFormed}
use Rattle.lk_tree.proofs.Binding.{fine_more}
use Rattle.lk_rulebook.specs.Place.{Place, Ctor}
use Rattle.lk_tree.specs.Mentions.{same_name}
use Rattle.lk_questions.specs.Steps.{is_same_tree}
use Rattle.lk_inductive.specs.BlockSteps.{after_params}
use Rattle.lk_inductive.specs.Nested.{Aux, Setting}
use Rattle.lk_inductive.specs.Restore.{Original, applied_to, renamed_as, ctors_stand, all_stand, stands_for, put_at, after_own, put_back, restore, restoring}
use Rattle.lk_inductive.specs.NestedRelation.{AreOverParams}
use Rattle.lk_sound.proofs.BuiltRecursors.{KeepsWellFormed}
use Rattle.lk_sound.proofs.Auxs.{AllAux}

abbrev AllUnder : ℕ → List Tree → Type 0
AllUnder d [] = Unit {0}
AllUnder d (x ∷ xs) = IsWellFormedUnder d x × AllUnder d xs

apply_under : (d : ℕ) (h : Tree) (xs : List Tree) → IsWellFormedUnder d h → AllUnder d xs → IsWellFormedUnder d (apply h xs)
apply_under d h [] f g = f
apply_under d h (x ∷ xs) f g = apply_under d (app h x) xs (f, g.0) g.1

abbrev IfUnder : ℕ → Option (List Tree) → Type 0
IfUnder d None = Unit {0}
IfUnder d (Some xs) = AllUnder d xs

after_under : (d : ℕ) (ps xs : List Tree) → AllUnder d xs → IfUnder d (after_params ps xs)
after_under d [] xs h = h
after_under d (p ∷ ps) [] h = tt
after_under d (p ∷ ps) (x ∷ xs) h = go (after_under d ps xs h.1) (is_same_tree p x)
  where
    go : IfUnder d (after_params ps xs) → (b : Bool) → IfUnder d (if b then after_params ps xs else None)
    go i true = i
    go i false = tt

own_under : (d : ℕ) (s : Setting) (c : Name) (ls : List Level) (xs : List Tree) → AllUnder d xs → IfUnder d (after_own s c ls xs)
own_under d s c ls xs h = go (is_same_tree (const c ls) (const c (map param s.levels)))
  where
    go : (b : Bool) → IfUnder d (if b then after_params s.params xs else None)
    go true = after_under d s.params xs h
    go false = tt

fine_under : (d : ℕ) (xs : List Tree) → AllWellFormed xs → AllUnder d xs
fine_under d [] h = tt
fine_under d (x ∷ xs) h = (fine_more 0 d x (omega arith) h.0, fine_under d xs h.1)

put_at_fine : (d : ℕ) (c J : Name) (ls ms : List Level) (xs bs : List Tree) (o : Option (List Tree)) → AllWellFormed bs → AllUnder d xs → IfUnder d o → IsWellFormedUnder d (put_at c ls xs J ms bs o)
put_at_fine d c J ls ms xs bs (Some rest) h f i = apply_under d (apply (const J ms) bs) rest (apply_under d (const J ms) bs tt (fine_under d bs h)) i
put_at_fine d c J ls ms xs bs None h f i = apply_under d (const c ls) xs tt f

abbrev pub StandWellFormed : Original → Type 0
StandWellFormed (applied_to J ls bs) = AllWellFormed bs
StandWellFormed (renamed_as R) = Unit {0}

abbrev pub AllStandWellFormed : List (Name × Original) → Type 0
AllStandWellFormed [] = Unit {0}
AllStandWellFormed (m ∷ ms) = StandWellFormed m.1 × AllStandWellFormed ms

abbrev IfStands : Option Original → Type 0
IfStands None = Unit {0}
IfStands (Some s) = StandWellFormed s

if_stands : (ms : List (Name × Original)) (c : Name) → AllStandWellFormed ms → IfStands (stands_for ms c)
if_stands [] c h = tt
if_stands (m ∷ ms) c h = go (if_stands ms c h.1) (same_name m.0 c)
  where
    go : IfStands (stands_for ms c) → (b : Bool) → IfStands (if b then Some m.1 else stands_for ms c)
    go i true = h.0
    go i false = i

put_fine : (d : ℕ) (s : Setting) (c : Name) (ls : List Level) (xs : List Tree) (o : Option Original) → IfStands o → AllUnder d xs → IsWellFormedUnder d (put_back s c ls xs o)
put_fine d s c ls xs (Some (applied_to J ms bs)) h f = put_at_fine d c J ls ms xs bs (after_own s c ls xs) h f (own_under d s c ls xs f)
put_fine d s c ls xs (Some (renamed_as R)) h f = apply_under d (const R ls) xs tt f
put_fine d s c ls xs None h f = apply_under d (const c ls) xs tt f

back_fine : (ms : List (Name × Original)) (s : Setting) → AllStandWellFormed ms → (d : ℕ) (e : Tree) (xs : List Tree) → IsWellFormedUnder d e → AllUnder d xs → IsWellFormedUnder d (restore ms s e xs)
back_fine ms s h d (app f a) xs fe fx = back_fine ms s h d f (restore ms s a [] ∷ xs) fe.0 (back_fine ms s h d a [] fe.1 tt, fx)
back_fine ms s h d (const c ls) xs fe fx = put_fine d s c ls xs (stands_for ms c) (if_stands ms c h) fx
back_fine ms s h d (lam A b) xs fe fx = apply_under d (lam (restore ms s A []) (restore ms s b [])) xs (back_fine ms s h d A [] fe.0 tt, back_fine ms s h (suc d) b [] fe.1 tt) fx
back_fine ms s h d (pi A b) xs fe fx = apply_under d (pi (restore ms s A []) (restore ms s b [])) xs (back_fine ms s h d A [] fe.0 tt, back_fine ms s h (suc d) b [] fe.1 tt) fx
back_fine ms s h d (let_in A v b) xs fe fx =
    apply_under d (let_in (restore ms s A []) (restore ms s v []) (restore ms s b [])) xs (back_fine ms s h d A [] fe.0 tt, back_fine ms s h d v [] fe.1 tt, back_fine ms s h (suc d) b [] fe.2 tt) fx
back_fine ms s h d (proj S i e) xs fe fx = apply_under d (proj S i (restore ms s e [])) xs (back_fine ms s h d e [] fe tt) fx
back_fine ms s h d (var i) xs fe fx = apply_under d (var i) xs fe fx
back_fine ms s h d (sort l) xs fe fx = apply_under d (sort l) xs fe fx
back_fine ms s h d (lit k) xs fe fx = apply_under d (lit k) xs fe fx
back_fine ms s h d wide xs fe fx = apply_under d wide xs fe fx
back_fine ms s h d (str k) xs fe fx = apply_under d (str k) xs fe fx
back_fine ms s h d (local k T) xs fe fx = apply_under d (local k T) xs fe fx

args_fine : (ps bs : List Tree) → AreOverParams ps bs → AllWellFormed bs
args_fine ps [] h = tt
args_fine ps (b ∷ bs) h = (h.0.0, args_fine ps bs h.1)

stand_append : (xs ys : List (Name × Original)) → AllStandWellFormed xs → AllStandWellFormed ys → AllStandWellFormed (xs ++ ys)
stand_append [] ys h i = i
stand_append (x ∷ xs) ys h i = (h.0, stand_append xs ys h.1 i)

ctors_fine : (i : ℕ) (a : Aux) (cs : List Ctor) → AllWellFormed a.args → AllStandWellFormed (ctors_stand i a cs)
ctors_fine i a [] h = tt
ctors_fine i a (c ∷ cs) h = (h, ctors_fine i a cs h)

all_stand_fine : (w : Place) (s : Setting) (T₁ : Name) (i : ℕ) (as_ : List Aux) → AllAux w s as_ → AllStandWellFormed (all_stand T₁ i as_)
all_stand_fine w s T₁ i [] h = tt
all_stand_fine w s T₁ i (a ∷ as_) h =
    let f : AllWellFormed a.args = args_fine s.params a.args h.0.from.args in
    (f, (tt, stand_append (ctors_stand i a a.own.ctors) (all_stand T₁ (suc i) as_) (ctors_fine i a a.own.ctors f) (all_stand_fine w s T₁ (suc i) as_ h.1)))

pub reading_keeps : (w : Place) (s : Setting) (T₁ : Name) (as_ : List Aux) → AllAux w s as_ → KeepsWellFormed (restoring (all_stand T₁ 0 as_) s)
reading_keeps w s T₁ as_ h e f = back_fine (all_stand T₁ 0 as_) s (all_stand_fine w s T₁ 0 as_ h) 0 e [] f tt
