-- Constructors one after another, and types one after another.
use Rattle.std.proofs.Common.{◌≡◌, ℕ, List, [], ◌∷◌, ◌++◌, length, refl, sym, ap, ◌∙◌, append_assoc}
use Rattle.std.specs.Prelude.{reverse}
use Rattle.std.proofs.lemmas.List.{reverse-append}
use Rattle.lk_tree.specs.Tree.{Name, Tree}
use Rattle.lk_tree.specs.Spine.{head, args}
use Rattle.lk_rulebook.specs.Place.{Place, BlockType, Ctor}
use Rattle.lk_questions.specs.Query.{Query}
use Rattle.lk_questions.specs.Program.{Program, done, ◌>>=◌}
use Rattle.lk_questions.specs.Erased.{Out, out_of}
use Rattle.lk_inductive.specs.Block.{Frame, Field, CtorShape, TypeShape}
use Rattle.lk_inductive.specs.BlockSteps.{as_member, own_indices, fields_steps, ctor_steps, ctors_steps, shapes_steps}
use Rattle.lk_tree.specs.declared.rule.Rule.TheVariants.{BlockShape}
use Rattle.lk_ask.specs.declared.stop.Stop.{Stop}
use Rattle.lk_ask.specs.declared.stop.Stop.TheVariants.{No}
use Rattle.lk_ask.specs.Asking.{Standing}
use Rattle.lk_declaration.specs.Courses.{run_then, Goes, Halts}
use Rattle.lk_block.specs.Constructors.{result_form, rest_form, constructor_form, type_form, constructors_form, shapes_form}
use Rattle.lk_declaration.proofs.Running.{run_same, run_bind, passes_same, passes_on, stop_passes, stop_same, goes_on, halts_later, halts_first, ends_at}
use Rattle.lk_declaration.proofs.Leading.{Leads, Splits}

pub own_kept : (G F : Frame) (S T : Name) (R : Tree) → G ≡ F → S ≡ T → own_indices S (as_member G (head R) (args R)) ≡ own_indices T (as_member F (head R) (args R))
own_kept G F S T R e f = ap (λ H. own_indices S (as_member H (head R) (args R))) e ∙ ap (λ U. own_indices U (as_member F (head R) (args R))) f

pub result_kept : (G F : Frame) (S T : Name) (r : Tree) → G ≡ F → S ≡ T → result_form G S r ≡ result_form F T r
result_kept G F S T r e f = ap (λ H. result_form H S r) e ∙ ap (λ U. result_form F U r) f

pub rest_kept : (fuel : ℕ) (G F : Frame) (S T : Name) (b c : Name) (n : ℕ) (r : Tree) → G ≡ F → S ≡ T → b ≡ c → rest_form fuel G S b n r ≡ rest_form fuel F T c n r
rest_kept fuel G F S T b c n r e f g = ap (λ H. rest_form fuel H S b n r) e ∙ ap (λ U. rest_form fuel F U b n r) f ∙ ap (λ d. rest_form fuel F T d n r) g

pub constructor_kept : (fuel : ℕ) (G F : Frame) (S T : Name) (b c : Name) (n : ℕ) (B A : Tree) → G ≡ F → S ≡ T → b ≡ c → B ≡ A → constructor_form fuel G S b n B ≡ constructor_form fuel F T c n A
constructor_kept fuel G F S T b c n B A e f g h =
    ap (λ H. constructor_form fuel H S b n B) e ∙ ap (λ U. constructor_form fuel F U b n B) f ∙ ap (λ d. constructor_form fuel F T d n B) g ∙ ap (λ C. constructor_form fuel F T c n C) h

pub type_kept : (fuel : ℕ) (G F : Frame) (S T : Name) (cs ds : List Ctor) (is js : List Tree) → G ≡ F → S ≡ T → cs ≡ ds → is ≡ js → type_form fuel G S cs is ≡ type_form fuel F T ds js
type_kept fuel G F S T cs ds is js e f g h = ap (λ H. type_form fuel H S cs is) e ∙ ap (λ U. type_form fuel F U cs is) f ∙ ap (λ xs. type_form fuel F T xs is) g ∙ ap (λ xs. type_form fuel F T ds xs) h

-- what is left past the parameters: its fields, and then its end
module _ {Base : Type 0} (t u : Standing Base) (stays : u ≡ t) (fuel : ℕ) (F : Frame) (T c : Name) (n : ℕ) (r : Tree) (b d : ℕ) (fs : List Field) (e : Tree)
    (first : Goes t (fields_steps fuel F (length F.params) n r) b (fs, e) d) where
  pub rest_goes : (is : List Tree) (z : CtorShape) (left : ℕ) → Goes u (result_form F T e) d is left → z ≡ (let s : CtorShape = record { name = c; fields = fs; indices = is } in s) → Goes t (rest_form fuel F T c n r) b z left
  rest_goes is z left second same =
      goes_on t u stays (fields_steps fuel F (length F.params) n r) (λ fs. result_form F T fs.1 >>= λ is. done (record { name = c; fields = fs.0; indices = is })) b d left (fs, e) z first
      (ends_at u (result_form F T e) (λ is. done (record { name = c; fields = fs; indices = is })) d left left is (record { name = c; fields = fs; indices = is }) z second refl same refl)

  pub rest_halts : (stop : Stop) → Halts u (result_form F T e) d stop → Halts t (rest_form fuel F T c n r) b stop
  rest_halts stop second =
      halts_later t u stays (fields_steps fuel F (length F.params) n r) (λ fs. result_form F T fs.1 >>= λ is. done (record { name = c; fields = fs.0; indices = is })) b d (fs, e) stop first
      (halts_first u (result_form F T e) (λ is. done (record { name = c; fields = fs; indices = is })) d stop second)

pub shape_is : (c d : Name) (fs gs : List Field) (is : List Tree) → c ≡ d → fs ≡ gs → (let s : CtorShape = record { name = c; fields = fs; indices = is } in s) ≡ (let s : CtorShape = record { name = d; fields = gs; indices = is } in s)
shape_is c d fs gs is e f = cc

pub type_is : (c d : Name) (is js : List Tree) (ss : List CtorShape) → c ≡ d → is ≡ js → (let s : TypeShape = record { name = c; indices = is; ctors = ss } in s) ≡ (let s : TypeShape = record { name = d; indices = js; ctors = ss } in s)
type_is c d is js ss e f = cc

-- a program and nothing after it
pub goes_bare : {A Base : Type 0} (t : Standing Base) (p : Program A) (b c : ℕ) (v : A) → Goes t (p >>= λ u. done u) b v c → Goes t p b v c
goes_bare t p b c v h = record { on = λ k. passes_on _ _ _ (passes_same _ _ (sym (run_bind (out_of t.table t.place) t.place p (λ u. done u) b k))) (h.on k) }

pub halts_bare : {A Base : Type 0} (t : Standing Base) (p : Program A) (b : ℕ) (stop : Stop) → Halts t (p >>= λ u. done u) b stop → Halts t p b stop
halts_bare t p b stop h = record { stops = λ k. stop_same _ _ stop (sym (run_bind (out_of t.table t.place) t.place p (λ u. done u) b k)) (h.stops k) }

-- one more of what comes after these
more_last : {A : Type 0} (answer : Query → ℕ → Out) (w : Place) (p : Program (List A)) (ss : List A) (s : A) (b : ℕ) (k : List A → ℕ → Out)
    → run_then answer w (p >>= λ rs. done (s ∷ rs)) b (λ xs left. k (ss ++ xs) left) ≡ run_then answer w (p >>= λ rs. done ((ss ++ s ∷ []) ++ rs)) b k
more_last answer w p ss s b k =
    run_bind answer w p (λ rs. done (s ∷ rs)) b (λ xs left. k (ss ++ xs) left)
    ∙ run_same answer w p b (λ rs left. k (ss ++ s ∷ rs) left) (λ rs left. k ((ss ++ s ∷ []) ++ rs) left) (λ rs left. ap (λ ys. k ys left) (sym (append_assoc ss (s ∷ []) rs)))
    ∙ sym (run_bind answer w p (λ rs. done ((ss ++ s ∷ []) ++ rs)) b k)

-- one constructor, and then the others
pub constructors_split : (ss : List CtorShape) (fuel : ℕ) (F : Frame) (T : Name) (cs : List Ctor) (c : Ctor) (more : List Ctor) (p : Program CtorShape) → cs ≡ c ∷ more → p ≡ ctor_steps fuel F T c
    → Splits (constructors_form ss fuel F T cs) p (λ s. constructors_form (ss ++ s ∷ []) fuel F T more)
constructors_split ss fuel F T cs c more p is same = record {
  run = λ answer w b k.
      let others : CtorShape → Program (List CtorShape) = λ s. ctors_steps fuel F T more >>= λ rs. done (s ∷ rs) in
      let next : CtorShape → ℕ → Out = λ s left. run_then answer w (constructors_form (ss ++ s ∷ []) fuel F T more) left k in
      ap (λ y. run_then answer w (constructors_form ss fuel F T y) b k) is
      ∙ run_bind answer w (ctors_steps fuel F T (c ∷ more)) (λ rs. done (ss ++ rs)) b k
      ∙ run_bind answer w (ctor_steps fuel F T c) others b (λ xs left. k (ss ++ xs) left)
      ∙ run_same answer w (ctor_steps fuel F T c) b (λ s left. run_then answer w (others s) left (λ xs rest. k (ss ++ xs) rest)) next (λ s left. more_last answer w (ctors_steps fuel F T more) ss s left k)
      ∙ ap (λ q. run_then answer w q b next) (sym same);
}

-- one type, and then the others
pub shapes_split : (ss : List TypeShape) (fuel : ℕ) (F : Frame) (ts : List BlockType) (t : BlockType) (more : List BlockType) (xs : List (List Tree)) (x : List Tree) (rest : List (List Tree)) (p : Program TypeShape)
    → ts ≡ t ∷ more → xs ≡ x ∷ rest → p ≡ type_form fuel F t.name t.ctors x → Splits (shapes_form ss fuel F ts xs) p (λ s. shapes_form (ss ++ s ∷ []) fuel F more rest)
shapes_split ss fuel F ts t more xs x rest p is are same = record {
  run = λ answer w b k.
      let inner : List TypeShape → ℕ → Out = λ ys left. k (ss ++ ys) left in
      let made : List CtorShape → TypeShape = λ cs. record { name = t.name; indices = x; ctors = cs } in
      let others : List CtorShape → Program (List TypeShape) = λ cs. shapes_steps fuel F more rest >>= λ rs. done (made cs ∷ rs) in
      let next : TypeShape → ℕ → Out = λ s left. run_then answer w (shapes_form (ss ++ s ∷ []) fuel F more rest) left k in
      ap (λ y. run_then answer w (shapes_form ss fuel F y xs) b k) is
      ∙ ap (λ y. run_then answer w (shapes_form ss fuel F (t ∷ more) y) b k) are
      ∙ run_bind answer w (shapes_steps fuel F (t ∷ more) (x ∷ rest)) (λ rs. done (ss ++ rs)) b k
      ∙ run_bind answer w (ctors_steps fuel F t.name t.ctors) others b inner
      ∙ run_same answer w (ctors_steps fuel F t.name t.ctors) b (λ cs left. run_then answer w (others cs) left inner) (λ cs left. next (made cs) left) (λ cs left. more_last answer w (shapes_steps fuel F more rest) ss (made cs) left k)
      ∙ sym (run_bind answer w (ctors_steps fuel F t.name t.ctors) (λ cs. done (made cs)) b next)
      ∙ ap (λ q. run_then answer w q b next) (sym same);
}

-- a type whose indices are missing
pub shapes_missing : {Base : Type 0} (t : Standing Base) (p : Program (List TypeShape)) (b : ℕ) (ss : List TypeShape) (fuel : ℕ) (F : Frame) (ts : List BlockType) (x : BlockType) (more : List BlockType) (xs : List (List Tree)) (c : ℕ)
    → Leads t p b (shapes_form ss fuel F ts xs) c → ts ≡ x ∷ more → xs ≡ [] → Halts t p b (No BlockShape)
shapes_missing t p b ss fuel F ts x more xs c so_far is none = record {
  stops = λ k. stop_passes _ _ (No BlockShape) (so_far.on k) (ap (λ y. run_then (out_of t.table t.place) t.place (shapes_form ss fuel F y xs) c k) is ∙ ap (λ y. run_then (out_of t.table t.place) t.place (shapes_form ss fuel F (x ∷ more) y) c k) none);
}

pub turned : {A : Type 0} (xs ys : List A) (x : A) → xs ≡ ys ++ x ∷ [] → reverse xs ≡ x ∷ reverse ys
turned xs ys x e = ap reverse e ∙ reverse-append ys (x ∷ [])
