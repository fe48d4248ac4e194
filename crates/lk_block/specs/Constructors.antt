-- The constructors of a block, as the code asks them.
use Rattle.std.specs.Prelude.{ℕ, List, ◌++◌, length}
use Rattle.lk_tree.specs.Tree.{Name, Tree}
use Rattle.lk_tree.specs.Spine.{head, args}
use Rattle.lk_rulebook.specs.Place.{BlockType, Ctor}
use Rattle.lk_questions.specs.Query.{whnf}
use Rattle.lk_questions.specs.Program.{Program, done, asked, ◌>>=◌}
use Rattle.lk_inductive.specs.Block.{Frame, CtorShape, TypeShape}
use Rattle.lk_inductive.specs.BlockSteps.{over, as_member, own_indices, fields_steps, ctors_steps, shapes_steps}

-- the indices of T where the weak head form is T applied
abbrev pub result_form : Frame → Name → Tree → Program (List Tree)
result_form F T r = asked (whnf r) >>= λ R. own_indices T (as_member F (head R) (args R))

-- the constructor, by what is left of its type past the parameters
abbrev pub rest_form : ℕ → Frame → Name → Name → ℕ → Tree → Program CtorShape
rest_form fuel F T c n r = fields_steps fuel F (length F.params) n r >>= λ fs. result_form F T fs.1 >>= λ is. done (record { name = c; fields = fs.0; indices = is })

-- the constructor, by its name, its number of fields and its type
abbrev pub constructor_form : ℕ → Frame → Name → Name → ℕ → Tree → Program CtorShape
constructor_form fuel F T c n A = over F.params A >>= λ r. rest_form fuel F T c n r

-- the constructors of T, which come after these
abbrev pub constructors_form : List CtorShape → ℕ → Frame → Name → List Ctor → Program (List CtorShape)
constructors_form ss fuel F T cs = ctors_steps fuel F T cs >>= λ rs. done (ss ++ rs)

-- a type, with the Locals of its indices
abbrev pub type_form : ℕ → Frame → Name → List Ctor → List Tree → Program TypeShape
type_form fuel F T cs is = ctors_steps fuel F T cs >>= λ ss. done (record { name = T; indices = is; ctors = ss })

-- the types, which come after these
abbrev pub shapes_form : List TypeShape → ℕ → Frame → List BlockType → List (List Tree) → Program (List TypeShape)
shapes_form ss fuel F ts xs = shapes_steps fuel F ts xs >>= λ rs. done (ss ++ rs)
