-- Parts of the types of minor premises and recursors, and of the values of rules.
use Rattle.std.specs.Prelude.{List, [], ◌∷◌, map}
use Rattle.lk_tree.specs.Tree.{Name, Tree, param, const, app}
use Rattle.lk_tree.specs.Spine.{apply}
use Rattle.lk_inductive.specs.Block.{Shape, TypeShape, CtorShape}
use Rattle.lk_inductive.specs.Recursors.{pis, arrows, at_params, motive_of, hypotheses, inductions}
use Rattle.lk_inductive.specs.Recursors.{rec_name, rec_params, front, major}

-- the recursor of T, applied to what all recursors share
abbrev pub recursor_at : Shape → Name → Tree
recursor_at s T = apply (const (rec_name T) (map param (rec_params s))) (front s)

-- the hypotheses, and then the motive at the constructor, which is applied to these variables
abbrev pub minor_body : Shape → TypeShape → CtorShape → List Tree → Tree
minor_body s t c xs =
    arrows (hypotheses s c.fields)
    (app (apply (motive_of s t.name) c.indices) (apply (at_params s c.name) xs))

-- the major premise, and then the motive at it
abbrev pub major_end : Shape → TypeShape → Tree
major_end s t = pis (major s t ∷ []) (app (apply (motive_of s t.name) t.indices) (major s t))

-- the minor premise at these variables and at what the recursion gives for the fields
abbrev pub rule_end : Shape → Tree → CtorShape → List Tree → Tree
rule_end s m c xs = apply (apply m xs) (inductions s c.fields)
