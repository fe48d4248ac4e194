-- Claims, and answers, whose trees are closed and well scoped.
use Rattle.std.specs.Prelude.{List, [], ◌∷◌}
use Rattle.lk_tree.specs.Spine.{IsHeadNormal}
use Rattle.lk_tree.specs.WellFormed.{LocalsWithin}
use Rattle.lk_rulebook.specs.Claims.{Claim, types, reduces, IsShaped}
use Rattle.lk_questions.specs.Query.{Query, AnswerTo, core, whnf, infer, same}

-- of each claim the trees are closed and well scoped, and a Sort or a Pi reduces to itself alone
abbrev pub AllShaped : List Claim → Type 0
AllShaped [] = Unit {0}
AllShaped (c ∷ cs) = IsShaped c × AllShaped cs

-- what the trees of an answer are: those of its claim are closed and well scoped, its Locals are
-- among the question's, and a weak head form without unfolding takes no step of beta or zeta
abbrev pub IsShapedAnswer : (q : Query) → AnswerTo q → Type 0
IsShapedAnswer (core e) v = IsShaped (reduces e v) × LocalsWithin e v × IsHeadNormal v
IsShapedAnswer (whnf e) v = IsShaped (reduces e v) × LocalsWithin e v
IsShapedAnswer (infer e) v = IsShaped (types e v) × LocalsWithin e v
IsShapedAnswer (same a b) y = Unit {0}
