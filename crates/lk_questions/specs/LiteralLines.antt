-- Same by literals: numbers and texts.
use Rattle.std.specs.Prelude.{ℕ, zero, suc, Bool, true, false, List, [], ◌∷◌, Option, Some, None, if◌then◌else◌}
use Rattle.lk_tree.specs.Tree.{Tree, const, app, lit, str}
use Rattle.lk_tree.specs.Spine.{head, args}
use Rattle.lk_tree.specs.declared.rule.Rule.TheVariants.{UnknownConstant}
use Rattle.lk_rulebook.specs.Names.{nat_zero, nat_succ, string_mk}
use Rattle.lk_tree.specs.Mentions.{same_name}
use Rattle.lk_questions.specs.Query.{same}
use Rattle.lk_questions.specs.Program.{Program, done, look, asked, ◌>>=◌}
use Rattle.lk_questions.specs.Literals.{literal_step}
use Rattle.lk_questions.specs.Strings.{expansion_of}
use Rattle.lk_questions.specs.Pairs.{Line, answers, goes_on, ◌or_line◌}

-- the literal step on e
abbrev pub step_of : Tree → Tree → Program (Option Tree)
step_of e (const f ls) = look UnknownConstant f λ g. literal_step e f ls g
step_of e _ = done None

-- r stands for the first tree, or the second, where there is one
abbrev pub same_first : Option Tree → Tree → Line
same_first (Some r) b = answers (asked (same r b))
same_first None b = goes_on

abbrev pub same_second : Tree → Option Tree → Line
same_second a (Some r) = answers (asked (same a r))
same_second a None = goes_on

-- Nat.zero, or Nat.succ of a tree
pub data NatCtor : Type 0 where
  is_zero : NatCtor
  is_succ : Tree → NatCtor

abbrev pub nat_ctor : Tree → Option NatCtor
nat_ctor (const c []) = if same_name c nat_zero then Some is_zero else None
nat_ctor (app (const c []) x) = if same_name c nat_succ then Some (is_succ x) else None
nat_ctor _ = None

-- Lit n stands first, or second, beside it
abbrev pub lit_first : ℕ → Option NatCtor → Line
lit_first zero (Some is_zero) = done (Some true)
lit_first (suc n) (Some (is_succ x)) = answers (asked (same (lit n) x))
lit_first zero (Some (is_succ x)) = done (Some false)
lit_first (suc n) (Some is_zero) = done (Some false)
lit_first n None = goes_on

abbrev pub lit_second : Option NatCtor → ℕ → Line
lit_second (Some is_zero) zero = done (Some true)
lit_second (Some (is_succ x)) (suc n) = answers (asked (same x (lit n)))
lit_second (Some (is_succ x)) zero = done (Some false)
lit_second (Some is_zero) (suc n) = done (Some false)
lit_second None n = goes_on

abbrev pub same_numbers : Tree → Tree → Line
same_numbers (lit n) b = lit_first n (nat_ctor b)
same_numbers a (lit n) = lit_second (nat_ctor a) n
same_numbers a b = goes_on

abbrev pub step_first : Tree → Tree → Line
step_first a b = do
  r ← step_of a (head a)
  same_first r b

abbrev pub step_second : Tree → Tree → Line
step_second a b = do
  r ← step_of b (head b)
  same_second a r

-- by the literal step, or a number beside Nat.zero or Nat.succ
abbrev pub by_literals : Tree → Tree → Line
by_literals a b = step_first a b or_line step_second a b or_line same_numbers a b

-- an application of String.mk
abbrev pub is_made : Tree → List Tree → Bool
is_made (const c ls) (x ∷ xs) = same_name c string_mk
is_made _ _ = false

abbrev pub text_first : Tree → Tree → Line
text_first (str s) b =
    if is_made (head b) (args b) then (do
      x ← expansion_of s
      same_first x b)
    else goes_on
text_first a b = goes_on

abbrev pub text_second : Tree → Tree → Line
text_second a (str s) =
    if is_made (head a) (args a) then (do
      x ← expansion_of s
      same_second a x)
    else goes_on
text_second a b = goes_on

-- a text beside an application of String.mk
abbrev pub by_string : Tree → Tree → Line
by_string a b = text_first a b or_line text_second a b
