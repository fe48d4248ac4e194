-- Texts that expand, step by step.
use Rattle.std.specs.Prelude.{ℕ, Bool, ◌&&◌, List, Option, Some, None, if◌then◌else◌}
use Rattle.std.specs.Str.{is_utf8, chars}
use Rattle.lk_tree.specs.Tree.{Tree}
use Rattle.lk_rulebook.specs.Literals.{expansion, expansion_names}
use Rattle.lk_questions.specs.Program.{Program, done, ◌>>=◌}
use Rattle.lk_questions.specs.Strings.{look_all}

-- each name in the expansion is given
abbrev pub expanded : List ℕ → Program (Option Tree)
expanded cs = do
  u ← look_all (expansion_names cs)
  done (Some (expansion cs))

-- String has its shape, and its only constructor is String.mk
abbrev pub expanded_text : List ℕ → Bool → Bool → Program (Option Tree)
expanded_text s shaped made = if shaped && (made && is_utf8 s) then expanded (chars s) else done None
