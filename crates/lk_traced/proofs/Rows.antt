-- Small files, and what the definitions say of them.
use Rattle.std.proofs.Common.{◌≡◌, ℕ, List, [], ◌∷◌, Ok, Err, refl, codes}
use Rattle.std.specs.Prelude.{Result}
use Rattle.lk_tree.specs.Tree.{sort, zero_level, succ_level}
use Rattle.lk_written.specs.Line.{ty, sort_rule}
use Rattle.lk_token.specs.Fields.{fields_of, text_behind}
use Rattle.lk_lines.specs.declared.words.Word.TheVariants.{TraceOrder, IndexUnknown, NumberTooLarge}
use Rattle.lk_lines.specs.declared.line.Fault.{Fault}
use Rattle.lk_lines.specs.Reading.{number_at}
use Rattle.lk_lines.specs.Rules.{rule_at}
use Rattle.lk_lines.specs.Items.{tag_at, numbered_at, plain_at, item_at}
use Rattle.lk_lines.specs.Says.{said_at, said_below}
use Rattle.lk_units.specs.State.{entry_added, declaration_said, take_item}
use Rattle.lk_book.specs.File.{after}
use Rattle.lk_traced.specs.Course.{begin_trace, trace_step}
use Rattle.lk_written.specs.Outcomes.{FileSection}
use Rattle.lk_traced.specs.Trace.{trace_over, trace_stated}

-- the sections that lines state
abbrev sections_of : List (List ℕ) → Result (List FileSection) Fault
sections_of lines = after (trace_over begin_trace lines) (λ t. after (trace_stated t t.behind) (λ x. Ok x.sections))

-- an axiom without a name, and what its section begins with
abbrev with_axiom : List (List ℕ) → List (List ℕ)
with_axiom more = codes "0 #ES 0" ∷ codes "#AX 0 0" ∷ codes "#TR" ∷ codes "5000000000 #US 0"
    ∷ codes "7 #ES 5000000000" ∷ codes "#AT 0" ∷ more

open_row : sections_of (with_axiom (codes "9 #TY T-Sort 0 7" ∷ [])) ≡ Err (record { line = 6; word = TraceOrder })
unfolding trace_step said_below said_at item_at numbered_at plain_at tag_at number_at rule_at entry_added declaration_said take_item fields_of text_behind
open_row = refl

ended_row : sections_of (with_axiom (codes "9 #TY T-Sort 0 7" ∷ codes "#OK 9" ∷ []))
    ≡ Ok (record {
      unit = 0;
      lines = record { number = 7; line = ty sort_rule (sort zero_level) (sort (succ_level zero_level)) [] } ∷ [];
      end = 8;
      parts = 0 ∷ [];
    } ∷ [])
unfolding trace_step said_below said_at item_at numbered_at plain_at tag_at number_at rule_at entry_added declaration_said take_item fields_of text_behind
ended_row = refl

later_row : sections_of (with_axiom (codes "9 #TY T-Sort 0 7 9" ∷ [])) ≡ Err (record { line = 7; word = IndexUnknown })
unfolding trace_step said_below said_at item_at numbered_at plain_at tag_at number_at rule_at entry_added declaration_said take_item fields_of text_behind
later_row = refl

before_row : sections_of (codes "0 #ES 0" ∷ codes "5000000000 #US 0" ∷ []) ≡ Err (record { line = 2; word = NumberTooLarge })
unfolding trace_step said_below said_at item_at numbered_at plain_at tag_at number_at rule_at entry_added declaration_said take_item fields_of text_behind
before_row = refl
