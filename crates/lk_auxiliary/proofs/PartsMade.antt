-- The parts of an auxiliary type, one after another.
use Rattle.std.proofs.Common.{◌≡◌, ℕ, List, ap, ◌∙◌}
use Rattle.lk_tree.specs.Tree.{Name, Level, Tree}
use Rattle.lk_tree.specs.declared.rule.Rule.{Rule}
use Rattle.lk_rulebook.specs.Place.{BlockType}
use Rattle.lk_questions.specs.Program.{Program, done, refuse, ◌>>=◌}
use Rattle.lk_inductive.specs.Nested.{at_args, ctors_at}
use Rattle.lk_auxiliary.specs.Ends.{end_form}
use Rattle.lk_auxiliary.specs.Parts.{PlainParts, parts_form, whole_parts, aux_with, aux_form}

module _ (j : ℕ) (ls : List Level) (bs : List Tree) (t : BlockType) where
  module _ (r : Tree) (e : List Tree × Level) (end : end_form j t.indices r ≡ done e) where
    after : Program (List Tree) → Program PlainParts
    after p = p >>= λ cs. done (record { type = r; indices = e.0; sort = e.1; ctors = cs })

    ended : parts_form j ls bs t r ≡ after (ctors_at ls bs t.ctors)
    unfolding after
    ended = ap (λ p. p >>= λ e. ctors_at ls bs t.ctors >>= λ cs. done (record { type = r; indices = e.0; sort = e.1; ctors = cs })) end

    pub parts_are : (cs : List Tree) → ctors_at ls bs t.ctors ≡ done cs → parts_form j ls bs t r ≡ done (record { type = r; indices = e.0; sort = e.1; ctors = cs })
    unfolding after
    parts_are cs h = ended ∙ ap after h

    pub parts_stop : (x : Rule) → ctors_at ls bs t.ctors ≡ refuse x → parts_form j ls bs t r ≡ refuse x
    unfolding after
    parts_stop x h = ended ∙ ap after h

  pub whole_is : (r : Tree) → at_args ls bs t.levels t.type ≡ done r → whole_parts j ls bs t ≡ parts_form j ls bs t r
  whole_is r h = ap (λ q. q >>= λ r. parts_form j ls bs t r) h

  pub whole_stops : (x : Rule) → at_args ls bs t.levels t.type ≡ refuse x → whole_parts j ls bs t ≡ refuse x
  whole_stops x h = ap (λ q. q >>= λ r. parts_form j ls bs t r) h

  pub aux_is : (c : Name) (p : PlainParts) → whole_parts j ls bs t ≡ done p → aux_form j ls bs c t ≡ done (aux_with ls bs c t p)
  aux_is c p h = ap (λ q. q >>= λ p. done (aux_with ls bs c t p)) h

  pub aux_stops : (c : Name) (x : Rule) → whole_parts j ls bs t ≡ refuse x → aux_form j ls bs c t ≡ refuse x
  aux_stops c x h = ap (λ q. q >>= λ p. done (aux_with ls bs c t p)) h
