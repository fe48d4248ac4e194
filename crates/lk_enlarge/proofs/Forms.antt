-- An auxiliary type as the definitions make it, by its parts.
use Rattle.std.proofs.Common.{◌≡◌, ◌+◌, ◌++◌, suc, None, Bool, true, false, List, [], ◌∷◌, length, refl, ap, ◌∙◌, if◌then◌else◌}
use Rattle.lk_tree.specs.Tree.{Name, Level, Tree}
use Rattle.lk_tree.specs.Mentions.{same_name}
use Rattle.lk_rulebook.specs.Place.{Block, BlockType}
use Rattle.lk_questions.specs.Program.{Program, done, ◌>>=◌}
use Rattle.lk_inductive.specs.BlockSteps.{as_level}
use Rattle.lk_inductive.specs.Enlarged.{Aux, Setting}
use Rattle.lk_inductive.specs.Nested.{at_args, stated_pis, ctors_at, aux_of, others_of, family_of, other_count, aux_applied, met}
use Rattle.lk_auxiliary.proofs.Pasts.{bind_ext, bind_assoc}
use Rattle.std.specs.Prelude.{nat_le}
use Rattle.lk_tree.specs.declared.rule.Rule.TheVariants.{NestedForm}
use Rattle.lk_questions.specs.Steps.{given}
use Rattle.lk_auxiliary.specs.Made.{made_form}
use Rattle.lk_auxiliary.specs.Ends.{end_form}
use Rattle.lk_auxiliary.specs.Parts.{parts_form, aux_with, aux_form, other_auxs, more_others, family_form}

module _ (s : Setting) (ls : List Level) (bs : List Tree) (c : Name) (t : BlockType) where
  with_ctors : Tree → List Tree → Level → Program Aux
  with_ctors r is l = ctors_at ls bs t.ctors >>= λ cs. done (record { name = c; own = t; levels = ls; args = bs; type = r; indices = is; sort = l; ctors = cs })

  parts_then : (r : Tree) → (parts_form (length s.params) ls bs t r >>= λ p. done (aux_with ls bs c t p)) ≡ (stated_pis (length s.params) t.indices r >>= λ x. as_level x.1 >>= λ l. with_ctors r x.0 l)
  unfolding with_ctors
  parts_then r =
      bind_assoc (end_form (length s.params) t.indices r) (λ e. ctors_at ls bs t.ctors >>= λ cs. done (record { type = r; indices = e.0; sort = e.1; ctors = cs })) (λ p. done (aux_with ls bs c t p))
      ∙ bind_ext (end_form (length s.params) t.indices r) (λ e. ctors_at ls bs t.ctors >>= (λ cs. done (record { type = r; indices = e.0; sort = e.1; ctors = cs })) >>= λ p. done (aux_with ls bs c t p)) (λ e. with_ctors r e.0 e.1)
      (λ e. bind_assoc (ctors_at ls bs t.ctors) (λ cs. done (record { type = r; indices = e.0; sort = e.1; ctors = cs })) (λ p. done (aux_with ls bs c t p)))
      ∙ bind_assoc (stated_pis (length s.params) t.indices r) (λ x. as_level x.1 >>= λ l. done (x.0, l)) (λ e. with_ctors r e.0 e.1)
      ∙ bind_ext (stated_pis (length s.params) t.indices r) (λ x. as_level x.1 >>= (λ l. done (x.0, l)) >>= λ e. with_ctors r e.0 e.1) (λ x. as_level x.1 >>= λ l. with_ctors r x.0 l)
      (λ x. bind_assoc (as_level x.1) (λ l. done (x.0, l)) (λ e. with_ctors r e.0 e.1))

  pub form_is : aux_form (length s.params) ls bs c t ≡ aux_of s ls bs c t
  unfolding with_ctors
  form_is =
      bind_assoc (at_args ls bs t.levels t.type) (λ r. parts_form (length s.params) ls bs t r) (λ p. done (aux_with ls bs c t p))
      ∙ bind_ext (at_args ls bs t.levels t.type) (λ r. parts_form (length s.params) ls bs t r >>= λ p. done (aux_with ls bs c t p)) (λ r. stated_pis (length s.params) t.indices r >>= λ x. as_level x.1 >>= λ l. with_ctors r x.0 l) parts_then

module _ (s : Setting) (ls : List Level) (bs : List Tree) (J : Name) where
  either : (b : Bool) (t : BlockType) (ts : List BlockType) → other_auxs (length s.params) ls bs J ts ≡ others_of s ls bs J ts
      → (if b then other_auxs (length s.params) ls bs J ts else (aux_form (length s.params) ls bs t.name t >>= λ a. other_auxs (length s.params) ls bs J ts >>= λ as_. done (a ∷ as_)))
      ≡ (if b then others_of s ls bs J ts else (aux_of s ls bs t.name t >>= λ a. others_of s ls bs J ts >>= λ as_. done (a ∷ as_)))
  either true t ts same = same
  either false t ts same =
      ap (λ p. p >>= λ a. other_auxs (length s.params) ls bs J ts >>= λ as_. done (a ∷ as_)) (form_is s ls bs t.name t)
      ∙ ap (λ p. aux_of s ls bs t.name t >>= λ a. p >>= λ as_. done (a ∷ as_)) same

  pub others_are : (ts : List BlockType) → other_auxs (length s.params) ls bs J ts ≡ others_of s ls bs J ts
  others_are [] = refl
  others_are (t ∷ ts) = either (same_name J t.name) t ts (others_are ts)

  pub family_is : (b : Block) (t : BlockType) → family_form (length s.params) ls bs J b.types t ≡ family_of s ls bs J b t
  family_is b t =
      ap (λ p. p >>= λ a. more_others (length s.params) ls bs J (a ∷ []) b.types) (form_is s ls bs J t)
      ∙ ap (λ p. aux_of s ls bs J t >>= λ a. p >>= λ as_. done (a ∷ as_)) (others_are b.types)

-- as the definitions make it
pub made_is : (s : Setting) (as_ : List Aux) (J : Name) (ls : List Level) (bs : List Tree) (b : Block) (t : BlockType) → made_form s as_ J ls bs b.types t ≡ met s as_ J ls bs b t None
made_is s as_ J ls bs b t =
    ap (λ p. given (nat_le (length as_ + suc (other_count J b.types)) 1024) NestedForm (p >>= λ ms. done (aux_applied s (length as_), as_ ++ ms))) (family_is s ls bs J b t)
