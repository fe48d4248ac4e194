-- What comes of an occurrence that is met, by its arguments and its number among the auxiliary types.
use Rattle.std.proofs.Common.{◌≡◌, ℕ, true, false, List, Option, None, Some, Result, Ok, Err, sym, ap, subst, ◌∙◌}
use Rattle.lk_tree.specs.Tree.{Tree, const}
use Rattle.lk_tree.specs.Spine.{apply, head, args}
use Rattle.lk_tree.proofs.Within.{apply_head_args}
use Rattle.lk_tree.specs.declared.rule.Rule.TheVariants.{NestedForm}
use Rattle.lk_rulebook.specs.Place.{Place}
use Rattle.lk_questions.specs.Program.{Program}
use Rattle.lk_questions.specs.Steps.{given}
use Rattle.lk_inductive.specs.Enlarged.{Aux, Setting}
use Rattle.lk_inductive.specs.Nested.{may_nest, aux_at, aux_applied, met}
use Rattle.lk_ask.specs.declared.stop.Stop.{Stop}
use Rattle.lk_ask.specs.declared.stop.Stop.TheVariants.{No, Spent, NoMemory}
use Rattle.lk_declaration.specs.Courses.{Settles}
use Rattle.lk_nested.specs.Findings.{found, refused, finding, Finds}
use Rattle.lk_nested.specs.Occurrences.{test_at, is_occurrence}
use Rattle.lk_nested.specs.Joined.{meets_by, meets}
use Rattle.lk_auxiliary.specs.Made.{made_form}
use Rattle.lk_enlarge.specs.Met.{IsMadeFor, IsNumbered}
use Rattle.lk_enlarge.proofs.Forms.{made_is}
use Rattle.lk_enlarge.proofs.Occurring.{Occurs, occurring}

settled : {A X : Type 0} (w : Place) (p : Program A) (value : X → A) (r : Result X Stop) → Settles p value r → Finds (finding w p) value r
settled w p value (Ok x) h = ap (finding w) h
settled w p value (Err (No r)) h = ap (finding w) h
settled w p value (Err Spent) h = absurd h
settled w p value (Err NoMemory) h = tt

module _ (w : Place) (s : Setting) (e : Tree) (as_ : List Aux) (is : is_occurrence (test_at w s.names e) ≡ true) where
  about : Occurs w (head e) (test_at w s.names e)
  about = occurring w s.names e is

  spine_is : e ≡ apply (const about.name about.levels) (args e)
  spine_is = sym (apply_head_args e) ∙ ap (λ h. apply h (args e)) about.head_is

  pub not_met : may_nest s.params (args e) ≡ false → meets w s e as_ ≡ refused NestedForm
  not_met h =
      ap (λ q. meets_by w s q (args e) as_) about.test_is
      ∙ ap (λ m. finding w (given m NestedForm (met s as_ about.name about.levels (args e) about.block about.type (aux_at 0 as_ about.name about.levels (args e))))) h

  by_number : (o : Option ℕ) → may_nest s.params (args e) ≡ true → IsNumbered e as_ o → meets w s e as_ ≡ finding w (met s as_ about.name about.levels (args e) about.block about.type o)
  by_number o h number =
      ap (λ q. meets_by w s q (args e) as_) about.test_is
      ∙ ap (λ m. finding w (given m NestedForm (met s as_ about.name about.levels (args e) about.block about.type (aux_at 0 as_ about.name about.levels (args e))))) h
      ∙ ap (λ o. finding w (met s as_ about.name about.levels (args e) about.block about.type o)) (sym (number about.name about.levels (args e) spine_is))

  pub met_again : may_nest s.params (args e) ≡ true → (i : ℕ) → IsNumbered e as_ (Some i) → meets w s e as_ ≡ found (aux_applied s i, as_)
  met_again h i number = by_number (Some i) h number

  pub met_first : {X : Type 0} (value : X → Tree × List Aux) (r : Result X Stop) → may_nest s.params (args e) ≡ true → IsNumbered e as_ None → IsMadeFor w s e (args e) as_ value r → Finds (meets w s e as_) value r
  met_first value r h number made =
      subst (λ f. Finds f value r)
      (sym (by_number None h number ∙ ap (finding w) (sym (made_is s as_ about.name about.levels (args e) about.block about.type))))
      (settled w (made_form s as_ about.name about.levels (args e) about.block.types about.type) value r (made about.name about.levels about.block about.type about.test_is))
