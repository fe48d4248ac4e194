-- The rule that fits a constructor applied.
use Rattle.std.proofs.Common.{◌≡◌, ℕ, List, length, map, drop, None, Option, Some, refl, ap, sym, subst, ◌∙◌}
use Rattle.std.specs.Prelude.{slice_get}
use Rattle.lk_tree.specs.Tree.{Name, Level, Tree, const}
use Rattle.lk_tree.specs.Spine.{apply, head, args}
use Rattle.lk_tree.proofs.Within.{apply_head_args}
use Rattle.lk_rulebook.specs.Place.{Place, Entry, Kind, a_ctor}
use Rattle.lk_claims.proofs.Pieces.{Some_inj}
use Rattle.lk_questions.specs.Query.{core}
use Rattle.lk_questions.specs.Iota.{CtorApp, ctor_app_by, fitting_rule}
use Rattle.lk_store.specs.Contents.{Contents, name_at, tree_at}
use Rattle.lk_env.specs.StoredLibrary.{StoredLibrary}
use Rattle.lk_env.specs.declared.unit.RecursorRule.{RecursorRule}
use Rattle.lk_env.specs.Units.{rule_at}
use Rattle.lk_constructor.specs.declared.constructor.AppliedConstructor.{AppliedConstructor}
use Rattle.lk_constructor.specs.Applied.{IsApplied, IsAppliedIf}
use Rattle.lk_constructor.specs.Looking.{app_at}
use Rattle.lk_step.specs.declared.step.Row.{Row}
use Rattle.lk_step.specs.Parts.{IsWhole}
use Rattle.lk_derive_iota.specs.declared.redexes.Redex.{Redex}
use Rattle.lk_step.specs.Runs.{Runs}
use Rattle.lk_derive_iota.specs.Stages.{at_ctor, program_of, IsUnderWay, IsBuilt, IsFitting}
use Rattle.lk_derive_iota.proofs.Growing.{move_on}
use Rattle.lk_derive_iota.proofs.FoundRules.{rule_placed}
use Rattle.lk_derive_iota.proofs.RuleRuns.{no_rule_stays}

pub some_applied : (c : Contents) (l : StoredLibrary) (xs : List Tree) (u : AppliedConstructor) (o : Option CtorApp) → IsAppliedIf c l xs (Some u) o → (b : CtorApp) × (o ≡ Some b) × IsApplied c l xs u b
some_applied c l xs u (Some b) h = (b, refl, h)
some_applied c l xs u None h = absurd h

pub none_applied : (c : Contents) (l : StoredLibrary) (xs : List Tree) (o : Option CtorApp) → IsAppliedIf c l xs None o → o ≡ None
none_applied c l xs None h = refl
none_applied c l xs (Some b) h = absurd h

built_by : (w : Place) (x : Tree) (c : Name) (ks : List Level) (xs : List Tree) (g : Entry) → x ≡ apply (const c ks) xs → w.means c ≡ Some g → (k : Kind) → g.kind ≡ k → (b : CtorApp) → ctor_app_by c ks xs g k ≡ Some b → IsBuilt w x b
built_by w x c ks xs g t m (a_ctor bl i k) e b h =
    let one : record { name = c; levels = ks; entry = g; block = bl; ind = i; ctor = k; args = xs } ≡ b = Some_inj h in
    subst (IsBuilt w x) one (record { tree_is = t; given = m; kind = e })
built_by w x c ks xs g t m _ e b h = absurd cc

built_at : (w : Place) (x t : Tree) (xs : List Tree) → x ≡ apply t xs → (b : CtorApp) → app_at w t xs ≡ Some b → IsBuilt w x b
built_at w x (const c ks) xs e b h = go (w.means c) refl h
  where
    go : (o : Option Entry) → w.means c ≡ o → elim o [ Some g ↦ ctor_app_by c ks xs g g.kind | None ↦ None ] ≡ Some b → IsBuilt w x b
    go (Some g) m i = built_by w x c ks xs g e m g.kind refl b i
    go None m i = absurd cc
built_at w x _ xs e b h = absurd cc

module _ {w : Place} {l : StoredLibrary} {c : Contents} {r : Row} {most : ℕ} {u : Redex} (x : Tree) (h : IsUnderWay w l c r most u x (at_ctor (app_at w (head x) (args x))) 0)
    (k : AppliedConstructor) (a : IsAppliedIf c l (args x) (Some k) (app_at w (head x) (args x))) (rules : List RecursorRule) (are : h.R.recursor.rules ≡ map (rule_at c) rules) (count : ℕ) (many : count ≡ length (args x)) where
  abbrev pub the_ctor : CtorApp
  the_ctor = (some_applied c l (args x) k (app_at w (head x) (args x)) a).0

  is_there : app_at w (head x) (args x) ≡ Some the_ctor
  is_there = (some_applied c l (args x) k (app_at w (head x) (args x)) a).1

  applied : IsApplied c l (args x) k the_ctor
  applied = (some_applied c l (args x) k (app_at w (head x) (args x)) a).2

  -- it is looked for by these numbers
  fits_as : fitting_rule h.R.recursor.rules the_ctor.name the_ctor.ctor.parameters (length the_ctor.args) ≡ fitting_rule (map (rule_at c) rules) (name_at c k.name) k.parameters count
  fits_as =
      let b : CtorApp = the_ctor in
      ap (λ rs. fitting_rule rs b.name b.ctor.parameters (length b.args)) are ∙ ap (λ z. fitting_rule (map (rule_at c) rules) z b.ctor.parameters (length b.args)) (sym applied.name_is)
      ∙ ap (λ z. fitting_rule (map (rule_at c) rules) (name_at c k.name) z (length b.args)) (sym applied.parameters_are)
      ∙ ap (λ z. fitting_rule (map (rule_at c) rules) (name_at c k.name) k.parameters z) (ap length applied.args_are ∙ sym many)

  pub none_fits : None ≡ fitting_rule (map (rule_at c) rules) (name_at c k.name) k.parameters count → IsWhole w c (core (tree_at c u.application)) r
  none_fits none = no_rule_stays (app_at w (head x) (args x)) the_ctor is_there h (fits_as ∙ sym none)

  pub one_fits : (place : ℕ) (rule : RecursorRule) (fields : List ℕ) → slice_get rules place ≡ Some rule → Some (rule_at c rule) ≡ fitting_rule (map (rule_at c) rules) (name_at c k.name) k.parameters count →
      map (tree_at c) fields ≡ drop k.parameters (args x) → IsFitting w l c r most u x place (rule_at c rule) (map (tree_at c) fields)
  one_fits place rule fields at some fs =
      let b : CtorApp = the_ctor in
      record {
        b = b;
        built = built_at w x (head x) (args x) (sym (apply_head_args x)) b is_there;
        under = move_on h (at_ctor (Some b)) tt (subst (λ o. Runs w (program_of h.R h.e h.first h.rest (at_ctor o)) h.value h.second) is_there h.runs);
        placed = ap (λ rs. slice_get rs place) are ∙ rule_placed c rules place rule at;
        fits = fits_as ∙ sym some;
        fields_are = ap (λ n. drop n b.args) (sym applied.parameters_are) ∙ ap (drop k.parameters) applied.args_are ∙ sym fs;
      }
