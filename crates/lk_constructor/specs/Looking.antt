-- What a name or a head means as a constructor that is applied, and what a look-up of it finds.
use Rattle.std.specs.Prelude.{List, Option, Some, None, Result, Ok, IfOk}
use Rattle.lk_tree.specs.Tree.{Name, Level, Tree, const}
use Rattle.lk_tree.specs.declared.rule.Rule.{Rule}
use Rattle.lk_rulebook.specs.Place.{Place}
use Rattle.lk_questions.specs.Program.{Program}
use Rattle.lk_questions.specs.Iota.{CtorApp, ctor_app_by, ctor_app_of}
use Rattle.lk_store.specs.Contents.{Contents}
use Rattle.lk_ask.specs.Looks.{Sight}
use Rattle.lk_ask.specs.Settles.{Settles}
use Rattle.lk_constructor.specs.declared.constructor.AppliedConstructor.{AppliedConstructor}
use Rattle.lk_constructor.specs.Applied.{IsAppliedIf}

-- the constructor that a name means at a place, at these levels, applied
abbrev pub ctor_at : Place → Name → List Level → List Tree → Option CtorApp
ctor_at w x ks xs = elim (w.means x) [ Some g ↦ ctor_app_by x ks xs g g.kind | None ↦ None ]

-- the one that a head means
abbrev pub app_at : Place → Tree → List Tree → Option CtorApp
app_at w (const x ks) xs = ctor_at w x ks xs
app_at w _ xs = None

-- a program that looks up a constructor was run: it comes to this one, applied to xs, or to none; or it is refused
pub record LooksUp {S R B : Type 0} (contents : S → Contents) (rest : S → R) (sight : R → Sight B)
    (old new : S) (result : Result (Option AppliedConstructor) Rule) (xs : List Tree)
    (ctor : Option CtorApp) (program : Program (Option CtorApp)) : Type 0 where
  pub settles : Settles contents rest sight old new (Ok result) (λ c u. ctor) (λ c. program)
  pub is : IfOk result (λ u. IsAppliedIf (contents old) (sight (rest old)).basis.library xs u ctor)

-- the head h was looked up, which is applied to xs
abbrev pub LooksUpHead : {S R B : Type 0} → (S → Contents) → (S → R) → (R → Sight B) → S → S
    → Result (Option AppliedConstructor) Rule → Tree → List Tree → Type 0
LooksUpHead contents rest sight old new result h xs =
    LooksUp contents rest sight old new result xs (app_at (sight (rest old)).basis.place h xs)
    (ctor_app_of h xs)
