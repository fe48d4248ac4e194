use Rattle.std.proofs.Common.{ℕ, ◌≡◌, List, length, refl, sym, subst, [], ◌∷◌, arith}
use Rattle.lk_rulebook.specs.WellStated.{WellStated}
use Rattle.lk_store.specs.Contents.{tree_at}
use Rattle.lk_store.proofs.Made.{Extends-self}
use Rattle.lk_derive_types.specs.Spines.{IsArgumentWithin, IsSpineAt}
use Rattle.lk_derive_types.proofs.Leaving.{leaves_made, leaves_then}
use Rattle.lk_derive_types.proofs.SpineSteps.{next_within, next_known}
use Rattle.lk_derive_types.proofs.applications.applied_type.Goals as goal

pub arguments-init : goal.arguments-init
arguments-init g c = record {
  leaves = leaves_made g.D.Terms.contents g.D.Terms.rest g.D.Looks.sight c.args.derives.now c.args.derives.now (Extends-self (g.D.Terms.contents c.args.derives.now)) refl;
  spine = c.requires.spine;
}

pub apply_once-requires-clause-stated : goal.apply_once-requires-clause-stated
apply_once-requires-clause-stated g c = subst WellStated (sym c.arguments.invariant.leaves.place) c.requires.stated

pub apply_once-requires-clause-at_in : goal.apply_once-requires-clause-at_in
apply_once-requires-clause-at_in g c = c.arguments.invariant.spine.at_is.known

pub apply_once-requires-clause-argument_in : goal.apply_once-requires-clause-argument_in
apply_once-requires-clause-argument_in g c =
    let w = (g.D.Looks.sight (g.D.Terms.rest c.args.derives.now)).basis.place in
    let d = g.D.Terms.contents c.arguments.derives in
    let h = subst (λ es. IsSpineAt w d c.args.e c.args.enough c.arguments.at es c.arguments.asked) c.in-Some.ensures.cases.0 c.arguments.invariant.spine in
    next_known w d c.args.e c.args.enough c.arguments.at c.in-Some.argument.now c.in-Some.more.now c.arguments.asked h

pub apply_once-requires-clause-argument : goal.apply_once-requires-clause-argument
apply_once-requires-clause-argument g c =
    let w = (g.D.Looks.sight (g.D.Terms.rest c.args.derives.now)).basis.place in
    let d = g.D.Terms.contents c.arguments.derives in
    let h = subst (λ es. IsSpineAt w d c.args.e c.args.enough c.arguments.at es c.arguments.asked) c.in-Some.ensures.cases.0 c.arguments.invariant.spine in
    subst (λ p. IsArgumentWithin p (tree_at d c.arguments.at) (tree_at d c.in-Some.argument.now) c.args.enough) (sym c.arguments.invariant.leaves.place)
    (next_within w d c.args.e c.args.enough c.arguments.at c.in-Some.argument.now c.in-Some.more.now c.arguments.asked h)

pub returns-in_err-at-clause-leaves : goal.returns-in_err-at-clause-leaves
returns-in_err-at-clause-leaves g c =
    leaves_then g.D.Terms.contents g.D.Terms.rest g.D.Looks.sight c.args.derives.now c.arguments.derives c.apply_once.new.derives c.arguments.invariant.leaves c.apply_once.ensures.leaves

pub arguments-preserved : goal.arguments-preserved
arguments-preserved g c =
    let w = (g.D.Looks.sight (g.D.Terms.rest c.args.derives.now)).basis.place in
    let d = g.D.Terms.contents c.arguments.derives in
    let next = g.D.Terms.contents c.apply_once.new.derives in
    let place = c.arguments.invariant.leaves.place in
    let h = subst (λ es. IsSpineAt w d c.args.e c.args.enough c.arguments.at es c.arguments.asked) c.in-Some.ensures.cases.0 c.arguments.invariant.spine in
    let i = subst (λ p. IsSpineAt p d c.args.e c.args.enough c.arguments.at (c.in-Some.argument.now ∷ c.in-Some.more.now) c.arguments.asked) (sym place) h in
    record {
      leaves = leaves_then g.D.Terms.contents g.D.Terms.rest g.D.Looks.sight c.args.derives.now c.arguments.derives c.apply_once.new.derives c.arguments.invariant.leaves c.apply_once.ensures.leaves;
      spine = subst (λ p. IsSpineAt p next c.args.e c.args.enough c.in_ok-at.at c.in-Some.more.now c.apply_once.new.asked) place (c.in_ok-at.ensures.spine c.args.e c.in-Some.more.now i);
    }

pub returns-clause-leaves : goal.returns-clause-leaves
returns-clause-leaves g c = c.arguments.invariant.leaves

none_left : (es : List ℕ) → length es ≡ 0 → es ≡ []
none_left [] e = refl
none_left (x ∷ es) e = absurd (omega (arith, e))

pub returns-clause-spine : goal.returns-clause-spine
returns-clause-spine g c =
    let w = (g.D.Looks.sight (g.D.Terms.rest c.args.derives.now)).basis.place in
    subst (λ es. IsSpineAt w (g.D.Terms.contents c.arguments.derives) c.args.e c.args.enough c.arguments.at es c.arguments.asked) (none_left c.arguments.rest.now c.in_default.ensures.cases) c.arguments.invariant.spine
