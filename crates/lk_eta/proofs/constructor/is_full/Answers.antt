use Rattle.std.proofs.Common.{◌≡◌, ◌+◌, true, false, nat_eq, length, Some, sym, subst, ◌∙◌}
use Rattle.lk_tree.specs.Spine.{args}
use Rattle.lk_store.specs.Contents.{tree_at}
use Rattle.lk_store.specs.Store.{contents_of}
use Rattle.lk_env.specs.Entries.{plain_entry}
use Rattle.lk_eta.proofs.Full.{no_constructor, other_count, is_structure, no_structure}
use Rattle.lk_eta.proofs.constructor.is_full.Goals as goal

pub returns-in-None : goal.returns-in-None
returns-in-None g c e h = no_constructor (g.L.Terms.contents c.args.looks.now) e.kind _ (c.in-None.ensures e h)

pub returns-then-not-has_arguments : goal.returns-then-not-has_arguments
returns-then-not-has_arguments g c e h =
    let d = g.L.Terms.contents c.args.looks.now in
    let s = c.in-Some.found in
    let other : nat_eq (length (args (tree_at d c.args.e))) (s.parameters + s.fields) ≡ false = sym c.has_arguments.ensures ∙ c.if-not-has_arguments.true in
    other_count d e.kind _ s (c.in-Some.ensures e h) other

pub returns-in-Some-2 : goal.returns-in-Some-2
returns-in-Some-2 g c e h =
    let d = g.L.Terms.contents c.args.looks.now in
    let s = c.in-Some.found in
    let many : nat_eq (length (args (tree_at d c.args.e))) (s.parameters + s.fields) ≡ true = sym c.has_arguments.ensures ∙ c.if-not-has_arguments.false in
    let here = subst (λ l. plain_entry (contents_of l.tables) l.units c.args.entry ≡ Some e) (sym c.scope.ensures.is) h in
    is_structure d e.kind _ s (c.in-Some.ensures e h) many c.in-Some-2.field-0 (rw c.in-Some-2.is at (c.in_ok-structure_of.ensures.is e here))

pub returns-in-None-2 : goal.returns-in-None-2
returns-in-None-2 g c e h =
    let d = g.L.Terms.contents c.args.looks.now in
    let s = c.in-Some.found in
    let many : nat_eq (length (args (tree_at d c.args.e))) (s.parameters + s.fields) ≡ true = sym c.has_arguments.ensures ∙ c.if-not-has_arguments.false in
    let here = subst (λ l. plain_entry (contents_of l.tables) l.units c.args.entry ≡ Some e) (sym c.scope.ensures.is) h in
    no_structure d e.kind _ s (c.in-Some.ensures e h) many (rw c.in-None-2.is at (c.in_ok-structure_of.ensures.is e here))
