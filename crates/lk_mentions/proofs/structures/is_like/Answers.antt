use Rattle.std.proofs.Common.{◌≡◌, nat_eq, true, ◌∙◌, arith}
use Rattle.std.specs.Prelude.{Result, Ok, Err, IfOk}
use Rattle.std.proofs.lemmas.Bool.Decides.{nat_tests}
use Rattle.lk_store.specs.Store.{contents_of}
use Rattle.lk_mentions.proofs.TypeNames.{names_grown}
use Rattle.lk_mentions.proofs.Plainly.{like_is}
use Rattle.lk_mentions.proofs.structures.is_like.Goals as goal

pub has_plain_fields-requires-clause-names_in : goal.has_plain_fields-requires-clause-names_in
has_plain_fields-requires-clause-names_in g c =
    names_grown (contents_of (g.L.Lends.lent c.args.library.now).tables) (g.T.Terms.contents c.args.terms.now) c.requires.over c.args.block.now.types.items c.requires.block_in c.in_ok-names.names (rw c.deref.ensures.value at c.in_ok-names.ensures)

if_same : {A E : Type 0} (x y : A) (r : Result A E) → x ≡ y → IfOk r (λ a. a ≡ x) → IfOk r (λ a. a ≡ y)
if_same x y (Ok a) e h = h ∙ e
if_same x y (Err n) e h = tt

pub returns : goal.returns
returns g c =
    let none : nat_eq c.args.ty.now.indices 0 ≡ true = grind (arith, nat_tests, c.if-ty-ne0.false) in
    if_same _ _ c.has_plain_fields.result
    (like_is (contents_of (g.L.Lends.lent c.args.library.now).tables) (g.T.Terms.contents c.args.terms.now) c.requires.over c.args.block.now c.args.ty.now c.args.constructor.now c.in_ok-names.names
    (rw c.deref.ensures.value at c.in_ok-names.ensures) c.requires.block_in c.requires.constructor_in none)
    c.has_plain_fields.ensures
