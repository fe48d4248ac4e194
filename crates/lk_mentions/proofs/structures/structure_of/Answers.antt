use Rattle.std.proofs.Common.{◌≡◌, nat_eq, length, true, false, refl, sym, ◌∙◌, arith}
use Rattle.std.proofs.lemmas.Bool.Decides.{nat_tests}
use Rattle.lk_rulebook.specs.Structures.{is_structure_like}
use Rattle.lk_store.specs.Store.{contents_of}
use Rattle.lk_env.specs.Units.{block_at, type_at, constructor_at}
use Rattle.lk_mentions.proofs.Plainly.{alone_is, not_alone, not_like, both_so, no_member}
use Rattle.lk_mentions.proofs.structures.structure_of.Goals as goal

pub returns-then-len-ne1-clause-is : goal.returns-then-len-ne1-clause-is
returns-then-len-ne1-clause-is g c e h =
    let base = contents_of (g.L.Lends.lent c.args.library.now).tables in
    let t = c.in-Some.ty.now in
    let more : nat_eq (length t.constructors.items) 1 ≡ false = grind (arith, nat_tests, c.if-len-ne1.true, c.len.ensures) in
    not_alone (g.T.Terms.contents c.args.terms.now) e.kind (block_at base c.in-Some.block.now) (type_at base t) (constructor_at base c.in-Some.constructor.now) (c.in-Some.ensures.value e h) (alone_is base t.constructors.items ∙ more)

pub returns-then-branch-clause-is : goal.returns-then-branch-clause-is
returns-then-branch-clause-is g c e h =
    let base = contents_of (g.L.Lends.lent c.args.library.now).tables in
    let t = c.in-Some.ty.now in
    let one : nat_eq (length t.constructors.items) 1 ≡ true = grind (arith, nat_tests, c.if-len-ne1.false, c.len.ensures) in
    let like : is_structure_like (block_at base c.in-Some.block.now) (type_at base t) (constructor_at base c.in-Some.constructor.now) ≡ true = sym c.in_ok-is_like-in-Some.ensures ∙ c.if-branch.true in
    let known = c.in-Some.ensures.known.type_in.stated.name_in in
    let l = c.requires.over.names.longer in
    both_so (g.T.Terms.contents c.args.terms.now) e.kind (block_at base c.in-Some.block.now) (type_at base t) (constructor_at base c.in-Some.constructor.now) (c.in-Some.ensures.value e h)
    _ (alone_is base t.constructors.items ∙ one) like
    (record { inductive_in = omega arith; inductive_is = c.requires.over.names.same t.name known; parameters_are = refl; fields_are = refl })

pub returns-else-branch-clause-is : goal.returns-else-branch-clause-is
returns-else-branch-clause-is g c e h =
    let base = contents_of (g.L.Lends.lent c.args.library.now).tables in
    let t = c.in-Some.ty.now in
    let one : nat_eq (length t.constructors.items) 1 ≡ true = grind (arith, nat_tests, c.if-len-ne1.false, c.len.ensures) in
    let other : is_structure_like (block_at base c.in-Some.block.now) (type_at base t) (constructor_at base c.in-Some.constructor.now) ≡ false = sym c.in_ok-is_like-in-Some.ensures ∙ c.if-branch.false in
    not_like (g.T.Terms.contents c.args.terms.now) e.kind (block_at base c.in-Some.block.now) (type_at base t) (constructor_at base c.in-Some.constructor.now) (c.in-Some.ensures.value e h)
    (alone_is base t.constructors.items ∙ one) other

pub returns-in-None-clause-is : goal.returns-in-None-clause-is
returns-in-None-clause-is g c e h = no_member (g.T.Terms.contents c.args.terms.now) e.kind (c.in-None.ensures.value e h)
