use Rattle.std.proofs.Common.{◌≤◌, length, refl, arith, rules}
use Rattle.lk_rulebook.specs.Structures.{before_major}
use Rattle.lk_store.specs.Store.{contents_of}
use Rattle.lk_store.specs.Contents.{list_at}
use Rattle.lk_env.specs.Lent.{given_recursor}
use Rattle.lk_iota.proofs.Splits.{split_found, split_missing}
use Rattle.lk_iota.proofs.major.split.Goals as goal

pub returns-then-before-len-clause-is : goal.returns-then-before-len-clause-is
returns-then-before-len-clause-is c d l g given entry kind =
    let r = given_recursor (contents_of l.tables) c.args.recursor.now given in
    let few : length c.args.arguments.items ≤ before_major r = omega arith in
    split_missing d l c.args.arguments.items (list_at d c.args.levels) g r few

pub returns-clause-is : goal.returns-clause-is
returns-clause-is c d l g given entry kind =
    let r = given_recursor (contents_of l.tables) c.args.recursor.now given in
    split_found d l _ g r entry kind (search rules) (search rules) refl (omega arith) (search rules)
