use Rattle.std.proofs.Common.{map}
use Rattle.lk_store.specs.Contents.{name_at, list_at, tree_at}
use Rattle.lk_ask.specs.Constants.{IsAtLevels}
use Rattle.lk_ask.proofs.MadeBefore.{instances_stay, row_is, what_is_put}
use Rattle.lk_ask.proofs.constants.find_or_put.Goals as goal

pub returns-then-not-has_params-clause-instances : goal.returns-then-not-has_params-clause-instances
returns-then-not-has_params-clause-instances g c =
    instances_stay c.put_in.ensures.keeps c.args.instances.now.table c.requires.instances

pub returns-in_err-put-clause-instances : goal.returns-in_err-put-clause-instances
returns-in_err-put-clause-instances g c =
    instances_stay c.put_in-2.ensures.keeps c.args.instances.now.table c.requires.instances

pub returns-in_default-put-clause-instances : goal.returns-in_default-put-clause-instances
returns-in_default-put-clause-instances g c =
    instances_stay c.put_in-2.ensures.keeps c.args.instances.now.table c.requires.instances

pub returns-in-Some-put-clause-instances : goal.returns-in-Some-put-clause-instances
returns-in-Some-put-clause-instances g c =
    let put = c.put_in-2 in
    let before = g.T.Terms.contents c.args.terms.now in
    let after = g.T.Terms.contents put.new.terms in
    c.keep.ensures after
    (row_is before after c.args.params.now c.args.tree c.in-Some-put.made put.ensures.keeps
    c.requires.params_in c.requires.levels_in c.requires.e_in
    (what_is_put (IsAtLevels after (map (name_at before) c.args.params.now)
    (list_at before c.args.tree.levels) (tree_at before c.args.tree.e)) put.result c.in_ok-put.put
    c.in-Some-put.made c.in_ok-put.was c.in-Some-put.is put.ensures.ok))
    (instances_stay put.ensures.keeps c.args.instances.now.table c.requires.instances)
