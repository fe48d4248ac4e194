use Rattle.lk_token.specs.Fields.{text_behind}
use Rattle.lk_lines.proofs.entries.read_entry.Goals as goal

pub returns-in-Lambda-clause-values : goal.returns-in-Lambda-clause-values
returns-in-Lambda-clause-values g c = rw c.in-Lambda.is (c.lambda.ensures.values (text_behind c.args.raw.now))

pub returns-in-Pi-clause-values : goal.returns-in-Pi-clause-values
returns-in-Pi-clause-values g c = rw c.in-Pi.is (c.pi.ensures.values (text_behind c.args.raw.now))

pub returns-in-Let-clause-values : goal.returns-in-Let-clause-values
returns-in-Let-clause-values g c = rw c.in-Let.is (c.let_in.ensures.values (text_behind c.args.raw.now))

pub returns-in-Project-clause-values : goal.returns-in-Project-clause-values
returns-in-Project-clause-values g c = rw c.in-Project.is (c.project.ensures.values (text_behind c.args.raw.now))

pub returns-in-Rule-clause-values : goal.returns-in-Rule-clause-values
returns-in-Rule-clause-values g c = rw c.in-Rule.is (c.rule.ensures.values (text_behind c.args.raw.now))
