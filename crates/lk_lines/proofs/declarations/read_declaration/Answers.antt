use Rattle.lk_lines.proofs.declarations.read_declaration.Goals as goal

pub returns-in-Axiom-clause-values : goal.returns-in-Axiom-clause-values
returns-in-Axiom-clause-values g c text = rw c.in-Axiom.is (c.axiom.ensures.values text)

pub returns-in-Definition-clause-values : goal.returns-in-Definition-clause-values
returns-in-Definition-clause-values g c text = rw c.in-Definition.is (c.definition.ensures.values text)

pub returns-in-Theorem-clause-values : goal.returns-in-Theorem-clause-values
returns-in-Theorem-clause-values g c text = rw c.in-Theorem.is (c.theorem.ensures.values text)

pub returns-in-Opaque-clause-values : goal.returns-in-Opaque-clause-values
returns-in-Opaque-clause-values g c text = rw c.in-Opaque.is (c.opaque.ensures.values text)

pub returns-in-Quotient-clause-values : goal.returns-in-Quotient-clause-values
returns-in-Quotient-clause-values g c text = rw c.in-Quotient.is (c.quotient.ensures.values text)

pub returns-in-Inductive-clause-values : goal.returns-in-Inductive-clause-values
returns-in-Inductive-clause-values g c text = rw c.in-Inductive.is (c.inductive.ensures.values text)

pub returns-in-Constructor-clause-values : goal.returns-in-Constructor-clause-values
returns-in-Constructor-clause-values g c text = rw c.in-Constructor.is (c.constructor.ensures.values text)

pub returns-in-Recursor-clause-values : goal.returns-in-Recursor-clause-values
returns-in-Recursor-clause-values g c text = rw c.in-Recursor.is (c.recursor.ensures.values text)
