-- The four constants of quotient types.
use Rattle.lk_rulebook.specs.Quotients.{Quotient as PlainQuotient, the_type, the_mk, the_lift}
use Rattle.lk_rulebook.specs.Quotients.{the_ind}
use Rattle.lk_quot.specs.declared.quotient.Quotient.{Quotient}
use Rattle.lk_quot.specs.declared.quotient.Quotient.TheVariants.{Quot, Mk, Lift, Ind}

abbrev pub plain_quotient : Quotient → PlainQuotient
plain_quotient Quot = the_type
plain_quotient Mk = the_mk
plain_quotient Lift = the_lift
plain_quotient Ind = the_ind
