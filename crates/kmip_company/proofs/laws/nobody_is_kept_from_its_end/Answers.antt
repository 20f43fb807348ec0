-- Passing by passing.
use Rattle.kmip_company.proofs.AmidLemmas.{kept_bounded, left_paid, nothing_left}
use Rattle.kmip_company.proofs.laws.nobody_is_kept_from_its_end.Goals as goal

pub returns-clause-paid : goal.returns-clause-paid
returns-clause-paid c =
    λ keys passings s lawful well may. left_paid c.the_laws_below_hold.ensures keys passings s lawful well may

pub returns-clause-bounded : goal.returns-clause-bounded
returns-clause-bounded c =
    λ keys p passings lawful opening may. kept_bounded c.the_laws_below_hold.ensures keys p passings lawful opening may

pub returns-clause-finished : goal.returns-clause-finished
returns-clause-finished c = λ keys s well none. nothing_left c.the_laws_below_hold.ensures keys s well none
