use Rattle.qq_group_laws.proofs.Opened.{named-caused, short-caused, unnamed-caused}
use Rattle.qq_group_laws.proofs.openings.a_member_that_isnt_named_is_told.Goals as goal

pub returns-clause-short : goal.returns-clause-short
returns-clause-short g c = λ nodes starts members cause. short-caused nodes starts members cause

pub returns-clause-unnamed : goal.returns-clause-unnamed
returns-clause-unnamed g c = λ nodes starts node fault here is cause.
    unnamed-caused nodes starts node fault here is cause

pub returns-clause-named : goal.returns-clause-named
returns-clause-named g c = λ nodes starts fault named cause. named-caused nodes starts fault named cause
