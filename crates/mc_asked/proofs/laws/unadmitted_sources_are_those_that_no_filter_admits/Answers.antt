use Rattle.mc_asked.proofs.LanByLanLemmas.{unadmitted-of_line}
use Rattle.mc_asked.proofs.NoFilterLemmas.{unadmitted_in-of_merged}
use Rattle.mc_asked.proofs.laws.unadmitted_sources_are_those_that_no_filter_admits.Goals as goal

-- An EXCLUDE filter admits every source but those of its list, and some record lists each of these.
pub returns-clause-list : goal.returns-clause-list
returns-clause-list c = λ records groups group filter merged mode h.
    unadmitted_in-of_merged records groups group filter merged mode h

-- Each LAN of the line has an EXCLUDE filter for the group, so that a source which none admits is one that
-- the first LAN lists, and that no other admits.
pub returns-clause-line : goal.returns-clause-line
returns-clause-line c = λ all a lists group lans source h. unadmitted-of_line all a lists group lans source h
