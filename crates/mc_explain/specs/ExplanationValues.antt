-- The explanation of a finding as a value (docs/FORMATS.md, "The explanation of a finding").
use Rattle.std.specs.Prelude.{ℕ, List, Option}
use Rattle.mc_explain.specs.declared.causes.Cause.{Cause}
use Rattle.mc_explain.specs.declared.causes.behind.Behind.{Behind}
use Rattle.mc_explain.specs.declared.causes.explanation.Certainty.{Certainty}
use Rattle.mc_explain.specs.declared.causes.explanation.Explanation.{Explanation}
use Rattle.mc_search.specs.declared.searching.LanSearch.{LanSearch}

-- The explanation of a finding.
pub record ExplanationValue : Type 0 where
  -- the causes that are printed
  pub printed : List Cause
  -- the search for the LAN that a packet with TTL 255 missed, if it missed one
  pub search : Option LanSearch
  -- the other LANs that the packet missed
  pub also : List ℕ
  -- what is behind a stray, if the finding is one
  pub behind : Option Behind
  -- how certain the finding is
  pub certainty : Certainty

-- an explanation as a value
abbrev pub explanation_value : Explanation → ExplanationValue
explanation_value explanation = record {
  printed = explanation.causes.now;
  search = explanation.search.now;
  also = explanation.also.now;
  behind = explanation.behind.now;
  certainty = explanation.certainty;
}
