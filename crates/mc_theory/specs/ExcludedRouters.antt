-- Excluded routers, whose tables aren't known. A net without them has none of their interfaces, so
-- no copy waits there, and what a packet does at the other routers it does in the whole net too.
use Rattle.std.specs.Prelude.{◌≡◌, ℕ, Bool, true, false, List, None, ⊤}
use Rattle.mc_theory.specs.Nets.{Net}
use Rattle.mc_theory.specs.Flights.{Pick, IsLossless, InRange, start, run}
use Rattle.mc_theory.specs.Findings.{Finding}
use Rattle.mc_theory.specs.Findings.Finding.{Clean, Duplicate, Loop, Stray, Missed}

-- The part is the whole net without these routers: none of their vifs is placed there, and all else
-- is the same. (A row of theirs, if there is one, is never looked up.)
pub record ExcludesRouters (excluded : ℕ → Bool) (part whole : Net) : Type 0 where
  pub routers : part.routers ≡ whole.routers
  pub source : part.source ≡ whole.source
  pub ttl : part.ttl ≡ whole.ttl
  pub wants : (lan : ℕ) → part.wants lan ≡ whole.wants lan
  pub placed : (router vif : ℕ) → excluded router ≡ false → part.placed router vif ≡ whole.placed router vif
  pub row : (router : ℕ) → excluded router ≡ false → part.row router ≡ whole.row router
  pub nothing : (router vif : ℕ) → excluded router ≡ true → part.placed router vif ≡ None

-- By some picks of waiting copies of the whole net the same comes of a packet as by these picks of
-- the part: the same copies were carried and the same strays are there, in the same order. If none
-- was lost in the part, none was lost in the whole. (The copies that wait at the excluded routers
-- aren't picked.)
pub record HasSameCopiesAndStrays (part whole : Net) (ttl : ℕ) (part_picks : List Pick) : Type 0 where
  pub picks : List Pick
  pub in_range : InRange whole picks (start whole ttl)
  pub carried : (run whole picks (start whole ttl)).carried ≡ (run part part_picks (start part ttl)).carried
  pub strays : (run whole picks (start whole ttl)).strays ≡ (run part part_picks (start part ttl)).strays
  pub lossless : IsLossless part_picks → IsLossless picks

-- The finding is that a LAN carried two copies, or that one left the known domain.
abbrev pub IsSecondCopyOrStray : Finding → Type 0
IsSecondCopyOrStray Clean = ⊥
IsSecondCopyOrStray (Duplicate lan) = ⊤
IsSecondCopyOrStray (Loop lan) = ⊤
IsSecondCopyOrStray (Stray router vif) = ⊤
IsSecondCopyOrStray (Missed lan) = ⊥
