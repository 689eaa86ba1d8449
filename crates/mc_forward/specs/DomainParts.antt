-- How a domain is stored: its facts as their fields, and look-up tables beside them that are
-- computed once.
use Rattle.std.specs.Prelude.{◌≡◌, ℕ, Bool, List, map, length, Option, Some, None, refl}
use Rattle.std.specs.Coded.{Coded, code_by, coded×, coded_list, coded_option, coded_ℕ, coded_bool}
use Rattle.std.specs.FinMap as finite
use Rattle.mc_tables.specs.VifTable.{vif_code}
use Rattle.mc_tables.specs.CacheTable.{CacheValue, cache_code}
use Rattle.mc_topology.specs.Topology.{TopologyValue, topology_code}
use Rattle.mc_theory.specs.Lists.{below}
use Rattle.mc_theory.specs.Nets.{Interface, Row, interfaces}
use Rattle.mc_theory.specs.Nets.Row.{Exact, Open, NoRow}
use Rattle.mc_forward.specs.Assembling.{AreAnswers, domain_with}
use Rattle.mc_forward.specs.Domains.{TablesValue, VifsValue, DomainValue, AreRows, IsDomain, placed_of}
use Rattle.mc_forward.specs.Domains.{net_of}

-- a router's vifs are stored as a map
abbrev pub vifs_code : Coded VifsValue
vifs_code = finite.code coded_ℕ vif_code

-- a router's tables are stored as their fields
abbrev pub tables_code : Coded TablesValue
tables_code =
    code_by (VifsValue × CacheValue) (coded× vifs_code cache_code)
    (λ tables. (tables.vifs, tables.cache)) (λ stored. record { vifs = stored.0; cache = stored.1 })
    (λ _. refl)

-- a row is stored as its (S,G) entry, or as whether there is a (*,G) or (*,*) one
abbrev pub stored_row : Row → Option (Option (ℕ × List (ℕ × ℕ)))
stored_row (Exact incoming pairs) = Some (Some (incoming, pairs))
stored_row Open = Some None
stored_row NoRow = None

-- the row that is stored as this
abbrev pub row_from_stored : Option (Option (ℕ × List (ℕ × ℕ))) → Row
row_from_stored (Some (Some p)) = Exact p.0 p.1
row_from_stored (Some None) = Open
row_from_stored None = NoRow

-- each row is found again by what it is stored as
abbrev pub row_from_stored-stored_row : (row : Row) → row_from_stored (stored_row row) ≡ row
row_from_stored-stored_row (Exact incoming pairs) = refl
row_from_stored-stored_row Open = refl
row_from_stored-stored_row NoRow = refl

-- a row is stored as `stored_row` gives it
abbrev pub row_code : Coded Row
row_code =
    code_by (Option (Option (ℕ × List (ℕ × ℕ))))
    (coded_option (coded_option (coded× coded_ℕ (coded_list (coded× coded_ℕ coded_ℕ)))))
    stored_row row_from_stored row_from_stored-stored_row

-- a domain is stored as its fields
abbrev pub domain_code : Coded DomainValue
domain_code =
    code_by (TopologyValue × (List VifsValue × (List (List Row) × List (List Bool))))
    (coded× topology_code (coded× (coded_list vifs_code)
    (coded× (coded_list (coded_list row_code)) (coded_list (coded_list coded_bool)))))
    (λ domain. (domain.topology, (domain.vifs, (domain.rows, domain.wants))))
    (λ stored. domain_with stored.0 stored.1.0 stored.1.1.0 stored.1.1.1) (λ _. refl)

-- the LAN of each vif from 0 to 31, router by router
abbrev pub vif_lans_of : DomainValue → List (List (Option ℕ))
vif_lans_of domain =
    map (λ router. map (placed_of domain router) (below 32)) (below (length domain.topology.routers))

-- the interfaces of each LAN, which are the same for every flow
abbrev pub interfaces_of : DomainValue → List (List Interface)
interfaces_of domain = map (interfaces (net_of domain 0)) (below (length domain.topology.lans))

-- the look-up tables are those of the domain: the LANs of all vifs, and the interfaces of all LANs
pub record AreDerivedTables (d : DomainValue) (ps : List (List (Option ℕ)))
    (is : List (List Interface)) : Type 0 where
  pub domain : IsDomain d
  pub vif_lans : ps ≡ vif_lans_of d
  pub interfaces : is ≡ interfaces_of d

-- the look-up tables are those of each domain that has this topology and these vifs
abbrev pub AreDerivedFrom : TopologyValue → List VifsValue → List (List (Option ℕ))
    → List (List Interface) → Type 0
AreDerivedFrom topology vifs vif_lans interfaces =
    (rows : List (List Row)) (wants : List (List Bool)) → AreRows topology rows → AreAnswers topology wants
    → AreDerivedTables (domain_with topology vifs rows wants) vif_lans interfaces
