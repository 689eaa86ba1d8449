-- The rows of a topology's sections: routers, interfaces and sources. LANs and routers are numbered
-- from 0, in the order of the text.
use Rattle.std.specs.Prelude.{◌≡◌, ℕ, Bool, true, false, List, refl, String, string_bytes}
use Rattle.std.specs.Coded.{Coded, code_by, coded×, coded_bool, coded_ℕ, coded_list}
use Rattle.mc_text.specs.declared.text.addr.Order.{Order}
use Rattle.mc_text.specs.declared.text.addr.Order.TheVariants.{Little, Big}

-- a router: its name, and the byte order of its machine
pub record RouterRow : Type 0 where
  pub name : List ℕ
  pub order : Order

-- an interface: its router, by number, its device, and the LAN that it is on, by number
pub record InterfaceRow : Type 0 where
  pub router : ℕ
  pub device : List ℕ
  pub lan : ℕ

-- a source: the address of a host that sends, and the LAN that the host is on, by number
pub record SourceRow : Type 0 where
  pub address : ℕ
  pub lan : ℕ

-- the router with this name and byte order
abbrev pub router_row : {A : Type 0} → String A × Order → RouterRow
router_row e = record { name = string_bytes e.0; order = e.1 }

-- the source with this address, and on this LAN
abbrev pub source_row : ℕ × ℕ → SourceRow
source_row pair = record { address = pair.0; lan = pair.1 }

-- whether the byte order is big-endian
abbrev pub is_big : Order → Bool
is_big Little = false
is_big Big = true

-- the byte order, by whether it is big-endian
abbrev pub order_of_big : Bool → Order
order_of_big false = Little
order_of_big true = Big

-- each byte order is found again by whether it is big-endian
pub order_of_big-is_big : (order : Order) → order_of_big (is_big order) ≡ order
order_of_big-is_big Little = refl
order_of_big-is_big Big = refl

-- a byte order is stored as whether it is big-endian
abbrev pub order_code : Coded Order
order_code = code_by Bool coded_bool is_big order_of_big order_of_big-is_big

-- a router is stored as its fields
abbrev pub router_code : Coded RouterRow
router_code =
    code_by (List ℕ × Order) (coded× (coded_list coded_ℕ) order_code) (λ row. (row.name, row.order))
    (λ stored. record { name = stored.0; order = stored.1 }) (λ _. refl)

-- an interface is stored as its fields
abbrev pub interface_code : Coded InterfaceRow
interface_code =
    code_by (ℕ × (List ℕ × ℕ)) (coded× coded_ℕ (coded× (coded_list coded_ℕ) coded_ℕ))
    (λ row. (row.router, (row.device, row.lan)))
    (λ stored. record { router = stored.0; device = stored.1.0; lan = stored.1.1 })
    (λ _. refl)

-- a source is stored as its fields
abbrev pub source_code : Coded SourceRow
source_code =
    code_by (ℕ × ℕ) (coded× coded_ℕ coded_ℕ) (λ row. (row.address, row.lan)) source_row (λ _. refl)
