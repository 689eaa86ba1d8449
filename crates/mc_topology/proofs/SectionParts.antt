-- A row of each section denotes what it is read as, and is read as what it denotes.
use Rattle.std.proofs.Common.{◌≡◌, ℕ, pos, false, not}
use Rattle.std.proofs.Common.{List, codes, Ok}
use Rattle.std.proofs.Common.{refl, ap, subst, ◌∙◌}
use Rattle.std.specs.Option.{ok_or}
use Rattle.std.proofs.lemmas.Bool.{not-false}
use Rattle.toml.specs.Data.{Data}
use Rattle.mc_text.specs.Addr.{dotted}
use Rattle.mc_topology.specs.declared.fault.TopologyFaultKind.TheVariants.{BadName, UnknownName}
use Rattle.mc_topology.specs.declared.fault.TopologyFaultKind.TheVariants.{RepeatedName}
use Rattle.mc_topology.specs.declared.fault.TopologyFaultKind.TheVariants.{RepeatedInterface}
use Rattle.mc_topology.specs.declared.fault.TopologyFaultKind.TheVariants.{RepeatedFlow}
use Rattle.mc_topology.specs.declared.flow.Flow.{Flow}
use Rattle.mc_topology.specs.SectionRows.{RouterRow, InterfaceRow, SourceRow}
use Rattle.mc_topology.specs.Addresses.{source_address_of, group_address_of}
use Rattle.mc_topology.specs.Document.{known_table, text_of, text_at, number_at, optional_text_at}
use Rattle.mc_topology.specs.Names.{is_name, is_device, index_of}
use Rattle.mc_topology.specs.Lans.{has_lan, lan_name_of}
use Rattle.mc_topology.specs.Routers.{router_keys, router_of, order_of}
use Rattle.mc_topology.specs.Lookup.{has_router, router_no_of, has_interface}
use Rattle.mc_topology.specs.Interfaces.{interface_keys, interface_of, interface_of_values}
use Rattle.mc_topology.specs.Sources.{source_keys, source_of, source_of_values, has_source, lan_of_source}
use Rattle.mc_topology.specs.Flows.{flow_keys, flow_of, flow_of_values, ttl_of, has_flow}
use Rattle.mc_topology.specs.Denotation.{DenotesLan, DenotesRouter, DenotesInterface}
use Rattle.mc_topology.specs.Denotation.{DenotesSource, DenotesFlow}
use Rattle.mc_topology.proofs.Fields.{string-from_text_of, HasText-from_text_at, text_at-from_HasText}
use Rattle.mc_topology.proofs.Fields.{HasNumber-from_number_at, number_at-from_HasNumber}
use Rattle.mc_topology.proofs.Fields.{IsTable-from_known_table, known_table-from_IsTable}
use Rattle.mc_topology.proofs.Fields.{DenotesOrder-from_optional_text_at}
use Rattle.mc_topology.proofs.Fields.{optional_text_at-from_DenotesOrder}
use Rattle.mc_topology.proofs.Steps.{bind_ok, refusal_ok, ok_or_ok, ok_injective}
use Rattle.mc_topology.proofs.AddressParts.{dotted-from_group_address_of}
use Rattle.mc_topology.proofs.AddressParts.{dotted-from_source_address_of, group_address_of-dotted}
use Rattle.mc_topology.proofs.AddressParts.{range-from_ttl_of, source_address_of-dotted}
use Rattle.mc_topology.proofs.AddressParts.{ttl_of-in_range}

-- a value that is read as a LAN denotes it, and no earlier LAN has its name
pub lan_name_of-denotes : (earlier : List (List ℕ)) (d : Data) (name : List ℕ)
    → lan_name_of earlier d ≡ Ok name
    → DenotesLan d name × (has_lan name earlier ≡ false)
unfolding lan_name_of
lan_name_of-denotes earlier d name e =
    let a = bind_ok (text_of d) _ name e in
    let fits = refusal_ok (not (is_name a.0)) BadName _ name a.2 in
    let new = refusal_ok (has_lan a.0 earlier) RepeatedName (Ok a.0) name fits.1 in
    let same : a.0 ≡ name = ok_injective a.0 name new.1 in
    subst (λ (x : List ℕ). DenotesLan d x × (has_lan x earlier ≡ false)) same (
      record {
        text = string-from_text_of d a.0 a.1;
        fits = not-false _ fits.0;
      },
      new.0,
    )

-- and a LAN with a new name is read
pub lan_name_of-from_denotes : (earlier : List (List ℕ)) (d : Data) (name : List ℕ) → DenotesLan d name
    → has_lan name earlier ≡ false → lan_name_of earlier d ≡ Ok name
unfolding lan_name_of
lan_name_of-from_denotes earlier d name is new = rw (is.text, is.fits, new) refl

-- a value that is read as a router denotes it, and no earlier router has its name
pub router_of-denotes : (earlier : List RouterRow) (d : Data) (r : RouterRow)
    → router_of earlier d ≡ Ok r → DenotesRouter d r × (has_router r.name earlier ≡ false)
unfolding router_of
router_of-denotes earlier d r e =
    let t = bind_ok (known_table router_keys d) _ r e in
    let name = bind_ok (text_at (codes "name") t.0) _ r t.2 in
    let text = bind_ok (optional_text_at (codes "order") t.0) _ r name.2 in
    let fits = refusal_ok (not (is_name name.0)) BadName _ r text.2 in
    let order = bind_ok (order_of text.0) _ r fits.1 in
    let new = refusal_ok (has_router name.0 earlier) RepeatedName _ r order.2 in
    let made : RouterRow = record { name = name.0; order = order.0 } in
    subst (λ (x : RouterRow). DenotesRouter d x × (has_router x.name earlier ≡ false))
    (ok_injective made r new.1) (
      record {
        members = t.0;
        is_table = IsTable-from_known_table router_keys d t.0 t.1;
        name = HasText-from_text_at (codes "name") t.0 name.0 name.1;
        order = DenotesOrder-from_optional_text_at (codes "order") t.0 text.0 order.0 text.1 order.1;
        fits = not-false _ fits.0;
      },
      new.0,
    )

-- and a router with a new name is read
pub router_of-from_denotes : (earlier : List RouterRow) (d : Data) (r : RouterRow) → DenotesRouter d r
    → has_router r.name earlier ≡ false → router_of earlier d ≡ Ok r
unfolding router_of
router_of-from_denotes earlier d r is new =
    let text = optional_text_at-from_DenotesOrder (codes "order") is.members r.order is.order in
    rw (
      known_table-from_IsTable router_keys d is.members is.is_table,
      text_at-from_HasText
          (codes "name") is.members r.name is.name,
      text.1,
      is.fits,
      text.2,
      new,
    ) refl

-- a value that is read as an interface denotes it, and no earlier one has its router and device
pub interface_of-denotes : (lans : List (List ℕ)) (routers : List RouterRow)
    (earlier : List InterfaceRow) (d : Data) (i : InterfaceRow)
    → interface_of lans routers earlier d ≡ Ok i → DenotesInterface lans routers d i
    × (has_interface i.router i.device earlier ≡ false)
unfolding interface_of interface_of_values
interface_of-denotes lans routers earlier d i e =
    let t = bind_ok (known_table interface_keys d) _ i e in
    let router_name = bind_ok (text_at (codes "router") t.0) _ i t.2 in
    let device = bind_ok (text_at (codes "device") t.0) _ i router_name.2 in
    let lan_name = bind_ok (text_at (codes "lan") t.0) _ i device.2 in
    let router = bind_ok (ok_or (router_no_of router_name.0 routers) UnknownName) _ i lan_name.2 in
    let fits = refusal_ok (not (is_device device.0)) BadName _ i router.2 in
    let lan = bind_ok (ok_or (index_of lan_name.0 lans) UnknownName) _ i fits.1 in
    let new = refusal_ok (has_interface router.0 device.0 earlier) RepeatedInterface _ i lan.2 in
    let made : InterfaceRow = record { router = router.0; device = device.0; lan = lan.0 } in
    subst (λ (x : InterfaceRow). DenotesInterface lans routers d x
    × (has_interface x.router x.device earlier ≡ false)) (ok_injective made i new.1) (
      record {
        members = t.0;
        router_name = router_name.0;
        lan_name = lan_name.0;
        is_table = IsTable-from_known_table interface_keys d t.0 t.1;
        router_text = HasText-from_text_at (codes "router") t.0 router_name.0 router_name.1;
        device = HasText-from_text_at (codes "device") t.0 device.0 device.1;
        lan_text = HasText-from_text_at (codes "lan") t.0 lan_name.0 lan_name.1;
        router = ok_or_ok (router_no_of router_name.0 routers) UnknownName router.0 router.1;
        fits = not-false _ fits.0;
        lan = ok_or_ok (index_of lan_name.0 lans) UnknownName lan.0 lan.1;
      },
      new.0,
    )

-- and an interface with a new router and device is read
pub interface_of-from_denotes : (lans : List (List ℕ)) (routers : List RouterRow)
    (earlier : List InterfaceRow) (d : Data) (i : InterfaceRow) → DenotesInterface lans routers d i
    → has_interface i.router i.device earlier ≡ false → interface_of lans routers earlier d ≡ Ok i
unfolding interface_of interface_of_values
interface_of-from_denotes lans routers earlier d i is new =
    rw (
      known_table-from_IsTable interface_keys d is.members is.is_table,
      text_at-from_HasText
          (codes "router") is.members is.router_name is.router_text,
      text_at-from_HasText
          (codes "device") is.members i.device is.device,
      text_at-from_HasText
          (codes "lan") is.members is.lan_name is.lan_text,
      is.router,
      is.fits,
      is.lan,
      new,
    )
    refl

-- a value that is read as a source denotes it, and no earlier source has its address
pub source_of-denotes : (lans : List (List ℕ)) (earlier : List SourceRow) (d : Data) (s : SourceRow)
    → source_of lans earlier d ≡ Ok s → DenotesSource lans d s
    × (has_source s.address earlier ≡ false)
unfolding source_of source_of_values
source_of-denotes lans earlier d s e =
    let t = bind_ok (known_table source_keys d) _ s e in
    let text = bind_ok (text_at (codes "address") t.0) _ s t.2 in
    let lan_name = bind_ok (text_at (codes "lan") t.0) _ s text.2 in
    let address = bind_ok (source_address_of text.0) _ s lan_name.2 in
    let lan = bind_ok (ok_or (index_of lan_name.0 lans) UnknownName) _ s address.2 in
    let new = refusal_ok (has_source address.0 earlier) RepeatedName _ s lan.2 in
    let at = dotted-from_source_address_of text.0 address.0 address.1 in
    let made : SourceRow = record { address = address.0; lan = lan.0 } in
    subst (λ (x : SourceRow). DenotesSource lans d x × (has_source x.address earlier ≡ false))
    (ok_injective made s new.1) (
      record {
        members = t.0;
        lan_name = lan_name.0;
        is_table = IsTable-from_known_table source_keys d t.0 t.1;
        address = HasText-from_text_at (codes "address") t.0 (dotted address.0) (text.1 ∙ ap Ok at.0);
        lan_text = HasText-from_text_at (codes "lan") t.0 lan_name.0 lan_name.1;
        is_address = at.1;
        may_send = at.2;
        lan = ok_or_ok (index_of lan_name.0 lans) UnknownName lan.0 lan.1;
      },
      new.0,
    )

-- and a source with a new address is read
pub source_of-from_denotes : (lans : List (List ℕ)) (earlier : List SourceRow) (d : Data) (s : SourceRow)
    → DenotesSource lans d s → has_source s.address earlier ≡ false → source_of lans earlier d ≡ Ok s
unfolding source_of source_of_values
source_of-from_denotes lans earlier d s is new =
    rw (
      known_table-from_IsTable source_keys d is.members is.is_table,
      text_at-from_HasText
          (codes "address") is.members (dotted s.address) is.address,
      text_at-from_HasText
          (codes "lan") is.members is.lan_name is.lan_text,
      source_address_of-dotted s.address is.is_address is.may_send,
      is.lan,
      new,
    )
    refl

-- a value that is read as a flow denotes it, and no earlier flow has its source and group
pub flow_of-denotes : (sources : List SourceRow) (earlier : List Flow) (d : Data) (f : Flow)
    → flow_of sources earlier d ≡ Ok f → DenotesFlow sources d f
    × (has_flow f.source f.group earlier ≡ false)
unfolding flow_of flow_of_values
flow_of-denotes sources earlier d f e =
    let t = bind_ok (known_table flow_keys d) _ f e in
    let source_text = bind_ok (text_at (codes "source") t.0) _ f t.2 in
    let group_text = bind_ok (text_at (codes "group") t.0) _ f source_text.2 in
    let number = bind_ok (number_at (codes "ttl") t.0) _ f group_text.2 in
    let source = bind_ok (source_address_of source_text.0) _ f number.2 in
    let lan = bind_ok (ok_or (lan_of_source source.0 sources) UnknownName) _ f source.2 in
    let group = bind_ok (group_address_of group_text.0) _ f lan.2 in
    let ttl = bind_ok (ttl_of number.0) _ f group.2 in
    let new = refusal_ok (has_flow source.0 group.0 earlier) RepeatedFlow _ f ttl.2 in
    let from = dotted-from_source_address_of source_text.0 source.0 source.1 in
    let to = dotted-from_group_address_of group_text.0 group.0 group.1 in
    let within = range-from_ttl_of number.0 ttl.0 ttl.1 in
    let made : Flow = record { source = source.0; lan = lan.0; group = group.0; ttl = ttl.0 } in
    subst (λ (x : Flow). DenotesFlow sources d x × (has_flow x.source x.group earlier ≡ false))
    (ok_injective made f new.1) (
      record {
        members = t.0;
        is_table = IsTable-from_known_table flow_keys d t.0 t.1;
        source = HasText-from_text_at (codes "source") t.0 (dotted source.0)
            (source_text.1 ∙ ap Ok from.0);
        group = HasText-from_text_at (codes "group") t.0 (dotted group.0) (group_text.1 ∙ ap Ok to.0);
        ttl = HasNumber-from_number_at (codes "ttl") t.0 (pos ttl.0) (number.1 ∙ ap Ok within.0);
        is_address = from.1;
        may_send = from.2;
        lan = ok_or_ok (lan_of_source source.0 sources) UnknownName lan.0 lan.1;
        is_group = to.1;
        ttl_from = within.1;
        ttl_to = within.2;
      },
      new.0,
    )

-- and a flow with a new source and group is read
pub flow_of-from_denotes : (sources : List SourceRow) (earlier : List Flow) (d : Data) (f : Flow)
    → DenotesFlow sources d f → has_flow f.source f.group earlier ≡ false
    → flow_of sources earlier d ≡ Ok f
unfolding flow_of flow_of_values
flow_of-from_denotes sources earlier d f is new =
    rw (
      known_table-from_IsTable flow_keys d is.members is.is_table,
      text_at-from_HasText (codes "source") is.members (dotted f.source) is.source,
      text_at-from_HasText (codes "group") is.members (dotted f.group) is.group,
      number_at-from_HasNumber (codes "ttl") is.members (pos f.ttl) is.ttl,
      source_address_of-dotted f.source is.is_address is.may_send,
      is.lan,
      group_address_of-dotted f.group is.is_group,
      ttl_of-in_range f.ttl is.ttl_from is.ttl_to,
      new,
    )
    refl
