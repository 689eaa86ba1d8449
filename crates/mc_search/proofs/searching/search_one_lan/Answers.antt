-- The added lines are those of the LAN, and a line leads only to a LAN on which the domain places a vif.
use Rattle.std.proofs.Common.{◌≡◌, length, refl, ◌∙◌, arith}
use Rattle.mc_search.specs.LanProbe.{search_in}
use Rattle.mc_search.proofs.NextLanLemmas.{added_line-inside, places_inside-from_is_domain}
use Rattle.mc_search.proofs.SearchLemmas.{take_drop-added}
use Rattle.mc_search.proofs.searching.search_one_lan.Goals as goal

pub add_next_lans-requires-clause-lines : goal.add_next_lans-requires-clause-lines
add_next_lans-requires-clause-lines c =
    let count : c.len-before.result ≡ length c.args.lines_so_far.now.items =
    omega (arith, c.len-before.ensures, c.args.lines_so_far.now.ok.0) in
    let s = search_in c.args.lan_probe.now in
    added_line-inside s c.args.lan _
    (places_inside-from_is_domain c.args.lan_probe.now.view.now.domain s
    c.topology-rules.ensures.rules.domain refl)
    (take_drop-added c.args.lines_so_far.now.items c.deref.result.now _ c.len-before.result
    (c.deref.ensures.value ∙ c.in_ok-add_lan_lines.ensures.added) count)
