use Rattle.std.proofs.Common.{List, length, map, subst, sym, ◌∙◌, ap}
use Rattle.std.proofs.lemmas.List.{length-map}
use Rattle.mc_theory.specs.Nets.{Row}
use Rattle.mc_forward.specs.Assembling.{IsAssembled, domain_with, vifs_by_tables}
use Rattle.mc_forward.specs.Domains.{TablesValue, row_in_cache}
use Rattle.mc_forward.proofs.RowLemmas.{are_rows-from_each}
use Rattle.mc_forward.proofs.WantsLemmas.{are_answers-from_reports, is_assembled-from_reports}
use Rattle.mc_forward.proofs.assemble.assemble_parts.Goals as goal

-- There is a row and an answer for each flow, which is all that the look-up tables want of the rows
-- and of the answers: they depend on the topology and on the vifs alone.
pub returns-clause-derived : goal.returns-clause-derived
returns-clause-derived c =
    let t = c.args.topology.now in
    let ts = c.args.tables.now in
    let rs = c.args.reports.now in
    let wants = c.in_ok-wants.wants.items in
    let size = sym c.in_ok-wants.wants.ok.0 ∙ c.in_ok-wants.ensures.count in
    let count = ap length c.in_ok-rows.ensures.rows
    ∙ length-map {B = List Row} ts (λ (own : TablesValue). map (row_in_cache own.cache) t.flows)
    ∙ c.requires.matching_counts.routers in
    c.in_ok-derived.ensures c.in_ok-rows.rows.items wants
    (are_rows-from_each t c.in_ok-rows.rows.items count c.in_ok-rows.ensures.each)
    (are_answers-from_reports t ts rs wants c.requires.matching_counts size c.in_ok-wants.ensures.each)

-- The rows are those of the caches, and the answers those of the reports, each by its own call.
pub returns-clause-assembled : goal.returns-clause-assembled
returns-clause-assembled c =
    let t = c.args.topology.now in
    let ts = c.args.tables.now in
    let rs = c.args.reports.now in
    let wants = c.in_ok-wants.wants.items in
    subst (λ (rows : List (List Row)). IsAssembled t ts rs (domain_with t (vifs_by_tables ts) rows wants))
    (sym c.in_ok-rows.ensures.rows)
    (is_assembled-from_reports t ts rs wants (sym c.in_ok-wants.wants.ok.0 ∙ c.in_ok-wants.ensures.count)
    c.in_ok-wants.ensures.each)
