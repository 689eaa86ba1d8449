-- Each part of the headline, with the count written out.
use Rattle.std.proofs.Common.{◌==◌, map, subst, sym, ◌∙◌, ◌≤◌}
use Rattle.mc_theory.specs.Flights.{start, run}
use Rattle.mc_theory.specs.Flights.Pick.{Handles}
use Rattle.mc_theory.proofs.CountLemmas.{length_filter-count_of, is_lossless-map_handles}
use Rattle.mc_theory.proofs.headline_laws.the_headline_in_counts.Goals as goal

pub returns-clause-no_two_copies : goal.returns-clause-no_two_copies
returns-clause-no_two_copies c = λ n named t ps l h low high range. subst (λ k. k ≤ 1)
    (sym (length_filter-count_of (λ c. c.lan == l) (run n ps (start n t)).carried))
    ((h t ps low high range).no_two_copies l)

pub returns-clause-each_wanting_one : goal.returns-clause-each_wanting_one
returns-clause-each_wanting_one c = λ n named l h w t is low high range done.
    length_filter-count_of (λ c. c.lan == l) (run n (map Handles is) (start n t)).carried ∙
    (h t (map Handles is) low high range).each_wanting_one (is_lossless-map_handles is) done l w
