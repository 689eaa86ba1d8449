-- The headline of an accepted flow.
use Rattle.std.proofs.Common.{ℕ, ◌≤◌, List}
use Rattle.std.proofs.Common.{length, arith}
use Rattle.mc_theory.specs.Nets.{Net, IsNet}
use Rattle.mc_theory.specs.Flights.{Copy, run, start}
use Rattle.mc_theory.specs.Certificates.{Entry, IsAccepted}
use Rattle.mc_theory.specs.Headline.{HeadlineHolds}
use Rattle.mc_theory.proofs.CountsOfImages.{count_with_image-at_most_one, count_with_image-at_least_one}
use Rattle.mc_theory.proofs.ReachedLans.{is_safe-from_tree, is_right-from_accepted}

abbrev lan : Copy → ℕ
lan c = c.lan

pub headline_holds-from_accepted : (n : Net) (es : List Entry) → IsNet n → 1 ≤ n.ttl → IsAccepted n es →
    HeadlineHolds n (length es)
headline_holds-from_accepted n es net low acc t ps lo hi range =
    let s = is_safe-from_tree n es t ps net acc.is_tree (omega arith) hi range in
    let r = is_right-from_accepted n es net low acc t ps lo hi range in
    record {
      no_two_copies = λ l. count_with_image-at_most_one lan (run n ps (start n t)).carried l s.clean.once;
      none_leaves = s.clean.none_stray;
      no_more_than_named = s.copies;
      each_wanting_one = λ whole done l w. (
          let most = count_with_image-at_most_one lan (run n ps (start n t)).carried l s.clean.once in
          let least = count_with_image-at_least_one lan (run n ps (start n t)).carried l
          (r.served whole done l w) in
          omega (arith, most, least));
    }
