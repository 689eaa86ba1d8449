-- The lines of a LAN, step by step.
use Rattle.std.proofs.Common.{◌≡◌, ◌||◌, ℕ, false, List, [], ◌∷◌, Option, Some, None, refl, ap, ap₂, ◌∙◌}
use Rattle.std.specs.List.{list_any}
use Rattle.mc_search.specs.declared.listed_interface.ListedInterface.{ListedInterface}
use Rattle.mc_theory.specs.Nets.{Row}
use Rattle.mc_theory.specs.Nets.Row.{Open, NoRow}
use Rattle.mc_theory.specs.CertificateOfCopies.{row_pairs}
use Rattle.mc_search.specs.SearchLine.{sends_by_known_vif}

-- without outgoing pairs no vif is sent by
sends_by_known_vif-no_pairs : (vif : Option ℕ) → sends_by_known_vif vif [] ≡ false
sends_by_known_vif-no_pairs None = refl
sends_by_known_vif-no_pairs (Some v) = refl

-- without pairs no vif sends
list_any_sends-no_pairs : (is : List ListedInterface) → list_any (λ i. sends_by_known_vif i.vif []) is ≡ false
list_any_sends-no_pairs [] = refl
list_any_sends-no_pairs (i ∷ is) = ap₂ (λ a b. a || b) (sends_by_known_vif-no_pairs i.vif)
    (list_any_sends-no_pairs is)

-- nor does one by an open row
pub list_any_sends-open_row : (row : Row) (is : List ListedInterface) → row ≡ Open
    → list_any (λ i. sends_by_known_vif i.vif (row_pairs row)) is ≡ false
list_any_sends-open_row row is e =
    ap (λ (r : Row). list_any (λ (i : ListedInterface). sends_by_known_vif i.vif (row_pairs r)) is) e
    ∙ list_any_sends-no_pairs is

-- nor without a row
pub list_any_sends-no_row : (row : Row) (is : List ListedInterface) → row ≡ NoRow
    → list_any (λ i. sends_by_known_vif i.vif (row_pairs row)) is ≡ false
list_any_sends-no_row row is e =
    ap (λ (r : Row). list_any (λ (i : ListedInterface). sends_by_known_vif i.vif (row_pairs r)) is) e
    ∙ list_any_sends-no_pairs is
