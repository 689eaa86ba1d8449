-- The lines of wants that nothing answers: how they begin, and that their only line feed is at the end.
use Rattle.std.proofs.Common.{◌≡◌, ◌==◌, ◌-◌, ℕ, Bool, true, false, cond, List, [], ◌∷◌, ◌++◌, length}
use Rattle.std.proofs.Common.{Some, codes, decimal, inl, inr, refl, ap, sym, subst, ◌∙◌, take}
use Rattle.std.proofs.Common.{append_assoc, append-nil}
use Rattle.std.specs.Prelude.{find, not, option_map, unwrap_or}
use Rattle.std.specs.List.{list_all}
use Rattle.std.proofs.lemmas.Bool.{and_parts}
use Rattle.mc_text.specs.Addr.{dotted}
use Rattle.mc_text.proofs.ByteLemmas.{HasNoByte}
use Rattle.mc_topology.specs.Topology.{TopologyValue, IsValidTopology}
use Rattle.mc_asked.specs.ListWants.{Want}
use Rattle.mc_asked.specs.Services.{service_name, services}
use Rattle.mc_asked.specs.declared.forwarding.RouterState.{RouterState}
use Rattle.mc_shown.specs.AskedText.{IsAskedLine, address_after_space, addresses_text, asked_line_text}
use Rattle.mc_shown.specs.AskedText.{asked_more_text, asked_text, forwarding_text, is_ignored_by_routers}
use Rattle.mc_shown.specs.AskedText.{listed_sources, listed_text, routers_or, service_after_space}
use Rattle.mc_shown.specs.AskedText.{services_text, some_services_text, ssm_text}
use Rattle.mc_shown.specs.Indented.{HasNoLineFeed}
use Rattle.mc_shown.specs.RoutersForWant.{RoutersForWant, routers_by_state}
use Rattle.mc_shown.specs.RowText.{address_text}
use Rattle.mc_shown.specs.ShownNames.{lans_text, more_text}
use Rattle.mc_shown.specs.UnlistedLines.{AreLines}
use Rattle.mc_shown.proofs.IndentedLemmas.{has_no_line_feed-from_no_byte}
use Rattle.mc_shown.proofs.LineFeedLemmas.{no_feed-address_text, no_feed-append, no_feed-append_front}
use Rattle.mc_shown.proofs.LineFeedLemmas.{no_feed-cond, no_feed-dotted, no_feed-flat_map}
use Rattle.mc_shown.proofs.LineFeedLemmas.{no_feed-from_list_all, number}
use Rattle.mc_shown.proofs.NameListLemmas.{no_feed-lans_text, no_feed-more_text, no_feed-routers_text}
use Rattle.mc_shown.proofs.UnlistedLineLemmas.{are_lines-none}

-- ---- a line

-- a text whose only line feed ends it
record EndsLine (text : List ℕ) : Type 0 where
  line : List ℕ
  feedless : HasNoByte 10 line
  is : text ≡ line ++ codes "\n"

-- a line feed alone
ends_line-feed : EndsLine (codes "\n")
ends_line-feed = record { line = []; feedless = tt; is = refl }

-- a piece without a line feed in front
ends_line-append : (xs rest : List ℕ) → HasNoByte 10 xs → EndsLine rest → EndsLine (xs ++ rest)
ends_line-append xs rest none ends = record {
  line = xs ++ ends.line;
  feedless = no_feed-append xs ends.line none ends.feedless;
  is = ap (λ (l : List ℕ). xs ++ l) ends.is ∙ sym (append_assoc xs ends.line (codes "\n"));
}

-- such a text after `asked ` is one line
are_asked_lines-line : (rest : List ℕ) → EndsLine rest → AreLines IsAskedLine (codes "asked " ++ rest)
are_asked_lines-line rest ends = record {
  lines = (codes "asked " ++ ends.line) ∷ [];
  begins = λ line h. elim h [
    | inl e ↦ (ends.line, sym e)
    | inr none ↦ absurd none
  ];
  feedless = λ line h. elim h [
    | inl e ↦ subst HasNoLineFeed e (has_no_line_feed-from_no_byte (codes "asked " ++ ends.line)
        (no_feed-append_front (codes "asked ") ends.line refl ends.feedless))
    | inr none ↦ absurd none
  ];
  spelled = ap (λ (l : List ℕ). codes "asked " ++ l) ends.is
      ∙ sym (append-nil (codes "asked " ++ (ends.line ++ codes "\n")));
}

-- ---- what is said of a want

-- addresses
no_feed-addresses_text : (addresses : List ℕ) → HasNoByte 10 (addresses_text addresses)
no_feed-addresses_text addresses =
    no_feed-append _ (more_text (length addresses - 8))
    (no_feed-flat_map address_after_space (take 8 addresses)
    (λ a. no_feed-append_front (codes " ") _ refl (no_feed-dotted a)))
    (no_feed-more_text (length addresses - 8))

-- routers and words, or other words if there are none
no_feed-routers_or : (t : TopologyValue) (routers words otherwise : List ℕ) → IsValidTopology t
    → HasNoByte 10 words → HasNoByte 10 otherwise → HasNoByte 10 (routers_or t routers words otherwise)
no_feed-routers_or t [] words otherwise ok begin rest = rest
no_feed-routers_or t (router ∷ routers) words otherwise ok begin rest =
    no_feed-append words _ begin (no_feed-routers_text t (router ∷ routers) ok)

-- what routers have for the want
no_feed-forwarding_text : (t : TopologyValue) (are_excluded : Bool) (routers : RoutersForWant)
    → IsValidTopology t → HasNoByte 10 (forwarding_text t are_excluded routers)
no_feed-forwarding_text t are_excluded routers ok =
    no_feed-routers_or t routers.forwards (codes "forwarded by") _ ok
    (no_feed-from_list_all (codes "forwarded by") refl)
    (no_feed-routers_or t routers.none_out (codes "no outgoing LAN interface in") _ ok
    (no_feed-from_list_all (codes "no outgoing LAN interface in") refl)
    (no_feed-routers_or t routers.every_source (codes "no entry for it but (*,G) or (*,*) in") _ ok
    (no_feed-from_list_all (codes "no entry for it but (*,G) or (*,*) in") refl)
    (no_feed-cond are_excluded (codes "no router with known tables forwards it")
    (codes "no router forwards it")
    (no_feed-from_list_all (codes "no router with known tables forwards it") refl)
    (no_feed-from_list_all (codes "no router forwards it") refl))))

-- the sources that are listed for its group
no_feed-listed_text : (sources : List ℕ) → HasNoByte 10 (listed_text sources)
no_feed-listed_text [] = tt
no_feed-listed_text (source ∷ sources) =
    no_feed-append_front (codes "; listed for the group:") (addresses_text (source ∷ sources)) refl
    (no_feed-addresses_text (source ∷ sources))

-- the words on a group of single sources
no_feed-ssm_text : (want : Want) → HasNoByte 10 (ssm_text want)
no_feed-ssm_text want =
    no_feed-cond (is_ignored_by_routers want) (codes "; SSM: routers ignore it") []
    (no_feed-from_list_all (codes "; SSM: routers ignore it") refl) tt

-- the line of a want, with these words at its end
are_asked_lines-asked_line_text : (t : TopologyValue) (line : Want × List ℕ) (what : List ℕ)
    → IsValidTopology t → HasNoByte 10 what → AreLines IsAskedLine (asked_line_text t line what)
are_asked_lines-asked_line_text t line what ok none =
    are_asked_lines-line _
    (ends_line-append (address_text line.0.1) _ (no_feed-address_text line.0.1)
    (ends_line-append (codes " ") _ (no_feed-from_list_all (codes " ") refl)
    (ends_line-append (dotted line.0.0) _ (no_feed-dotted line.0.0)
    (ends_line-append (codes " lans ") _ (no_feed-from_list_all (codes " lans ") refl)
    (ends_line-append (decimal (length line.1)) _ (number (length line.1))
    (ends_line-append (codes ":") _ (no_feed-from_list_all (codes ":") refl)
    (ends_line-append (lans_text t line.1) _ (no_feed-lans_text t line.1 ok)
    (ends_line-append (codes ": ") _ (no_feed-from_list_all (codes ": ") refl)
    (ends_line-append what _ none ends_line-feed)))))))))

-- the line of a want
pub are_asked_lines-asked_text : (t : TopologyValue) (are_excluded : Bool) (flows : List (ℕ × ℕ))
    (states : List RouterState) (line : Want × List ℕ) → IsValidTopology t
    → AreLines IsAskedLine (asked_text t are_excluded flows states line)
are_asked_lines-asked_text t are_excluded flows states line ok =
    are_asked_lines-asked_line_text t line _ ok
    (no_feed-append (forwarding_text t are_excluded (routers_by_state states)) _
    (no_feed-forwarding_text t are_excluded (routers_by_state states) ok)
    (no_feed-append (listed_text (listed_sources flows line.0.0)) (ssm_text line.0)
    (no_feed-listed_text (listed_sources flows line.0.0)) (no_feed-ssm_text line.0)))

-- ---- the other lines

-- the line that counts further wants
pub are_asked_lines-asked_more : (more : ℕ) → AreLines IsAskedLine (asked_more_text more)
are_asked_lines-asked_more more =
    elim (more == 0) as (λ b. AreLines IsAskedLine (cond b []
    (codes "asked and " ++ (decimal more ++ codes " more\n")))) [
      | true ↦ are_lines-none IsAskedLine
      | false ↦ are_asked_lines-line _
          (ends_line-append (codes "and ") _ (no_feed-from_list_all (codes "and ") refl)
          (ends_line-append (decimal more) _ (number more)
          (ends_line-append (codes " more") _ (no_feed-from_list_all (codes " more") refl) ends_line-feed)))
    ]

-- the name of a service
no_feed-found_name : (group : ℕ) (names : List (ℕ × List ℕ))
    → list_all (λ (s : ℕ × List ℕ). list_all (λ b. not (b == 10)) s.1) names ≡ true
    → HasNoByte 10 (unwrap_or (option_map (λ (s : ℕ × List ℕ). s.1)
    (find (λ (s : ℕ × List ℕ). s.0 == group) names)) [])
no_feed-found_name group [] none = tt
no_feed-found_name group (s ∷ names) none =
    let parts = and_parts _ _ none in
    elim (s.0 == group) as (λ b. HasNoByte 10 (unwrap_or (option_map (λ (s : ℕ × List ℕ). s.1)
    (cond b (Some s) (find (λ (s : ℕ × List ℕ). s.0 == group) names))) [])) [
      | true ↦ no_feed-from_list_all s.1 parts.0
      | false ↦ no_feed-found_name group names parts.1
    ]

-- so it is for a service of the table
no_feed-service_name : (group : ℕ) → HasNoByte 10 (unwrap_or (service_name group) [])
no_feed-service_name group = no_feed-found_name group services refl

-- several services
no_feed-some_services : (lines : List (Want × List ℕ)) → HasNoByte 10 (some_services_text lines)
no_feed-some_services lines =
    no_feed-append _ (more_text (length lines - 8))
    (no_feed-flat_map service_after_space (take 8 lines) (λ line. no_feed-append_front (codes " ") _ refl
    (no_feed-append (dotted line.0.0) _ (no_feed-dotted line.0.0)
    (no_feed-append_front (codes " ") _ refl (no_feed-service_name line.0.0)))))
    (no_feed-more_text (length lines - 8))

-- the line of services
pub are_asked_lines-services : (lines : List (Want × List ℕ)) → AreLines IsAskedLine (services_text lines)
are_asked_lines-services [] = are_lines-none IsAskedLine
are_asked_lines-services (line ∷ lines) =
    are_asked_lines-line _
    (ends_line-append (codes "services ") _ (no_feed-from_list_all (codes "services ") refl)
    (ends_line-append (decimal (length (line ∷ lines))) _ (number (length (line ∷ lines)))
    (ends_line-append (codes ":") _ (no_feed-from_list_all (codes ":") refl)
    (ends_line-append (some_services_text (line ∷ lines)) _ (no_feed-some_services (line ∷ lines))
    ends_line-feed))))
