-- The LANs that a search visits: LANs of the domain, and no more after as many steps as there are LANs.
use Rattle.std.proofs.Common.{◌≡◌, ℕ, zero, suc, ◌+◌, ◌-◌, ◌<◌, ◌≤◌, ◌==◌, inl, inr, Bool, true, false, cond}
use Rattle.std.proofs.Common.{List, [], ◌∷◌, ◌++◌, length, Option, Some, None, refl, ap, subst, ◌∙◌, arith}
use Rattle.std.specs.Prelude.{slice_get, IfSome}
use Rattle.std.specs.List.{cons_option, filter_map, list_any}
use Rattle.std.proofs.lemmas.Option.{slice_get_past}
use Rattle.mc_theory.specs.Lists.{In}
use Rattle.mc_theory.proofs.ListLemmas.{in-append_left, in-push_cases}
use Rattle.mc_forward.proofs.BelowLemmas.{length-of_distinct_below}
use Rattle.mc_search.specs.declared.search_line.SearchLine.{SearchLine}
use Rattle.mc_search.specs.SearchLine.{Search, append_new, lans_of_search, next_lan, next_lans, lines_of_lan}
use Rattle.mc_search.specs.SearchLine.{visited_lans, visited_after}
use Rattle.mc_search.proofs.NextLanLemmas.{NextLansAreInside, PlacesInside, lines_of_lan-inside}
use Rattle.mc_search.proofs.SearchLemmas.{distinct-visited, visited-more}

-- each LAN is below n
abbrev pub AllBelow : ℕ → List ℕ → Type 0
AllBelow n lans = (lan : ℕ) → In lan lans → lan < n

-- the LANs that lines lead to
all_below-next_lans : (s : Search) (lines : List SearchLine) → NextLansAreInside s lines
    → AllBelow (length s.domain.topology.lans) (filter_map (next_lan s) lines)
all_below-next_lans s [] inside = λ lan h. absurd h
all_below-next_lans s (line ∷ lines) inside =
    by (next_lan s line) (inside line (inl refl)) (all_below-next_lans s lines (λ x h. inside x (inr h)))
  where
    by : (o : Option ℕ) → IfSome o (λ l. l < length s.domain.topology.lans)
        → AllBelow (length s.domain.topology.lans) (filter_map (next_lan s) lines)
        → AllBelow (length s.domain.topology.lans) (cons_option o (filter_map (next_lan s) lines))
    by None one rest = rest
    by (Some l) one rest = λ lan h. elim h [
      | inl e ↦ subst (λ (n : ℕ). n < length s.domain.topology.lans) e one
      | inr old ↦ rest lan old
    ]

-- with one more
all_below-push : (n : ℕ) (lans : List ℕ) (lan : ℕ) → AllBelow n lans → lan < n
    → AllBelow n (lans ++ lan ∷ [])
all_below-push n lans lan all lt m h = elim (in-push_cases m lans lan h) [
  | inl old ↦ all m old
  | inr same ↦ subst (λ (l : ℕ). l < n) same lt
]

-- with new ones
all_below-append_new : (n : ℕ) (lans more : List ℕ) → AllBelow n lans → AllBelow n more
    → AllBelow n (append_new lans more)
all_below-append_new n lans [] all new = all
all_below-append_new n lans (lan ∷ more) all new =
    by (list_any (λ m. m == lan) lans) (all_below-append_new n lans more all (λ m h. new m (inr h)))
    (all_below-append_new n (lans ++ lan ∷ []) more (all_below-push n lans lan all (new lan (inl refl)))
    (λ m h. new m (inr h)))
  where
    by : (b : Bool) → AllBelow n (append_new lans more) → AllBelow n (append_new (lans ++ lan ∷ []) more)
        → AllBelow n (append_new (cond b lans (lans ++ lan ∷ [])) more)
    by true old more = old
    by false old more = more

-- each visited LAN is one of the domain
pub all_below-visited : (s : Search) (missed k : ℕ) → PlacesInside s
    → missed < length s.domain.topology.lans
    → AllBelow (length s.domain.topology.lans) (visited_lans s missed k)
all_below-visited s missed zero ok lt = λ lan h. elim h [
  | inl e ↦ subst (λ (n : ℕ). n < length s.domain.topology.lans) e lt
  | inr none ↦ absurd none
]
all_below-visited s missed (suc k) ok lt =
    by (slice_get (visited_lans s missed k) k) (all_below-visited s missed k ok lt)
  where
    by : (o : Option ℕ) → AllBelow (length s.domain.topology.lans) (visited_lans s missed k)
        → AllBelow (length s.domain.topology.lans) (visited_after s (visited_lans s missed k) o)
    by None all = all
    by (Some lan) all =
        all_below-append_new (length s.domain.topology.lans) (visited_lans s missed k) (next_lans s lan) all
        (all_below-next_lans s (lines_of_lan s lan) (lines_of_lan-inside s lan ok))

-- so there are no more than it has
length-visited_at_most_lans : (s : Search) (missed k : ℕ) → PlacesInside s
    → missed < length s.domain.topology.lans
    → length (visited_lans s missed k) ≤ length s.domain.topology.lans
length-visited_at_most_lans s missed k ok lt =
    length-of_distinct_below (visited_lans s missed k) (length s.domain.topology.lans)
    (distinct-visited s missed k)
    (all_below-visited s missed k ok lt)

-- after as many steps as there are LANs, all that will be are visited
visited-after_all_lans : (s : Search) (missed more : ℕ) → PlacesInside s
    → missed < length s.domain.topology.lans
    → visited_lans s missed (more + length s.domain.topology.lans) ≡ lans_of_search s missed
visited-after_all_lans s missed zero ok lt =
    ap (visited_lans s missed) (let e : 0 + length s.domain.topology.lans ≡ length s.domain.topology.lans =
    omega arith in e)
visited-after_all_lans s missed (suc more) ok lt =
    let k = more + length s.domain.topology.lans in
    let few = length-visited_at_most_lans s missed k ok lt in
    ap (visited_lans s missed) (let e : suc more + length s.domain.topology.lans ≡ k + 1 = omega arith in e)
    ∙ visited-more s missed k
    ∙ ap (visited_after s (visited_lans s missed k)) (slice_get_past (visited_lans s missed k) k
    (omega (arith, few)))
    ∙ visited-after_all_lans s missed more ok lt

-- no more LANs are visited
pub visited-at_end : (s : Search) (missed k : ℕ) → PlacesInside s
    → missed < length s.domain.topology.lans → length s.domain.topology.lans ≤ k
    → visited_lans s missed k ≡ lans_of_search s missed
visited-at_end s missed k ok lt le =
    ap (visited_lans s missed) (let e : k ≡ (k - length s.domain.topology.lans) + length
    s.domain.topology.lans
    = omega (arith, le) in e)
    ∙ visited-after_all_lans s missed (k - length s.domain.topology.lans) ok lt

-- a LAN of the front is there still
in-append_new_front : (lans more : List ℕ) (m : ℕ) → In m lans → In m (append_new lans more)
in-append_new_front lans [] m h = h
in-append_new_front lans (lan ∷ more) m h =
    by (list_any (λ x. x == lan) lans) (in-append_new_front lans more m h)
    (in-append_new_front (lans ++ lan ∷ []) more m (in-append_left m lans (lan ∷ []) h))
  where
    by : (b : Bool) → In m (append_new lans more) → In m (append_new (lans ++ lan ∷ []) more)
        → In m (append_new (cond b lans (lans ++ lan ∷ [])) more)
    by true old new = old
    by false old new = new

-- the missed LAN itself is visited
pub in-visited_missed : (s : Search) (missed k : ℕ) → In missed (visited_lans s missed k)
in-visited_missed s missed zero = inl refl
in-visited_missed s missed (suc k) = by (slice_get (visited_lans s missed k) k) (in-visited_missed s missed k)
  where
    by : (o : Option ℕ) → In missed (visited_lans s missed k)
        → In missed (visited_after s (visited_lans s missed k) o)
    by None h = h
    by (Some lan) h = in-append_new_front (visited_lans s missed k) (next_lans s lan) missed h
