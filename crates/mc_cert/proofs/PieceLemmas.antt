-- A text that is read piece by piece.
use Rattle.std.proofs.Common.{◌≡◌, ℕ, ◌+◌, ◌*◌, ◌/◌, ◌%◌, ◌^◌, ◌<◌, List, [], ◌∷◌, ◌++◌, map}
use Rattle.std.proofs.Common.{codes, decimal, Option, Some, sym, ap, ap₂, ◌∙◌, arith, append_assoc}
use Rattle.std.specs.Prelude.{unwrap_or}
use Rattle.std.proofs.lemmas.Fmt.{decimal_digit, decimal_step}
use Rattle.mc_text.specs.Addr.{dotted}
use Rattle.mc_topology.specs.declared.flow.Flow.{Flow}
use Rattle.mc_topology.specs.Names.{index_of}
use Rattle.mc_topology.specs.Lookup.{router_no_of}
use Rattle.mc_topology.specs.Topology.{TopologyValue, lan_name, router_name}
use Rattle.mc_topology.proofs.NameLemmas.{lan_name-index_of, router_name-router_no_of}
use Rattle.mc_cert.specs.Certificate.{Tree}
use Rattle.mc_cert.specs.CertificateText.{listed, flow_text, flow_texts}
use Rattle.mc_cert.specs.CertificateText.{tree_text, version_two_text, entry_text}

-- ---- numbers

-- a number of one digit
pub decimal-one_digit : (d : ℕ) (s rest : List ℕ) → d < 10 → s ≡ (48 + d) ∷ rest → s ≡ decimal d ++ rest
decimal-one_digit d s rest small e = e ∙ ap (λ x. x ++ rest) (sym (decimal_digit d small))

-- a number with one more digit
pub decimal-digit_more : (n d : ℕ) (s rest : List ℕ) → 0 < n → n < 10 ^ 8 → d < 10
    → s ≡ (48 + d) ∷ rest → decimal (n * 10 + d) ++ rest ≡ decimal n ++ s
decimal-digit_more n d s rest some small digit e =
    let m : ℕ = n * 10 + d in
    let front : m / 10 ≡ n = omega arith in
    let last : m % 10 ≡ d = omega arith in
    ap (λ x. x ++ rest) (decimal_step m (omega arith) (omega arith)
    ∙ ap₂ (λ x y. decimal x ++ ((48 + y) ∷ [])) front last)
    ∙ append_assoc (decimal n) ((48 + d) ∷ []) rest ∙ ap (λ x. decimal n ++ x) (sym e)

-- ---- names

-- a name with a number in the list of LANs is the name of that LAN
pub lan_name-from_index_of : (t : TopologyValue) (lan : ℕ) (s name rest : List ℕ) → s ≡ name ++ rest
    → index_of name t.lans ≡ Some lan → s ≡ lan_name t lan ++ rest
lan_name-from_index_of t lan s name rest e is =
    e ∙ ap (λ (o : Option (List ℕ)). unwrap_or o [] ++ rest) (sym (lan_name-index_of t.lans lan name is))

-- and so for a router
pub router_name-from_router_no_of : (t : TopologyValue) (router : ℕ) (s name rest : List ℕ) → s ≡ name ++ rest
    → router_no_of name t.routers ≡ Some router → s ≡ router_name t router ++ rest
router_name-from_router_no_of t router s name rest e is =
    e ∙ ap (λ (o : Option (List ℕ)). unwrap_or o [] ++ rest)
    (sym (router_name-router_no_of t.routers router name is))

-- ---- one piece after another

-- the pieces of a flow
pub flow_text-pieces : (f : Flow) (tree_no : ℕ) (s a b c d e g h : List ℕ)
    → s ≡ codes "{\"group\":\"" ++ a → a ≡ dotted f.group ++ b
    → b ≡ codes "\",\"source\":\"" ++ c → c ≡ dotted f.source ++ d
    → d ≡ codes "\",\"tree\":" ++ e → e ≡ decimal tree_no ++ g → g ≡ codes "}" ++ h
    → s ≡ flow_text f tree_no ++ h
flow_text-pieces f tree_no s a b c d e g h p1 p2 p3 p4 p5 p6 p7 =
    rw (p1, p2, p3, p4, p5, p6, p7) (simp append_assoc)

-- the pieces of a need and a rank
pub need_and_rank-pieces : (need rank : ℕ) (s a b c d : List ℕ) → s ≡ codes "\",\"need\":" ++ a
    → a ≡ decimal need ++ b → b ≡ codes ",\"rank\":" ++ c → c ≡ decimal rank ++ d
    → s ≡ (codes "\",\"need\":" ++ decimal need ++ codes ",\"rank\":" ++ decimal rank) ++ d
need_and_rank-pieces need rank s a b c d p1 p2 p3 p4 = rw (p1, p2, p3, p4) (simp append_assoc)

-- five pieces, each after the one before
append-five : (s x1 x2 x3 x4 x5 a b c d e : List ℕ) → s ≡ x1 ++ a → a ≡ x2 ++ b → b ≡ x3 ++ c
    → c ≡ x4 ++ d → d ≡ x5 ++ e → s ≡ (x1 ++ x2 ++ x3 ++ x4 ++ x5) ++ e
append-five s x1 x2 x3 x4 x5 a b c d e p1 p2 p3 p4 p5 = rw (p1, p2, p3, p4, p5) (simp append_assoc)

-- three pieces
append-three : (s x1 x2 x3 a b c : List ℕ) → s ≡ x1 ++ a → a ≡ x2 ++ b → b ≡ x3 ++ c
    → s ≡ (x1 ++ x2 ++ x3) ++ c
append-three s x1 x2 x3 a b c p1 p2 p3 = rw (p1, p2, p3) (simp append_assoc)

-- the pieces of a list of entries
pub tree_text-pieces : (t : TopologyValue) (es : Tree) (s a b c : List ℕ) → s ≡ codes "[" ++ a
    → a ≡ listed (map (entry_text t) es) ++ b → b ≡ codes "]" ++ c → s ≡ tree_text t es ++ c
tree_text-pieces t es s a b c p1 p2 p3 =
    append-three s (codes "[") (listed (map (entry_text t) es)) (codes "]") a b c p1 p2 p3

-- the pieces of the whole text
pub version_two_text-pieces : (t : TopologyValue) (tree_numbers : List ℕ) (trees : List Tree)
    (s a b c d e : List ℕ)
    → s ≡ codes "{\"flows\":[" ++ a → a ≡ listed (flow_texts t.flows tree_numbers) ++ b
    → b ≡ codes "],\"trees\":[" ++ c → c ≡ listed (map (tree_text t) trees) ++ d
    → d ≡ codes "],\"version\":2}" ++ e → s ≡ version_two_text t tree_numbers trees ++ e
version_two_text-pieces t tree_numbers trees s a b c d e p1 p2 p3 p4 p5 =
    append-five s (codes "{\"flows\":[") (listed (flow_texts t.flows tree_numbers)) (codes "],\"trees\":[")
    (listed (map (tree_text t) trees)) (codes "],\"version\":2}") a b c d e p1 p2 p3 p4 p5
