-- A bundle, and a folder's files, mean one domain at most.
use Rattle.std.proofs.Common.{◌≡◌, ℕ, suc, Bool, true, false, List, [], ◌∷◌, length, Option}
use Rattle.std.proofs.Common.{Some, None, refl, sym, ap, subst, ◌∙◌, arith}
use Rattle.std.specs.Prelude.{◌↔◌, IsTrue, is_some, slice_get, slice_index_or}
use Rattle.std.proofs.lemmas.Option.{get_or_from_slice_get, slice_get_within}
use Rattle.mc_bundle.specs.Bundle.{PartText}
use Rattle.mc_igmp.specs.Wants.{Wants}
use Rattle.mc_files.specs.Files.{FileText}
use Rattle.mc_topology.specs.Topology.{TopologyValue}
use Rattle.mc_forward.specs.Assembling.{IsAssembled}
use Rattle.mc_forward.specs.Domains.{DomainValue, IsDomain, TablesValue, wants_of}
use Rattle.mc_forward.proofs.IndexLemmas.{slice_get-exists}
use Rattle.mc_input.specs.Input.{InputValue, PartsDenoteInput}
use Rattle.mc_input.specs.Meaning.{MeansDomain, FilesMeanDomain}
use Rattle.mc_input.proofs.InputCounts.{AreCounted-from_PartsDenoteInput}
use Rattle.mc_input.proofs.UniqueInput.{DenotesInput-unique, FilesDenoteInput-unique}

-- ---- what is assembled of an input is one domain

-- two lists with the same items
pub same_lists-from_slice_get : {A : Type 0} (xs ys : List A) → length xs ≡ length ys
    → ((k : ℕ) (x y : A) → slice_get xs k ≡ Some x → slice_get ys k ≡ Some y → x ≡ y) → xs ≡ ys
same_lists-from_slice_get [] [] count each = refl
same_lists-from_slice_get [] (y ∷ ys) count each = absurd (omega (arith, count))
same_lists-from_slice_get (x ∷ xs) [] count each = absurd (omega (arith, count))
same_lists-from_slice_get (x ∷ xs) (y ∷ ys) count each =
    let first : x ≡ y = each 0 x y refl refl in
    let rest = same_lists-from_slice_get xs ys (omega (arith, count)) (λ k a b p q. each (suc k) a b p q) in
    λ i. first i ∷ rest i

-- two tests of one fact have one answer
same_Bool-from_iff : (a b : Bool) (W : Type 0) → (IsTrue a ↔ W) → (IsTrue b ↔ W) → a ≡ b
same_Bool-from_iff true true W p q = refl
same_Bool-from_iff true false W p q = sym (q.1 (p.0 refl))
same_Bool-from_iff false true W p q = p.1 (q.0 refl)
same_Bool-from_iff false false W p q = refl

-- the answer for a LAN and a flow is the one in the LAN's row
wants_of-slice_get : (d : DomainValue) (lan flow : ℕ) (row : List Bool) (b : Bool)
    → slice_get d.wants lan ≡ Some row
    → slice_get row flow ≡ Some b → wants_of d flow lan ≡ b
wants_of-slice_get d lan flow row b at here =
    ap (λ (bs : List Bool). slice_index_or bs flow false) (get_or_from_slice_get d.wants lan row [] at)
    ∙ get_or_from_slice_get row flow b false here

-- whatever the routers' tables are
pub same_wants-from_IsAssembled : (v : InputValue) (others : List TablesValue) (d e : DomainValue)
    → IsDomain d → IsDomain e → length v.reports ≡ length v.topology.lans
    → IsAssembled v.topology v.tables v.reports d → IsAssembled v.topology others v.reports e
    → d.wants ≡ e.wants
same_wants-from_IsAssembled v others d e ok_d ok_e count is_d is_e =
    let lans_d : length d.wants ≡ length v.topology.lans =
    ok_d.lans ∙ ap (λ (t : TopologyValue). length t.lans) is_d.topology in
    let lans_e : length e.wants ≡ length v.topology.lans =
    ok_e.lans ∙ ap (λ (t : TopologyValue). length t.lans) is_e.topology in
    same_lists-from_slice_get d.wants e.wants (lans_d ∙ sym lans_e) (λ lan row other at at'.
    let flows_d : length row ≡ length v.topology.flows =
    ok_d.flows lan row at ∙ ap (λ (t : TopologyValue). length t.flows) is_d.topology in
    let flows_e : length other ≡ length v.topology.flows =
    ok_e.flows lan other at' ∙ ap (λ (t : TopologyValue). length t.flows) is_e.topology in
    let lt = slice_get_within d.wants lan row at in
    let records = slice_get-exists v.reports lan (omega (arith, lt, lans_d, count)) in
    same_lists-from_slice_get row other (flows_d ∙ sym flows_e) (λ flow a b here here'.
    let less = slice_get_within row flow a here in
    let f = slice_get-exists v.topology.flows flow (omega (arith, less, flows_d)) in
    let W : Type 0 = Wants records.0 f.0.group f.0.source in
    same_Bool-from_iff a b W
    (subst (λ (x : Bool). IsTrue x ↔ W) (wants_of-slice_get d lan flow row a at here)
    (is_d.wants lan flow records.0 f.0 records.1 f.1))
    (subst (λ (x : Bool). IsTrue x ↔ W) (wants_of-slice_get e lan flow other b at' here')
    (is_e.wants lan flow records.0 f.0 records.1 f.1))))

same_domain-from_IsAssembled : (v : InputValue) (d e : DomainValue) → IsDomain d → IsDomain e
    → length v.reports ≡ length v.topology.lans → IsAssembled v.topology v.tables v.reports d
    → IsAssembled v.topology v.tables v.reports e → d ≡ e
same_domain-from_IsAssembled v d e ok_d ok_e count is_d is_e =
    let topology : d.topology ≡ e.topology = is_d.topology ∙ sym is_e.topology in
    let vifs : d.vifs ≡ e.vifs = is_d.vifs ∙ sym is_e.vifs in
    let rows : d.rows ≡ e.rows = is_d.rows ∙ sym is_e.rows in
    let wants : d.wants ≡ e.wants = same_wants-from_IsAssembled v v.tables d e ok_d ok_e count is_d is_e in
    λ i. record { topology = topology i; vifs = vifs i; rows = rows i; wants = wants i }

-- the domains of two inputs that are the same
same_domain-from_same_inputs : (v w : InputValue) (c : Option (List ℕ)) (parts : List PartText)
    (d e : DomainValue) → v ≡ w → PartsDenoteInput parts v c → IsDomain d → IsDomain e
    → IsAssembled v.topology v.tables v.reports d → IsAssembled w.topology w.tables w.reports e
    → d ≡ e
same_domain-from_same_inputs v w c parts d e same parts_denote ok_d ok_e is_d is_e =
    same_domain-from_IsAssembled v d e ok_d ok_e
    (AreCounted-from_PartsDenoteInput parts v c parts_denote).lans is_d
    (subst (λ (x : InputValue). IsAssembled x.topology x.tables x.reports e) (sym same) is_e)

-- ---- and so the text and the files mean one

pub MeansDomain-unique : (text : List ℕ) (a b : Option (List ℕ)) (d e : DomainValue)
    → is_some b ≡ is_some a → MeansDomain text a d → MeansDomain text b e → (d ≡ e) × (a ≡ b)
MeansDomain-unique text a b d e is m n =
    let one = DenotesInput-unique text m.input n.input a b is m.denotes n.denotes in (
      same_domain-from_same_inputs m.input n.input a m.denotes.parts d e one.0 m.denotes.parts_denote
          m.rules n.rules m.assembled n.assembled,
      one.1,
    )

pub FilesMeanDomain-unique : (files : List FileText) (d e : DomainValue) → FilesMeanDomain files d
    → FilesMeanDomain files e → d ≡ e
FilesMeanDomain-unique files d e m n =
    same_domain-from_same_inputs m.input n.input None m.denotes.parts d e
    (FilesDenoteInput-unique files m.input n.input m.denotes n.denotes) m.denotes.parts_denote m.rules n.rules
    m.assembled n.assembled
