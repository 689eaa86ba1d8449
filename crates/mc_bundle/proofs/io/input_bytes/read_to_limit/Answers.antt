use Rattle.std.proofs.Common.{◌≡◌, ℕ, ◌<◌, ◌≤◌, Bool, true, false, List, [], ◌++◌, length, take, ap}
use Rattle.std.proofs.Common.{Option, Some, None, refl, sym, ◌∙◌, subst, arith}
use Rattle.std.specs.Prelude.{nat_lt, IfSome}
use Rattle.std.specs.Io.KnownBytes.{Consumes, IsAtEnd}
use Rattle.std.proofs.lemmas.Bool.{ltb-true}
use Rattle.std.proofs.lemmas.List.{append-nil, take_all, take_at}
use Rattle.mc_bundle.specs.ReadFault.{ReadsOnto}
use Rattle.mc_bundle.proofs.io.input_bytes.read_to_limit.Goals as goal

-- bytes appended to none are all that was read
consumes-from_reads_onto : (remaining left : Option (List ℕ)) (old bytes : List ℕ) → old ≡ []
    → ReadsOnto remaining left old bytes → Consumes remaining left bytes
consumes-from_reads_onto remaining left old bytes none (read, first, grown) =
    subst (Consumes remaining left) (sym (grown ∙ ap (λ xs. xs ++ read) none)) first

-- bytes up to a limit are the first `limit` of the text, if fewer are the whole text
take-limit : (bytes rest : List ℕ) (limit : ℕ) (b : Bool) → nat_lt (length bytes) limit ≡ b
    → length bytes ≤ limit → (length bytes < limit → rest ≡ [])
    → bytes ≡ take limit (bytes ++ rest)
take-limit bytes rest limit true fewer few end =
    rw (end (ltb-true (length bytes) limit fewer), append-nil bytes)
    (sym (take_all limit bytes few))
take-limit bytes rest limit false fewer few end =
    sym (take_at bytes rest limit (grind arith))

-- so are the bytes that were read
take-limit_of_known : (remaining left : Option (List ℕ)) (bytes : List ℕ) (limit : ℕ)
    → Consumes remaining left bytes → length bytes ≤ limit → (length bytes < limit → IsAtEnd left)
    → IfSome remaining (λ text. bytes ≡ take limit text)
take-limit_of_known None left bytes limit read few end = tt
take-limit_of_known (Some text) None bytes limit read few end = absurd read
take-limit_of_known (Some text) (Some rest) bytes limit read few end =
    rw read (take-limit bytes rest limit (nat_lt (length bytes) limit) refl few end)

-- The bytes were appended to none, so that they are just what the input gave.
pub returns-clause-rest : goal.returns-clause-rest
returns-clause-rest g c =
    consumes-from_reads_onto _ _ _ _ c.new-bytes.ensures.items c.in_ok-fill_to_limit.ensures.bytes

-- Fewer bytes than the limit are returned only at the input's end.
pub returns-clause-bytes : goal.returns-clause-bytes
returns-clause-bytes g c =
    let count = c.fill_to_limit.new.bytes.ok.0 in
    take-limit_of_known _ _ _ c.args.limit (returns-clause-rest g c)
    (omega (arith, count, c.in_ok-fill_to_limit.ensures.bound))
    (λ fewer. c.in_ok-fill_to_limit.ensures.end (omega (arith, count, fewer)))
