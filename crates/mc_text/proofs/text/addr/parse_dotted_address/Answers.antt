use Rattle.std.proofs.Common.{sym, refl}
use Rattle.std.specs.Net.Addr.{ipv4_bits}
use Rattle.mc_text.specs.Addr.{octets_of}
use Rattle.mc_text.proofs.ResultLemmas.{result_ok-some, result_ok-none}
use Rattle.mc_text.proofs.AddrLemmas.{dotted-from_be_bytes, from_be_bytes-dotted, IsDotted-dotted}
use Rattle.mc_text.proofs.text.addr.parse_dotted_address.Goals as goal

-- The standard library reads every dotted text, so that what it refuses is none.
pub returns-in_err-parsed-clause-only : goal.returns-in_err-parsed-clause-only
returns-in_err-parsed-clause-only c = λ a fits spelled.
    absurd (result_ok-none _ _ c.parse_ascii.result (sym c.in_err-parsed.ensures.value)
    c.parse_ascii.ensures (record { octets = octets_of a }) (rw spelled (IsDotted-dotted a)))

-- The text is that of the octets read, and they are those of the address.
pub returns-clause-found : goal.returns-clause-found
unfolding ipv4_bits
returns-clause-found c =
    let dotted = result_ok-some _ _ c.parse_ascii.result c.in_ok-parsed.parsed c.in_ok-parsed.ensures.value
    c.parse_ascii.ensures in
    rw c.to_bits.ensures (dotted-from_be_bytes c.args.text.now c.in_ok-parsed.parsed.octets dotted)

-- Octets and text determine one another, so that the octets read are those of the address.
pub returns-clause-only : goal.returns-clause-only
unfolding ipv4_bits
returns-clause-only c = λ a fits spelled.
    let dotted = result_ok-some _ _ c.parse_ascii.result c.in_ok-parsed.parsed c.in_ok-parsed.ensures.value
    c.parse_ascii.ensures in
    rw (
      c.to_bits.ensures,
      from_be_bytes-dotted c.args.text.now c.in_ok-parsed.parsed.octets a fits dotted
          spelled,
    ) refl
