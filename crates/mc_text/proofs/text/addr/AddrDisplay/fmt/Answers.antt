-- The standard library prints the octets in decimal with dots, and the octets are this address's.
use Rattle.std.proofs.Common.{List, ℕ, ap, subst, ◌∙◌}
use Rattle.std.specs.Fmt.{HasWritten}
use Rattle.std.specs.Net.Addr.{IsIpv4OfBits}
use Rattle.std.specs.Net.Text.{ipv4_text}
use Rattle.mc_text.specs.Addr.{octets_of}
use Rattle.mc_text.proofs.text.addr.AddrDisplay.fmt.Goals as goal

pub returns-clause-writes : goal.returns-clause-writes
unfolding IsIpv4OfBits
returns-clause-writes g c = λ plain ok.
    let same = ap ipv4_text (c.from_bits-address.ensures ∙ ap octets_of c.self.view_is) in
    subst (λ (text : List ℕ). HasWritten g.W.Write.write_str_gives c.args.f.now text
    c.write.new.self) same (c.write.ensures.writes plain ok)
