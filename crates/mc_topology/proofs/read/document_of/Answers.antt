use Rattle.std.proofs.Common.{refl, le-leb, sym}
use Rattle.std.proofs.lemmas.Str.{is_utf8-from_IsUtf8}
use Rattle.mc_topology.specs.Reading.{parse_toml, document_of}
use Rattle.mc_topology.proofs.ReadLemmas.{document_of-NotToml}
use Rattle.mc_topology.proofs.read.document_of.Goals as goal

-- The text is short, bounded and UTF-8, and the parser's table is the one that TOML's grammar gives.
pub returns-in-Ok-clause-found : goal.returns-in-Ok-clause-found
unfolding document_of parse_toml
returns-in-Ok-clause-found c =
    let (utf8, reads) = c.in-Ok.ensures.ok in
    let few = le-leb _ _ c.if-text-gt-MAX_TEXT.false in
    let bounded = sym c.if-not-is_bounded.ensures.value in
    rw (few, bounded, is_utf8-from_IsUtf8 c.args.text.now utf8, reads) refl

-- The parser refuses a text without running out of memory only where it is no TOML.
pub returns-in-Err-2-clause-fault : goal.returns-in-Err-2-clause-fault
returns-in-Err-2-clause-fault c =
    let none = c.in-Err.ensures.refused (λ m. let memory = c.is_memory.ensures.1 m in absurd cc) in
    let bounded = sym c.if-not-is_bounded.ensures.value in
    rw (
      document_of-NotToml c.args.text.now c.if-text-gt-MAX_TEXT.false bounded none,
      c.at-in-Err-2.ensures,
    )
    (λ _. refl)
