use Rattle.std.proofs.Common.{◌∙◌, arith, refl}
use Rattle.std.proofs.lemmas.Bool.{lt-ltb, le-ltb}
use Rattle.mc_igmp.specs.ReadingMessage.{read_message}
use Rattle.mc_igmp.proofs.MessageLemmas.{read_message-sound, read_message-complete}
use Rattle.mc_igmp.proofs.message.Message.parse.Goals as goal

-- The length is checked before all else.
pub returns-then-bytes-lt-HEADER_LEN-clause-fault :
    goal.returns-then-bytes-lt-HEADER_LEN-clause-fault
unfolding read_message
returns-then-bytes-lt-HEADER_LEN-clause-fault c =
    rw (lt-ltb _ _ c.if-bytes-lt-HEADER_LEN.true) refl

-- The message is long enough, so that its checksum is the first thing wrong.
pub returns-then-not-is_checksum_right-clause-fault :
    goal.returns-then-not-is_checksum_right-clause-fault
unfolding read_message
returns-then-not-is_checksum_right-clause-fault c =
    rw (le-ltb _ _ c.if-bytes-lt-HEADER_LEN.false, ← c.if-not-is_checksum_right.ensures) refl

-- Length and checksum are right, so that the rest depends on the type.
pub returns-clause-fault : goal.returns-clause-fault
unfolding read_message
returns-clause-fault c = c.parse_by_type.ensures.value
    ∙ rw (le-ltb _ _ c.if-bytes-lt-HEADER_LEN.false, ← c.if-not-is_checksum_right.ensures) refl

-- What `read_message` answers is the message that the bytes are.
pub returns-clause-found : goal.returns-clause-found
returns-clause-found c = rw (returns-clause-fault c)
    (read_message-sound c.args.bytes.now (λ i. omega (arith, c.type_inv.bytes i)))

-- `read_message` answers the message that the bytes are.
pub returns-clause-only : goal.returns-clause-only
returns-clause-only c = λ m h. returns-clause-fault c ∙ read_message-complete c.args.bytes.now m h
