-- Reading checks just what makes bytes a message, and answers that message.
use Rattle.mc_igmp.proofs.MessageLemmas.{read_message-gives_message, read_message-complete}
use Rattle.mc_igmp.proofs.laws.messages_are_read_exactly.Goals as goal

pub returns : goal.returns
returns c = λ bytes message fits.
    (read_message-gives_message bytes message fits, read_message-complete bytes message)
