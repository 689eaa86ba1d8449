-- `memchr` answers the first place of the byte, which is its position.
use Rattle.mc_text.proofs.FindByte.{position-first_byte}
use Rattle.memchr.specs.Find.{is_byte}
use Rattle.mc_text.proofs.text.byte_search.find_far_byte.Goals as goal

pub returns : goal.returns
returns c = position-first_byte (is_byte c.args.byte) c.args.text.now c.memchr.result c.memchr.ensures
