use Rattle.std.proofs.Common.{rules, Ok}
use Rattle.std.specs.declared.alloc.AllocError.{AllocError}
use Rattle.std.specs.String.{string_bytes}
use Rattle.std.proofs.lemmas.Iterator.{YieldsList-from_slice, YieldsList-from_map_by}
use Rattle.std.proofs.lemmas.Iterator.Consumers.{map_from_collect}
use Rattle.mc_cli.proofs.words.borrow_words.Goals as goal

-- What is collected are the words one by one, and borrowing changes no byte.
pub returns : goal.returns
returns c = map_from_collect {E = AllocError} (Ok c.in_ok-collect.field-0)
    c.in_ok-collect.ensures.ran
    (YieldsList-from_map_by _ (λ r. r.now) string_bytes
    (YieldsList-from_slice c.args.words.now (cc)) (cc) (λ x r q k. search rules))
