use Rattle.mc_cli.proofs.DraftLemmas.{router_after_equals-strip_prefix}
use Rattle.mc_cli.proofs.draft.router_after_equals.Goals as goal

-- The prefix has ten bytes, so that what follows it is the word without the first ten.
pub returns : goal.returns
returns c = router_after_equals-strip_prefix c.strip_prefix.result c.args.word.now
    c.strip_prefix.ensures.cases
