use Rattle.std.specs.String.{string_bytes}
use Rattle.mc_commands.proofs.RefusalTextLemmas.{appends_with_failures-unread}
use Rattle.mc_commands.proofs.refusals.refusal_text.push_refusal.Goals as goal

-- Of a file that couldn't be read only the reason is printed, and no call of the source is made for it.
pub returns-in-Unread-clause-adds : goal.returns-in-Unread-clause-adds
returns-in-Unread-clause-adds g c =
    appends_with_failures-unread (g.F.FileSource.contents c.args.files.now)
    (string_bytes c.args.refused.now.name) _
    c.args.refused.now.refusal c.push_unread.result (string_bytes c.args.text.now)
    (string_bytes c.push_unread.new.text) (g.F.FileSource.failed c.args.files.now) c.in-Unread.is
    c.push_unread.ensures
